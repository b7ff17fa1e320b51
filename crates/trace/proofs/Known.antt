-- The kinds of the records of a trace that is not refused. Assumes nothing.
use Prim.Native.Nat.{ℕ, ◌+◌, ◌-◌, ◌≤◌, ◌<◌}
use mathlib.Core.Bool.{Bool, true, false, ◌&&◌}
use mathlib.Core.List.{List}
use mathlib.Core.Logic.{◌⊎◌, inl, inr}
use mathlib.Core.Path.{◌≡◌, refl, sym}
use native.Mathlib.Omega.{arith}
use lib.Dec.{leb}
use lib.ListN.{length}
use borrow.Author.Tests.{le-leb}
use Rattle.std.specs.Int.{div_ceil}
use Rattle.std.specs.List.{list_all, range_with_len}
use Rattle.std.proofs.lemmas.Bool.{and_parts, and_from, cases_lt}
use Rattle.std.proofs.lemmas.List.Elements.{All-get_or, All-from_get_or}
use Rattle.std.proofs.lemmas.List.FromFn.{length-range_with_len, get_or-range_with_len}
use Rattle.std.proofs.lemmas.List.Sums.{AllPass-from_list_all, list_all-from_AllPass}
use Rattle.frame.proofs.Accepted.{neither, held}
use Rattle.trace.specs.Trace.{byte_at, header_of, parts_refusal, place_of, kinds_known, trace_refusal}

-- All numbers below `count` pass a test exactly if each does.
module _ (test : ℕ → Bool) (count : ℕ) where
  same : (i : ℕ) → 0 + i ≡ i
  same i = omega arith

  each : list_all test (range_with_len 0 count) ≡ true → (i : ℕ) → i < count → test i ≡ true
  each e i h =
      let inside : i < length (range_with_len 0 count) = rw (length-range_with_len 0 count) h in
      let at = All-get_or (λ i. test i ≡ true) (range_with_len 0 count) i 0 inside (AllPass-from_list_all test (range_with_len 0 count) e) in
      rw (get_or-range_with_len 0 count i 0 h, same i) at at

  all : ((i : ℕ) → i < count → test i ≡ true) → list_all test (range_with_len 0 count) ≡ true
  all h = list_all-from_AllPass test (range_with_len 0 count)
      (All-from_get_or (λ i. test i ≡ true) (range_with_len 0 count) 0 λ i inside.
      let there : i < count = rw (length-range_with_len 0 count) at inside in
      rw (get_or-range_with_len 0 count i 0 there, same i) (h i there))

module _ (l : List ℕ) (first count : ℕ) where
  abbrev known : ℕ → Bool
  known i = leb (byte_at l (place_of first i)) 3

  -- All kinds are known exactly if each is.
  pub kind_known : (i : ℕ) → kinds_known l first count ≡ true → i < count → leb (byte_at l (place_of first i)) 3 ≡ true
  unfolding kinds_known
  kind_known i e h = each known count e i h

  pub all_known : ((i : ℕ) → i < count → byte_at l (place_of first i) ≤ 3) → kinds_known l first count ≡ true
  unfolding kinds_known
  all_known h = all known count λ i there. le-leb _ _ (h i there)

  -- The kinds of record i and of the record as far from the last.
  abbrev pub both : ℕ → Bool
  both i = known i && known (count - 1 - i)

  abbrev half : ℕ
  half = div_ceil count 2

  -- All kinds are known exactly if both are, at each number up to the middle.
  pub both_ends : list_all both (range_with_len 0 half) ≡ kinds_known l first count
  unfolding kinds_known
  both_ends = go _ _ (λ e. all known count λ i h. at e i h (cases_lt i half)) λ e. all both half λ i h.
      and_from (known i) _ (each known count e i (omega arith)) (each known count e (count - 1 - i) (omega arith))
    where
      go : (a b : Bool) → (a ≡ true → b ≡ true) → (b ≡ true → a ≡ true) → a ≡ b
      go true b f g = sym (f refl)
      go false true f g = g refl
      go false false f g = refl

      at : list_all both (range_with_len 0 half) ≡ true → (i : ℕ) → i < count → (i < half) ⊎ (half ≤ i) → known i ≡ true
      at e i h (inl low) = (and_parts (known i) _ (each both half e i low)).0
      at e i h (inr high) =
          let back : count - 1 - (count - 1 - i) ≡ i = omega arith in
          rw back at (and_parts (known (count - 1 - i)) _ (each both half e (count - 1 - i) (omega arith))).1

-- A trace that is not refused is in order in its parts, and has no unknown kind.
pub in_order : (l : List ℕ) → trace_refusal l ≡ 0 → (i : ℕ) → i < (header_of l).records
    → (parts_refusal l ≡ 0) × (leb (byte_at l (place_of (header_of l).first i)) 3 ≡ true)
unfolding trace_refusal
in_order l accepted i inside =
    let p = neither (parts_refusal l) _ accepted in
    (p.0, kind_known l (header_of l).first (header_of l).records i (held _ 21 0 p.1).0 inside)
