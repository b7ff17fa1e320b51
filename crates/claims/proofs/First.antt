-- `first_index` is the first index at which the test passes, and only that index is first; so for the first bad claim and the first clash.
-- Assumes nothing.
use Prim.Native.Nat.{ℕ, zero, suc, ◌+◌, ◌-◌, ◌<◌, ◌≤◌}
use mathlib.Core.Bool.{Bool, true, false, cond, not, false≢true}
use mathlib.Core.List.{List, [], ◌∷◌, ◌++◌}
use mathlib.Core.Logic.{⊎_elim}
use mathlib.Core.Path.{◌≡◌, refl, sym, ap, ◌∙◌}
use native.Mathlib.Nat.{eq-or-lt_of_le, zero-add}
use native.Mathlib.Omega.{arith}
use lib.ListN.{length, get_or, take, drop, length-drop}
use borrow.Author.Tests.{le-ltb}
use Rattle.std.specs.Prelude.{Some, None}
use Rattle.std.specs.List.{position, position_from, position_or_len}
use Rattle.std.specs.Option.{option_map, option_or}
use Rattle.std.proofs.Common.{add_assoc, add-zero}
use Rattle.std.proofs.Math.Seq.{take-length, drop-append_seam}
use Rattle.std.proofs.lemmas.List.{drop-drop}
use Rattle.std.proofs.lemmas.Iterator.Adapters.{position_from-zero}
use Rattle.frame.specs.declared.Settings.{Settings}
use Rattle.claims.specs.Claims.{is_bad, first_index, first_bad, earlier, first_clash, found}
use Rattle.claims.specs.First.{First}

module _ (test : ℕ → Bool) where
  first_from : (count i : ℕ) → First test i (i + count) (first_index test count i)
  first_from zero i =
      record { least = omega arith; most = omega arith; before = λ k a b. absurd (omega arith); passes = λ h. absurd (omega arith) }
  first_from (suc count) i = go (test i) refl (first_from count (suc i))
    where
      go : (b : Bool) → test i ≡ b → First test (suc i) (suc i + count) (first_index test count (suc i))
          → First test i (i + suc count) (cond b i (first_index test count (suc i)))
      go true e rest =
          record { least = omega arith; most = omega arith; before = λ k a b. absurd (omega arith); passes = λ h. e }
      go false e rest =
          record {
            least = omega (arith, rest.least);
            most = omega (arith, rest.most);
            before = λ k a b. ⊎_elim (λ same. rw (← same) e) (λ less. rest.before k less b) (eq-or-lt_of_le a);
            passes = λ h. rest.passes (omega arith);
          }

  -- Below it the test fails; if it is below the end, the test passes there.
  pub first_index_holds : (n : ℕ) → First test 0 n (first_index test n 0)
  first_index_holds n = rw zero-add at (first_from n 0)

  -- A first index does not lie before another one.
  not_before : (low n a b : ℕ) → First test low n a → First test low n b → a < b → ⊥
  not_before low n a b f g h = false≢true (sym (g.before a f.least h) ∙ f.passes (omega (arith, g.most)))

  -- No other index is first.
  pub first_only_holds : (n r : ℕ) → First test 0 n r → r ≡ first_index test n 0
  first_only_holds n r f =
      let x = first_index test n 0 in
      let a : r < x → ⊥ = not_before 0 n r x f (first_index_holds n) in
      let b : x < r → ⊥ = not_before 0 n x r (first_index_holds n) f in
      omega (arith, a, b)

  -- A search stops where the test passes, or at the end.
  module _ (n i : ℕ) (before : (k : ℕ) → k < i → test k ≡ false) where
    pub first_found : i < n → test i ≡ true → i ≡ first_index test n 0
    first_found h e =
        first_only_holds n i (record { least = omega arith; most = omega arith; before = λ k low. before k; passes = λ h. e })

    pub first_none : i ≤ n → n ≤ i → i ≡ first_index test n 0
    first_none a b =
        first_only_holds n i
        (record { least = omega arith; most = a; before = λ k low. before k; passes = λ h. absurd (omega arith) })

-- In a list it is the place at which a search of the list stops.
later : (test : ℕ → Bool) (count i : ℕ) → first_index test count (suc i) ≡ suc (first_index (λ k. test (suc k)) count i)
later test zero i = refl
later test (suc count) i = rw (later test count (suc i)) (go (test (suc i)))
  where
    go : (b : Bool) → cond b (suc i) (suc (first_index (λ k. test (suc k)) count (suc i))) ≡ suc (cond b i (first_index (λ k. test (suc k)) count (suc i)))
    go true = refl
    go false = refl

first_in_list : (test : ℕ → Bool) (xs : List ℕ) → first_index (λ k. test (get_or xs k 0)) (length xs) 0 ≡ position_or_len test xs
first_in_list test [] = refl
first_in_list test (x ∷ xs) = rw (later (λ k. test (get_or (x ∷ xs) k 0)) (length xs) 0, first_in_list test xs) (go (test x))
  where
    go : (b : Bool) → cond b 0 (suc (position_or_len test xs)) ≡ cond (not b) (1 + position_or_len test xs) 0
    go true = refl
    go false = omega arith

pub position_bad : (s : Settings) (n : ℕ) (claims : List ℕ) → position (is_bad s n) claims ≡ found (first_bad s n claims) (length claims)
unfolding first_bad
position_bad s n claims = rw (first_in_list (is_bad s n) claims)

-- A search of a list without a bad claim finds none.
pub no_bad : (s : Settings) (n : ℕ) (claims : List ℕ) → ((k : ℕ) → k < length claims → is_bad s n (get_or claims k 0) ≡ false)
    → position (is_bad s n) claims ≡ None
unfolding first_bad
no_bad s n claims good =
    position_bad s n claims
    ∙ rw (le-ltb (first_bad s n claims) (length claims) (omega (arith, first_none _ (length claims) (length claims) good (omega arith) (omega arith))))

-- A search counts from 0 on; what one finds that counts from i on is i further.
module _ (test : ℕ → Bool) where
  pub counted_from_zero : (xs : List ℕ) → position test xs ≡ position_from test 0 xs
  counted_from_zero xs = position_from-zero test xs

  further : (xs : List ℕ) (i k : ℕ) → position_from test (i + k) xs ≡ option_map (λ (at : ℕ). i + at) (position_from test k xs)
  further [] i k = refl
  further (x ∷ xs) i k = rw (add_assoc i k 1) (go (test x) (further xs i (k + 1)))
    where
      go : (b : Bool) → position_from test (i + (k + 1)) xs ≡ option_map (λ (at : ℕ). i + at) (position_from test (k + 1) xs)
          → cond b (Some (i + k)) (position_from test (i + (k + 1)) xs) ≡ option_map (λ (at : ℕ). i + at) (cond b (Some k) (position_from test (k + 1) xs))
      go true rest = refl
      go false rest = rest

  pub counted_from : (xs : List ℕ) (i : ℕ) → position_from test i xs ≡ option_map (λ (at : ℕ). i + at) (position test xs)
  counted_from xs i = rw (counted_from_zero xs) (rw add-zero at (further xs i 0))

  -- A search goes on behind the first list where it finds nothing there.
  pub counted_on : (xs ys : List ℕ) (i : ℕ) → position_from test i (xs ++ ys) ≡ option_or (position_from test i xs) (position_from test (i + length xs) ys)
  counted_on [] ys i = rw (add-zero i)
  counted_on (x ∷ xs) ys i = go (test x) (counted_on xs ys (i + 1))
    where
      go : (b : Bool) → position_from test (i + 1) (xs ++ ys) ≡ option_or (position_from test (i + 1) xs) (position_from test (i + 1 + length xs) ys)
          → cond b (Some i) (position_from test (i + 1) (xs ++ ys)) ≡ option_or (cond b (Some i) (position_from test (i + 1) xs)) (position_from test (i + suc (length xs)) ys)
      go true rest = refl
      go false rest = let n : i + suc (length xs) ≡ i + 1 + length xs = omega arith in rw n rest

-- What is left behind a piece, and what a search of the rest of a list finds.
module _ (all : List ℕ) (i : ℕ) where
  pub left_behind : (piece rest : List ℕ) → drop i all ≡ piece ++ rest → drop (i + length piece) all ≡ rest
  left_behind piece rest e = sym (drop-drop (length piece) i all) ∙ ap (drop (length piece)) e ∙ drop-append_seam piece rest

  pub found_in_rest : (test : ℕ → Bool) (rest : List ℕ) → drop i all ≡ rest → position test all ≡ position_from test i rest
      → position test all ≡ option_map (λ (at : ℕ). i + at) (position test (take (length all - i) (drop i all)))
  found_in_rest test rest e is = is ∙ rw (rw length-drop at (take-length (drop i all)), e) (counted_from test rest i)

pub first_bad_holds : (s : Settings) (n : ℕ) (claims : List ℕ)
    → First (λ (i : ℕ). is_bad s n (get_or claims i 0)) 0 (length claims) (first_bad s n claims)
unfolding first_bad
first_bad_holds s n claims = first_index_holds _ (length claims)

pub first_clash_holds : (s : Settings) (n : ℕ) (claims : List ℕ)
    → First (λ (i : ℕ). earlier s n claims i (get_or claims i 0)) 0 (length claims) (first_clash s n claims)
unfolding first_clash
first_clash_holds s n claims = first_index_holds _ (length claims)
