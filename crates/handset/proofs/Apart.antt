-- Each block takes its window, from the oldest slot on: two slots share a window exactly if it is answered at one time.
-- Assumes nothing.
use Prim.Native.Nat.{ℕ, zero, suc, ◌+◌, ◌-◌, ◌<◌, ◌≤◌}
use mathlib.Core.Bool.{Bool, true, false, not, ◌&&◌, ◌||◌}
use mathlib.Core.List.{List, [], ◌∷◌}
use mathlib.Core.Path.{◌≡◌, refl, sym, ◌∙◌}
use native.Mathlib.Decide.{ℕ_discrete}
use native.Mathlib.Numerals.{add-one}
use native.Mathlib.Omega.{arith}
use lib.Dec.{eqb}
use lib.ListN.{length, get_or, set, drop, drop_of_length-le, length-drop}
use lib.Seq.{drop-cons}
use borrow.Author.Tests.{eq-eqb, ne_eqb}
use Rattle.std.proofs.lemmas.List.{get_or-set_same, get_or-set_other}
use Rattle.std.specs.List.{list_any, range_with_len, zip}
use Rattle.frame.specs.Distance.{distance_of, before, shares}
use Rattle.heard.specs.declared.Slot.{Slot}
use Rattle.heard.specs.Heard.{block_before}
use Rattle.heard.specs.Memory.{none, block_ago}
use Rattle.heard.proofs.LookBack.{looked_back}
use Rattle.handset.specs.Checked.{blocks_apart}
use Rattle.handset.specs.Sound.{previous}

-- when the window of slot i is answered, from 13 before the subframe that is expected
abbrev pub answered_at : ℕ → ℕ → ℕ → ℕ
answered_at c next i = distance_of c (before next (i + 1)) + 13 - i

-- one of these slots, the first of which is slot i, is a block whose window is answered then
abbrev pub taken_by : ℕ → ℕ → ℕ → List Slot → ℕ → Bool
taken_by c next i [] w = false
taken_by c next i (t ∷ ts) w = (eqb t.kind 2 && eqb (answered_at c next i) w) || taken_by c next (i + 1) ts w

module _ (c next i : ℕ) where
  -- A slot a older is answered at the same time exactly if it shares the window.
  same_time : (a : ℕ) → i + a ≤ 13 → eqb (answered_at c next (i + a)) (answered_at c next i) ≡ shares c (before next (i + 1)) a
  unfolding shares
  same_time a h =
      let back : before (before next (i + 1)) a ≡ before next (i + a + 1) = omega arith in
      rw back (go (distance_of c (before next (i + 1))) (distance_of c (before next (i + a + 1))))
    where
      go : (d e : ℕ) → eqb (e + 13 - (i + a)) (d + 13 - i) ≡ eqb (d + a) e
      go d e =
          elim (ℕ_discrete (d + a) e) [
            | yes s ↦ rw (eq-eqb (e + 13 - (i + a)) (d + 13 - i) (omega arith), eq-eqb (d + a) e s)
            | no s ↦ rw (ne_eqb (e + 13 - (i + a)) (d + 13 - i) (λ r. s (omega arith)), ne_eqb (d + a) e s)
          ]

  -- So a window is taken before slot i exactly if a block was heard before in it.
  taken_from : (a m : ℕ) (rest : List Slot) → length rest ≤ m → i + a + length rest ≤ 13
      → taken_by c next (i + a) rest (answered_at c next i)
      ≡ list_any (λ (p : ℕ × Slot). eqb p.1.kind 2 && shares c (before next (i + 1)) p.0) (zip (range_with_len a m) rest)
  taken_from a zero [] low far = refl
  taken_from a (suc m) [] low far = refl
  taken_from a zero (t ∷ rest) low far = absurd (omega arith)
  taken_from a (suc m) (t ∷ rest) low far =
      let on : i + a + 1 ≡ i + (a + 1) = omega arith in
      rw (same_time a (omega arith), on, taken_from (a + 1) m rest (omega arith) (omega arith)) refl

  pub taken_before : (rest : List Slot) → i + 1 + length rest ≤ 13
      → taken_by c next (i + 1) rest (answered_at c next i) ≡ block_before 13 c (before next (i + 1)) (block_ago rest)
  taken_before rest far = taken_from 1 13 rest (omega arith) far ∙ looked_back c (before next (i + 1)) rest

-- Before the first slot nothing is taken, and no block is a second one.
module _ (c next : ℕ) (past : List Slot) (size : length past ≡ 13) where
  pub taken_none : (w : ℕ) (clear : Bool) → clear ≡ false → clear ≡ taken_by c next 13 (drop 13 past) w
  taken_none w clear e = e ∙ rw (drop_of_length-le past {i = 13} (omega (arith, size))) refl

  pub apart_none : true ≡ blocks_apart c (before next 13) (drop 13 past)
  unfolding blocks_apart
  apart_none = rw (drop_of_length-le past {i = 13} (omega (arith, size))) refl

  -- One slot more.
  module _ (i : ℕ) (h : i < 13) where
    slots : drop i past ≡ get_or past i none ∷ drop (i + 1) past
    slots = rw add-one (drop-cons past i none (omega (arith, size)))

    left : i + 1 + length (drop (i + 1) past) ≤ 13
    left = omega (arith, size, length-drop (i + 1) past)

    pub taken_more : (taken : List Bool) → length taken ≡ 32
        → ((w : ℕ) → w < 32 → get_or taken w false ≡ taken_by c next (i + 1) (drop (i + 1) past) w)
        → (at : ℕ) → at < 32 → at ≡ answered_at c next i → (w : ℕ) → w < 32
        → get_or (set taken at (get_or taken at false || eqb (get_or past i none).kind 2)) w false ≡ taken_by c next i (drop i past) w
    taken_more taken full known at low is w small =
        elim (ℕ_discrete at w) [
          | yes e ↦ rw (slots, ← e, get_or-set_same taken at _ false (omega (arith, full)), known at low, ← is, eq-eqb at at refl) (swap (taken_by c next (i + 1) (drop (i + 1) past) at) (eqb (get_or past i none).kind 2))
          | no e ↦ rw (slots, get_or-set_other taken at w _ false (λ r. e (sym r)), known w small, ← is, ne_eqb at w e) (dropped (eqb (get_or past i none).kind 2) _)
        ]
      where
        swap : (a b : Bool) → (a || b) ≡ ((b && true) || a)
        swap true true = refl
        swap true false = refl
        swap false true = refl
        swap false false = refl

        dropped : (b a : Bool) → a ≡ ((b && false) || a)
        dropped true a = refl
        dropped false a = refl

    pub apart_more : (second found : Bool) → not second ≡ blocks_apart c (before next (i + 1)) (drop (i + 1) past)
        → found ≡ taken_by c next (i + 1) (drop (i + 1) past) (answered_at c next i)
        → not (second || (eqb (get_or past i none).kind 2 && found)) ≡ blocks_apart c (before next i) (drop i past)
    unfolding blocks_apart
    apart_more second found e taken =
        let back : previous (before next i) ≡ before next (i + 1) = omega arith in
        rw (slots, back, ← e, ← taken_before c next i (drop (i + 1) past) left, ← taken) (both second (eqb (get_or past i none).kind 2 && found))
      where
        both : (a b : Bool) → not (a || b) ≡ (not b && not a)
        both true true = refl
        both true false = refl
        both false true = refl
        both false false = refl
