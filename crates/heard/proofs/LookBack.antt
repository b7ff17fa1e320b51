-- The look back over the memory, slot by slot from the newest, is `block_before`.
-- Assumes nothing.
use Prim.Native.Nat.{ℕ, zero, suc, ◌+◌, ◌-◌, ◌<◌, ◌≤◌}
use mathlib.Core.Bool.{Bool, true, false, ◌&&◌, ◌||◌, or-false}
use mathlib.Core.List.{List, [], ◌∷◌}
use mathlib.Core.Path.{◌≡◌, refl, sym, ap, ◌∙◌}
use native.Mathlib.Decide.{ℕ_discrete}
use native.Mathlib.Nat.{le_step}
use native.Mathlib.Numerals.{add-one}
use native.Mathlib.Omega.{arith}
use lib.Dec.{eqb}
use lib.ListN.{length, drop, get_or, length-drop, get_or-eq_default}
use lib.Seq.{drop-cons}
use Rattle.std.proofs.Common.{add-zero}
use Rattle.std.specs.List.{list_any, range_with_len, zip}
use Rattle.frame.specs.Distance.{shares}
use Rattle.heard.specs.declared.Slot.{Slot}
use Rattle.heard.specs.Heard.{block_before}
use Rattle.heard.specs.Memory.{none, block_ago}

-- Where none was heard further back, looking back less far finds the same.
before_less : (less most c n : ℕ) (f : ℕ → Bool) → less ≤ most → ((a : ℕ) → less < a → a ≤ most → f a ≡ false)
    → block_before most c n f ≡ block_before less c n f
unfolding block_before
before_less less zero c n f h quiet = let e : less ≡ 0 = omega arith in rw e
before_less less (suc most) c n f h quiet =
    elim (ℕ_discrete less (suc most)) [
      | yes e ↦ rw e
      | no e ↦ rw (quiet (suc most) (omega arith) (omega arith)) (before_less less most c n f (omega arith) (λ a low high. quiet a low (le_step high)))
    ]

-- Before the oldest slot no block was heard.
none_beyond : (past : List Slot) (k : ℕ) → length past < k → block_ago past k ≡ false
unfolding block_ago
none_beyond past k h = rw (get_or-eq_default past none {n = k - 1} (omega arith))

-- The one asked next may be asked first.
next_first : (p q r : Bool) → ((p || q) || r) ≡ (q || (p || r))
next_first true true r = refl
next_first true false r = refl
next_first false q r = refl

module _ (c n : ℕ) (past : List Slot) where
  -- The slots from the one heard a + 1 before n on, at most `most` of them, after those that were heard later.
  looked : (most a : ℕ) (rest : List Slot) → drop a past ≡ rest
      → (list_any (λ (p : ℕ × Slot). eqb p.1.kind 2 && shares c n p.0) (zip (range_with_len (suc a) most) rest) || block_before a c n (block_ago past))
      ≡ block_before (a + most) c n (block_ago past)
  unfolding block_before block_ago
  looked zero a rest e = rw add-zero
  looked (suc most) a [] e =
      let short : length past ≤ a = omega (arith, length-drop a past, ap length e) in
      sym (before_less a (a + suc most) c n (block_ago past) (omega arith) (λ k low high. none_beyond past k (omega arith)))
  looked (suc most) a (t ∷ rest) e =
      let low : a < length past = omega (arith, length-drop a past, ap length e) in
      let split : drop a past ≡ get_or past a none ∷ drop (suc a) past = drop-cons past a none low in
      let back : suc a - 1 ≡ a = omega arith in
      let here : get_or past (suc a - 1) none ≡ t = cc in
      let left : drop (suc a) past ≡ rest = cc in
      let next : a + suc most ≡ suc a + most = omega arith in
      rw (next, add-one, ← here, next_first) (looked most (suc a) rest left)

  -- All of them, from the newest on.
  pub looked_back : list_any (λ (p : ℕ × Slot). eqb p.1.kind 2 && shares c n p.0) (zip (range_with_len 1 13) past) ≡ block_before 13 c n (block_ago past)
  unfolding block_before
  looked_back = sym (or-false _) ∙ looked 13 0 past refl
