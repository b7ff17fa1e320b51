-- The steps of the fold over a window.
-- Assumes nothing.
use Prim.Native.Nat.{ℕ, ◌+◌, ◌<◌, ◌≤◌}
use mathlib.Core.Bool.{cond, not, ◌&&◌, ◌||◌, not-not, and-true, or-false, or-true}
use mathlib.Core.List.{List}
use mathlib.Core.Path.{◌≡◌}
use native.Mathlib.Decide.{ℕ_discrete}
use native.Mathlib.Numerals.{add-one}
use native.Mathlib.Omega.{arith}
use lib.ListN.{length, get_or, drop, drop_of_length-le}
use lib.Seq.{drop-cons}
use Rattle.std.proofs.Common.{add-zero}
use Rattle.fold.specs.declared.Seen.{Seen}
use Rattle.heard.specs.declared.Slot.{Slot}
use Rattle.heard.specs.declared.View.{View}
use Rattle.heard.specs.declared.View.TheVariants.{Unheard, Pdcch, Block}
use Rattle.heard.specs.Heard.{view_of}
use Rattle.heard.specs.Memory.{first_in, view_in, sees_pdcch, sees_block, first_failed, second_failed}
use Rattle.heard.proofs.Remembered.{in_granted, in_scheduled, in_released, in_nothing}
use Rattle.resource.specs.declared.Cce.{Cce}
use Rattle.fold.specs.Fold.{step_of, seen_from}

-- One position more.
pub seen_more : (F : ℕ → View) (ks ms : List ℕ) (j : ℕ) (seen : Seen) → j < length ms
    → seen_from F ks (drop j ms) seen ≡ seen_from F ks (drop (j + 1) ms) (step_of seen (get_or ms j 0) (F (get_or ks (get_or ms j 0) 0)))
unfolding seen_from
seen_more F ks ms j seen h = rw (add-one, drop-cons ms j 0 h)

-- No position left.
pub seen_all : (F : ℕ → View) (ks ms : List ℕ) (j : ℕ) (seen : Seen) → length ms ≤ j → seen_from F ks (drop j ms) seen ≡ seen
unfolding seen_from
seen_all F ks ms j seen h = rw (drop_of_length-le ms {i = j} h)

-- A step counts at most one more.
pub step_counts : (seen : Seen) (m : ℕ) (x : View) → (step_of seen m x).u ≤ seen.u + 1
unfolding step_of
step_counts seen m Unheard = omega arith
step_counts seen m (Pdcch g) = omega arith
step_counts seen m (Block b) = omega arith

-- A step as the code makes it: each field by itself.
pub step_is : (seen : Seen) (m : ℕ) (t : Slot) (u v position : ℕ) (cce : Cce)
    → u ≡ seen.u + cond (sees_pdcch (view_in t)) 1 0
    → v ≡ cond (sees_pdcch (view_in t)) t.dai seen.v
    → position ≡ cond (sees_pdcch (view_in t)) m seen.position
    → cce ≡ cond (sees_pdcch (view_in t)) (record { 0 = t.cce }) seen.cce
    → record {
      u = u;
      v = v;
      position = position;
      cce = cce;
      first = seen.first && not (first_failed (view_in t));
      second = seen.second && not (second_failed (view_in t));
      scheduled = seen.scheduled || sees_block (view_in t);
    } ≡ step_of seen m (view_in t)
unfolding step_of view_in view_of
step_is seen m t u v position cce eu ev ep ec =
    elim (ℕ_discrete t.kind 1) [
      | yes a ↦ rw (eu, ev, ep, ec, in_granted t a, not-not (first_in t), not-not, or-false)
      | no a ↦ elim (ℕ_discrete t.kind 2) [
        | yes b ↦ rw (eu, ev, ep, ec, in_scheduled t b, add-zero, not-not (first_in t), not-not, or-true)
        | no b ↦ elim (ℕ_discrete t.kind 3) [
          | yes c ↦ rw (eu, ev, ep, ec, in_released t c, and-true seen.first, and-true seen.second, or-false)
          | no c ↦ rw (eu, ev, ep, ec, in_nothing t a b c, add-zero, and-true seen.first, and-true seen.second, or-false)
        ]
      ]
    ]
