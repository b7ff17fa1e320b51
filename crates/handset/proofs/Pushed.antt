-- A subframe more in the memory: the newest stands before the others, and the oldest is dropped.
-- Assumes nothing.
use Prim.Native.Nat.{ℕ, zero, suc, ◌+◌, ◌≤◌}
use mathlib.Core.List.{List, [], ◌∷◌}
use mathlib.Core.Path.{◌≡◌, refl, sym, subst, ◌∙◌}
use native.Mathlib.Omega.{arith}
use lib.ListN.{length, take, drop, set}
use lib.Seq.{drop-cons, take-length}
use Rattle.std.specs.List.{copy_within}
use Rattle.std.proofs.Math.Seq.{paste}
use Rattle.std.proofs.lemmas.List.Edits.{take-paste, length-paste}
use Rattle.heard.specs.declared.Slot.{Slot}
use Rattle.heard.specs.Memory.{none}
use Rattle.handset.specs.Make.{slots_from}

-- The slots i, i + 1, .., where there are as many.
slots_taken : (count i : ℕ) (l : List Slot) → i + count ≤ length l → slots_from count i l ≡ take count (drop i l)
slots_taken zero i l h = refl
slots_taken (suc count) i l h =
    rw (drop-cons l i none (omega arith), slots_taken count (suc i) l (omega arith))

pub pushed_before : (past new : List Slot) (t : Slot) → length past ≡ 13 → new ≡ copy_within past 0 12 1 → set new 0 t ≡ t ∷ slots_from 12 0 past
pushed_before [] new t size e = absurd (omega arith)
pushed_before (x ∷ xs) new t size e =
    let past : List Slot = x ∷ xs in
    let front : take 13 (paste past 1 past 12) ≡ x ∷ take 12 past = take-paste past 1 past 12 (omega arith) (omega arith) in
    let long : length (paste past 1 past 12) ≡ 13 = length-paste past 1 past 12 (omega arith) (omega arith) ∙ size in
    let all : take 13 (paste past 1 past 12) ≡ paste past 1 past 12 =
    subst (λ (n : ℕ). take n (paste past 1 past 12) ≡ paste past 1 past 12) long (take-length (paste past 1 past 12)) in
    let whole : new ≡ x ∷ take 12 past = e ∙ sym all ∙ front in
    rw (whole, slots_taken 12 0 past (omega arith))
