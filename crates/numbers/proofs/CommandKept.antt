-- The numbers of feedback_command lose nothing.
-- Assumes nothing.
use Prim.Native.Nat.{ℕ}
use mathlib.Core.Bool.{Bool, true, false}
use mathlib.Core.Path.{◌≡◌, refl}
use Rattle.handset.specs.declared.Handset.{Handset}
use Rattle.registers.specs.Call.{Told}
use Rattle.numbers.specs.Answers.{command_answer}
use Rattle.numbers.specs.Back.{told_in}

pub told_back : (t : Told) → told_in (command_answer t) ≡ t
told_back t = go t.refusal t.line t.handset
  where
    go : (refusal : ℕ) (line : Bool) (h : Handset) → told_in (command_answer (record { refusal = refusal; line = line; handset = h })) ≡ record { refusal = refusal; line = line; handset = h }
    go refusal true h = refl
    go refusal false h = refl
