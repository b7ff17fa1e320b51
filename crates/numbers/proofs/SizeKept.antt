-- The numbers of feedback_replay_size lose nothing.
-- Assumes nothing.
use Prim.Native.Nat.{ℕ, zero, suc}
use mathlib.Core.List.{List}
use mathlib.Core.Path.{◌≡◌, refl}
use Rattle.frame.specs.Refusals.{unless_refused}
use Rattle.sizing.specs.declared.ReplaySize.{ReplaySize}
use Rattle.sizing.specs.Size.{size_refusal, figures_in, size_of}
use Rattle.numbers.specs.Answers.{replay_size_answer}
use Rattle.numbers.specs.Back.{size_in}

sized_back : (k : ℕ) (z : ReplaySize) → size_in (replay_size_answer (unless_refused k z)) ≡ unless_refused k z
sized_back zero z = refl
sized_back (suc k) z = refl

pub size_back : (l : List ℕ) → size_in (replay_size_answer (size_of l)) ≡ size_of l
unfolding size_of
size_back l = sized_back (size_refusal l) (figures_in l)
