-- The numbers of feedback_game lose nothing.
-- Assumes nothing.
use Prim.Native.Nat.{ℕ, zero, suc}
use mathlib.Core.Bool.{Bool, true, false}
use mathlib.Core.List.{[]}
use mathlib.Core.Path.{◌≡◌, refl}
use Rattle.frame.specs.Refusals.{unless_refused}
use Rattle.playing.specs.Game.{radio_forces, game_refusal, game_of}
use Rattle.numbers.specs.Answers.{game_answer}
use Rattle.numbers.specs.Back.{game_in}

told_back : (k : ℕ) (forced : Bool) → game_in (game_answer (unless_refused k forced)) ≡ unless_refused k forced
told_back zero true = refl
told_back zero false = refl
told_back (suc k) forced = refl

pub game_back : (size grants losses : ℕ) → game_in (game_answer (game_of size grants losses)) ≡ game_of size grants losses
unfolding game_of
game_back size grants losses = told_back (game_refusal size grants losses) (radio_forces size grants losses [])
