-- Who can force the outcome: specs/Decided.antt, proved of radio_forces.
-- Assumes nothing.
use Prim.Native.Nat.{ℕ}
use mathlib.Core.List.{[]}
use Rattle.playing.specs.Game.{radio_forces}
use Rattle.playing.specs.Decided.{Decided}
use Rattle.playing.proofs.Tree.{exactly, not_won}
use Rattle.playing.proofs.RadioRules.{radio_holds}
use Rattle.playing.proofs.SchedulerRules.{scheduler_holds}

pub decided : Decided (λ (size grants losses : ℕ). radio_forces size grants losses [])
decided =
    record {
      exactly = exactly;
      radio = radio_holds;
      scheduler = scheduler_holds;
      no_play = λ size grants losses h e play l. not_won size grants losses h e play l.granted l.few_lost;
    }
