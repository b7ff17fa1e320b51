-- `handset::state::padded` meets its contract. The loop's invariant: the first i slots stand there. Assumes nothing.
use mathlib.Core.List.{◌++◌}
use mathlib.Core.Path.{◌≡◌}
use lib.ListN.{take, drop, replicate}
use Rattle.heard.specs.Memory.{none}
use Rattle.handset.proofs.state.padded.Given as goal

abbrev pub invariant-loop-i : goal.invariant-loop-i
invariant-loop-i l = l.slots ≡ take l.i l.past ++ drop l.i (replicate 16 none)
