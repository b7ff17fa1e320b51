-- `counting::complete` meets its contract: the table is computed from Table 10.1-1. Assumes nothing.
use mathlib.Core.Path.{refl}
use Rattle.frame.specs.Table.{table, window_of}
use Rattle.counting.specs.Windows.{has_window, windows_before, complete_at}
use Rattle.counting.proofs.Frames.{complete_is}
use Rattle.counting.proofs.complete.Goals as goal

pub returns : goal.returns
unfolding complete_at windows_before has_window window_of table
returns c = complete_is _ _ _ _ c.complete_in.ensures refl
