-- `frame::table::window_of` meets its contract: each row is the print's. Assumes nothing.
use mathlib.Core.Path.{refl}
use Rattle.frame.specs.Table.{table, window_of}
use Rattle.frame.proofs.Rows.{list_at}
use Rattle.frame.proofs.Windows.{outside_configurations, outside_subframes}
use Rattle.frame.proofs.table.window_of.Goals as goal

pub returns : goal.returns
unfolding table window_of
returns c = list_at window_of _ _ _ _ c.list_in.ensures refl outside_configurations outside_subframes
