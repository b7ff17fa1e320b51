-- `frame::table::distances_of` meets its contract: each digit is the k of the window that has the subframe. Assumes nothing.
use mathlib.Core.Path.{refl}
use Rattle.frame.specs.Coded.{distance_digits}
use Rattle.frame.specs.Distance.{distance_up_to, distance_of}
use Rattle.frame.specs.Table.{table, window_of}
use Rattle.frame.proofs.Distances.{no_distance}
use Rattle.frame.proofs.Rows.{digits_at}
use Rattle.frame.proofs.table.distances_of.Goals as goal

pub returns : goal.returns
unfolding table window_of distance_up_to distance_of distance_digits
returns c = digits_at distance_of _ _ _ c.digits_in.ensures refl no_distance
