-- `frame::table::earliest_ks_of` meets its contract: each digit is the largest k of the print's row. Assumes nothing.
use mathlib.Core.Path.{refl}
use Rattle.frame.specs.Coded.{earliest_digits}
use Rattle.frame.specs.Earliest.{earliest_k}
use Rattle.frame.specs.Order.{times_of}
use Rattle.frame.specs.Table.{table, window_of}
use Rattle.frame.proofs.Earliest.{no_earliest}
use Rattle.frame.proofs.Rows.{digits_at}
use Rattle.frame.proofs.table.earliest_ks_of.Goals as goal

pub returns : goal.returns
unfolding table window_of times_of earliest_k earliest_digits
returns c = digits_at earliest_k _ _ _ c.digits_in.ensures refl no_earliest
