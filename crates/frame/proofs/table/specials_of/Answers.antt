-- `frame::table::specials_of` meets its contract: each digit is the place of the special subframe in K. Assumes nothing.
use mathlib.Core.Path.{refl}
use Rattle.frame.specs.Coded.{special_place, special_digits}
use Rattle.frame.specs.Layout.{layouts, letter_of, is_special}
use Rattle.frame.specs.Table.{table, window_of}
use Rattle.frame.proofs.Lookups.{no_special}
use Rattle.frame.proofs.Rows.{digits_at}
use Rattle.frame.proofs.table.specials_of.Goals as goal

pub returns : goal.returns
unfolding table window_of layouts letter_of is_special special_place special_digits
returns c = digits_at special_place _ _ _ c.digits_in.ensures refl no_special
