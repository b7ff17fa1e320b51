-- `frame::table::letter_of` meets its contract: each row has the print's letters. Assumes nothing.
use mathlib.Core.Path.{refl}
use Rattle.frame.specs.Layout.{layouts, letter_of}
use Rattle.frame.proofs.Rows.{letter_at}
use Rattle.frame.proofs.table.letter_of.Goals as goal

pub returns : goal.returns
unfolding layouts letter_of
returns c = letter_at _ _ _ _ c.letter_in.ensures refl
