-- `numbers::frames::answer_of` meets its contract: each answer is that of the window. Assumes nothing.
use mathlib.Core.Path.{refl}
use Rattle.frame.specs.Order.{times_of, order_of}
use Rattle.frame.specs.Table.{table, window_of}
use Rattle.numbers.proofs.Windows.{answer_at}
use Rattle.numbers.proofs.frames.answer_of.Goals as goal

pub returns : goal.returns
unfolding table window_of times_of order_of
returns c = answer_at _ _ _ _ c.answer_in.ensures refl
