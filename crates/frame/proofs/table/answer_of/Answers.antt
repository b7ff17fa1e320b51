-- `frame::table::answer_of` meets its contract: each answer is that of the windows. Assumes nothing.
use mathlib.Core.Path.{refl}
use Rattle.frame.specs.Coded.{coded_position, coded_answer}
use Rattle.frame.specs.Distance.{distance_up_to, distance_of, uplink_of, answered_position}
use Rattle.frame.specs.Layout.{layouts, letter_of, downlink}
use Rattle.frame.specs.Table.{table, window_of}
use Rattle.frame.proofs.Rows.{answer_at}
use Rattle.frame.proofs.table.answer_of.Goals as goal

pub returns : goal.returns
unfolding table window_of layouts letter_of downlink distance_up_to distance_of uplink_of answered_position coded_position coded_answer
returns c = answer_at _ _ _ _ c.answer_in.ensures refl
