-- `heard::Slot::second_failed` meets its contract. Assumes nothing.
use Rattle.std.proofs.Common.{rules}
use Rattle.heard.proofs.Remembered.{second_fails}
use Rattle.heard.proofs.Slot.second_failed.Goals as goal
use Rattle.heard.proofs.Slot.second_failed.Goals.{then-two, else-two}

pub returns : goal.returns
returns c =
    rw c.heard_data.ensures
    (second_fails c.args.self _
    (elim c.if-two.branch [
      | then-two w ↦ search rules
      | else-two w ↦ search rules
    ]))
