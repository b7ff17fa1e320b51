-- `fold::Seen::step` meets its contract. Assumes nothing.
use Rattle.std.proofs.Common.{rules}
use Rattle.frame.proofs.Bools.{cast_bit}
use Rattle.fold.proofs.Folding.{step_is}
use Rattle.fold.proofs.Seen.step.Goals as goal
use Rattle.fold.proofs.Seen.step.Goals.{then-pdcch, else-pdcch, then-pdcch-2, else-pdcch-2, then-pdcch-3, else-pdcch-3}

pub returns : goal.returns
returns c =
    rw (c.first_failed.ensures, c.second_failed.ensures, c.heard_block.ensures)
    (step_is c.args.self c.args.m c.args.t _ _ _ _
    (rw (cast_bit, c.heard_pdcch-pdcch.ensures))
    (rw (← c.heard_pdcch-pdcch.ensures) (elim c.if-pdcch.branch [
      | then-pdcch w ↦ search rules
      | else-pdcch w ↦ search rules
    ]))
    (rw (← c.heard_pdcch-pdcch.ensures) (elim c.if-pdcch-2.branch [
      | then-pdcch-2 w ↦ search rules
      | else-pdcch-2 w ↦ search rules
    ]))
    (rw (← c.heard_pdcch-pdcch.ensures) (elim c.if-pdcch-3.branch [
      | then-pdcch-3 w ↦ search rules
      | else-pdcch-3 w ↦ search rules
    ])))
