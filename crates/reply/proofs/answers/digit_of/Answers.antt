-- `reply::answers::digit_of` meets its contract. Assumes nothing.
use Rattle.frame.proofs.Bools.{cast_bit}
use Rattle.heard.specs.Memory.{view_in}
use Rattle.reply.proofs.Multiplexing.{digit_heard, digit_unheard}
use Rattle.reply.proofs.answers.digit_of.Goals as goal

pub returns-then-heard : goal.returns-then-heard
returns-then-heard c =
    rw (cast_bit, c.first_failed.ensures, c.second_failed.ensures)
    (digit_heard (view_in c.args.t) (rw (c.heard_pdcch.ensures, c.heard_block.ensures) at c.if-heard.true))

pub returns-else-heard : goal.returns-else-heard
returns-else-heard c =
    digit_unheard (view_in c.args.t) (rw (c.heard_pdcch.ensures, c.heard_block.ensures) at c.if-heard.false)
