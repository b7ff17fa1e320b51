-- `reply::answers::code_of` meets its contract: a position more is a digit more. Assumes nothing.
use mathlib.Core.Path.{ap}
use Rattle.heard.specs.Memory.{view_in, view_ago}
use Rattle.reply.proofs.Multiplexing.{k_range, code_next}
use Rattle.reply.proofs.answers.code_of.Goals as goal

pub loop-k-preserved : goal.loop-k-preserved
unfolding view_ago
loop-k-preserved c =
    rw c.digit_of.ensures (code_next _ _ _ _ c.ks-k-items.ensures _ _ c.loop-k.invariant c.loop-k-test.true _ (ap view_in (c.slot_ago.ensures.before (k_range _ _ _ c.ks-k-items.ensures _ c.loop-k-test.true).0)))
