-- `confirming::SentIn::read` meets its contract: what is refused before the reading. Assumes nothing.
use Rattle.frame.proofs.Refused.{passed_on}
use Rattle.confirming.proofs.Checking.{sent_refused}
use Rattle.confirming.proofs.SentIn.read.Goals as goal

pub returns-in_err-told : goal.returns-in_err-told
returns-in_err-told c =
    passed_on _ c.in_err-told.field-0.0 _ c.from_residual.ensures.1
    (sent_refused _ _ _ _ _ _ _ c.check.ensures _ c.in_err-told.was)
