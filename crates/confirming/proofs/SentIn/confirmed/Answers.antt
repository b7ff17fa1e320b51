-- `SentIn::confirmed` meets its contract: a refused reading. Assumes nothing.
use Rattle.confirming.proofs.Answering.{reading_refused}
use Rattle.confirming.proofs.SentIn.confirmed.Goals as goal

pub returns-in_err-reading : goal.returns-in_err-reading
returns-in_err-reading c = reading_refused _ _ _ c.in_err-reading.field-0.0 _ c.in_err-reading.was c.from_residual.ensures.1
