-- `station::read` meets its contract: the reading at the place of the reply. Assumes nothing.
use Rattle.std.proofs.lemmas.Result.{IfOk-at_ok}
use Rattle.frame.proofs.Refused.{passed_on}
use Rattle.station.proofs.Placed.{place_refused}
use Rattle.station.proofs.read.Goals as goal

pub returns-in_err-place : goal.returns-in_err-place
returns-in_err-place c =
    let window = IfOk-at_ok _ c.in_ok-window.was c.new.ensures.window in
    passed_on _ c.in_err-place.field-0.0 _ c.from_residual-in_err-place.ensures.1
    (place_refused _ _ _ _ _ _ _ (rw (window.0, window.1) at c.place_of.ensures) _ c.in_err-place.was)
