-- `spelling::stops::first_refused` meets its contract: a record is taken up, or refused, or none is left. Assumes nothing.
use Rattle.std.proofs.lemmas.Result.{err_from_is_err_and}
use Rattle.spelling.proofs.Feeding.{begins, ends, stops, goes_on}
use Rattle.spelling.proofs.stops.first_refused.Goals as goal

pub loop-number-init : goal.loop-number-init
loop-number-init c =
    rw (c.into_iter-number-iterator.ensures.into_iter_gives, c.numbered-number-items.ensures.first)
    (c.numbered-number-items.ensures.trace, begins _ _)

pub loop-number-preserved : goal.loop-number-preserved
loop-number-preserved c =
    let p = c.loop-number.invariant in
    let this = rw p.0 at c.in-Some.ensures.steps in
    rw this.2 (this.1, goes_on _ _ _ _ p.1 this.0.inside _ this.0.used c.in_ok-take_record.ensures.stop _ c.take_record.ensures.after)

pub returns-in_err-take_record : goal.returns-in_err-take_record
returns-in_err-take_record c =
    let p = c.loop-number.invariant in
    let this = rw p.0 at c.in-Some.ensures.steps in
    let given = err_from_is_err_and c.from_residual.result c.from_residual.ensures.1 in
    rw (given.1, given.2) (stops _ _ _ _ p.1 this.0.inside _ this.0.used _ this.0.number _ c.in_err-take_record.ensures.stop)

pub returns : goal.returns
returns c =
    let p = c.loop-number.invariant in
    ends _ _ _ _ p.1 (rw p.0 at c.in-None.ensures.steps.0)
