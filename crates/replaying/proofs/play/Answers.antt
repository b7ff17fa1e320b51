-- `replaying::play` meets its contract: a record is taken up, or refused, or none is left. Assumes nothing.
use Rattle.std.proofs.Common.{arith}
use Rattle.std.proofs.lemmas.Result.{err_from_is_err_and}
use Rattle.replaying.proofs.Plays.{begins, ends, stops, fits, few, room, goes_on}
use Rattle.replaying.proofs.play.Goals as goal

pub loop-number-init : goal.loop-number-init
loop-number-init c =
    rw (c.into_iter-number-iterator.ensures.into_iter_gives, c.numbered-number-items.ensures.first)
    (c.numbered-number-items.ensures.trace, begins _ _ _ c.requires)

pub push-requires : goal.push-requires
push-requires c =
    let p = c.loop-number.invariant in
    let this = rw p.0 at c.in-Some.ensures.steps in
    let fed = c.in_ok-answer.ensures.answer in
    record {
      n_bound = fits _ _ _ c.requires _ _ _ p.1 this.0.inside _ this.0.used _ fed;
      windows_bound = few _ _ _ c.requires _ _ _ p.1 this.0.inside _ this.0.used _ fed (omega arith);
      answer_in_bounds = room _ _ _ c.requires _ _ _ p.1 this.0.inside _ this.0.used _ fed;
    }

pub loop-number-preserved : goal.loop-number-preserved
loop-number-preserved c =
    let p = c.loop-number.invariant in
    let this = rw p.0 at c.in-Some.ensures.steps in
    let fed = c.in_ok-answer.ensures.answer in
    rw this.2 (
      this.1,
      goes_on _ _ _ c.requires _ _ _ p.1 this.0.inside _ this.0.used _ fed _ _ c.feed_record.ensures.after c.push.ensures.same_reference
          c.push.ensures.value c.push.ensures.out_after,
    )

pub returns-in_err-answer : goal.returns-in_err-answer
returns-in_err-answer c =
    let p = c.loop-number.invariant in
    let this = rw p.0 at c.in-Some.ensures.steps in
    let given = err_from_is_err_and c.from_residual.result c.from_residual.ensures.1 in
    let each = stops _ _ _ c.requires _ _ _ p.1 this.0.inside _ this.0.used _ this.0.number _ c.in_err-answer.ensures.answer in
    rw (given.1, given.2) (record { same_reference = p.1.reference; value = each.0; out_after = each.1 })

pub returns : goal.returns
returns c =
    let p = c.loop-number.invariant in
    let each = ends _ _ _ c.requires _ _ _ p.1 (rw p.0 at c.in-None.ensures.steps.0) in
    record { same_reference = p.1.reference; value = each.0; out_after = each.1 }
