-- `spelling::bytes::put_records` meets its contract: a record is written, or none is left. Assumes nothing.
use Rattle.std.proofs.Common.{◌≡◌, ◌+◌, ◌*◌, ◌-◌, ◌∙◌, arith}
use Rattle.replaying.proofs.Putting.{part_put}
use Rattle.spelling.proofs.Records.{begins, ends, goes_on}
use Rattle.spelling.proofs.bytes.put_records.Goals as goal

pub loop-number-init : goal.loop-number-init
loop-number-init c =
    rw (c.into_iter-number-iterator.ensures.into_iter_gives, c.masked-number-items.ensures.first)
    (c.masked-number-items.ensures.trace, begins _ _ c.requires)

pub loop-number-preserved : goal.loop-number-preserved
loop-number-preserved c =
    let p = c.loop-number.invariant in
    let this = rw p.0 at c.in-Some.ensures.steps in
    let written = c.copy_from_slice.ensures.after ∙ c.slot_bytes.ensures in
    let four : 4 ≡ 18 + 4 * c.in-Some.number + 4 - (18 + 4 * c.in-Some.number) = omega arith in
    rw this.2 (this.1, goes_on _ _ c.requires _ _ p.1 this.0.inside _ this.0.used _ this.0.number _ (rw written (part_put _ _ _ _ four)))

pub returns : goal.returns
returns c =
    let p = c.loop-number.invariant in
    ends _ _ c.requires _ _ p.1 (rw p.0 at c.in-None.ensures.steps.0)
