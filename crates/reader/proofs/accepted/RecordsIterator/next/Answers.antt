-- `Records`' `next` keeps its promises: the record of the number that the reader has, and the reader at the number after. Assumes nothing.
use Rattle.std.proofs.Common.{refl, ◌∙◌, arith}
use Rattle.reader.proofs.Given.{next_number}
use Rattle.reader.proofs.accepted.RecordsIterator.next.Goals as goal

pub invariant_of-self : goal.invariant_of-self
invariant_of-self c =
    let more = c.advance.ensures.1 ∙ next_number _ (omega arith) in
    record { lent = c.advance.ensures.0 ∙ c.args.self.now.lent; counted = omega (arith, more) }

pub returns-clause-steps : goal.returns-clause-steps
returns-clause-steps c =
    let inside = c.if-self.false in
    let more = c.advance.ensures.1 ∙ next_number _ (omega arith) in
    (record { inside = omega (arith, inside); number = omega arith; used = c.record-record.ensures.value; read = c.record-record.ensures.read (omega (arith, inside)) }, refl, more)

pub returns-clause-goes : goal.returns-clause-goes
returns-clause-goes c =
    let more = c.advance.ensures.1 ∙ next_number _ (omega arith) in
    record { on = λ f. (tt, tt, omega (arith, more)); keeps = tt; rests = λ f. tt }
