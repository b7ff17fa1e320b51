-- `Reader`'s `next` keeps its promises: a record where it reads one, and nothing where it does not. Assumes nothing.
use mathlib.Core.Path.{refl, sym, ap, ◌∙◌}
use native.Mathlib.Omega.{arith}
use Rattle.std.specs.Option.{option_flatten}
use Rattle.reader.proofs.Left.{left_read, none_left}
use Rattle.reader.proofs.ReaderIterator.next.Goals as goal

pub returns-in_err-record-clause-steps : goal.returns-in_err-record-clause-steps
returns-in_err-record-clause-steps c =
    let none = none_left c.args.self.now c.read.result c.read.ensures.value (sym (c.flatten.ensures ∙ ap option_flatten c.ok.ensures.value) ∙ c.in_err-record.was) in
    rw c.from_residual.ensures (none, refl)

pub returns-clause-steps : goal.returns-clause-steps
returns-clause-steps c =
    let first = left_read c.args.self.now c.advance.new.self c.advance.ensures.0 c.advance.ensures.1 c.read.result c.in_ok-record.record
    c.read.ensures.value c.read.ensures.few (sym (c.flatten.ensures ∙ ap option_flatten c.ok.ensures.value) ∙ c.in_ok-record.was) in
    (first, c.advance.ensures.0, c.advance.ensures.1)

pub returns-clause-goes : goal.returns-clause-goes
returns-clause-goes c = record { on = λ f. (tt, tt, rw (returns-clause-steps c).0 (omega arith)); keeps = tt; rests = λ f. tt }
