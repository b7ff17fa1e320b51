-- `spelling::bytes::write` meets its contract: what stops, the output, then the bytes. Assumes nothing.
use Rattle.std.proofs.Common.{Bor, List, ℕ, ap, arith}
use Rattle.std.proofs.lemmas.Result.{err_from_is_err_and}
use Rattle.spelling.proofs.Answers.{stopped, too_small, writable, written_out}
use Rattle.spelling.proofs.bytes.write.Goals as goal

pub returns-in_err-trace : goal.returns-in_err-trace
returns-in_err-trace c =
    let given = err_from_is_err_and c.from_residual.result c.from_residual.ensures.1 in
    let each = stopped _ c.args.out.now _ c.in_err-trace.ensures.stop in
    rw (given.1, given.2) (record { value = each.0; out_after = each.1.0; size_in_bounds = each.1.1 })

pub returns-then-out-size : goal.returns-then-out-size
returns-then-out-size c =
    let lent = ap (λ (b : Bor (List ℕ)). b.now) c.in_ok-trace.ensures.lent in
    let each = too_small _ c.args.out.now c.in_ok-trace.trace lent c.in_ok-trace.ensures.stop c.if-out-size.true in
    record { value = each.0; out_after = each.1.0; size_in_bounds = each.1.1 }

pub put_trace-requires : goal.put_trace-requires
put_trace-requires c =
    let lent = ap (λ (b : Bor (List ℕ)). b.now) c.in_ok-trace.ensures.lent in
    writable _ _ c.in_ok-trace.trace lent c.in_ok-trace.ensures.stop c.if-out-size.false (λ i. omega (arith, c.type_inv.trace i))

pub overflow_cast-result : goal.overflow_cast-result
overflow_cast-result c =
    let lent = ap (λ (b : Bor (List ℕ)). b.now) c.in_ok-trace.ensures.lent in
    let p = writable _ c.args.out.now c.in_ok-trace.trace lent c.in_ok-trace.ensures.stop c.if-out-size.false (λ i. omega (arith, c.type_inv.trace i)) in
    omega (arith, p.short)

pub returns : goal.returns
returns c =
    let lent = ap (λ (b : Bor (List ℕ)). b.now) c.in_ok-trace.ensures.lent in
    let each = written_out _ c.args.out.now c.in_ok-trace.trace lent c.in_ok-trace.ensures.stop c.if-out-size.false _ c.put_trace.ensures in
    record { value = each.0; out_after = each.1.0; size_in_bounds = each.1.1 }
