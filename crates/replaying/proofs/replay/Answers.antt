-- `replaying::replay` meets its contract: a refusal before any record, or the feeds. Assumes nothing.
use Rattle.std.proofs.Common.{Bor, List, ℕ, ap, rules}
use Rattle.replaying.proofs.Starts.{refused_before, ready, played_on}
use Rattle.replaying.proofs.replay.Goals as goal

pub play-end-requires : goal.play-end-requires
play-end-requires c =
    let made = c.in-Ok.ensures.made in
    rw made.1 (ready _ c.args.out.now c.in-Ok.ensures.refusal _ (ap (λ (b : Bor (List ℕ)). b.now) made.0) _ c.new-windows.ensures.same c.new-windows.ensures.none)

pub returns-in-Ok : goal.returns-in-Ok
returns-in-Ok c =
    let made = c.in-Ok.ensures.made in
    let value = rw (made.0, made.1) at c.play-end.ensures.value in
    let after = rw (made.0, made.1, c.new-windows.ensures.same) at c.play-end.ensures.out_after in
    let each = played_on _ c.args.out.now c.in-Ok.ensures.refusal _ _ value after in
    record { value = each.0; out_after = search (rules, each.1.0); windows_in_bounds = search (rules, each.1.1) }

pub returns-in-Err : goal.returns-in-Err
returns-in-Err c =
    let each = refused_before _ c.args.out.now _ c.in-Err.ensures.refusal in
    record { value = each.0; out_after = each.1.0; windows_in_bounds = each.1.1 }
