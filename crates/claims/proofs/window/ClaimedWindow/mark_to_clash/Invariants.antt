-- `mark_to_clash` meets its contract. Assumes nothing.
use Rattle.claims.proofs.Turn.{Before}
use Rattle.claims.proofs.window.ClaimedWindow.mark_to_clash.Given as goal

abbrev pub invariant-loop-i : goal.invariant-loop-i
invariant-loop-i g l = Before g.F.Form.laid l.self l.claims l.bytes l.i
