-- `confirming::checks::is_valid_ago` meets its contract. Assumes nothing.
use native.Mathlib.Omega.{arith}
use Rattle.confirming.proofs.Together.{ago_within}
use Rattle.confirming.proofs.checks.is_valid_ago.Goals as goal

pub returns : goal.returns
returns c n is =
    ago_within c.args.s n c.args.k c.args.x.now c.args.letters.now c.is_valid.result is (omega arith) (omega arith)
    (λ d h. c.is_valid.ensures d (rw c.from.ensures h))
