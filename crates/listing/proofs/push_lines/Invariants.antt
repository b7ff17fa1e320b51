-- The page has the lines of the subframes below n.
use Rattle.std.proofs.Common.{◌≡◌}
use Rattle.line.specs.Line.{added}
use Rattle.listing.specs.Page.{lines_below}
use Rattle.listing.proofs.push_lines.Given as goal

abbrev pub invariant-loop-n : goal.invariant-loop-n
invariant-loop-n l = l.page ≡ added l.initial.page (lines_below l.n l.c)
