-- The line has the first k columns.
use Rattle.std.proofs.Common.{◌≡◌}
use Rattle.line.specs.Line.{added}
use Rattle.size_text.specs.Text.{columns}
use Rattle.size_text.proofs.push_columns.Given as goal

abbrev pub invariant-loop-k : goal.invariant-loop-k
invariant-loop-k l = l.line ≡ added l.initial.line (columns l.b l.r l.k)
