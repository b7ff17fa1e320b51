-- The line with a space for each place from the one at hand up to the width is what the result is to be.
use Rattle.std.proofs.Common.{◌≡◌, ◌-◌, []}
use Rattle.line.specs.Line.{added}
use Rattle.printing.specs.Text.{cell}
use Rattle.printing.proofs.push_cell.Given as goal

abbrev pub invariant-loop-place : goal.invariant-loop-place
invariant-loop-place l = added l.line (cell (l.width - l._place) []) ≡ added l.fn.line (cell l.width l.text)
