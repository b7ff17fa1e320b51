-- The line with the columns of the cells that are left is what the line is to be before what the row says.
use Rattle.std.proofs.Common.{◌≡◌, drop}
use Rattle.line.specs.Line.{added}
use Rattle.printing.specs.Text.{words}
use Rattle.printing.proofs.push_symbol_row.Given as goal

abbrev pub invariant-loop-cell : goal.invariant-loop-cell
invariant-loop-cell l = added l.line (words (drop l.cell-index l.row.cells.now)) ≡ added l.fn.line (words l.row.cells.now)
