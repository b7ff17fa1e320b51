-- `printing::push_symbol_line` meets its contract: past the heading, a row of the table.
-- Assumes nothing.
use Rattle.std.proofs.Common.{arith, ap, ◌∙◌}
use Rattle.line.specs.Line.{added}
use Rattle.printing.proofs.Lines.{row_line}
use Rattle.printing.proofs.push_symbol_line.Goals as goal

pub returns-in_default : goal.returns-in_default
returns-in_default c =
    c.push_symbol_row.ensures
    ∙ ap (added _) (row_line _ _ _ _ c.table_of.ensures (omega arith) c.from.ensures c.requires.i_in_bounds _)
