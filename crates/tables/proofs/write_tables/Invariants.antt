-- The lines below the one at hand are written: of the first text, then of the second after the whole first.
use Rattle.std.proofs.Common.{◌≤◌, ◌++◌}
use Rattle.std.specs.Io.KnownBytes.{Appends}
use Rattle.printing.specs.Text.{line_text}
use Rattle.size_text.specs.Text.{size_line}
use Rattle.tables.specs.Text.{lines_below}
use Rattle.tables.proofs.write_tables.Given as goal

abbrev pub invariant-loop-i : goal.invariant-loop-i
invariant-loop-i g l =
    (l.i ≤ 56) × Appends (g.W.Write.contents l.fn.writer) (g.W.Write.contents l.writer) (lines_below line_text l.i)

abbrev pub invariant-loop-i-2 : goal.invariant-loop-i-2
invariant-loop-i-2 g l =
    (l.i ≤ 331)
    × Appends (g.W.Write.contents l.fn.writer) (g.W.Write.contents l.writer) (lines_below line_text 56 ++ lines_below size_line l.i)
