-- The line has the number of the configuration and the columns of the subframes below the next; the widths of the next ones are left.
use Rattle.std.proofs.Common.{◌≤◌, ◌≡◌, [], ◌∷◌, ◌++◌, drop}
use Rattle.line.specs.Line.{added, decimal_digit}
use Rattle.printing.specs.Text.{cell, cells_below, widths}
use Rattle.printing.proofs.push_window_row.Given as goal

abbrev pub invariant-loop-n : goal.invariant-loop-n
invariant-loop-n l =
    (l.line ≡ added l.fn.line (cell 15 (decimal_digit l.c ∷ []) ++ cells_below l.n-iterator.a.start l.c))
    × (l.n-iterator.a.start ≤ 10)
    × (l.n-iterator.a.end ≡ 10)
    × (l.n-iterator.b.rest.now ≡ drop l.n-iterator.a.start widths)
