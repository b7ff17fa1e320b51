-- The text that the program writes.
-- Assumes nothing.
use Rattle.std.specs.Prelude.{ℕ, zero, suc, List, [], ◌++◌}
use Rattle.printing.specs.Text.{line_text}
use Rattle.size_text.specs.Text.{size_line}

-- The first n lines of a text, in order.
unfoldable pub lines_below : (ℕ → List ℕ) → ℕ → List ℕ
lines_below line zero = []
lines_below line (suc n) = lines_below line n ++ line n

-- The 56 lines of Tables 10.1-1 to 10.1-4, then the 331 of Table 7.1.7.2.1-1.
abbrev pub whole_text : List ℕ
whole_text = lines_below line_text 56 ++ lines_below size_line 331
