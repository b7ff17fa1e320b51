-- What the program `windows` prints, as bytes: document 01, "Buyers' access".
-- Assumes nothing.
use Rattle.std.specs.Prelude.{Option, Some, None, ℕ, zero, suc, cond, List, [], ◌∷◌, ◌++◌, eqb, leb, length, codes, decimal}
use Rattle.frame.specs.Table.{window_of}
use Rattle.reading.specs.Digit.{digit_in}
use Rattle.line.specs.Line.{listed}

-- The line of a window: "c n M k_0 k_1 ..", a space (32) before each number but the first, ended by a newline (10).
unfoldable pub line : ℕ → ℕ → List ℕ → List ℕ
line c n ks = decimal c ++ listed (32 ∷ []) (n ∷ length ks ∷ ks) ++ 10 ∷ []

-- The line of subframe n in configuration c; nothing where n has no window.
unfoldable pub line_of : ℕ → ℕ → List ℕ
line_of c n = cond (eqb (length (window_of c n)) 0) [] (line c n (window_of c n))

-- The lines of the subframes below n in configuration c, rising from subframe 0.
unfoldable pub lines_below : ℕ → ℕ → List ℕ
lines_below zero c = []
lines_below (suc n) c = lines_below n c ++ line_of c n

-- The text "refused 1", ended by a newline.
abbrev pub refusal : List ℕ
refusal = codes "refused 1\n"

-- The text for a digit where the input is one: the lines of the configuration that it names, subframes 0 to 9, or the refusal.
abbrev pub page_for : Option ℕ → List ℕ
page_for (Some c) = cond (leb c 6) (lines_below 10 c) refusal
page_for None = refusal

-- The text for an input.
abbrev pub page_of : List ℕ → List ℕ
page_of input = page_for (digit_in input)
