-- The text that the program `tables` prints: Tables 10.1-1 to 10.1-4 of TS 36.213, from `window_of` and `table_of`, the tables that
-- the engine's promises cite.
-- Assumes nothing.
use Rattle.std.specs.Prelude.{ℕ, zero, suc, ◌*◌, List, [], ◌∷◌, ◌++◌, Option, Some, None, map, get_or, take, codes, decimal}
use Rattle.frame.specs.Table.{window_of}
use Rattle.line.specs.Line.{decimal_digit, listed}
use Rattle.symbols.specs.Selection.{Row, table_of}
use Rattle.symbols.specs.declared.Cell.TheVariants.{Ack, Nack, Dtx, NackDtx}
use Rattle.symbols.specs.declared.Cell.{Cell}
use Rattle.symbols.specs.declared.Symbol.{Symbol}

-- A text in a column: spaces (32) after it, up to the column's width.
unfoldable pub cell : ℕ → List ℕ → List ℕ
cell zero t = t
cell (suc w) [] = 32 ∷ cell w []
cell (suc w) (b ∷ t) = b ∷ cell w t

-- Table 10.1-1.

-- K as printed, "8, 7, 4, 6"; "-" where there is no window.
unfoldable pub k_text : List ℕ → List ℕ
k_text [] = codes "-"
k_text (k ∷ ks) = decimal k ++ listed (codes ", ") ks

-- The widths of the columns of subframes 0 to 9.
abbrev pub widths : List ℕ
widths = 3 ∷ 3 ∷ 31 ∷ 12 ∷ 6 ∷ 3 ∷ 3 ∷ 12 ∷ 3 ∷ 1 ∷ []

-- The columns of the subframes below n in configuration c, rising from subframe 0.
unfoldable pub cells_below : ℕ → ℕ → List ℕ
cells_below zero c = []
cells_below (suc n) c = cells_below n c ++ cell (get_or widths n 0) (k_text (window_of c n))

-- The row of configuration c: its number, then K for each subframe.
unfoldable pub window_row : ℕ → List ℕ
window_row c = cell 15 (decimal_digit c ∷ []) ++ cells_below 10 c

-- Table 10.1-1: the title, the two lines of the heading, then a row for each configuration.
unfoldable pub window_table : List (List ℕ)
window_table =
    codes "Table 10.1-1: Downlink association set index K: {k_0, k_1, ..., k_(M-1)} for TDD"
    ∷ codes "UL-DL          Subframe n"
    ∷ codes "Configuration  0  1  2                              3           4     5  6  7           8  9"
    ∷ map window_row (0 ∷ 1 ∷ 2 ∷ 3 ∷ 4 ∷ 5 ∷ 6 ∷ [])

-- Tables 10.1-2 to 10.1-4.

-- A cell as the print spells it.
abbrev pub word : Cell → List ℕ
word Ack = codes "ACK"
word Nack = codes "NACK"
word Dtx = codes "DTX"
word NackDtx = codes "NACK/DTX"

-- The cells of a row, a column for each.
unfoldable pub words : List Cell → List ℕ
words [] = []
words (c ∷ cs) = cell 13 (word c) ++ words cs

-- What a row says: the resource, in a column, then the bits b(0), b(1).
unfoldable pub said : Option Symbol → List ℕ
said (Some y) = (codes "n_PUCCH," ++ decimal y.index) ++ (codes "    " ++ decimal y.b0) ++ (codes ", " ++ decimal y.b1)
said None = cell 13 (codes "N/A") ++ codes "N/A"

-- A row: its cells, then what it says.
unfoldable pub symbol_row : Row → List ℕ
symbol_row r = words r.cells ++ said r.says

-- The title of the table for M = size.
unfoldable pub title : ℕ → List ℕ
title size =
    (codes "Table 10.1-" ++ decimal size) ++ (codes ": Transmission of ACK/NACK multiplexing for M = " ++ decimal size)

-- The heading of the table for M = size: as many columns HARQ-ACK(i) as the table has.
unfoldable pub heading : ℕ → List ℕ
heading size =
    take (size * 13) (codes "HARQ-ACK(0)  HARQ-ACK(1)  HARQ-ACK(2)  HARQ-ACK(3)  ") ++ codes "n_PUCCH      b(0), b(1)"

-- The table for M = size: an empty line, the title, the heading, then a row for each row of the print, in its order.
unfoldable pub symbol_table : ℕ → List (List ℕ)
symbol_table size = [] ∷ title size ∷ heading size ∷ map symbol_row (table_of size)

-- The lines of the whole text, without the newlines that end them.
unfoldable pub all_lines : List (List ℕ)
all_lines = window_table ++ (symbol_table 2 ++ (symbol_table 3 ++ symbol_table 4))

-- A line with its newline (10).
abbrev pub ended : List ℕ → List ℕ
ended line = line ++ 10 ∷ []

-- Line i of the whole text, from 0; nothing past the last.
unfoldable pub line_text : ℕ → List ℕ
line_text i = get_or (map ended all_lines) i []
