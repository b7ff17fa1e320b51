-- Where each line of the text stands, and that each of the 56 has room on a line, which antt tests line by line.
-- Assumes nothing.
use Prim.Native.Nat.{ℕ, zero, suc, ◌+◌, ◌-◌, ◌<◌, ◌≤◌}
use mathlib.Core.List.{List, [], ◌∷◌, ◌++◌, map}
use mathlib.Core.Path.{◌≡◌, refl, ap, sym, ◌∙◌}
use native.Mathlib.Omega.{arith}
use lib.Dec.{T, eqb, leb, lit≤, eqb→eq}
use lib.ListN.{length, get_or, length-map, get_or-append, get_or-eq_default}
use lib.Seq.{get_or-append-add}
use Rattle.frame.proofs.Below.{below_at}
use Rattle.frame.proofs.Lists.{entry}
use Rattle.frame.specs.Table.{table, window_of}
use Rattle.std.specs.Fmt.{digits}
use Rattle.line.proofs.Adding.{added_append, added_alone}
use Rattle.line.specs.Line.{added, listed}
use Rattle.symbols.specs.declared.TableRow.{TableRow}
use Rattle.symbols.specs.Coded.{printed}
use Rattle.symbols.specs.Selection.{table2, table3, table4, table_of}
use Rattle.printing.specs.Text.{cell, k_text, cells_below, window_row, window_table}
use Rattle.printing.specs.Text.{words, said, symbol_row, title, heading, symbol_table, all_lines, ended, line_text}
use Rattle.printing.proofs.Every.{every, every_at}

-- A line past the heading is that of a row of the table for M = size.
module _ (size i j : ℕ) (rows : List TableRow) (read : map printed rows ≡ table_of size) (past : 3 ≤ i) (place : j ≡ i - 3)
    (inside : i < length (symbol_table size)) where
  pub row_inside : j < length rows
  unfolding symbol_table
  row_inside = omega (arith, length-map rows printed, ap length read, length-map (table_of size) symbol_row)

  pub row_line : (r : TableRow) → symbol_row (printed (get_or rows j r)) ≡ get_or (symbol_table size) i []
  unfolding symbol_table
  row_line r =
      let line : i ≡ suc (suc (suc j)) = omega arith in
      let whole : j < length (table_of size) = omega (arith, row_inside, length-map rows printed, ap length read) in
      rw line
      (sym
      (entry symbol_row (table_of size) j [] (printed r) whole
      ∙ ap (λ t. symbol_row (get_or t j (printed r))) (sym read)
      ∙ ap symbol_row (entry printed rows j (printed r) r row_inside)))

-- A row of Table 10.1-1.
pub window_row_line : (i : ℕ) → 3 ≤ i → i < 10 → get_or window_table i [] ≡ window_row (i - 3)
unfolding window_table
window_row_line zero l h = absurd (omega arith)
window_row_line (suc zero) l h = absurd (omega arith)
window_row_line (suc (suc zero)) l h = absurd (omega arith)
window_row_line (suc (suc (suc j))) l h =
    let cs : List ℕ = 0 ∷ 1 ∷ 2 ∷ 3 ∷ 4 ∷ 5 ∷ 6 ∷ [] in
    let e : suc (suc (suc j)) - 3 ≡ j = omega arith in
    let s : j < 7 = omega arith in
    rw e
    (entry window_row cs j [] 0 s
    ∙ ap window_row (eqb→eq (get_or cs j 0) j (below_at 7 (λ (k : ℕ). eqb (get_or cs k 0) k) tt j s)))

-- A line of the second of two parts.
after : (a b : List (List ℕ)) (i : ℕ) → length a ≤ i → get_or (a ++ b) i [] ≡ get_or b (i - length a) []
after a b i h =
    let e : i ≡ length a + (i - length a) = omega arith in
    ap (λ k. get_or (a ++ b) k []) e ∙ get_or-append-add a b (i - length a) []

-- How many lines the tables take.
pub lines2 : length (symbol_table 2) ≡ 9
unfolding symbol_table table_of table2
lines2 = refl

pub lines3 : length (symbol_table 3) ≡ 14
unfolding symbol_table table_of table3
lines3 = refl

pub lines4 : length (symbol_table 4) ≡ 23
unfolding symbol_table table_of table4
lines4 = refl

abbrev from3 : List (List ℕ)
from3 = symbol_table 3 ++ symbol_table 4

abbrev from2 : List (List ℕ)
from2 = symbol_table 2 ++ from3

module _ (i : ℕ) where
  -- The lines below 10 are those of Table 10.1-1.
  pub in1 : i < 10 → get_or all_lines i [] ≡ get_or window_table i []
  unfolding all_lines window_table
  in1 h = get_or-append window_table from2 [] i h

  after1 : 10 ≤ i → get_or all_lines i [] ≡ get_or from2 (i - 10) []
  unfolding all_lines window_table
  after1 h = after window_table from2 i h

  -- Those below 19 are those of Table 10.1-2.
  pub in2 : 10 ≤ i → i < 19 → get_or all_lines i [] ≡ get_or (symbol_table 2) (i - 10) []
  unfolding symbol_table table_of table2
  in2 l h = after1 l ∙ get_or-append (symbol_table 2) from3 [] (i - 10) (omega arith)

  after2 : 19 ≤ i → get_or all_lines i [] ≡ get_or from3 (i - 19) []
  unfolding symbol_table table_of table2
  after2 h =
      let e : i - 10 - 9 ≡ i - 19 = omega arith in
      after1 (omega arith) ∙ after (symbol_table 2) from3 (i - 10) (omega arith) ∙ ap (λ k. get_or from3 k []) e

  -- Those below 33 are those of Table 10.1-3, and the others those of Table 10.1-4.
  pub in3 : 19 ≤ i → i < 33 → get_or all_lines i [] ≡ get_or (symbol_table 3) (i - 19) []
  unfolding symbol_table table_of table3
  in3 l h = after2 l ∙ get_or-append (symbol_table 3) (symbol_table 4) [] (i - 19) (omega arith)

  pub in4 : 33 ≤ i → get_or all_lines i [] ≡ get_or (symbol_table 4) (i - 33) []
  unfolding symbol_table table_of table3
  in4 h =
      let e : i - 19 - 14 ≡ i - 33 = omega arith in
      after2 (omega arith)
      ∙ after (symbol_table 3) (symbol_table 4) (i - 19) (omega arith)
      ∙ ap (λ k. get_or (symbol_table 4) k []) e

room_tested : T (every (λ l. leb (length l) 100) (map ended all_lines))
unfolding all_lines window_table window_row cells_below window_of table cell k_text listed digits symbol_table title heading symbol_row words said table_of table2 table3 table4
room_tested = tt

room : (i : ℕ) → length (line_text i) ≤ 100
unfolding line_text
room i = lit≤ (every_at (λ l. leb (length l) 100) (map ended all_lines) [] room_tested tt i)

-- Line i, put on an empty line, its newline after it.
pub line_ended : (i : ℕ) → i < 56 → added (added [] (get_or all_lines i [])) (10 ∷ []) ≡ line_text i
unfolding line_text all_lines window_table symbol_table table_of table2 table3 table4
line_ended i h =
    let e : line_text i ≡ ended (get_or all_lines i []) = entry ended all_lines i [] [] h in
    added_append [] (get_or all_lines i []) (10 ∷ []) ∙ ap (added []) (sym e) ∙ added_alone (line_text i) (room i)

-- There is no line 56.
pub past_last : (i : ℕ) → 56 ≤ i → line_text i ≡ []
unfolding line_text all_lines window_table symbol_table table_of table2 table3 table4
past_last i h = get_or-eq_default (map ended all_lines) [] h
