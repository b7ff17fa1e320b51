-- A column put on a line as its text and its spaces, and a row column by column.
-- Assumes nothing.
use Rattle.std.proofs.Common.{ℕ, zero, suc, ◌+◌, ◌-◌, ◌<◌, ◌≤◌, ◌≡◌, List, [], ◌∷◌, ◌++◌, Option, length, get_or, drop, refl, sym, ap, ◌∙◌, arith, append_assoc, add-one}
use Rattle.std.proofs.lemmas.List.{append-nil, drop_more, drop_all}
use native.Mathlib.Nat.{sub-zero, suc-sub-suc, zero-sub}
use Rattle.frame.specs.Table.{window_of}
use Rattle.line.proofs.Adding.{added_append, added_none}
use Rattle.line.specs.Line.{added, decimal_digit}
use Rattle.symbols.specs.Selection.{row}
use Rattle.symbols.specs.declared.Cell.{Cell}
use Rattle.symbols.specs.declared.Symbol.{Symbol}
use Rattle.printing.specs.Text.{cell, k_text, widths, cells_below, word, words, said, symbol_row}

-- A text, then the spaces of its column.
cell_spaces : (w : ℕ) (t : List ℕ) → t ++ cell (w - length t) [] ≡ cell w t
unfolding cell
cell_spaces zero [] = refl
cell_spaces zero (b ∷ t) = ap (λ s. b ∷ s) (rw (zero-sub, append-nil t))
cell_spaces (suc w) [] = rw sub-zero
cell_spaces (suc w) (b ∷ t) = ap (λ s. b ∷ s) (rw suc-sub-suc (cell_spaces w t))

pub cell_begun : (line t : List ℕ) (w : ℕ) → added (added line t) (cell (w - length t) []) ≡ added line (cell w t)
cell_begun line t w = added_append line t (cell (w - length t) []) ∙ ap (added line) (cell_spaces w t)

-- One space more, of those up to the column's width.
pub cell_more : (line : List ℕ) (w i : ℕ) → i < w → added (added line (32 ∷ [])) (cell (w - (i + 1)) []) ≡ added line (cell (w - i) [])
unfolding cell
cell_more line w i h =
    let e : w - i ≡ suc (w - (i + 1)) = omega arith in
    rw (e, added_append)

pub cell_done : (line : List ℕ) (w i : ℕ) → w ≤ i → added line (cell (w - i) []) ≡ line
unfolding cell
cell_done line w i h =
    let e : w - i ≡ 0 = omega arith in
    rw e (added_none line)

-- The number of a configuration, then the columns of no subframe; and those of the subframes below n, then that of n.
module _ (line : List ℕ) (c : ℕ) where
  pub cells_none : added line (cell 15 (decimal_digit c ∷ [])) ≡ added line (cell 15 (decimal_digit c ∷ []) ++ cells_below 0 c)
  unfolding cells_below
  cells_none = rw append-nil

  pub cells_more : (n : ℕ) (t : List ℕ)
      → added (added line (t ++ cells_below n c)) (cell (get_or widths n 0) (k_text (window_of c n))) ≡ added line (t ++ cells_below (n + 1) c)
  unfolding cells_below
  cells_more n t =
      rw (add-one, ← append_assoc) (added_append line (t ++ cells_below n c) (cell (get_or widths n 0) (k_text (window_of c n))))

-- The columns of the cells from i on: that of cell i, then those after it.
pub words_more : (line : List ℕ) (cs : List Cell) (i : ℕ) (c : Cell) → i < length cs
    → added (added line (cell 13 (word (get_or cs i c)))) (words (drop (i + 1) cs)) ≡ added line (words (drop i cs))
unfolding words
words_more line cs i c h =
    added_append line (cell 13 (word (get_or cs i c))) (words (drop (i + 1) cs)) ∙ ap (λ rest. added line (words rest)) (sym (drop_more cs i c h))

-- The columns of all cells, then what the row says.
pub words_done : (line before : List ℕ) (cells : List Cell) (says : Option Symbol) (i : ℕ)
    → added line (words (drop i cells)) ≡ added before (words cells) → length cells ≤ i
    → added line (said says) ≡ added before (symbol_row (row cells says))
unfolding symbol_row words
words_done line before cells says i e h =
    let none : drop i cells ≡ [] = drop_all i cells h in
    rw (rw (none, added_none line) at e) (added_append before (words cells) (said says))
