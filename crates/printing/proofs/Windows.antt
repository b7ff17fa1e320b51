-- The K of a window, put on a line number by number, is K as printed; and it has room there, by a test of every row of Table 10.1-1
-- that antt computes.
-- Assumes nothing.
use Rattle.std.proofs.Common.{ℕ, suc, ◌-◌, ◌<◌, ◌≤◌, ◌≡◌, List, [], ◌∷◌, length, get_or, take, drop, ap, ◌∙◌, arith, codes, decimal}
use lib.Dec.{T, leb, lit≤}
use lib.Seq.{take_all}
use Rattle.std.specs.Fmt.{digits}
use Rattle.frame.proofs.Windows.{every_row, window_passes}
use Rattle.frame.specs.Table.{table, window_of}
use Rattle.line.proofs.Adding.{added_append, added_alone}
use Rattle.line.specs.Line.{added, listed}
use Rattle.printing.specs.Text.{k_text}

room_tested : T (every_row (λ c n ks. leb (length (k_text ks)) 100) table)
unfolding table digits listed k_text
room_tested = tt

room : (c n : ℕ) → length (k_text (window_of c n)) ≤ 100
unfolding k_text
room c n = lit≤ (window_passes _ room_tested c n tt)

-- No window: the dash (45). Else its first number, then the others.
module _ (c n : ℕ) (ks : List ℕ) (is : ks ≡ window_of c n) where
  pub k_none : length ks < 1 → added [] (45 ∷ []) ≡ k_text (window_of c n)
  unfolding k_text added
  k_none h = go ks is h
    where
      go : (ks : List ℕ) → ks ≡ window_of c n → length ks < 1 → added [] (45 ∷ []) ≡ k_text (window_of c n)
      go [] is h = ap (λ l. k_text l) is
      go (k ∷ rest) is h = absurd (omega (arith, h))

  pub k_some : 1 ≤ length ks
      → added (added [] (decimal (get_or ks 0 0))) (listed (codes ", ") (take (length ks - 1) (drop 1 ks))) ≡ k_text (window_of c n)
  unfolding k_text
  k_some h = go ks is h
    where
      go : (ks : List ℕ) → ks ≡ window_of c n → 1 ≤ length ks
          → added (added [] (decimal (get_or ks 0 0))) (listed (codes ", ") (take (length ks - 1) (drop 1 ks))) ≡ k_text (window_of c n)
      go [] is h = absurd (omega (arith, h))
      go (k ∷ rest) is h =
          let all : take (suc (length rest) - 1) rest ≡ rest = take_all (suc (length rest) - 1) rest (omega arith) in
          rw all
          (added_append [] (decimal k) (listed (codes ", ") rest) ∙ ap (λ l. added [] (k_text l)) is ∙ added_alone (k_text (window_of c n)) (room c n))
