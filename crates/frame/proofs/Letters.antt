-- The letters before a subframe stand in its configuration's row backward.
-- Assumes nothing.
use Prim.Native.Nat.{ℕ, zero, suc, ◌+◌, ◌-◌, ◌*◌, ◌%◌, ◌<◌, ◌≤◌}
use mathlib.Core.List.{List, [], ◌∷◌, map}
use mathlib.Core.Path.{◌≡◌, refl, ap, fun_ext, ◌∙◌}
use native.Mathlib.Omega.{arith}
use lib.ListN.{length, get_or, take, drop}
use Rattle.std.proofs.lemmas.List.FromFn.{get_or-map-range_with_len, take-map-range_with_len}
use Rattle.std.specs.List.{range_with_len}
use Rattle.frame.specs.Coded.{letter_byte}
use Rattle.frame.specs.Letters.{letters_before, backward_row, backward_rows}
use Rattle.frame.specs.Distance.{before}
use Rattle.frame.specs.Layout.{letter_of}
use Rattle.frame.proofs.Layouts.{no_layout}

-- A part of what a function gives for the numbers of a range.
shifted : (f : ℕ → ℕ) (a n : ℕ) → map f (range_with_len (a + 1) n) ≡ map (λ (j : ℕ). f (j + 1)) (range_with_len a n)
shifted f a zero = refl
shifted f a (suc n) = ap (λ (l : List ℕ). f (a + 1) ∷ l) (shifted f (a + 1) n)

part : (f : ℕ → ℕ) (k a n m : ℕ) → k + n ≤ m → take n (drop k (map f (range_with_len a m))) ≡ map (λ (j : ℕ). f (j + k)) (range_with_len a n)
part f zero a n m h =
    let same : (λ (j : ℕ). j) ≡ (λ (j : ℕ). j + 0) = fun_ext (λ j. omega arith) in
    take-map-range_with_len f a m n (omega arith) ∙ ap (λ (at : ℕ → ℕ). map (λ (j : ℕ). f (at j)) (range_with_len a n)) same
part f (suc k) a n zero h = absurd (omega arith)
part f (suc k) a n (suc m) h =
    let same : (λ (j : ℕ). (j + 1) + k) ≡ (λ (j : ℕ). j + suc k) = fun_ext (λ j. omega arith) in
    part f k (a + 1) n m (omega arith)
    ∙ shifted (λ (j : ℕ). f (j + k)) a n
    ∙ ap (λ (at : ℕ → ℕ). map (λ (j : ℕ). f (at j)) (range_with_len a n)) same

-- Sixteen letters of the row, from subframe n − 1 on.
row_letters : (c n : ℕ) → take 16 (drop ((10 - n % 10) % 10) (backward_row c)) ≡ letters_before c n
unfolding letters_before backward_row
row_letters c n =
    let k : ℕ = (10 - n % 10) % 10 in
    let same : (λ (j : ℕ). (0 + 9 * (j + k)) % 10) ≡ (λ (j : ℕ). (n + 9 * j) % 10) = fun_ext (λ j. omega arith) in
    part (λ (j : ℕ). letter_byte (letter_of c (before 0 j))) k 1 16 26 (omega arith)
    ∙ ap (λ (at : ℕ → ℕ). map (λ (j : ℕ). letter_byte (letter_of c (at j))) (range_with_len 1 16)) same

-- The row of a configuration in the table.
row_of : (c : ℕ) → c < 7 → get_or backward_rows c [] ≡ backward_row c
unfolding backward_rows
row_of c h = get_or-map-range_with_len backward_row 0 7 c c [] h (omega arith)

pub letters_found : (c n from : ℕ) (row : List ℕ) → c < 7 → row ≡ get_or backward_rows c [] → from ≡ (10 - n % 10) % 10
    → take 16 (drop from row) ≡ letters_before c n
letters_found c n from row h found start = rw (found, row_of c h, start) (row_letters c n)

pub rows_seven : length backward_rows ≡ 7
unfolding backward_rows
rows_seven = refl

-- No letter but U in a configuration over 6.
pub no_letters : (c n : ℕ) → 6 < c → 85 ∷ 85 ∷ 85 ∷ 85 ∷ 85 ∷ 85 ∷ 85 ∷ 85 ∷ 85 ∷ 85 ∷ 85 ∷ 85 ∷ 85 ∷ 85 ∷ 85 ∷ 85 ∷ [] ≡ letters_before c n
unfolding letters_before letter_of
no_letters c n h = rw (no_layout c h) refl

-- Letter i is that of the subframe i + 1 before n.
pub letter_there : (c n i : ℕ) → i < 16 → get_or (letters_before c n) i 0 ≡ letter_byte (letter_of c (before n (i + 1)))
unfolding letters_before
letter_there c n i h = get_or-map-range_with_len (λ (k : ℕ). letter_byte (letter_of c (before n k))) 1 16 i (i + 1) 0 h (omega arith)
