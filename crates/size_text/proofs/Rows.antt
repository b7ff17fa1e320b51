-- What the lines of a block hold, for the numbers that the code has for them.
-- Assumes nothing.
use Rattle.std.proofs.Common.{ℕ, zero, suc, ◌+◌, ◌*◌, ◌-◌, ◌/◌, ◌%◌, ◌<◌, ◌≤◌, ◌≡◌, List, [], ◌∷◌, ◌++◌, length, take, drop, refl, ap, ◌∙◌, arith, add-one, append_assoc, codes, decimal}
use Rattle.std.proofs.lemmas.Fmt as fmt
use Rattle.std.proofs.lemmas.List.{take_all, length-drop}
use native.Mathlib.Decide.{dec_le}
use native.Mathlib.Nat.{sub-zero, suc-sub-suc}
use borrow.Author.Tests.{lt-ltb, le-ltb}
use Rattle.line.proofs.Adding.{added_append}
use Rattle.line.specs.Line.{added}
use Rattle.sizes.proofs.Sizes.{size_most_holds}
use Rattle.sizes.specs.Table.{block_size}
use Rattle.size_text.specs.Text.{aligned, number_at, columns, block_line, unended_line}

-- A row that is not the heading's has sizes.
pub size_at : (r n : ℕ) → (r ≡ 0 → ⊥) → block_size (r - 1) n ≡ number_at r n
unfolding number_at
size_at zero n h = absurd (h refl)
size_at (suc i) n h = rw (suc-sub-suc, sub-zero)

-- The first k columns of a row, then the next.
pub column_more : (line : List ℕ) (b r k : ℕ)
    → added (added (added line (columns b r k)) (codes "  ")) (aligned (number_at r (10 * b + k + 1))) ≡ added line (columns b r (k + 1))
unfolding columns
column_more line b r k = rw (add-one k) (simp (added_append, append_assoc))

-- A line of a block that is neither above it nor in its heading is a row.
pub row_line : (b j : ℕ) → 3 ≤ j → block_line b j ≡ aligned (j - 3) ++ columns b (j - 2) 10
unfolding block_line
row_line b zero h = absurd (omega arith)
row_line b (suc zero) h = absurd (omega arith)
row_line b (suc (suc zero)) h = absurd (omega arith)
row_line b (suc (suc (suc i))) h =
    let e : suc (suc (suc i)) - 3 ≡ i = omega arith in
    let d : suc (suc (suc i)) - 2 ≡ suc i = omega arith in
    rw (e, d)

-- A line after the first is one of a block.
pub in_block : (i : ℕ) → (i ≡ 0 → ⊥) → unended_line i ≡ block_line ((i - 1) / 30) ((i - 1) % 30)
unfolding unended_line
in_block zero h = absurd (h refl)
in_block (suc j) h = rw (suc-sub-suc, sub-zero)

-- No number of a row has more than five digits.
pub number_small : (r n : ℕ) → n < 65536 → number_at r n < 100000
unfolding number_at
number_small zero n h = omega arith
number_small (suc i) n h = omega (arith, size_most_holds i n)

-- The digits of a number that has two of them, three, four or five.
two : (x : ℕ) → 10 ≤ x → x < 100 → decimal x ≡ (48 + x / 10) ∷ (48 + x % 10) ∷ []
two x l h =
    fmt.decimal_step x l (omega arith) ∙ ap (λ (d : List ℕ). d ++ ((48 + x % 10) ∷ [])) (fmt.decimal_digit (x / 10) (omega arith))

three : (x : ℕ) → 100 ≤ x → x < 1000 → decimal x ≡ (48 + x / 10 / 10) ∷ (48 + x / 10 % 10) ∷ (48 + x % 10) ∷ []
three x l h =
    fmt.decimal_step x (omega arith) (omega arith) ∙ ap (λ (d : List ℕ). d ++ ((48 + x % 10) ∷ [])) (two (x / 10) (omega arith) (omega arith))

four : (x : ℕ) → 1000 ≤ x → x < 10000
    → decimal x ≡ (48 + x / 10 / 10 / 10) ∷ (48 + x / 10 / 10 % 10) ∷ (48 + x / 10 % 10) ∷ (48 + x % 10) ∷ []
four x l h =
    fmt.decimal_step x (omega arith) (omega arith) ∙ ap (λ (d : List ℕ). d ++ ((48 + x % 10) ∷ [])) (three (x / 10) (omega arith) (omega arith))

five : (x : ℕ) → 10000 ≤ x → x < 100000
    → decimal x
    ≡ (48 + x / 10 / 10 / 10 / 10) ∷ (48 + x / 10 / 10 / 10 % 10) ∷ (48 + x / 10 / 10 % 10) ∷ (48 + x / 10 % 10) ∷ (48 + x % 10) ∷ []
five x l h =
    fmt.decimal_step x (omega arith) (omega arith) ∙ ap (λ (d : List ℕ). d ++ ((48 + x % 10) ∷ [])) (four (x / 10) (omega arith) (omega arith))

-- The spaces that are left of five, then the digits, are the number in five characters.
in_five : (x : ℕ) → x < 100000 → drop (length (decimal x)) (codes "     ") ++ decimal x ≡ aligned x
unfolding aligned
in_five x h = go (dec_le 10 x) (dec_le 100 x) (dec_le 1000 x) (dec_le 10000 x)
  where
    go : Dec (10 ≤ x) → Dec (100 ≤ x) → Dec (1000 ≤ x) → Dec (10000 ≤ x) → drop (length (decimal x)) (codes "     ") ++ decimal x ≡ aligned x
    go (no a) b c d =
        let e : x % 10 ≡ x = omega arith in
        rw (fmt.decimal_digit x (omega arith), lt-ltb x 10 (omega arith), lt-ltb x 100 (omega arith), lt-ltb x 1000 (omega arith), lt-ltb x 10000 (omega arith), e) refl
    go (yes a) (no b) c d =
        let e : x / 10 % 10 ≡ x / 10 = omega arith in
        rw (two x a (omega arith), le-ltb x 10 a, lt-ltb x 100 (omega arith), lt-ltb x 1000 (omega arith), lt-ltb x 10000 (omega arith), e) refl
    go (yes a) (yes b) (no c) d =
        let e : x / 100 % 10 ≡ x / 10 / 10 = omega arith in
        rw (three x b (omega arith), le-ltb x 10 a, le-ltb x 100 b, lt-ltb x 1000 (omega arith), lt-ltb x 10000 (omega arith), e) refl
    go (yes a) (yes b) (yes c) (no d) =
        let e : x / 1000 % 10 ≡ x / 10 / 10 / 10 = omega arith in
        let f : x / 100 % 10 ≡ x / 10 / 10 % 10 = omega arith in
        rw (four x c (omega arith), le-ltb x 10 a, le-ltb x 100 b, le-ltb x 1000 c, lt-ltb x 10000 (omega arith), e, f) refl
    go (yes a) (yes b) (yes c) (yes d) =
        let e : x / 10000 % 10 ≡ x / 10 / 10 / 10 / 10 = omega arith in
        let f : x / 1000 % 10 ≡ x / 10 / 10 / 10 % 10 = omega arith in
        let g : x / 100 % 10 ≡ x / 10 / 10 % 10 = omega arith in
        rw (five x d h, le-ltb x 10 a, le-ltb x 100 b, le-ltb x 1000 c, le-ltb x 10000 d, e, f, g) refl

pub spaces_digits : (line digits : List ℕ) (x : ℕ) → x < 100000 → digits ≡ decimal x
    → added (added line (take (5 - length digits) (drop (length digits) (32 ∷ 32 ∷ 32 ∷ 32 ∷ 32 ∷ [])))) digits ≡ added line (aligned x)
spaces_digits line digits x h is =
    let spaces : List ℕ = drop (length digits) (32 ∷ 32 ∷ 32 ∷ 32 ∷ 32 ∷ []) in
    let all : take (5 - length digits) spaces ≡ spaces = take_all (5 - length digits) spaces (rw length-drop (omega arith)) in
    rw all (added_append line spaces digits ∙ ap (added line) (rw is (in_five x h)))
