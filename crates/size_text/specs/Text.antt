-- The text that the program `tables` prints of Table 7.1.7.2.1-1 of TS 36.213: the sizes that `block_size` gives, in the blocks of the
-- print, ten N_PRB to a block and a row for each I_TBS.
-- Assumes nothing.
use Rattle.std.specs.Prelude.{ℕ, zero, suc, ◌+◌, ◌*◌, ◌/◌, ◌%◌, cond, List, [], ◌∷◌, ◌++◌, ltb, codes}
use Rattle.line.specs.Line.{decimal_digit}
use Rattle.sizes.specs.Table.{block_size}

-- The digit that counts units of 10, 100 ..; a space (32) where the number is below the unit.
abbrev pub digit_or_space : ℕ → ℕ → ℕ
digit_or_space unit x = cond (ltb x unit) 32 (decimal_digit (x / unit))

-- A number below 100,000 in decimal, in five characters: spaces, then its digits. (Of a greater number, its last five digits.)
unfoldable pub aligned : ℕ → List ℕ
aligned x =
    digit_or_space 10000 x ∷ digit_or_space 1000 x ∷ digit_or_space 100 x ∷ digit_or_space 10 x ∷ decimal_digit x ∷ []

-- The number that row r of a block has for N_PRB n: N_PRB itself in row 0, the heading, and the size of I_TBS r - 1 in the others.
unfoldable pub number_at : ℕ → ℕ → ℕ
number_at zero n = n
number_at (suc i) n = block_size i n

-- The first k columns of row r in block b, which begins at N_PRB 10 b + 1.
unfoldable pub columns : ℕ → ℕ → ℕ → List ℕ
columns b r zero = []
columns b r (suc k) = columns b r k ++ (codes "  " ++ aligned (number_at r (10 * b + k + 1)))

-- The line above a block: the title above the first, an empty line above each other.
unfoldable pub above : ℕ → List ℕ
above zero = codes "Table 7.1.7.2.1-1: Transport block size table (dimension 27x110)"
above (suc b) = []

-- Line j of block b: the line above it, the two lines of the heading, then I_TBS and its ten sizes for each I_TBS.
unfoldable pub block_line : ℕ → ℕ → List ℕ
block_line b zero = above b
block_line b (suc zero) = codes "I_TBS  N_PRB"
block_line b (suc (suc zero)) = codes "     " ++ columns b 0 10
block_line b (suc (suc (suc i))) = aligned i ++ columns b (suc i) 10

-- Line i of the text, without its newline: an empty line, then the blocks, 30 lines each.
unfoldable pub unended_line : ℕ → List ℕ
unended_line zero = []
unended_line (suc j) = block_line (j / 30) (j % 30)

-- Line i of the text, from 0, with its newline (10); nothing past the eleven blocks.
unfoldable pub size_line : ℕ → List ℕ
size_line i = cond (ltb i 331) (unended_line i ++ 10 ∷ []) []
