-- What the functions that write on a line promise of it.
-- Assumes nothing.
use Rattle.std.specs.Prelude.{ℕ, ◌+◌, ◌-◌, ◌%◌, List, [], ◌∷◌, ◌++◌, length, take, replicate, decimal}

-- The line with as much of a text after it as its 100 bytes have room for; a full line stays as it is.
unfoldable pub added : List ℕ → List ℕ → List ℕ
added line text = line ++ take (100 - length line) text

-- A text as a line of 100 bytes holds it: zeros after it.
abbrev pub padded : List ℕ → List ℕ
padded text = text ++ replicate (100 - length text) 0

-- The last decimal digit of a number, in ASCII: 48 is `0`.
abbrev pub decimal_digit : ℕ → ℕ
decimal_digit x = 48 + x % 10

-- Numbers in decimal, a text before each.
unfoldable pub listed : List ℕ → List ℕ → List ℕ
listed text [] = []
listed text (x ∷ xs) = text ++ decimal x ++ listed text xs
