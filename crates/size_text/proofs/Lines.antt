-- Each line of the text has room on a line, and there are 331.
-- Assumes nothing.
use Rattle.std.proofs.Common.{ℕ, zero, suc, ◌/◌, ◌%◌, ◌<◌, ◌≤◌, ◌≡◌, [], ◌∷◌, length, arith}
use lib.Dec.{lit≤}
use borrow.Author.Tests.{lt-ltb, le-ltb}
use Rattle.line.proofs.Adding.{added_ended}
use Rattle.line.specs.Line.{added}
use Rattle.size_text.specs.Text.{aligned, columns, above, block_line, unended_line, size_line}

block_room : (b j : ℕ) → length (block_line b j) ≤ 75
unfolding above aligned columns block_line
block_room zero zero = lit≤ tt
block_room (suc b) zero = lit≤ tt
block_room b (suc zero) = lit≤ tt
block_room b (suc (suc zero)) = lit≤ tt
block_room b (suc (suc (suc i))) = lit≤ tt

unended_room : (i : ℕ) → length (unended_line i) ≤ 75
unfolding unended_line
unended_room zero = lit≤ tt
unended_room (suc j) = block_room (j / 30) (j % 30)

-- Line i, put on an empty line, its newline after it.
pub line_ended : (i : ℕ) → i < 331 → added (added [] (unended_line i)) (10 ∷ []) ≡ size_line i
unfolding size_line
line_ended i h =
    rw (lt-ltb i 331 h) (added_ended (unended_line i) (omega (arith, unended_room i)))

-- There is no line 331.
pub past_last : (i : ℕ) → 331 ≤ i → size_line i ≡ []
unfolding size_line
past_last i h = rw (le-ltb i 331 h)
