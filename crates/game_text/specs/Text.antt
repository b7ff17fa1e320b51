-- The text that the program `game` prints, as bytes: for the size of a window the answers of the game of document 02, U12, as a table, a row
-- for each number of grants G and a column for each most of losses L, and a line that says what it means for configuration 5.
-- Assumes nothing.
use Rattle.std.specs.Prelude.{Option, Some, None, Result, Ok, Err, ℕ, zero, suc, ◌+◌, Bool, true, false, cond, List, [], ◌∷◌, ◌++◌, eqb, leb, codes, decimal}
use Rattle.reading.specs.Digit.{digit_in}
use Rattle.playing.specs.Game.{game_of}

-- The letter of an answer: R (82) the radio can force the outcome, S (83) the scheduler can prevent it, a hyphen (45) the game is refused,
-- as none of a row for a size 1 to 9 is.
abbrev pub letter : Result Bool ℕ → ℕ
letter (Ok true) = 82
letter (Ok false) = 83
letter (Err k) = 45

-- The letters for so many grants and at most 0, 1, .. losses, the first `losses` of them, a space (32) before each.
unfoldable pub cells : ℕ → ℕ → ℕ → List ℕ
cells size grants zero = []
cells size grants (suc losses) = cells size grants losses ++ 32 ∷ letter (game_of size grants losses) ∷ []

unfoldable pub row : ℕ → ℕ → List ℕ
row size grants = (codes "G " ++ decimal grants) ++ cells size grants 10

unfoldable pub title : ℕ → List ℕ
title size =
    (codes "Window size " ++ decimal size)
    ++ codes ": R the radio can force a reply that hides a loss, S the scheduler can prevent it"

-- Line i of the text, without its newline: the title, what it is to hide a loss, the columns' heading, the rows of 0 to `size` grants, and
-- the line for configuration 5, which is LossesHidden.which and .few (hiding/specs/Hiding.antt) for its windows (.five).
unfoldable pub unended_line : ℕ → ℕ → List ℕ
unended_line size zero = title size
unended_line size (suc zero) = codes "A reply hides a loss if a grant before the last one heard was lost; a release is a grant here"
unended_line size (suc (suc zero)) = codes "L   0 1 2 3 4 5 6 7 8 9"
unended_line size (suc (suc (suc grants))) =
    cond (leb grants size) (row size grants)
    (codes "Configuration 5 (size 9): a reply hides 0, 4 or 8 losses; 0 with at most 4 grants or 3 losses")

-- Line i of the text for a size, from 0, with its newline (10); nothing past the line for configuration 5.
unfoldable pub game_line : ℕ → ℕ → List ℕ
game_line size i = cond (leb i (size + 4)) (unended_line size i ++ 10 ∷ []) []

-- Line i of the refusal, which is its only line.
unfoldable pub refusal_line : ℕ → List ℕ
refusal_line i = cond (eqb i 0) (codes "refused 27\n") []

-- Line i of the text for a digit where the input is one: that of the size that it names, or of the refusal.
abbrev pub line_for : Option ℕ → ℕ → List ℕ
line_for (Some size) i = cond (eqb size 0) (refusal_line i) (game_line size i)
line_for None i = refusal_line i

-- Line i of the text for an input.
abbrev pub text_line : List ℕ → ℕ → List ℕ
text_line input i = line_for (digit_in input) i
