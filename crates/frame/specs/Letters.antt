-- The frame read backward, as a handset's memory has it: the letters of the subframes before n, the newest first.
-- Assumes nothing.
use Rattle.std.specs.Prelude.{ℕ, List, map}
use Rattle.std.specs.List.{range_with_len}
use Rattle.frame.specs.Coded.{letter_byte}
use Rattle.frame.specs.Distance.{before}
use Rattle.frame.specs.Layout.{letter_of}

-- The letters of the sixteen subframes before n, from the one before it on.
unfoldable pub letters_before : ℕ → ℕ → List ℕ
letters_before c n = map (λ (k : ℕ). letter_byte (letter_of c (before n k))) (range_with_len 1 16)

-- The letters of a configuration's subframes from 9 to 0, and on through the frames before, 26 of them.
unfoldable pub backward_row : ℕ → List ℕ
backward_row c = map (λ (k : ℕ). letter_byte (letter_of c (before 0 k))) (range_with_len 1 26)

-- The rows of configurations 0 to 6.
unfoldable pub backward_rows : List (List ℕ)
backward_rows = map backward_row (range_with_len 0 7)
