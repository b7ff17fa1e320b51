-- The code's form of the tables: the layouts with a letter as its byte, and of each table with ten numbers below 16, one for each
-- subframe, one number a configuration, which has them as its hexadecimal digits.
-- Assumes nothing.
use Rattle.std.specs.Prelude.{ℕ, zero, suc, ◌+◌, ◌*◌, ◌/◌, ◌%◌, ◌^◌, cond, List, [], ◌∷◌, length, get_or}
use Rattle.frame.specs.declared.Answered.{Answered}
use Rattle.frame.specs.Distance.{before, distance_of, uplink_of, answered_position}
use Rattle.frame.specs.Earliest.{earliest_k}
use Rattle.frame.specs.Layout.{Letter, D, S, U, downlink, is_special}
use Rattle.frame.specs.Table.{window_of}

-- the number with the n digits f 0, f 1, .., f (n - 1), the first one lowest
abbrev pub digits : ℕ → (ℕ → ℕ) → ℕ
digits zero f = 0
digits (suc n) f = f 0 + 16 * digits n (λ (i : ℕ). f (suc i))

-- digit n, counted from the lowest, which is 0
abbrev pub digit_at : ℕ → ℕ → ℕ
digit_at x n = x / 2 ^ (4 * n) % 16

-- the n values f 0, f 1, .., f (n - 1)
abbrev pub listed : {A : Type 0} → ℕ → (ℕ → A) → List A
listed zero f = []
listed (suc n) f = f 0 ∷ listed n (λ (i : ℕ). f (suc i))

-- a row for each configuration, with a value for each of the ten subframes
abbrev pub grid : {A : Type 0} → (ℕ → ℕ → A) → List (List A)
grid f = listed 7 (λ (c : ℕ). listed 10 (f c))

-- the letter's byte
abbrev pub letter_byte : Letter → ℕ
letter_byte D = 68
letter_byte S = 83
letter_byte U = 85

-- the byte of a subframe; U's where the rows have none
unfoldable pub letter_in : List (List ℕ) → ℕ → ℕ → ℕ
letter_in rows c n = get_or (get_or rows c []) n 85

-- the list of a subframe; the empty one where the rows have none
unfoldable pub list_in : List (List (List ℕ)) → ℕ → ℕ → List ℕ
list_in rows c n = get_or (get_or rows c []) n []

-- the row of a configuration; 0 where the rows have none
unfoldable pub row_in : List ℕ → ℕ → ℕ
row_in rows c = get_or rows c 0

-- M of a configuration's ten subframes
unfoldable pub size_digits : ℕ → ℕ
size_digits c = digits 10 (λ (n : ℕ). length (window_of c n))

-- how far before each of a configuration's ten subframes its window begins
unfoldable pub earliest_digits : ℕ → ℕ
earliest_digits c = digits 10 (earliest_k c)

-- how far after each of a configuration's ten subframes its answer stands
unfoldable pub distance_digits : ℕ → ℕ
distance_digits c = digits 10 (distance_of c)

-- the position of a downlink subframe in its window; 0 for any other
unfoldable pub coded_position : ℕ → ℕ → ℕ
coded_position c d = cond (downlink c d) (answered_position c d) 0

-- the answer for a downlink subframe; n, k and position 0 for any other
unfoldable pub coded_answer : ℕ → ℕ → Answered
coded_answer c d = record { n = cond (downlink c d) (uplink_of c d) 0; k = cond (downlink c d) (distance_of c d) 0; position = coded_position c d }

-- the answer of a subframe; zeros where the rows have none
unfoldable pub answer_in : List (List Answered) → ℕ → ℕ → Answered
answer_in rows c d = get_or (get_or rows c []) d (record { n = 0; k = 0; position = 0 })

-- where the special subframe stands among k's of n's window, the first of which counts as i; 0 where none is special
abbrev pub special_from : ℕ → ℕ → ℕ → List ℕ → ℕ
special_from c n i [] = 0
special_from c n i (k ∷ ks) = cond (is_special c (before n k)) i (special_from c n (suc i) ks)

-- where it stands in the window, position 0 counted as 1
unfoldable pub special_place : ℕ → ℕ → ℕ
special_place c n = special_from c n 1 (window_of c n)

-- where it stands in the windows of each of a configuration's ten subframes
unfoldable pub special_digits : ℕ → ℕ
special_digits c = digits 10 (special_place c)
