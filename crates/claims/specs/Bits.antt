-- Claims of a cell with one bit for each resource: document 02, U6 and U9. The answer is that of the byte form; resource t + N1 has bit
-- t mod 8 of byte t / 8.
-- Assumes nothing.
use Rattle.std.specs.Prelude.{ℕ, zero, suc, ◌+◌, ◌*◌, ◌/◌, Bool, cond, List, ◌++◌, map, length, drop}
use Rattle.std.specs.List.{range_with_len}
use Rattle.frame.specs.declared.Settings.{Settings}
use Rattle.claims.specs.Claims.{room_of, first_clash, Checked, checked_with, marked, scratch_after}

-- The scratch that is asked for, in bytes: (M × N_4 + 7) / 8, with two ports (M × N_4 + 8) / 8, rounded down.
unfoldable pub bit_room_of : Settings → ℕ → ℕ
bit_room_of s n = (room_of s n + 7) / 8

-- The answer to a list of claims with a scratch of `lent` bytes: 15 is a scratch shorter than bit_room_of.
abbrev pub bit_checked_of : Settings → ℕ → List ℕ → ℕ → Checked
bit_checked_of s n claims lent = checked_with s n claims (bit_room_of s n) lent

-- The number of `count` bits whose bit b, counted from the lowest, which is 0, is 1 where the test passes at t + b, else 0.
abbrev pub bits_from : (ℕ → Bool) → ℕ → ℕ → ℕ
bits_from test zero t = 0
bits_from test (suc count) t = cond (test t) 1 0 + 2 * bits_from test count (suc t)

-- The bytes j, j + 1, .., `count` of them: byte j has the bits from 8 × j on.
abbrev pub bytes_from : (ℕ → Bool) → ℕ → ℕ → List ℕ
bytes_from test count j = map (λ (k : ℕ). bits_from test 8 (8 * k)) (range_with_len j count)

-- The scratch with the marks of the claims before index e; bytes from (M × N_4 + 7) / 8 on, with two ports from (M × N_4 + 8) / 8 on,
-- keep their values.
unfoldable pub bit_marked_up_to : Settings → ℕ → List ℕ → List ℕ → ℕ → List ℕ
bit_marked_up_to s n claims old e = bytes_from (marked s n claims e) (bit_room_of s n) 0 ++ drop (bit_room_of s n) old

-- The scratch after the call: the marks of the claims before the clash, of all where there is none; as it was on a refusal.
unfoldable pub bit_scratch_of : Settings → ℕ → List ℕ → List ℕ → List ℕ
bit_scratch_of s n claims old =
    scratch_after (bit_checked_of s n claims (length old)) (bit_marked_up_to s n claims old (first_clash s n claims)) old
