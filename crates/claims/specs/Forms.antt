-- What document 02, U6, says of the two forms of the scratch, bytes and bits.
-- Assumes nothing.
use Rattle.std.specs.Prelude.{Ok, Err, ℕ, ◌+◌, ◌*◌, ◌/◌, ◌%◌, ◌^◌, ◌<◌, ◌≤◌, cond, List, ◌≡◌, length, get_or, drop}
use Rattle.frame.specs.declared.Settings.{Settings}
use Rattle.frame.specs.Settings.{window_refusal}
use Rattle.claims.specs.Bits.{bit_room_of, bit_checked_of, bit_scratch_of}
use Rattle.claims.specs.Claims.{room_of, first_clash, Checked, checked_of, marked, scratch_of}

-- Bit t of a scratch: bit t mod 8 of byte t / 8, rounded down.
abbrev pub bit_at : List ℕ → ℕ → ℕ
bit_at scratch t = get_or scratch (t / 8) 0 / 2 ^ (t % 8) % 2

-- The scratch `new` after a call that was lent `old`, bit by bit, with the marks of the claims before index e.
pub record BitByBit (s : Settings) (n : ℕ) (claims old new : List ℕ) (e : ℕ) : Type 0 where
  -- bit t is 1 if t + N1 is a resource of a claim before that index, else 0
  pub marks : (t : ℕ) → t < room_of s n → bit_at new t ≡ cond (marked s n claims e t) 1 0
  -- the unused bits of the last byte are 0
  pub unused : (t : ℕ) → room_of s n ≤ t → t < 8 * bit_room_of s n → bit_at new t ≡ 0
  -- what is written are bytes
  pub bytes : (j : ℕ) → j < bit_room_of s n → get_or new j 0 < 256
  -- later bytes keep their values, and there are no more and no fewer
  pub kept : drop (bit_room_of s n) new ≡ drop (bit_room_of s n) old
  pub long : length new ≡ length old

-- The answer is no refusal.
abbrev pub Answered : Checked → Type 0
Answered (Ok clash) = Unit
Answered (Err refused) = ⊥

-- The call of the bit form: on a refusal every byte is as it was; else each bit is what 02 says, and no other scratch is so.
pub record BitForm : Type 0 where
  pub refused : (s : Settings) (n : ℕ) (claims old : List ℕ) (k i : ℕ) → bit_checked_of s n claims (length old) ≡ Err (k, i)
      → bit_scratch_of s n claims old ≡ old
  pub answered : (s : Settings) (n : ℕ) (claims old : List ℕ) → Answered (bit_checked_of s n claims (length old))
      → BitByBit s n claims old (bit_scratch_of s n claims old) (first_clash s n claims)
  pub only : (s : Settings) (n : ℕ) (claims old new : List ℕ) → Answered (bit_checked_of s n claims (length old))
      → BitByBit s n claims old new (first_clash s n claims) → new ≡ bit_scratch_of s n claims old

-- The two forms beside each other. Without "each has its scratch" the first would be false: on 151 bytes the byte form refuses the
-- widest window with 15 (proofs/Worked.antt).
pub record FormsAgree : Type 0 where
  -- they answer alike, whatever the list, where each has its scratch
  pub answers : (s : Settings) (n : ℕ) (claims : List ℕ) (lent bit_lent : ℕ) → room_of s n ≤ lent → bit_room_of s n ≤ bit_lent
      → bit_checked_of s n claims bit_lent ≡ checked_of s n claims lent
  -- with any scratch the bits are answered as the bytes are with eight times as much, 15 included
  pub eightfold : (s : Settings) (n : ℕ) (claims : List ℕ) (lent : ℕ)
      → bit_checked_of s n claims lent ≡ checked_of s n claims (8 * lent)
  -- and alike with any two where settings or subframe are refused
  pub refused : (s : Settings) (n : ℕ) (claims : List ℕ) (lent bit_lent : ℕ) → (window_refusal s n ≡ 0 → ⊥)
      → bit_checked_of s n claims bit_lent ≡ checked_of s n claims lent
  -- where both answer, bit t of the one scratch is byte t of the other
  pub marks : (s : Settings) (n : ℕ) (claims old bit_old : List ℕ) → Answered (checked_of s n claims (length old))
      → Answered (bit_checked_of s n claims (length bit_old)) → (t : ℕ) → t < room_of s n
      → bit_at (bit_scratch_of s n claims bit_old) t ≡ get_or (scratch_of s n claims old) t 0
  -- the scratch is an eighth, rounded up to whole bytes: at most 151 bytes, where the byte form asks for at most 1,207
  pub eighth : (s : Settings) (n : ℕ) → (room_of s n ≤ 8 * bit_room_of s n) × (8 * bit_room_of s n < room_of s n + 8)
  pub most : (s : Settings) (n : ℕ) → window_refusal s n ≡ 0 → (room_of s n ≤ 1207) × (bit_room_of s n ≤ 151)
