-- The forms of the scratch, whose operations src/scratch.rt tells: a byte for each mark or a bit, and what each form keeps.
-- Assumes nothing.
use Rattle.std.specs.Prelude.{ℕ, ◌+◌, ◌/◌, ◌%◌, ◌^◌, ◌<◌, ◌≤◌, Bool, false, not, ◌||◌, List, ◌≡◌, eqb, bit_or, get_or, set, replicate}
use Rattle.claims.specs.Bits.{bytes_from}
use Rattle.claims.specs.Claims.{marks_from}
use Rattle.claims.specs.Forms.{bit_at}

-- Mark t is byte t, 1 where it is set.
abbrev pub byte_room : ℕ → ℕ
byte_room count = count

abbrev pub byte_is_marked : List ℕ → ℕ → Bool
byte_is_marked scratch t = not (eqb (get_or scratch t 0) 0)

abbrev pub byte_with_mark : List ℕ → ℕ → List ℕ
byte_with_mark scratch t = set scratch t 1

abbrev pub bytes_laid : (ℕ → Bool) → ℕ → List ℕ
bytes_laid test count = marks_from test count 0

-- Mark t is bit t mod 8 of byte t / 8.
abbrev pub bit_room : ℕ → ℕ
bit_room count = (count + 7) / 8

abbrev pub bit_is_marked : List ℕ → ℕ → Bool
bit_is_marked scratch t = not (eqb (bit_at scratch t) 0)

abbrev pub bit_with_mark : List ℕ → ℕ → List ℕ
bit_with_mark scratch t = set scratch (t / 8) (bit_or (get_or scratch (t / 8) 0) (2 ^ (t % 8)))

abbrev pub bits_laid : (ℕ → Bool) → ℕ → List ℕ
bits_laid test count = bytes_from test (bit_room count) 0

-- The test that passes at t too.
abbrev pub or_at : (ℕ → Bool) → ℕ → ℕ → Bool
or_at test t k = eqb t k || test k

pub record FormLaws (room : ℕ → ℕ) (is_marked : List ℕ → ℕ → Bool) (with_mark : List ℕ → ℕ → List ℕ) (laid : (ℕ → Bool) → ℕ → List ℕ) : Type 0 where
  -- each mark has its place in the bytes
  pub within : (t count : ℕ) → t < count → room (t + 1) ≤ room count
  -- where these are 0 no mark is set
  pub cleared : (count : ℕ) → replicate (room count) 0 ≡ laid (λ (t : ℕ). false) count
  -- a mark is read as it was laid
  pub read : (test : ℕ → Bool) (count t : ℕ) → t < count → is_marked (laid test count) t ≡ test t
  -- setting a mark changes no other one
  pub marked : (test : ℕ → Bool) (count t : ℕ) → t < count → with_mark (laid test count) t ≡ laid (or_at test t) count
