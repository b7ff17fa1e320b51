-- The two forms of the scratch beside each other: they answer alike where each has its scratch, and mark alike.
-- Assumes nothing.
use Prim.Native.Nat.{ℕ, zero, suc, ◌+◌, ◌*◌, ◌/◌, ◌<◌, ◌≤◌}
use mathlib.Core.Bool.{Bool, true, false, cond}
use mathlib.Core.List.{List}
use mathlib.Core.Path.{◌≡◌, refl, sym, ap, ◌∙◌}
use native.Mathlib.Omega.{arith}
use lib.Dec.{ltb}
use lib.ListN.{length, get_or}
use borrow.Author.Tests.{ltb-true, ltb-false, lt-ltb, le-ltb}
use Rattle.frame.specs.declared.Settings.{Settings}
use Rattle.frame.specs.Settings.{or_else, window_refusal}
use Rattle.claims.specs.Bits.{bit_room_of, bit_checked_of, bit_scratch_of}
use Rattle.claims.specs.Claims.{room_of, first_clash, scratch_refusal, checked_on, refused_or, checked_with, checked_of, marked_up_to, scratch_of}
use Rattle.claims.specs.Forms.{bit_at, Answered, FormsAgree}
use Rattle.claims.proofs.BitByBit.{answered_scratch, answered_bits}
use Rattle.claims.proofs.Front.{byte_marked}
use Rattle.claims.proofs.Counts.{room_most}

-- Two forms that each have their scratch answer alike, and so do any two where settings or subframe are refused.
module _ (s : Settings) (n : ℕ) (claims : List ℕ) (room lent room' lent' : ℕ) where
  with_scratch : room ≤ lent → room' ≤ lent' → checked_with s n claims room lent ≡ checked_with s n claims room' lent'
  unfolding checked_with scratch_refusal
  with_scratch h h' = rw (le-ltb lent room h, le-ltb lent' room' h')

  without_window : (window_refusal s n ≡ 0 → ⊥) → checked_with s n claims room lent ≡ checked_with s n claims room' lent'
  unfolding checked_with scratch_refusal
  without_window h = go (window_refusal s n) h
    where
      go : (k : ℕ) → (k ≡ 0 → ⊥) → refused_or (or_else k (cond (ltb lent room) 15 0)) (checked_on s n claims)
          ≡ refused_or (or_else k (cond (ltb lent' room') 15 0)) (checked_on s n claims)
      go zero h = absurd (h refl)
      go (suc k) h = refl

-- A scratch is too short for the bits exactly where one of eight times its length is too short for the bytes.
short_alike : (s : Settings) (n lent : ℕ) → ltb lent (bit_room_of s n) ≡ ltb (8 * lent) (room_of s n)
unfolding bit_room_of
short_alike s n lent = go (ltb (8 * lent) (room_of s n)) refl
  where
    go : (b : Bool) → ltb (8 * lent) (room_of s n) ≡ b → ltb lent ((room_of s n + 7) / 8) ≡ b
    go true e = lt-ltb lent _ (omega (arith, ltb-true (8 * lent) (room_of s n) e))
    go false e = le-ltb lent _ (omega (arith, ltb-false (8 * lent) (room_of s n) e))

as_eightfold : (s : Settings) (n : ℕ) (claims : List ℕ) (lent : ℕ) → bit_checked_of s n claims lent ≡ checked_of s n claims (8 * lent)
unfolding checked_with scratch_refusal
as_eightfold s n claims lent = rw (short_alike s n lent)

-- A bit of the one scratch is a byte of the other.
bit_is_byte : (s : Settings) (n : ℕ) (claims old bit_old : List ℕ) → Answered (checked_of s n claims (length old))
    → Answered (bit_checked_of s n claims (length bit_old)) → (t : ℕ) → t < room_of s n
    → bit_at (bit_scratch_of s n claims bit_old) t ≡ get_or (scratch_of s n claims old) t 0
unfolding scratch_of
bit_is_byte s n claims old bit_old a b t h =
    (answered_bits s n claims bit_old b).marks t h
    ∙ sym (byte_marked s n claims old (first_clash s n claims) t h)
    ∙ ap (λ (l : List ℕ). get_or l t 0)
    (sym (answered_scratch (checked_of s n claims (length old)) (marked_up_to s n claims old (first_clash s n claims)) old a))

an_eighth : (s : Settings) (n : ℕ) → (room_of s n ≤ 8 * bit_room_of s n) × (8 * bit_room_of s n < room_of s n + 8)
unfolding bit_room_of
an_eighth s n = (omega arith, omega arith)

at_most : (s : Settings) (n : ℕ) → window_refusal s n ≡ 0 → (room_of s n ≤ 1207) × (bit_room_of s n ≤ 151)
unfolding bit_room_of
at_most s n accepted = let most = room_most s n accepted in (most, omega arith)

pub forms_agree : FormsAgree
forms_agree =
    record {
      answers = λ s n claims lent bit_lent h b. with_scratch s n claims (bit_room_of s n) bit_lent (room_of s n) lent b h;
      eightfold = as_eightfold;
      refused = λ s n claims lent bit_lent h. without_window s n claims (bit_room_of s n) bit_lent (room_of s n) lent h;
      marks = bit_is_byte;
      eighth = an_eighth;
      most = at_most;
    }
