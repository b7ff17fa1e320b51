-- The scratch of the bit form bit by bit: it is as document 02 says, and no other scratch is.
-- Assumes nothing.
use Rattle.std.proofs.Common.{Result, Ok, Err}
use Rattle.resource.specs.declared.Resource.{Resource}
use Prim.Native.Nat.{ℕ, zero, suc, ◌+◌, ◌*◌, ◌/◌, ◌%◌, ◌^◌, ◌<◌, ◌≤◌}
use mathlib.Core.Bool.{Bool, true, false, cond, ◌&&◌}
use mathlib.Core.List.{List, ◌++◌}
use mathlib.Core.Path.{◌≡◌, refl, sym, ap₂, ◌∙◌}
use native.Mathlib.Omega.{arith}
use lib.Dec.{ltb, eqb}
use lib.ListN.{length, get_or, take, drop, take-append-drop}
use lib.Seq.{length-take-le, get_or-take, ext_get_or}
use borrow.Author.Tests.{ltb-true, ltb-false, ne_eqb}
use Rattle.std.proofs.lemmas.List.FromFn.{length-map-range_with_len, get_or-map-range_with_len}
use Rattle.frame.specs.declared.Settings.{Settings}
use Rattle.frame.specs.Settings.{or_else, has_second_port, window_refusal}
use Rattle.resource.proofs.OneToOne.{resource_range}
use Rattle.claims.specs.Bits.{bit_room_of, bit_checked_of, bytes_from, bit_marked_up_to, bit_scratch_of}
use Rattle.claims.specs.Claims.{claim_position, claim_cce, claimed, resources_of, room_of, first_clash, scratch_refusal, Checked, checked_on, refused_or, checked_with, takes, marked, scratch_after}
use Rattle.claims.specs.Forms.{bit_at, BitByBit, Answered, BitForm}
use Rattle.claims.specs.Form.{bit_room, bits_laid}
use Rattle.claims.specs.Laws.{bits_below, bits_only, byte_in_room, bytes_length, byte_at, bit_at_holds}
use Rattle.claims.proofs.Front.{front_at, tail_kept, same_length}

-- Where the answer is no refusal, the settings, the subframe and the scratch are not refused.
pub accepted_with : (s : Settings) (n : ℕ) (claims : List ℕ) (room lent : ℕ) → Answered (checked_with s n claims room lent)
    → (window_refusal s n ≡ 0) × (room ≤ lent)
unfolding checked_with scratch_refusal
accepted_with s n claims room lent a = go (window_refusal s n) (ltb lent room) refl refl a
  where
    go : (k : ℕ) (b : Bool) → window_refusal s n ≡ k → ltb lent room ≡ b → Answered (refused_or (or_else k (cond b 15 0)) (checked_on s n claims))
        → (window_refusal s n ≡ 0) × (room ≤ lent)
    go (suc k) b e f h = absurd h
    go zero true e f h = absurd h
    go zero false e f h = (e, ltb-false lent room f)

-- The scratch of an answer that is no refusal has the marks.
pub answered_scratch : (v : Checked) (new old : List ℕ) → Answered v → scratch_after v new old ≡ new
answered_scratch (Ok clash) new old a = refl
answered_scratch (Err refused) new old a = absurd a

module _ (s : Settings) (n : ℕ) (accepted : window_refusal s n ≡ 0) (claims : List ℕ) where
  -- No claim has a resource past the room.
  past : (claim t : ℕ) → room_of s n ≤ t → takes s (claimed s n claim) (t + s.n1) ≡ false
  unfolding room_of resources_of
  past claim t h = go (claimed s n claim) refl
    where
      go : (a : Result Resource ℕ) → claimed s n claim ≡ a → takes s a (t + s.n1) ≡ false
      go (Err k) e = refl
      go (Ok r) e =
          let f = resource_range s n accepted (claim_position claim) (claim_cce claim) r.0 e in
          rw (ne_eqb r.0 (t + s.n1) (λ same. omega (arith, f.1))) (next (has_second_port s) h)
        where
          next : (two : Bool) → resources_of s n + cond two 1 0 ≤ t → (two && eqb (r.0 + 1) (t + s.n1)) ≡ false
          next true room =
              let f = resource_range s n accepted (claim_position claim) (claim_cce claim) r.0 e in
              ne_eqb (r.0 + 1) (t + s.n1) (λ same. omega (arith, f.1))
          next false room = refl

  unmarked : (e t : ℕ) → room_of s n ≤ t → marked s n claims e t ≡ false
  unmarked zero t h = refl
  unmarked (suc e) t h = rw (past (get_or claims e 0) t h, unmarked e t h)

  module _ (old : List ℕ) (enough : bit_room_of s n ≤ length old) (e : ℕ) where
    -- What is written, in front.
    abbrev written : List ℕ
    written = bits_laid (marked s n claims e) (room_of s n)

    by_bits : BitByBit s n claims old (bit_marked_up_to s n claims old e) e
    unfolding bit_marked_up_to bit_room_of
    by_bits =
        record {
          marks = λ t h. bit t (byte_in_room (room_of s n) t h);
          unused = λ t past below. bit t (omega arith) ∙ rw (unmarked e t past);
          bytes = λ j h. rw (at j h, byte_at (marked s n claims e) (room_of s n) j h) (bits_below (marked s n claims e) 8 (8 * j));
          kept = tail_kept written old (bit_room (room_of s n)) whole;
          long = same_length written old (bit_room (room_of s n)) whole enough;
        }
      where
        whole : length written ≡ bit_room (room_of s n)
        whole = bytes_length (marked s n claims e) (room_of s n)

        at : (j : ℕ) → j < bit_room (room_of s n) → get_or (written ++ drop (bit_room (room_of s n)) old) j 0 ≡ get_or written j 0
        at = front_at written old (bit_room (room_of s n)) whole

        bit : (t : ℕ) → t / 8 < bit_room (room_of s n) → bit_at (written ++ drop (bit_room (room_of s n)) old) t ≡ cond (marked s n claims e t) 1 0
        bit t h = rw (at (t / 8) h) (bit_at_holds (marked s n claims e) (room_of s n) t h)

    -- No other scratch is so, bit by bit.
    no_other : (new : List ℕ) → BitByBit s n claims old new e → new ≡ bit_marked_up_to s n claims old e
    unfolding bit_marked_up_to
    no_other new b =
        sym (take-append-drop (bit_room_of s n) new) ∙ ap₂ ◌++◌ front b.kept
      where
        room_here : bit_room_of s n ≤ length new
        room_here = omega (arith, b.long)

        bit : (t : ℕ) → t / 8 < bit_room_of s n → bit_at new t ≡ cond (marked s n claims e t) 1 0
        bit t h = go (ltb t (room_of s n)) refl
          where
            go : (c : Bool) → ltb t (room_of s n) ≡ c → bit_at new t ≡ cond (marked s n claims e t) 1 0
            go true f = b.marks t (ltb-true _ _ f)
            go false f = b.unused t (ltb-false _ _ f) (omega arith) ∙ sym (rw (unmarked e t (ltb-false _ _ f)))

        front : take (bit_room_of s n) new ≡ bytes_from (marked s n claims e) (bit_room_of s n) 0
        front =
            ext_get_or 0 (take (bit_room_of s n) new) (bytes_from (marked s n claims e) (bit_room_of s n) 0)
            (length-take-le (bit_room_of s n) new room_here ∙ sym (length-map-range_with_len _ 0 (bit_room_of s n))) λ j h.
            let below : j < bit_room_of s n = rw (length-take-le (bit_room_of s n) new room_here) at h in
            get_or-take (bit_room_of s n) new j 0 below
            ∙ bits_only (marked s n claims e) 8 (8 * j) (get_or new j 0) (b.bytes j below) (at_bit j below)
            ∙ sym (get_or-map-range_with_len _ 0 (bit_room_of s n) j j 0 below (omega arith))
          where
            at_bit : (j : ℕ) → j < bit_room_of s n → (k : ℕ) → k < 8 → get_or new j 0 / 2 ^ k % 2 ≡ cond (marked s n claims e (8 * j + k)) 1 0
            at_bit j below k h =
                let quotient : (8 * j + k) / 8 ≡ j = omega arith in
                let rest : (8 * j + k) % 8 ≡ k = omega arith in
                rw (quotient, rest) at (bit (8 * j + k) (omega arith))

module _ (s : Settings) (n : ℕ) (claims old : List ℕ) where
  refused_left : (k i : ℕ) → bit_checked_of s n claims (length old) ≡ Err (k, i) → bit_scratch_of s n claims old ≡ old
  unfolding bit_scratch_of
  refused_left k i e = rw e

  module _ (answered : Answered (bit_checked_of s n claims (length old))) where
    as_marked : bit_scratch_of s n claims old ≡ bit_marked_up_to s n claims old (first_clash s n claims)
    unfolding bit_scratch_of
    as_marked =
        answered_scratch (bit_checked_of s n claims (length old)) (bit_marked_up_to s n claims old (first_clash s n claims)) old answered

    pub answered_bits : BitByBit s n claims old (bit_scratch_of s n claims old) (first_clash s n claims)
    answered_bits =
        let f = accepted_with s n claims (bit_room_of s n) (length old) answered in
        rw as_marked (by_bits s n f.0 claims old f.1 (first_clash s n claims))

    answered_only : (new : List ℕ) → BitByBit s n claims old new (first_clash s n claims) → new ≡ bit_scratch_of s n claims old
    answered_only new b =
        let f = accepted_with s n claims (bit_room_of s n) (length old) answered in
        no_other s n f.0 claims old f.1 (first_clash s n claims) new b ∙ sym as_marked

pub bit_form : BitForm
bit_form =
    record {
      refused = refused_left;
      answered = answered_bits;
      only = λ s n claims old new answered. answered_only s n claims old answered new;
    }
