-- A handset that 8 does not refuse is not refused by it after a feed either: so one that is made and then fed is not tested again.
-- Assumes nothing.
use Prim.Native.Nat.{ℕ, zero, suc, ◌+◌, ◌-◌, ◌*◌, ◌/◌, ◌%◌, ◌<◌, ◌≤◌}
use mathlib.Core.Bool.{Bool, true, false, cond, false≢true}
use mathlib.Core.List.{List, [], ◌∷◌}
use mathlib.Core.Path.{◌≡◌, refl, sym, ap, ◌∙◌}
use native.Mathlib.Nat.{zero-add, add-suc, suc-add, le_of_suc-le-suc, not-suc-le-zero, add-zero}
use native.Mathlib.Decide.{dec_lt}
use native.Mathlib.Omega.{arith}
use lib.Dec.{eqb, leb}
use lib.ListN.{get_or}
use borrow.Author.Tests.{le-leb, eqb-true, eqb-false}
use Rattle.std.proofs.Common.{Result, Ok, Err}
use Rattle.std.specs.Result.{IfOk}
use Rattle.std.proofs.lemmas.Bool.{and_parts}
use Rattle.frame.specs.declared.refusal.Refusal.{Refusal}
use Rattle.frame.specs.declared.Settings.{Settings}
use Rattle.frame.specs.Refusals.{refusal_in}
use Rattle.frame.specs.Settings.{new_mode_refusal, settings_refusal, in_mode}
use Rattle.frame.proofs.Accepted.{Accepted, accepted, mode_allowed}
use Rattle.heard.specs.declared.Heard.{Heard}
use Rattle.heard.specs.declared.Heard.TheVariants.{Nothing, Granted, Scheduled, Released}
use Rattle.heard.specs.declared.Slot.{Slot}
use Rattle.heard.specs.Heard.{heard_refusal, second_refusal, cause_of}
use Rattle.heard.specs.Memory.{none, bit, slot_of, heard_in, block_ago}
use Rattle.heard.proofs.Before.{cause_none_holds, cause_fewer}
use Rattle.heard.proofs.Valid.{ValidBlocks, valid}
use Rattle.handset.specs.declared.Handset.{Handset}
use Rattle.handset.specs.Feed.{pushed, feed_refusal}
use Rattle.handset.specs.Make.{Made, slots_from, fresh, made_as, make_of}
use Rattle.handset.specs.Modes.{mode_ago, modes_before, modes_pushed, modes_sound, ModesFit}
use Rattle.handset.specs.Sound.{slot_sound, previous, all_sound, state_sound, state_refusal}
use Rattle.handset.proofs.ModeBits.{newest_mode, older_mode, made_mode, modes_exactly}
use Rattle.handset.proofs.Passing.{sound}

-- The three bits of a slot's results, taken apart again.
first_back : (a b c : Bool) → eqb ((bit a + 2 * bit b + 4 * bit c) % 2) 1 ≡ a
first_back true true true = refl
first_back true true false = refl
first_back true false true = refl
first_back true false false = refl
first_back false true true = refl
first_back false true false = refl
first_back false false true = refl
first_back false false false = refl

second_back : (a b c : Bool) → eqb ((bit a + 2 * bit b + 4 * bit c) / 2 % 2) 1 ≡ b
second_back true true true = refl
second_back true true false = refl
second_back true false true = refl
second_back true false false = refl
second_back false true true = refl
second_back false true false = refl
second_back false false true = refl
second_back false false false = refl

two_back : (a b c : Bool) → eqb ((bit a + 2 * bit b + 4 * bit c) / 4 % 2) 1 ≡ c
two_back true true true = refl
two_back true true false = refl
two_back true false true = refl
two_back true false false = refl
two_back false true true = refl
two_back false true false = refl
two_back false false true = refl
two_back false false false = refl

blocks_back : (set : Settings) → Accepted set → (b : ℕ) → ValidBlocks set b → cond (eqb b 2) 2 1 ≡ b
blocks_back set ok b v = go (eqb b 2) refl
  where
    go : (t : Bool) → eqb b 2 ≡ t → cond t 2 1 ≡ b
    go true t = sym (eqb-true b 2 t)
    go false t = let other = eqb-false b 2 t in omega (arith, v.least, v.most, ok.blocks_most)

-- What a slot made of a valid heard thing holds.
pub slot_back : (set : Settings) → Accepted set → (n : ℕ) (x : Heard) → heard_refusal set n x ≡ 0 → heard_in (slot_of x) ≡ x
unfolding heard_in slot_of
slot_back set ok n Nothing e = refl
slot_back set ok n (Granted g) e =
    let t : Bool = eqb g.blocks 2 in
    let b = blocks_back set ok g.blocks (valid set n (Granted g) e).1 in
    rw (two_back g.first g.second t, first_back g.first g.second t, second_back g.first g.second t, b)
slot_back set ok n (Scheduled x) e =
    let t : Bool = eqb x.blocks 2 in
    let b = blocks_back set ok x.blocks (valid set n (Scheduled x) e).1 in
    rw (two_back x.first x.second t, first_back x.first x.second t, second_back x.first x.second t, b)
slot_back set ok n (Released p) e = refl

pub slots_at : (count i : ℕ) (l : List Slot) (j : ℕ) → j < count → get_or (slots_from count i l) j none ≡ get_or l (i + j) none
slots_at zero i l j h = absurd (not-suc-le-zero h)
slots_at (suc count) i l zero h = ap (λ (x : ℕ). get_or l x none) (sym (add-zero i))
slots_at (suc count) i l (suc j) h =
    slots_at count (suc i) l j (le_of_suc-le-suc h) ∙ ap (λ (x : ℕ). get_or l x none) (suc-add i j ∙ sym (add-suc i j))

-- Past the slots there is nothing.
pub beyond : (count i : ℕ) (l : List Slot) (j : ℕ) → count ≤ j → get_or (slots_from count i l) j none ≡ none
beyond zero i l j h = refl
beyond (suc count) i l zero h = absurd (not-suc-le-zero h)
beyond (suc count) i l (suc j) h = beyond count (suc i) l j (le_of_suc-le-suc h)

-- Of fewer subframes none is a block that is none of all.
fewer_blocks : (count : ℕ) (l : List Slot) (a : ℕ) → 1 ≤ a → block_ago (slots_from count 0 l) a ≡ true → block_ago l a ≡ true
unfolding block_ago
fewer_blocks count l a least e = go (dec_lt (a - 1) count)
  where
    go : Dec (a - 1 < count) → eqb (get_or l (a - 1) none).kind 2 ≡ true
    go (yes h) =
        let same : get_or (slots_from count 0 l) (a - 1) none ≡ get_or l (a - 1) none =
        slots_at count 0 l (a - 1) h ∙ ap (λ (x : ℕ). get_or l x none) (zero-add (a - 1)) in
        sym (ap (λ (t : Slot). eqb t.kind 2) same) ∙ e
    go (no h) =
        let out : get_or (slots_from count 0 l) (a - 1) none ≡ none = beyond count 0 l (a - 1) (omega arith) in
        absurd (false≢true (sym (ap (λ (t : Slot). eqb t.kind 2) out) ∙ e))

pub slots_tail : (count i : ℕ) (t : Slot) (ts : List Slot) → slots_from count (suc i) (t ∷ ts) ≡ slots_from count i ts
slots_tail zero i t ts = refl
slots_tail (suc count) i t ts = ap (λ (l : List Slot). get_or ts i none ∷ l) (slots_tail count (suc i) t ts)

none_sound : (set : Settings) (n : ℕ) (older : List Slot) → slot_sound set n older none ≡ true
unfolding slot_sound heard_in cause_of second_refusal heard_refusal
none_sound set n older = refl

pub none_all : (set : Settings) (count i n : ℕ) → all_sound set n (slots_from count i []) ≡ true
unfolding all_sound
none_all set zero i n = refl
none_all set (suc count) i n = rw (none_sound set (previous n) (slots_from count (suc i) [])) (none_all set count (suc i) (previous n))

pub kind_small : (x : Heard) → leb (slot_of x).kind 3 ≡ true
unfolding slot_of
kind_small Nothing = refl
kind_small (Granted g) = refl
kind_small (Scheduled b) = refl
kind_small (Released p) = refl

-- What is sound is so after fewer subframes.
module _ (s : Settings) where
  still_sound : (n count : ℕ) (older : List Slot) (t : Slot) → slot_sound s n older t ≡ true → slot_sound s n (slots_from count 0 older) t ≡ true
  unfolding slot_sound
  still_sound n count older t e =
      let fine = and_parts (leb t.kind 3) (eqb (cause_of s n (block_ago older) (heard_in t)) 0) e in
      let here = eqb-true (cause_of s n (block_ago older) (heard_in t)) 0 fine.1 in
      let less = cause_fewer s n (block_ago (slots_from count 0 older)) (block_ago older) (heard_in t) (fewer_blocks count older) here in
      rw (fine.0, less)

  fewer_sound : (l : List Slot) (count n : ℕ) → all_sound s n l ≡ true → all_sound s n (slots_from count 0 l) ≡ true
  unfolding all_sound
  fewer_sound [] count n e = none_all s count 0 n
  fewer_sound (t ∷ ts) zero n e = refl
  fewer_sound (t ∷ ts) (suc count) n e =
      let p = and_parts (slot_sound s (previous n) ts t) (all_sound s (previous n) ts) e in
      rw (slots_tail count 0 t ts, still_sound (previous n) count ts t p.0) (fewer_sound ts count (previous n) p.1)

  module _ (good : settings_refusal s ≡ 0) where
    -- What a feed takes up is sound where it is remembered.
    newest_sound : (n count : ℕ) (past : List Slot) (x : Heard) → cause_of s n (block_ago past) x ≡ 0
        → slot_sound s n (slots_from count 0 past) (slot_of x) ≡ true
    unfolding slot_sound
    newest_sound n count past x e =
        let less = cause_fewer s n (block_ago (slots_from count 0 past)) (block_ago past) x (fewer_blocks count past) e in
        rw (kind_small x, slot_back s (accepted s good) n x (cause_none_holds s n (block_ago past) x e).0, less)

    -- The modes with that of one feed more, and those of a fresh handset.
    modes_kept : (modes : ℕ) → modes_sound s modes ≡ true → modes_sound s (modes_pushed modes s.mode) ≡ true
    modes_kept modes e = (modes_exactly s (modes_pushed modes s.mode)).1 (go ((modes_exactly s modes).0 e))
      where
        go : ModesFit s modes → (k : ℕ) → 1 ≤ k → k ≤ 13 → new_mode_refusal (in_mode s (mode_ago (modes_pushed modes s.mode) k)) ≡ 0
        go fits zero least most = absurd (omega arith)
        go fits (suc zero) least most = rw (newest_mode modes s.mode (accepted s good).mode) (mode_allowed s good)
        go fits (suc (suc j)) least most =
            rw (older_mode modes s.mode (suc j) (accepted s good).mode (omega arith) (omega arith)) (fits (suc j) (omega arith) (omega arith))

    modes_made : modes_sound s (modes_before s.mode) ≡ true
    modes_made =
        (modes_exactly s (modes_before s.mode)).1
        (λ k least most. rw (made_mode s.mode k (accepted s good).mode least most) (mode_allowed s good))

    fresh_sound : state_refusal (fresh s) ≡ 0
    unfolding state_refusal state_sound fresh
    fresh_sound = rw (good, modes_made, none_all s 13 0 0)

-- What was made, and the refusal, from a result of the code.
pub made_refusal : (r : Result Handset Refusal) (m : Made) → made_as r ≡ m → refusal_in r ≡ m.refusal
made_refusal (Ok h) m e = cc
made_refusal (Err k) m e = cc

pub made_handset : (r : Result Handset Refusal) (m : Made) → made_as r ≡ m → IfOk r (λ h. h ≡ m.handset)
made_handset (Ok h) m e = cc
made_handset (Err k) m e = tt

-- A handset that is made is sound.
pub made_sound : (s : Settings) (h : Handset) → record { refusal = 0; handset = h } ≡ make_of s → state_refusal h ≡ 0
unfolding make_of
made_sound s h e =
    let good : settings_refusal s ≡ 0 = sym (ap (λ (m : Made). m.refusal) e) in
    let same : h ≡ fresh s = rw good at (ap (λ (m : Made). m.handset) e) in
    rw same (fresh_sound s good)

module _ (h : Handset) (x : Heard) (before : state_refusal h ≡ 0) where
  -- A feed of a sound one is refused for what it brings alone.
  pub cause_alone : feed_refusal h x ≡ cause_of h.settings h.next (block_ago h.past) x
  unfolding feed_refusal
  cause_alone = rw before

  -- And a sound one stays so.
  pub pushed_sound : feed_refusal h x ≡ 0 → state_refusal (pushed h x) ≡ 0
  unfolding state_refusal state_sound pushed all_sound
  pushed_sound e =
      let s = sound h before in
      let back : ((h.next + 1) % 10 + 9 * 1) % 10 ≡ h.next = omega (arith, s.next) in
      rw (
        s.good,
        le-leb ((h.next + 1) % 10) 9 (omega arith),
        modes_kept h.settings s.good h.modes s.modes,
        back,
        newest_sound h.settings s.good h.next 12 h.past x (sym cause_alone ∙ e),
        fewer_sound h.settings h.past 12 h.next s.past,
      )
