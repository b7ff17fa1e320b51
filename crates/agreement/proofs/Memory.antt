-- The handset after a history, newest first, of the modes that stood and of what was heard: it remembers the last 13 of each, expects the
-- next subframe, and is sound.
-- Assumes nothing.
use Rattle.std.proofs.Common.{Ok, Err}
use Prim.Native.Nat.{ℕ, zero, suc, ◌+◌, ◌-◌, ◌%◌, ◌<◌, ◌≤◌}
use mathlib.Core.Bool.{true, cond, false≢true}
use mathlib.Core.List.{List, [], ◌∷◌, map}
use mathlib.Core.Path.{◌≡◌, refl, sym, ap, ◌∙◌}
use native.Mathlib.Nat.{zero-add}
use native.Mathlib.Decide.{dec_lt}
use native.Mathlib.Omega.{arith}
use lib.Dec.{eqb, eqb-suc-zero}
use lib.ListN.{length, get_or}
use borrow.Author.Tests.{le-leb}
use Rattle.frame.specs.declared.Settings.{Settings}
use Rattle.frame.specs.Refusals.{number_in}
use Rattle.frame.specs.Settings.{or_else, new_mode_refusal, settings_refusal, in_mode}
use Rattle.frame.proofs.Accepted.{Accepted, accepted, accepted_in}
use Rattle.heard.specs.declared.Heard.{Heard}
use Rattle.heard.specs.declared.Heard.TheVariants.{Nothing, Granted, Scheduled, Released}
use Rattle.heard.specs.declared.Slot.{Slot}
use Rattle.heard.specs.Heard.{is_block, heard_refusal, cause_of, view_of}
use Rattle.heard.specs.Memory.{none, slot_of, view_in, view_ago, block_ago}
use Rattle.heard.proofs.Before.{cause_same, cause_none_holds, cause_fewer}
use Rattle.heard.proofs.Valid.{Valid, valid}
use Rattle.handset.specs.declared.Handset.{Handset}
use Rattle.handset.specs.Change.{change_refusal, changed_as, change_of}
use Rattle.handset.specs.Feed.{next_answer, pushed, feed_refusal, fed_as, feed_of}
use Rattle.handset.specs.Make.{slots_from, memory, fresh, make_of}
use Rattle.handset.specs.Sound.{slot_sound, previous, all_sound, state_sound, state_refusal}
use Rattle.handset.proofs.Kept.{slot_back, slots_at, beyond, slots_tail, none_all, kind_small}
use Rattle.agreement.specs.Run.{cause_after, standing}
use Rattle.agreement.specs.Window.{heard_at}
use Rattle.agreement.proofs.BundledWindow.{LowCce}
use Rattle.agreement.proofs.Modes.{cause_in_holds, Allowed, modes_after, made_allowed, modes_sound_holds}

pub slot_view : (set : Settings) → Accepted set → (n : ℕ) (x : Heard) → heard_refusal set n x ≡ 0 → view_in (slot_of x) ≡ view_of x
unfolding view_in
slot_view set ok n x e = ap view_of (slot_back set ok n x e)

-- A history, newest first, each heard thing not refused in the subframe it was fed in, after those before it.
abbrev pub ValidPast : Settings → List Heard → Type 0
ValidPast set [] = Unit {0}
ValidPast set (x ∷ l) = (cause_after set l x ≡ 0) × ValidPast set l

-- What is not refused is valid by itself.
alone : (set : Settings) (l : List Heard) (x : Heard) → cause_after set l x ≡ 0 → heard_refusal set (length l % 10) x ≡ 0
alone set l x e = (cause_none_holds set (length l % 10) (λ (a : ℕ). is_block (get_or l (a - 1) Nothing)) x e).0

-- The handset made with these settings, after a history: the mode that stands, and of each feed, newest first, the mode that stood and
-- what was heard.
abbrev pub after : Settings → ℕ → List ℕ → List Heard → Handset
after set m ms l = record { settings = in_mode set m; next = length l % 10; modes = modes_after set.mode ms; past = memory (map slot_of l) }

fresh_after : (set : Settings) → fresh set ≡ after set set.mode [] []
unfolding fresh
fresh_after set = refl

pushed_after : (set : Settings) (m : ℕ) (ms : List ℕ) (l : List Heard) (x : Heard) → pushed (after set m ms l) x ≡ after set m (m ∷ ms) (x ∷ l)
unfolding pushed
pushed_after set m ms l x =
    let e : (length l % 10 + 1) % 10 ≡ suc (length l) % 10 = omega arith in
    rw e

-- A heard thing of the history, or nothing before it, was valid.
valid_at : (set : Settings) (l : List Heard) → ValidPast set l → (i : ℕ) → (n : ℕ) × (heard_refusal set n (get_or l i Nothing) ≡ 0)
unfolding heard_refusal
valid_at set [] v i = (0, refl)
valid_at set (x ∷ l) v zero = (length l % 10, alone set l x v.0)
valid_at set (x ∷ l) v (suc i) = valid_at set l v.1 i

slot_of_holds : (l : List Heard) (i : ℕ) → get_or (map slot_of l) i none ≡ slot_of (get_or l i Nothing)
unfolding slot_of
slot_of_holds [] i = refl
slot_of_holds (x ∷ l) zero = refl
slot_of_holds (x ∷ l) (suc i) = slot_of_holds l i

-- k ago, up to 13, the handset remembers what the history has there.
pub view_after : (set : Settings) → Accepted set → (l : List Heard) → ValidPast set l → (k : ℕ) → 1 ≤ k → k ≤ 13
    → view_ago (memory (map slot_of l)) k ≡ view_of (get_or l (k - 1) Nothing)
unfolding view_ago
view_after set ok l v k least most =
    let w = valid_at set l v (k - 1) in
    let e : get_or (memory (map slot_of l)) (k - 1) none ≡ get_or (map slot_of l) (k - 1) none =
    slots_at 13 0 (map slot_of l) (k - 1) (omega arith) ∙ ap (λ (x : ℕ). get_or (map slot_of l) x none) (zero-add (k - 1)) in
    ap view_in (e ∙ slot_of_holds l (k - 1)) ∙ slot_view set ok w.0 (get_or l (k - 1) Nothing) w.1

-- What is valid has a first CCE below N_4.
same_cce : (k c d : ℕ) → heard_at k d ≡ heard_at k c → d ≡ c
same_cce k c d e = cc

valid_low : (set : Settings) (n : ℕ) (x : Heard) → Valid set n x → LowCce set x
valid_low set n Nothing v k c e = let z : ◌≡◌ {A = ℕ} 0 1 = cc in absurd (omega arith)
valid_low set n (Granted g) v k c e = rw (same_cce k c g.cce.0 e) at v.2.cce_low
valid_low set n (Scheduled b) v k c e = let z : ◌≡◌ {A = ℕ} 0 1 = cc in absurd (omega arith)
valid_low set n (Released p) v k c e = rw (same_cce k c p.cce.0 e) at v.1.cce_low

pub low_after : (set : Settings) (l : List Heard) → ValidPast set l → (i : ℕ) → LowCce set (get_or l i Nothing)
low_after set l v i = let w = valid_at set l v i in valid_low set w.0 (get_or l i Nothing) (valid set w.0 (get_or l i Nothing) w.1)

-- A slot has a block's kind exactly if it was made of one.
kind_block : (x : Heard) → eqb (slot_of x).kind 2 ≡ is_block x
unfolding slot_of
kind_block Nothing = refl
kind_block (Granted g) = refl
kind_block (Scheduled b) = refl
kind_block (Released p) = refl

-- The memory's blocks are the history's, up to 13 ago: a feed is refused as the history says.
block_after : (l : List Heard) (a : ℕ) → 1 ≤ a → a ≤ 13 → block_ago (memory (map slot_of l)) a ≡ is_block (get_or l (a - 1) Nothing)
unfolding block_ago
block_after l a least most =
    let e : get_or (memory (map slot_of l)) (a - 1) none ≡ slot_of (get_or l (a - 1) Nothing) =
    slots_at 13 0 (map slot_of l) (a - 1) (omega arith) ∙ ap (λ (x : ℕ). get_or (map slot_of l) x none) (zero-add (a - 1)) ∙ slot_of_holds l (a - 1) in
    ap (λ (t : Slot). eqb t.kind 2) e ∙ kind_block (get_or l (a - 1) Nothing)

cause_after_holds : (set : Settings) (l : List Heard) (x : Heard) → cause_of set (length l % 10) (block_ago (memory (map slot_of l))) x ≡ cause_after set l x
cause_after_holds set l x =
    cause_same set (length l % 10) (block_ago (memory (map slot_of l))) (λ (a : ℕ). is_block (get_or l (a - 1) Nothing)) x (block_after l)

-- A memory of fewer subframes has no block that the history has not.
fewer_blocks : (count : ℕ) (l : List Heard) (a : ℕ) → 1 ≤ a → block_ago (slots_from count 0 (map slot_of l)) a ≡ true → is_block (get_or l (a - 1) Nothing) ≡ true
unfolding block_ago
fewer_blocks count l a least e = go (dec_lt (a - 1) count)
  where
    go : Dec (a - 1 < count) → is_block (get_or l (a - 1) Nothing) ≡ true
    go (yes h) =
        let same : get_or (slots_from count 0 (map slot_of l)) (a - 1) none ≡ slot_of (get_or l (a - 1) Nothing) =
        slots_at count 0 (map slot_of l) (a - 1) h ∙ ap (λ (x : ℕ). get_or (map slot_of l) x none) (zero-add (a - 1)) ∙ slot_of_holds l (a - 1) in
        sym (kind_block (get_or l (a - 1) Nothing)) ∙ sym (ap (λ (t : Slot). eqb t.kind 2) same) ∙ e
    go (no h) =
        let out : get_or (slots_from count 0 (map slot_of l)) (a - 1) none ≡ none = beyond count 0 (map slot_of l) (a - 1) (omega arith) in
        absurd (false≢true (sym (ap (λ (t : Slot). eqb t.kind 2) out) ∙ e))

-- Refusal 8 is never met.
slot_sound_holds : (set : Settings) → Accepted set → (l : List Heard) (x : Heard) → cause_after set l x ≡ 0 → (count : ℕ)
    → slot_sound set (length l % 10) (slots_from count 0 (map slot_of l)) (slot_of x) ≡ true
unfolding slot_sound
slot_sound_holds set ok l x e count =
    let n : ℕ = length l % 10 in
    let less = cause_fewer set n (block_ago (slots_from count 0 (map slot_of l))) (λ (a : ℕ). is_block (get_or l (a - 1) Nothing)) x (fewer_blocks count l) e in
    rw (kind_small x, slot_back set ok n x (alone set l x e), less)

sound_from : (set : Settings) → Accepted set → (l : List Heard) → ValidPast set l → (count n : ℕ) → n ≡ length l % 10 → all_sound set n (slots_from count 0 (map slot_of l)) ≡ true
unfolding all_sound
sound_from set ok [] v count n e = none_all set count 0 n
sound_from set ok (x ∷ l) v zero n e = refl
sound_from set ok (x ∷ l) v (suc count) n e =
    let p : previous n ≡ length l % 10 = omega arith in
    rw (slots_tail count 0 (slot_of x) (map slot_of l), p, slot_sound_holds set ok l x v.0 count)
    (sound_from set ok l v.1 count (length l % 10) refl)

-- A history that is valid is so in every mode.
pub valid_in : (set : Settings) (m : ℕ) (l : List Heard) → ValidPast set l → ValidPast (in_mode set m) l
valid_in set m [] v = tt
valid_in set m (x ∷ l) v = (cause_in_holds set m (length l % 10) (λ (a : ℕ). is_block (get_or l (a - 1) Nothing)) x ∙ v.0, valid_in set m l v.1)

-- What a feed and a change of the handset after a history come to.
module _ (set : Settings) (good : settings_refusal set ≡ 0) (m : ℕ) (ms : List ℕ) (allowed : Allowed set (m ∷ ms)) (l : List Heard) (valid : ValidPast set l) where
  sound_after : state_refusal (after set m ms l) ≡ 0
  unfolding state_refusal state_sound
  sound_after =
      let now : settings_refusal (in_mode set m) ≡ 0 = accepted_in set m good allowed.0 in
      rw (
        now,
        le-leb (length l % 10) 9 (omega arith),
        modes_sound_holds set good m ms allowed.1,
        sound_from (in_mode set m) (accepted (in_mode set m) now) l (valid_in set m l valid) 13 (length l % 10) refl,
      )

  module _ (x : Heard) where
    fed_after : feed_of (after set m ms l) x ≡ fed_as (cause_after set l x) (after set m ms l) x
    unfolding feed_of feed_refusal
    fed_after =
        rw (sound_after, cause_after_holds (in_mode set m) l x, cause_in_holds set m (length l % 10) (λ (a : ℕ). is_block (get_or l (a - 1) Nothing)) x)

    pub accepted_after : cause_after set l x ≡ 0
        → feed_of (after set m ms l) x ≡ record { answer = Ok (next_answer (after set m ms l)); handset = after set m (m ∷ ms) (x ∷ l) }
    accepted_after e = fed_after ∙ rw (e, pushed_after set m ms l x)

    pub refused_after : (cause_after set l x ≡ 0 → ⊥)
        → feed_of (after set m ms l) x ≡ record { answer = Err (cause_after set l x); handset = after set m ms l }
    refused_after h = fed_after ∙ go (cause_after set l x) refl
      where
        go : (k : ℕ) → cause_after set l x ≡ k → fed_as k (after set m ms l) x ≡ record { answer = Err k; handset = after set m ms l }
        go zero e = absurd (h e)
        go (suc k) e = refl

  -- The refusal of a feed is the history's cause.
  pub refusal_after : (x : Heard) → number_in (feed_of (after set m ms l) x).answer ≡ cause_after set l x
  refusal_after x = go (cause_after set l x) refl
    where
      go : (k : ℕ) → cause_after set l x ≡ k → number_in (feed_of (after set m ms l) x).answer ≡ k
      go zero e = rw (accepted_after x e) refl
      go (suc k) e = rw (refused_after x (λ z. omega arith)) e

  -- A change is refused by 4, 5 and 24 alone; else the new mode stands, and nothing else moves.
  pub changed_after : (new : ℕ) → change_of (after set m ms l) new
      ≡ record { refusal = new_mode_refusal (in_mode set new); handset = after set (standing set m new) ms l }
  unfolding change_of change_refusal
  changed_after new = rw sound_after (go (new_mode_refusal (in_mode set new)))
    where
      go : (k : ℕ) → changed_as (or_else k 0) (after set m ms l) new ≡ record { refusal = k; handset = after set (cond (eqb k 0) new m) ms l }
      go zero = refl
      go (suc k) = rw (eqb-suc-zero k)

-- Making from accepted settings gives a fresh handset.
pub made_fresh : (set : Settings) → settings_refusal set ≡ 0 → (make_of set).handset ≡ after set set.mode [] []
unfolding make_of
made_fresh set good = rw good (fresh_after set)

-- The handset after a history without changes of mode: it was fed in the mode that it was made with.
abbrev pub unchanged : Settings → List Heard → Handset
unchanged set l = after set set.mode (map (λ (x : Heard). set.mode) l) l

module _ (set : Settings) (good : settings_refusal set ≡ 0) (l : List Heard) (valid : ValidPast set l) (x : Heard) where
  made_only : (l : List Heard) → Allowed set (map (λ (x : Heard). set.mode) l)
  made_only [] = tt
  made_only (x ∷ l) = (made_allowed set good, made_only l)

  pub accepted_unchanged : cause_after set l x ≡ 0 → feed_of (unchanged set l) x ≡ record { answer = Ok (next_answer (unchanged set l)); handset = unchanged set (x ∷ l) }
  accepted_unchanged = accepted_after set good set.mode (map (λ (x : Heard). set.mode) l) (made_allowed set good, made_only l) l valid x

  pub refused_unchanged : (cause_after set l x ≡ 0 → ⊥)
      → feed_of (unchanged set l) x ≡ record { answer = Err (cause_after set l x); handset = unchanged set l }
  refused_unchanged = refused_after set good set.mode (map (λ (x : Heard). set.mode) l) (made_allowed set good, made_only l) l valid x

  pub refusal_unchanged : number_in (feed_of (unchanged set l) x).answer ≡ cause_after set l x
  refusal_unchanged = refusal_after set good set.mode (map (λ (x : Heard). set.mode) l) (made_allowed set good, made_only l) l valid x
