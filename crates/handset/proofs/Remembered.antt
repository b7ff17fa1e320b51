-- The check of what is remembered: every slot is valid by itself, and no scheduled block is a second one.
-- Assumes nothing.
use Prim.Native.Nat.{ℕ, zero, suc, ◌+◌, ◌<◌, ◌≤◌}
use mathlib.Core.Bool.{Bool, true, false, cond, not, ◌&&◌, ◌||◌, and-true, or-false, and_assoc}
use mathlib.Core.List.{List, [], ◌∷◌, ◌++◌}
use mathlib.Core.Path.{◌≡◌, refl, sym, ap, ◌∙◌}
use native.Mathlib.Numerals.{add-one}
use native.Mathlib.Omega.{arith}
use lib.Dec.{eqb, leb, eqb-suc-zero}
use lib.ListN.{length, get_or, set, take, drop, drop_of_length-le, replicate, length-append}
use lib.Seq.{drop-cons, take-length}
use Rattle.frame.specs.declared.Settings.{Settings}
use Rattle.frame.specs.Distance.{before}
use Rattle.frame.specs.Settings.{or_else}
use Rattle.heard.specs.declared.Slot.{Slot}
use Rattle.heard.specs.Heard.{heard_refusal, block_before, second_refusal, cause_of}
use Rattle.heard.specs.Memory.{none, heard_in, block_ago}
use Rattle.heard.proofs.Remembered.{kind_block}
use Rattle.handset.specs.Checked.{slot_valid, padding, all_valid, any_block, blocks_apart}
use Rattle.handset.specs.Sound.{slot_sound, previous, all_sound}

-- A slot is sound where it is valid by itself, and is no scheduled block or the first one heard in its window.
sound_parts : (s : Settings) (n : ℕ) (older : List Slot) (t : Slot)
    → slot_sound s n older t ≡ (slot_valid s n t && not (eqb t.kind 2 && block_before 13 s.config n (block_ago older)))
unfolding slot_sound slot_valid cause_of second_refusal
sound_parts s n older t =
    rw (kind_block t) (go (leb t.kind 3) (heard_refusal s n (heard_in t)) (eqb t.kind 2 && block_before 13 s.config n (block_ago older)))
  where
    go : (k : Bool) (r : ℕ) (b : Bool) → (k && eqb (or_else r (cond b 18 0)) 0) ≡ (k && eqb r 0 && not b)
    go false r b = refl
    go true zero true = refl
    go true zero false = refl
    go true (suc r) b = rw (eqb-suc-zero r)

two_by_two : (a b c d : Bool) → ((a && b) && (c && d)) ≡ ((a && c) && (b && d))
two_by_two false b c d = refl
two_by_two true false false d = refl
two_by_two true false true d = refl
two_by_two true true c d = refl

-- What is remembered is sound where every slot is valid and no block is a second one.
sound_apart : (s : Settings) (n : ℕ) (past : List Slot) → all_sound s n past ≡ (all_valid s n past && blocks_apart s.config n past)
unfolding all_sound all_valid blocks_apart
sound_apart s n [] = refl
sound_apart s n (t ∷ ts) =
    rw (sound_parts s (previous n) ts t, sound_apart s (previous n) ts)
    (two_by_two (slot_valid s (previous n) t) (not (eqb t.kind 2 && block_before 13 s.config (previous n) (block_ago ts))) (all_valid s (previous n) ts) (blocks_apart s.config (previous n) ts))

-- Without a scheduled block none is a second one.
none_apart : (c n : ℕ) (past : List Slot) → any_block past ≡ false → blocks_apart c n past ≡ true
unfolding any_block blocks_apart
none_apart c n [] e = refl
none_apart c n (t ∷ ts) e = go (eqb t.kind 2) e (λ h. none_apart c (previous n) ts h)
  where
    go : (b : Bool) → (b || any_block ts) ≡ false → (any_block ts ≡ false → blocks_apart c (previous n) ts ≡ true)
        → (not (b && block_before 13 c (previous n) (block_ago ts)) && blocks_apart c (previous n) ts) ≡ true
    go true h rest = absurd (cc)
    go false h rest = rest h

-- Slots of nothing behind them change nothing.
valid_padded : (s : Settings) (n : ℕ) (past : List Slot) → all_valid s n (past ++ padding) ≡ all_valid s n past
unfolding all_valid slot_valid heard_in heard_refusal
valid_padded s n [] = refl
valid_padded s n (t ∷ ts) = rw (valid_padded s (previous n) ts)

block_padded : (past : List Slot) → any_block (past ++ padding) ≡ any_block past
unfolding any_block
block_padded [] = refl
block_padded (t ∷ ts) = rw (block_padded ts)

-- One slot more of a loop over them.
next_slot : (slots : List Slot) (i : ℕ) → i < length slots → drop i slots ≡ get_or slots i none ∷ drop (i + 1) slots
next_slot slots i h = rw add-one (drop-cons slots i none h)

module _ (s : Settings) (next : ℕ) (slots : List Slot) (i : ℕ) (h : i < length slots) where
  pub valid_more : (valid b : Bool) → all_valid s next slots ≡ (valid && all_valid s (before next i) (drop i slots))
      → (given : Settings) → given ≡ s → b ≡ slot_valid given (before next (i + 1)) (get_or slots i none)
      → all_valid s next slots ≡ ((valid && b) && all_valid s (before next (i + 1)) (drop (i + 1) slots))
  unfolding all_valid
  valid_more valid b e given same told =
      let back : previous (before next i) ≡ before next (i + 1) = omega arith in
      let tested : b ≡ slot_valid s (before next (i + 1)) (get_or slots i none) = rw same at told in
      e ∙ rw (next_slot slots i h, back, ← tested) (sym (and_assoc valid b (all_valid s (before next (i + 1)) (drop (i + 1) slots))))

module _ (slots : List Slot) (i : ℕ) (h : i < length slots) where
  pub block_more : (block : Bool) → any_block slots ≡ (block || any_block (drop i slots))
      → any_block slots ≡ ((block || eqb (get_or slots i none).kind 2) || any_block (drop (i + 1) slots))
  unfolding any_block
  block_more block e = e ∙ rw (next_slot slots i h) (go block (eqb (get_or slots i none).kind 2) (any_block (drop (i + 1) slots)))
    where
      go : (a b c : Bool) → (a || (b || c)) ≡ ((a || b) || c)
      go true b c = refl
      go false b c = refl

-- After the loop over the 13 slots and the three of nothing behind them.
module _ (past : List Slot) (slots : List Slot) (padded : slots ≡ past ++ padding) (i : ℕ) (done : length slots ≤ i) where
  pub valid_told : (s : Settings) (next : ℕ) (valid : Bool) → all_valid s next slots ≡ (valid && all_valid s (before next i) (drop i slots))
      → all_valid s next past ≡ valid
  unfolding all_valid
  valid_told s next valid e =
      sym (valid_padded s next past) ∙ ap (all_valid s next) (sym padded) ∙ e ∙ rw (drop_of_length-le slots {i = i} done) (and-true valid)

  pub block_told : (block : Bool) → any_block slots ≡ (block || any_block (drop i slots)) → any_block past ≡ block
  unfolding any_block
  block_told block e = sym (block_padded past) ∙ ap any_block (sym padded) ∙ e ∙ rw (drop_of_length-le slots {i = i} done) (or-false block)

-- A loop that puts them there: one slot more.
pub put_more : (past own : List Slot) (i : ℕ) → i < length past → i < length own
    → set (take i past ++ drop i own) i (get_or past i none) ≡ take (i + 1) past ++ drop (i + 1) own
put_more past own i h k = rw add-one (go past own i h k)
  where
    go : (past own : List Slot) (i : ℕ) → i < length past → i < length own
        → set (take i past ++ drop i own) i (get_or past i none) ≡ take (suc i) past ++ drop (suc i) own
    go [] own i h k = absurd (omega arith)
    go (t ∷ ts) [] i h k = absurd (omega arith)
    go (t ∷ ts) (u ∷ us) zero h k = refl
    go (t ∷ ts) (u ∷ us) (suc i) h k = ap (λ (l : List Slot). t ∷ l) (go ts us i (omega (arith, h)) (omega (arith, k)))

-- A default slot is one of nothing.
none_of : (kind cce dai results : ℕ) → kind ≡ 0 → cce ≡ 0 → dai ≡ 0 → results ≡ 0
    → ◌≡◌ {A = Slot} (record { kind = kind; cce = cce; dai = dai; results = results }) none
none_of kind cce dai results a b c d = rw (a, b, c, d) refl

pub is_none : (t : Slot) → (t.kind ≡ 0) × ((t.cce ≡ 0) × ((t.dai ≡ 0) × (t.results ≡ 0))) → t ≡ none
is_none t e = none_of t.kind t.cce t.dai t.results e.0 e.1.0 e.1.1.0 e.1.1.1

pub all_put : (past slots : List Slot) (i : ℕ) → length past ≡ 13 → i ≡ 13 → slots ≡ take i past ++ drop i (replicate 16 none) → slots ≡ past ++ padding
all_put past slots i size done e =
    e ∙ rw done (ap (λ (k : ℕ). take k past ++ padding) (sym size) ∙ ap (λ (l : List Slot). l ++ padding) (take-length past))

pub sixteen : (past slots : List Slot) → length past ≡ 13 → slots ≡ past ++ padding → length slots ≡ 16
sixteen past slots e f = rw f (length-append past padding ∙ rw e refl)

-- What a state that remembers this comes to.
module _ (s : Settings) (n : ℕ) (past : List Slot) where
  pub sound_blockless : all_valid s n past ≡ true → any_block past ≡ false → true ≡ all_sound s n past
  sound_blockless e f = sym (sound_apart s n past ∙ rw (e, none_apart s.config n past f) refl)

  pub sound_searched : all_valid s n past ≡ true → (apart : Bool) → apart ≡ blocks_apart s.config n past → apart ≡ all_sound s n past
  sound_searched e apart f = f ∙ sym (sound_apart s n past ∙ rw e refl)

  pub sound_invalid : all_valid s n past ≡ false → false ≡ all_sound s n past
  sound_invalid e = sym (sound_apart s n past ∙ rw e refl)
