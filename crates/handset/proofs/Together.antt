-- A remembered slot is valid by itself: the tests of its kind, as the code draws them together.
-- Assumes nothing.
use Prim.Native.Nat.{ℕ, zero, suc, ◌+◌, ◌<◌, ◌≤◌, ◌/◌, ◌%◌}
use mathlib.Core.Bool.{Bool, true, false, cond, not, ◌&&◌, ◌||◌, and-true, and-false, or-true}
use mathlib.Core.Path.{◌≡◌, refl, sym, ◌∙◌}
use native.Mathlib.Decide.{ℕ_discrete, dec_lt}
use native.Mathlib.Omega.{arith}
use lib.Dec.{eqb, leb, ltb}
use borrow.Author.Tests.{ne_eqb, lt-ltb, le-ltb, lt-leb}
use Rattle.frame.specs.declared.Settings.{Settings}
use Rattle.frame.specs.Layout.{Letter, D, S, U, letter_of, carries, downlink, is_s, is_special}
use Rattle.frame.specs.Coded.{letter_byte}
use Rattle.frame.specs.Settings.{or_else, outside, has_scheduled, settings_refusal}
use Rattle.frame.specs.Special.{no_pdsch, too_short}
use Rattle.frame.proofs.Accepted.{accepted, not_outside}
use Rattle.resource.specs.Calls.{cces_of}
use Rattle.resource.specs.Formula.{edge}
use Rattle.heard.specs.declared.Slot.{Slot}
use Rattle.heard.specs.Heard.{uplink_refusal, short_refusal, data_refusal, carried_refusal, pdcch_refusal, unset_refusal, heard_refusal}
use Rattle.heard.specs.Memory.{blocks_in}
use Rattle.heard.proofs.Remembered.{in_granted, in_scheduled, in_released, in_nothing}
use Rattle.handset.specs.Checked.{slot_valid}

-- Each refusal is unmet exactly where its test holds.
module _ (s : Settings) (n : ℕ) where
  downlink_first : (r : ℕ) → eqb (or_else (uplink_refusal s n) r) 0 ≡ (downlink s.config n && eqb r 0)
  unfolding uplink_refusal
  downlink_first r = go (downlink s.config n)
    where
      go : (b : Bool) → eqb (or_else (cond b 0 9) r) 0 ≡ (b && eqb r 0)
      go true = refl
      go false = refl

  data_first : (r : ℕ) → eqb (or_else (data_refusal s n) r) 0 ≡ (downlink s.config n && (not (too_short s n) && eqb r 0))
  unfolding data_refusal uplink_refusal short_refusal
  data_first r = go (downlink s.config n) (too_short s n)
    where
      go : (a b : Bool) → eqb (or_else (or_else (cond a 0 9) (cond b 20 0)) r) 0 ≡ (a && (not b && eqb r 0))
      go true true = refl
      go true false = refl
      go false b = refl

  carried_first : (blocks r : ℕ) → eqb (or_else (carried_refusal s blocks) r) 0 ≡ (not (outside 1 s.blocks blocks) && eqb r 0)
  unfolding carried_refusal
  carried_first blocks r = go (outside 1 s.blocks blocks)
    where
      go : (b : Bool) → eqb (or_else (cond b 10 0) r) 0 ≡ (not b && eqb r 0)
      go true = refl
      go false = refl

  pdcch_passes : (cce dai : ℕ) → eqb (pdcch_refusal s cce dai) 0 ≡ (ltb cce (edge s.nrb 4) && not (outside 1 4 dai))
  unfolding pdcch_refusal
  pdcch_passes cce dai = go (ltb cce (edge s.nrb 4)) (outside 1 4 dai)
    where
      go : (a b : Bool) → eqb (cond a (cond b 12 0) 11) 0 ≡ (a && not b)
      go true true = refl
      go true false = refl
      go false b = refl

  set_passes : eqb (unset_refusal s) 0 ≡ has_scheduled s
  unfolding unset_refusal
  set_passes = go (has_scheduled s)
    where
      go : (b : Bool) → eqb (cond b 0 18) 0 ≡ b
      go true = refl
      go false = refl

-- One or two blocks are within the setting exactly if the bit for two is below it.
carried_bit : (t : Slot) (most : ℕ) → not (outside 1 most (blocks_in t)) ≡ ltb (t.results / 4 % 2) most
carried_bit t most = go (ℕ_discrete (t.results / 4 % 2) 1)
  where
    inside : (x : ℕ) → 1 ≤ x → not (outside 1 most x) ≡ not (ltb most x)
    inside x h = rw (le-ltb x 1 h)

    side : (x y : ℕ) → x ≡ suc y → Dec (y < most) → not (ltb most x) ≡ ltb y most
    side x y e (yes h) = rw (le-ltb most x (omega arith), lt-ltb y most h)
    side x y e (no h) = rw (lt-ltb most x (omega arith), le-ltb y most (omega arith))

    go : Dec (t.results / 4 % 2 ≡ 1) → not (outside 1 most (blocks_in t)) ≡ ltb (t.results / 4 % 2) most
    go (yes e) = rw e (inside 2 (omega arith) ∙ side 2 1 refl (dec_lt 1 most))
    go (no e) =
        let none : t.results / 4 % 2 ≡ 0 = omega arith in
        rw none (inside 1 (omega arith) ∙ side 1 0 refl (dec_lt 0 most))

-- A DAI of 1 to 4.
dai_within : (dai : ℕ) → not (outside 1 4 dai) ≡ (ltb 0 dai && ltb dai 5)
dai_within dai = go (dec_lt 0 dai) (dec_lt dai 5)
  where
    go : Dec (0 < dai) → Dec (dai < 5) → not (outside 1 4 dai) ≡ (ltb 0 dai && ltb dai 5)
    go (yes a) (yes b) = rw (le-ltb dai 1 (omega arith), le-ltb 4 dai (omega arith), lt-ltb 0 dai a, lt-ltb dai 5 b)
    go (yes a) (no b) = rw (le-ltb dai 1 (omega arith), lt-ltb 4 dai (omega arith), lt-ltb 0 dai a, le-ltb dai 5 (omega arith))
    go (no a) b = rw (lt-ltb dai 1 (omega arith), le-ltb 0 dai (omega arith))

-- The tests of a slot that heard something together, the kind among them.
abbrev pub heard_together : Bool → Bool → Bool → ℕ → Bool
heard_together carries pdcch set kind = ((eqb kind 1 && carries && pdcch) || (eqb kind 2 && carries && set)) || (eqb kind 3 && pdcch)

module _ (s : Settings) (n : ℕ) (t : Slot) where
  abbrev carried : Bool
  carried = ltb (t.results / 4 % 2) s.blocks

  abbrev pdcch : Bool
  pdcch = ltb t.cce (edge s.nrb 4) && ltb 0 t.dai && ltb t.dai 5

  -- data is in place: as many blocks as the cell allows, in a subframe long enough for them
  abbrev in_place : Bool
  in_place = carried && not (too_short s n)

  abbrev Valid : Type 0
  Valid = slot_valid s n t ≡ (eqb t.kind 0 || (downlink s.config n && heard_together in_place pdcch (has_scheduled s) t.kind))

  none : (t.kind ≡ 1 → ⊥) → (t.kind ≡ 2 → ⊥) → (t.kind ≡ 3 → ⊥) → Dec (t.kind ≡ 0) → Valid
  unfolding slot_valid heard_refusal
  none a b c (yes e) = rw (in_nothing t a b c, e)
  none a b c (no e) =
      rw (lt-leb t.kind 3 (omega arith), ne_eqb t.kind 0 e, ne_eqb t.kind 1 a, ne_eqb t.kind 2 b, ne_eqb t.kind 3 c)
      (sym (and-false (downlink s.config n)))

  granted : t.kind ≡ 1 → Valid
  unfolding slot_valid heard_refusal
  granted e =
      rw
      (in_granted t e, e, data_first s n (or_else (carried_refusal s (blocks_in t)) (pdcch_refusal s t.cce t.dai)), carried_first s n (blocks_in t) (pdcch_refusal s t.cce t.dai), pdcch_passes s n t.cce t.dai, carried_bit t s.blocks, dai_within t.dai)
      (go (downlink s.config n) (too_short s n) carried (ltb t.cce (edge s.nrb 4)) (ltb 0 t.dai) (ltb t.dai 5))
    where
      go : (d h c x y z : Bool) → (d && (not h && (c && (x && (y && z))))) ≡ (d && (((c && not h) && (x && y && z)) || false || false))
      go false h c x y z = refl
      go true true true x y z = refl
      go true true false x y z = refl
      go true false false x y z = refl
      go true false true false y z = refl
      go true false true true false z = refl
      go true false true true true true = refl
      go true false true true true false = refl

  scheduled : t.kind ≡ 2 → Valid
  unfolding slot_valid heard_refusal
  scheduled e =
      rw
      (in_scheduled t e, e, data_first s n (or_else (carried_refusal s (blocks_in t)) (unset_refusal s)), carried_first s n (blocks_in t) (unset_refusal s), set_passes s n, carried_bit t s.blocks)
      (go (downlink s.config n) (too_short s n) carried (has_scheduled s))
    where
      go : (d h c r : Bool) → (d && (not h && (c && r))) ≡ (d && (false || ((c && not h) && r) || false))
      go false h c r = refl
      go true true true r = refl
      go true true false r = refl
      go true false false r = refl
      go true false true true = refl
      go true false true false = refl

  released : t.kind ≡ 3 → Valid
  unfolding slot_valid heard_refusal
  released e =
      rw
      (in_released t e, e, downlink_first s n (pdcch_refusal s t.cce t.dai), pdcch_passes s n t.cce t.dai, dai_within t.dai)
      (go (downlink s.config n) (ltb t.cce (edge s.nrb 4)) (ltb 0 t.dai) (ltb t.dai 5))
    where
      go : (d x y z : Bool) → (d && (x && (y && z))) ≡ (d && (false || false || (x && y && z)))
      go false x y z = refl
      go true false y z = refl
      go true true false z = refl
      go true true true true = refl
      go true true true false = refl

  pub valid_together : Valid
  valid_together =
      elim (ℕ_discrete t.kind 1) [
        | yes a ↦ granted a
        | no a ↦ elim (ℕ_discrete t.kind 2) [
          | yes b ↦ scheduled b
          | no b ↦ elim (ℕ_discrete t.kind 3) [
            | yes c ↦ released c
            | no c ↦ none a b c (ℕ_discrete t.kind 0)
          ]
        ]
      ]

-- The tests as the code has them: the kind and the letter first, then what only a PDCCH, only data, only a block must meet.
abbrev coded : ℕ → Bool → Bool → Bool → Bool → Bool
coded kind carries pdcch fits set =
    (((leb kind 3 && (eqb kind 0 || carries)) && (pdcch || not (eqb (kind % 2) 1))) && (fits || not (eqb ((kind + 1) / 2 % 2) 1))) && (set || not (eqb kind 2))

coded_together : (kind : ℕ) (d p c s : Bool) → (eqb kind 0 || (d && heard_together c p s kind)) ≡ coded kind d p c s
coded_together kind d p c s =
    elim (ℕ_discrete kind 0) [
      | yes e ↦ rw e (at_zero d p c s)
      | no a ↦ elim (ℕ_discrete kind 1) [
        | yes e ↦ rw e (at_one d p c s)
        | no b ↦ elim (ℕ_discrete kind 2) [
          | yes e ↦ rw e (at_two d p c s)
          | no e ↦ elim (ℕ_discrete kind 3) [
            | yes f ↦ rw f (at_three d p c s)
            | no f ↦ rw (ne_eqb kind 0 a, ne_eqb kind 1 b, ne_eqb kind 2 e, ne_eqb kind 3 f, lt-leb kind 3 (omega arith)) (and-false d)
          ]
        ]
      ]
    ]
  where
    at_zero : (d p c s : Bool) → (eqb 0 0 || (d && heard_together c p s 0)) ≡ coded 0 d p c s
    at_zero d true true true = refl
    at_zero d true true false = refl
    at_zero d true false true = refl
    at_zero d true false false = refl
    at_zero d false true true = refl
    at_zero d false true false = refl
    at_zero d false false true = refl
    at_zero d false false false = refl

    at_one : (d p c s : Bool) → (eqb 1 0 || (d && heard_together c p s 1)) ≡ coded 1 d p c s
    at_one false p c s = refl
    at_one true false true s = refl
    at_one true false false s = refl
    at_one true true false s = refl
    at_one true true true true = refl
    at_one true true true false = refl

    at_two : (d p c s : Bool) → (eqb 2 0 || (d && heard_together c p s 2)) ≡ coded 2 d p c s
    at_two false p c s = refl
    at_two true true true true = refl
    at_two true true true false = refl
    at_two true true false s = refl
    at_two true false true true = refl
    at_two true false true false = refl
    at_two true false false s = refl

    at_three : (d p c s : Bool) → (eqb 3 0 || (d && heard_together c p s 3)) ≡ coded 3 d p c s
    at_three false p c s = refl
    at_three true false c s = refl
    at_three true true true true = refl
    at_three true true true false = refl
    at_three true true false true = refl
    at_three true true false false = refl

-- One of two blocks is over a setting of one, and no more is.
carried_one : (two most : ℕ) → two ≤ 1 → 1 ≤ most → most ≤ 2 → ltb two most ≡ not (eqb two 1 && eqb most 1)
carried_one zero most a b c = lt-ltb 0 most (omega arith)
carried_one (suc zero) most a b c = elim (ℕ_discrete most 1) [ yes e ↦ rw e refl | no e ↦ rw (ne_eqb most 1 e, lt-ltb 1 most (omega arith)) refl ]
carried_one (suc (suc two)) most a b c = absurd (omega arith)

letter_carries : (l : Letter) → carries l ≡ not (eqb (letter_byte l) 85)
letter_carries D = refl
letter_carries S = refl
letter_carries U = refl

letter_special : (l : Letter) (b : Bool) → (b && is_s l) ≡ (eqb (letter_byte l) 83 && b)
letter_special D true = refl
letter_special D false = refl
letter_special S true = refl
letter_special S false = refl
letter_special U true = refl
letter_special U false = refl

-- The greatest kind of an uplink subframe is 0, and of any other 3.
kinds_told : (kind letter : ℕ) → leb kind (cond (eqb letter 85) 0 3) ≡ (leb kind 3 && (eqb kind 0 || not (eqb letter 85)))
kinds_told kind letter = go kind (eqb letter 85)
  where
    go : (kind : ℕ) (b : Bool) → leb kind (cond b 0 3) ≡ (leb kind 3 && (eqb kind 0 || not b))
    go kind false = sym (rw (or-true (eqb kind 0)) (and-true (leb kind 3)))
    go zero true = refl
    go (suc kind) true = rw (lt-leb (suc kind) 0 (omega arith), ne_eqb (suc kind) 0 (λ e. absurd (omega arith))) (sym (and-false (leb (suc kind) 3)))

two_told : (one : Bool) (two : ℕ) → not (eqb (cond one two 0) 1) ≡ not (eqb two 1 && one)
two_told true two = rw (and-true (eqb two 1)) refl
two_told false two = rw (and-false (eqb two 1)) refl

-- So the code's tests are those of the slot by itself.
abbrev pub tests : ℕ → ℕ → Bool → Bool → Bool → Bool
tests kind most pdcch fits set =
    ((leb kind most && (pdcch || not (eqb (kind % 2) 1))) && (fits || not (eqb ((kind + 1) / 2 % 2) 1))) && (set || not (eqb kind 2))

pub valid_coded : (s : Settings) (n : ℕ) (t : Slot) → settings_refusal s ≡ 0
    → slot_valid s n t
    ≡ tests t.kind (cond (eqb (letter_byte (letter_of s.config n)) 85) 0 3) (pdcch s n t)
    (not (eqb (cond (eqb s.blocks 1) (t.results / 4 % 2) 0) 1) && not (eqb (letter_byte (letter_of s.config n)) 83 && no_pdsch s.prefix s.special))
    (has_scheduled s)
unfolding downlink too_short is_special
valid_coded s n t e =
    let a = accepted s e in
    valid_together s n t
    ∙ rw
    (carried_one (t.results / 4 % 2) s.blocks (omega arith) a.blocks_least a.blocks_most, letter_carries (letter_of s.config n), letter_special (letter_of s.config n) (no_pdsch s.prefix s.special), kinds_told t.kind (letter_byte (letter_of s.config n)), two_told (eqb s.blocks 1) (t.results / 4 % 2))
    (coded_together t.kind _ _ _ _)

-- N_4, as the call for it gives it to accepted settings.
pub cces_accepted : (s : Settings) → settings_refusal s ≡ 0 → cces_of s.nrb ≡ edge s.nrb 4
unfolding cces_of
cces_accepted s e = let a = accepted s e in rw (not_outside 6 110 s.nrb a.nrb_least a.nrb_most)
