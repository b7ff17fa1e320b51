-- 20 refuses data in a subframe too short for it, and nothing else; no other refusal hides it.
-- Assumes nothing.
use Prim.Native.Nat.{ℕ, zero, suc}
use mathlib.Core.Bool.{true, false≢true}
use mathlib.Core.Logic.{◌⊎◌, inl, inr, ◌↔◌}
use mathlib.Core.Path.{◌≡◌, refl}
use native.Mathlib.Omega.{arith}
use Rattle.std.proofs.lemmas.Bool.{and_parts}
use Rattle.frame.specs.declared.Settings.{Settings}
use Rattle.frame.specs.Layout.{downlink, is_special}
use Rattle.frame.specs.Settings.{or_else}
use Rattle.frame.specs.Special.{no_pdsch, too_short}
use Rattle.frame.proofs.Layouts.{special_downlink}
use Rattle.heard.specs.declared.Heard.{Heard}
use Rattle.heard.specs.declared.Heard.TheVariants.{Nothing, Granted, Scheduled, Released}
use Rattle.heard.specs.Heard.{uplink_refusal, short_refusal, data_refusal, carried_refusal, pdcch_refusal, unset_refusal, heard_refusal, TwentyExactly}

-- A number that is answered is that of one of the two refusals.
either : (k next v : ℕ) → or_else k next ≡ v → (k ≡ v) ⊎ (next ≡ v)
either zero next v e = inr e
either (suc k) next v e = inl e

-- No other refusal has its number.
module _ (s : Settings) where
  uplink_never : (n : ℕ) → uplink_refusal s n ≡ 20 → ⊥
  unfolding uplink_refusal
  uplink_never n e = grind arith

  carried_never : (blocks : ℕ) → carried_refusal s blocks ≡ 20 → ⊥
  unfolding carried_refusal
  carried_never blocks e = grind arith

  pdcch_never : (cce dai : ℕ) → pdcch_refusal s cce dai ≡ 20 → ⊥
  unfolding pdcch_refusal
  pdcch_never cce dai e = grind arith

  unset_never : unset_refusal s ≡ 20 → ⊥
  unfolding unset_refusal
  unset_never e = grind arith

  module _ (n : ℕ) where
    -- A subframe too short for data is special, and so downlink: 9 does not refuse what is sent there.
    pub short_downlink : too_short s n ≡ true → downlink s.config n ≡ true
    unfolding too_short
    short_downlink e = special_downlink s.config n (and_parts (no_pdsch s.prefix s.special) (is_special s.config n) e).1

    short_met : short_refusal s n ≡ 20 → too_short s n ≡ true
    unfolding short_refusal
    short_met e = grind arith

    data_met : data_refusal s n ≡ 20 → too_short s n ≡ true
    unfolding data_refusal
    data_met e = grind (arith, either, uplink_never, short_met)

    pub short_refused : too_short s n ≡ true → data_refusal s n ≡ 20
    unfolding data_refusal uplink_refusal short_refusal
    short_refused e = rw (short_downlink e, e)

    -- Whatever a grant's or a block's fields are.
    data_exactly : (fields : ℕ) → (fields ≡ 20 → ⊥) → (or_else (data_refusal s n) fields ≡ 20) ↔ ((true ≡ true) × (too_short s n ≡ true))
    data_exactly fields never = (
      λ e. (refl, grind (arith, either, data_met)),
      λ p. rw (short_refused p.1),
    )

    pub twenty_exactly : (x : Heard) → TwentyExactly s n x
    unfolding heard_refusal
    twenty_exactly Nothing = (λ e. absurd (omega arith), λ p. absurd (false≢true p.0))
    twenty_exactly (Granted g) = data_exactly _ (λ e. grind (arith, either, carried_never, pdcch_never))
    twenty_exactly (Scheduled b) = data_exactly _ (λ e. grind (arith, either, carried_never, unset_never))
    twenty_exactly (Released p) = (λ e. grind (arith, either, uplink_never, pdcch_never), λ p. absurd (false≢true p.0))
