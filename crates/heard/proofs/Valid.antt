-- What is heard where its refusals by itself, 9 to 12, 20, and 18 with no resource set, are not met: kind by kind, field by field.
-- Assumes nothing.
use Prim.Native.Nat.{ℕ, ◌<◌, ◌≤◌}
use mathlib.Core.Bool.{true, false, false≢true}
use mathlib.Core.Path.{◌≡◌}
use native.Mathlib.Omega.{arith}
use Rattle.frame.specs.declared.Settings.{Settings}
use Rattle.frame.specs.Layout.{downlink}
use Rattle.frame.specs.Settings.{has_scheduled}
use Rattle.frame.specs.Special.{too_short}
use Rattle.frame.proofs.Accepted.{neither}
use Rattle.resource.specs.Formula.{edge}
use Rattle.heard.specs.declared.Heard.{Heard}
use Rattle.heard.specs.declared.Heard.TheVariants.{Nothing, Granted, Scheduled, Released}
use Rattle.heard.specs.Heard.{uplink_refusal, short_refusal, data_refusal, carried_refusal, pdcch_refusal, unset_refusal, heard_refusal, is_data}

pub record ValidBlocks (s : Settings) (blocks : ℕ) : Type 0 where
  pub least : 1 ≤ blocks
  pub most : blocks ≤ s.blocks

pub record ValidPdcch (s : Settings) (cce dai : ℕ) : Type 0 where
  pub cce_low : cce < edge s.nrb 4
  pub dai_least : 1 ≤ dai
  pub dai_most : dai ≤ 4

pub record MayCarryData (s : Settings) (n : ℕ) : Type 0 where
  pub is_downlink : downlink s.config n ≡ true
  pub long_enough : too_short s n ≡ false

abbrev pub Valid : Settings → ℕ → Heard → Type 0
Valid s n Nothing = Unit {0}
Valid s n (Granted g) = MayCarryData s n × ValidBlocks s g.blocks × ValidPdcch s g.cce.0 g.dai
Valid s n (Scheduled b) = MayCarryData s n × ValidBlocks s b.blocks × (has_scheduled s ≡ true)
Valid s n (Released p) = (downlink s.config n ≡ true) × ValidPdcch s p.cce.0 p.dai

module _ (s : Settings) where
  valid_downlink : (n : ℕ) → uplink_refusal s n ≡ 0 → downlink s.config n ≡ true
  unfolding uplink_refusal
  valid_downlink n e = grind arith

  valid_data : (n : ℕ) → data_refusal s n ≡ 0 → MayCarryData s n
  unfolding data_refusal short_refusal
  valid_data n e = record { is_downlink = grind (arith, neither, valid_downlink); long_enough = grind (arith, neither) }

  valid_blocks : (blocks : ℕ) → carried_refusal s blocks ≡ 0 → ValidBlocks s blocks
  unfolding carried_refusal
  valid_blocks blocks e = record { least = grind arith; most = grind arith }

  valid_pdcch : (cce dai : ℕ) → pdcch_refusal s cce dai ≡ 0 → ValidPdcch s cce dai
  unfolding pdcch_refusal
  valid_pdcch cce dai e = record { cce_low = grind arith; dai_least = grind arith; dai_most = grind arith }

  valid_set : unset_refusal s ≡ 0 → has_scheduled s ≡ true
  unfolding unset_refusal
  valid_set e = grind arith

  pub valid : (n : ℕ) (x : Heard) → heard_refusal s n x ≡ 0 → Valid s n x
  unfolding heard_refusal
  valid n Nothing e = tt
  valid n (Granted g) e =
      let a = neither _ _ e in
      let b = neither _ _ a.1 in
      (valid_data n a.0, valid_blocks g.blocks b.0, valid_pdcch g.cce.0 g.dai b.1)
  valid n (Scheduled b) e =
      let a = neither _ _ e in
      let c = neither _ _ a.1 in
      (valid_data n a.0, valid_blocks b.blocks c.0, valid_set c.1)
  valid n (Released p) e =
      let a = neither _ _ e in
      (valid_downlink n a.0, valid_pdcch p.cce.0 p.dai a.1)

  -- Data that is valid is in a subframe long enough for it.
  pub valid_long : (n : ℕ) (x : Heard) → heard_refusal s n x ≡ 0 → is_data x ≡ true → too_short s n ≡ false
  valid_long n Nothing e d = absurd (false≢true d)
  valid_long n (Granted g) e d = (valid n (Granted g) e).0.long_enough
  valid_long n (Scheduled b) e d = (valid n (Scheduled b) e).0.long_enough
  valid_long n (Released p) e d = absurd (false≢true d)
