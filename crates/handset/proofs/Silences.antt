-- Why a handset is silent, for every lent state that 8 does not refuse and not only for those that a run comes to. Each PDCCH that
-- it remembers in the window has a resource, by the one-to-one law of the resource crate, whose map is not unfolded here. So the
-- resource call never causes silence, and silence means what 01 says ("The bundled reply", "The multiplexed reply").
-- Assumes nothing.
use Prim.Native.Nat.{ℕ, suc, ◌-◌, ◌<◌}
use mathlib.Core.Logic.{◌↔◌}
use mathlib.Core.Path.{◌≡◌}
use native.Mathlib.Omega.{arith}
use lib.ListN.{get_or}
use Rattle.frame.specs.declared.Settings.{Settings}
use Rattle.frame.specs.Distance.{before}
use Rattle.frame.specs.Earliest.{earliest_k}
use Rattle.frame.specs.Settings.{settings_refusal, window_refusal}
use Rattle.frame.specs.Table.{window_of}
use Rattle.frame.proofs.Accepted.{accepted as as_accepted, accepting, accepted_in}
use Rattle.frame.proofs.Causes.{window_accepted}
use Rattle.frame.proofs.Earliest.{earliest_most, earliest_least}
use Rattle.frame.proofs.Windows.{window_uplink}
use Rattle.resource.specs.Calls.{size_of}
use Rattle.resource.proofs.OneToOne.{calls_one_to_one}
use Rattle.reply.specs.declared.Answer.TheVariants.{Silent}
use Rattle.heard.specs.declared.Control.{Control}
use Rattle.heard.specs.declared.Heard.{Heard}
use Rattle.heard.specs.declared.Heard.TheVariants.{Nothing, Granted, Scheduled, Released}
use Rattle.heard.specs.declared.View.TheVariants.{Pdcch}
use Rattle.heard.specs.Heard.{heard_refusal, view_of}
use Rattle.heard.specs.Memory.{none, heard_in, view_in, view_ago}
use Rattle.reply.specs.Silence.{HeardMapped, SilentCause}
use Rattle.reply.proofs.Silences.{silent_cause}
use Rattle.heard.proofs.Valid.{ValidPdcch, valid}
use Rattle.handset.specs.declared.Handset.{Handset}
use Rattle.handset.specs.Feed.{answer_of, window_settings, next_answer}
use Rattle.handset.specs.Modes.{mode_ago}
use Rattle.handset.specs.Sound.{state_refusal}
use Rattle.handset.proofs.ModeBits.{modes_exactly}
use Rattle.handset.proofs.Passing.{sound, remembered_valid}

-- A PDCCH that a reply sees of what is valid has a first CCE below N_4 and a DAI 1 to 4.
pub seen_valid : (s : Settings) (n : ℕ) (x : Heard) → heard_refusal s n x ≡ 0 → (g : Control) → view_of x ≡ Pdcch g → ValidPdcch s g.cce.0 g.dai
unfolding view_of
seen_valid s n Nothing e g v = let z : ◌≡◌ {A = ℕ} 0 1 = cc in absurd (omega arith)
seen_valid s n (Granted y) e g v =
    let cce : y.cce ≡ g.cce = cc in
    let dai : y.dai ≡ g.dai = cc in
    rw (cce, dai) at (valid s n (Granted y) e).2
seen_valid s n (Scheduled b) e g v = let z : ◌≡◌ {A = ℕ} 0 1 = cc in absurd (omega arith)
seen_valid s n (Released p) e g v =
    let cce : p.cce ≡ g.cce = cc in
    let dai : p.dai ≡ g.dai = cc in
    rw (cce, dai) at (valid s n (Released p) e).1

module _ (h : Handset) (accepted : state_refusal h ≡ 0) (window : 0 < size_of h.settings h.next) where
  -- The window's settings are accepted: its mode is one that 8 looked at.
  settings_accepted : settings_refusal (window_settings h) ≡ 0
  unfolding window_settings
  settings_accepted =
      let c : ℕ = h.settings.config in
      let k : ℕ = earliest_k c h.next in
      accepted_in h.settings (mode_ago h.modes k) (accepting h.settings (sound h accepted).settings)
      ((modes_exactly h.settings h.modes).0 (sound h accepted).modes k (earliest_least c h.next window) (earliest_most c h.next))

  call_accepted : window_refusal (window_settings h) h.next ≡ 0
  unfolding window_settings
  call_accepted = window_accepted (window_settings h) h.next settings_accepted window

  -- The resource call for a PDCCH heard in the window is never refused.
  pub heard_mapped : HeardMapped (window_settings h) h.next (view_ago h.past)
  unfolding view_ago view_in window_settings
  heard_mapped m g inside heard =
      let i : ℕ = get_or (window_of h.settings.config h.next) m 0 - 1 in
      let low = (seen_valid h.settings (before h.next (suc i)) (heard_in (get_or h.past i none)) (remembered_valid h accepted i) g heard).cce_low in
      let p = (calls_one_to_one (window_settings h) h.next call_accepted).into m g.cce.0 inside low in
      (record { 0 = p.0 }, p.3.there)

  -- The answer is silence exactly for the papers' causes, in the window's own mode: bundled, U = 0 and no scheduled block, or a miss
  -- shown; multiplexed, every position D.
  pub answer_silent : (next_answer h ≡ Silent) ↔ SilentCause (window_settings h) h.next (view_ago h.past)
  unfolding next_answer answer_of window_settings
  answer_silent =
      let exactly = silent_cause (window_settings h) h.next (view_ago h.past) heard_mapped (as_accepted (window_settings h) settings_accepted) window in
      rw (window_uplink h.settings.config h.next window) exactly
