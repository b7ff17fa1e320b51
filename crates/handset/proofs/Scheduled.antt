-- A state that 8 does not refuse remembers scheduled blocks only where a resource is set for them. So the resource of their replies is
-- one, and lies below N1, where the map has none.
-- Assumes nothing.
use Prim.Native.Nat.{ℕ, suc, ◌-◌, ◌<◌}
use mathlib.Core.Bool.{true, false≢true}
use mathlib.Core.Path.{◌≡◌, ◌∙◌}
use lib.ListN.{get_or}
use Rattle.frame.specs.declared.Settings.{Settings}
use Rattle.frame.specs.Distance.{before}
use Rattle.frame.specs.Settings.{has_scheduled}
use Rattle.heard.specs.declared.Heard.{Heard}
use Rattle.heard.specs.declared.Heard.TheVariants.{Nothing, Granted, Scheduled, Released}
use Rattle.heard.specs.Heard.{is_block, heard_refusal}
use Rattle.heard.specs.Memory.{none, heard_in, block_ago}
use Rattle.heard.proofs.Remembered.{kind_block}
use Rattle.heard.proofs.Valid.{valid}
use Rattle.handset.specs.declared.Handset.{Handset}
use Rattle.handset.specs.Sound.{state_refusal}
use Rattle.handset.proofs.Passing.{sound, remembered_valid}

-- A valid block has a resource.
heard_set : (s : Settings) (n : ℕ) (x : Heard) → heard_refusal s n x ≡ 0 → is_block x ≡ true → has_scheduled s ≡ true
heard_set s n Nothing e b = absurd (false≢true b)
heard_set s n (Granted g) e b = absurd (false≢true b)
heard_set s n (Scheduled x) e b = (valid s n (Scheduled x) e).2
heard_set s n (Released p) e b = absurd (false≢true b)

module _ (h : Handset) (accepted : state_refusal h ≡ 0) (k : ℕ) (block : block_ago h.past k ≡ true) where
  pub block_set : has_scheduled h.settings ≡ true
  unfolding block_ago
  block_set =
      heard_set h.settings (before h.next (suc (k - 1))) (heard_in (get_or h.past (k - 1) none)) (remembered_valid h accepted (k - 1))
      (kind_block (get_or h.past (k - 1) none) ∙ block)

  pub block_low : h.settings.scheduled < h.settings.n1
  block_low = (sound h accepted).settings.scheduled_low block_set
