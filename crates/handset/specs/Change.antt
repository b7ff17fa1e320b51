-- Changing mode between feeds: document 02, U8 and U9.
-- Assumes nothing.
use Rattle.std.specs.Prelude.{ℕ, zero, suc}
use Rattle.frame.specs.Settings.{or_else, new_mode_refusal, in_mode}
use Rattle.handset.specs.declared.Handset.{Handset}
use Rattle.handset.specs.Sound.{state_refusal}

-- "Refusals 4, 5 and 8 apply": 4 and 5 for the new mode with the handset's other settings, then 8. U9: between them 24, "two ports with
-- mode 1 (a mode change included)"; a handset whose own settings fail 24 is 8.
unfoldable pub change_refusal : Handset → ℕ → ℕ
change_refusal h mode = or_else (new_mode_refusal (in_mode h.settings mode)) (state_refusal h)

-- The new mode stands from now on. Nothing else moves: the modes of the subframes that were fed before stay too.
abbrev pub in_new_mode : Handset → ℕ → Handset
in_new_mode h mode = record { settings = in_mode h.settings mode; next = h.next; modes = h.modes; past = h.past }

-- What a change gives: the refusal, 0 for none, and the handset.
pub record Changed : Type 0 where
  pub refusal : ℕ
  pub handset : Handset

-- A refusal leaves the handset as it was.
abbrev pub changed_as : ℕ → Handset → ℕ → Changed
changed_as zero h mode = record { refusal = 0; handset = in_new_mode h mode }
changed_as (suc k) h mode = record { refusal = suc k; handset = h }

unfoldable pub change_of : Handset → ℕ → Changed
change_of h mode = changed_as (change_refusal h mode) h mode
