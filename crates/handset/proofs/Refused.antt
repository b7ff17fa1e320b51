-- The handset beside a refusal of making: every feed of it is refused 8 and leaves it as it was (document 01, "Causes and their
-- numbers": "lent state fails 1 to 6"); and so is every change of its mode that 4 does not refuse (document 02, U8).
-- Assumes nothing.
use Rattle.std.proofs.Common.{Err}
use Prim.Native.Nat.{ℕ, zero, suc}
use mathlib.Core.Path.{◌≡◌, refl}
use borrow.Author.Tests.{ne_eqb}
use Rattle.frame.specs.declared.Settings.{Settings}
use Rattle.frame.specs.Settings.{or_else, cell_refusal, new_mode_refusal, settings_refusal, in_mode}
use Rattle.heard.specs.declared.Heard.{Heard}
use Rattle.handset.specs.Change.{change_refusal, changed_as, change_of}
use Rattle.handset.specs.Feed.{feed_refusal, feed_of}
use Rattle.handset.specs.Make.{fresh, no_settings, make_of}
use Rattle.handset.specs.Sound.{state_sound, state_refusal}

pub feed_refused : (x : Heard) → feed_of (fresh no_settings) x ≡ record { answer = Err 8; handset = fresh no_settings }
unfolding feed_of feed_refusal fresh state_refusal state_sound settings_refusal cell_refusal
feed_refused x = refl

pub change_refused : (mode : ℕ) → change_of (fresh no_settings) mode
    ≡ record { refusal = or_else (new_mode_refusal (in_mode no_settings mode)) 8; handset = fresh no_settings }
unfolding change_of change_refusal fresh state_refusal state_sound settings_refusal cell_refusal
change_refused mode = go (new_mode_refusal (in_mode no_settings mode))
  where
    go : (k : ℕ) → changed_as (or_else k 8) (fresh no_settings) mode ≡ record { refusal = or_else k 8; handset = fresh no_settings }
    go zero = refl
    go (suc k) = refl

-- So it is with whatever settings were refused.
pub made_refused : (s : Settings) → (settings_refusal s ≡ 0 → ⊥) → (x : Heard)
    → feed_of (make_of s).handset x ≡ record { answer = Err 8; handset = (make_of s).handset }
unfolding make_of
made_refused s refused x = rw (ne_eqb (settings_refusal s) 0 refused) (feed_refused x)
