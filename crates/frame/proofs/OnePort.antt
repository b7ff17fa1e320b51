-- Document 02, U9, moved no refusal of settings with one antenna port: 24 is not met, and a change of mode is refused by 4 and 5 alone.
-- Assumes nothing.
use Prim.Native.Nat.{ℕ, zero, suc}
use mathlib.Core.Bool.{and-false}
use mathlib.Core.Path.{◌≡◌, refl}
use lib.Dec.{eqb}
use Rattle.frame.specs.declared.Settings.{Settings}
use Rattle.frame.specs.Settings.{or_else, cell_refusal, mode_refusal, blocks_refusal, scheduled_refusal, has_second_port, ports_mode_refusal, ports_refusal, later_refusal, settings_refusal, new_mode_refusal}
use Rattle.frame.specs.Special.{special_refusal}

nothing_more : (k : ℕ) → or_else k 0 ≡ k
nothing_more zero = refl
nothing_more (suc k) = refl

module _ (s : Settings) (one : s.ports ≡ 1) where
  mode_fine : ports_mode_refusal s ≡ 0
  unfolding ports_mode_refusal has_second_port
  mode_fine = rw (one, and-false (eqb s.mode 1))

  pub ports_fine : ports_refusal s ≡ 0
  unfolding ports_refusal has_second_port
  ports_fine = rw mode_fine (rw one)

  pub settings_same : settings_refusal s
      ≡ or_else (cell_refusal s) (or_else (mode_refusal s) (or_else (blocks_refusal s) (or_else (scheduled_refusal s) (special_refusal s))))
  unfolding settings_refusal later_refusal
  settings_same = rw (ports_fine, nothing_more (special_refusal s))

  pub change_same : new_mode_refusal s ≡ mode_refusal s
  unfolding new_mode_refusal
  change_same = rw (mode_fine, nothing_more (mode_refusal s))
