-- The modes that a handset remembers: document 02, U8 and U9. They stand in one number: bit i, counted from the lowest, which is 0, is
-- the mode that stood when the subframe i + 1 ago was fed. There are 13, one for each remembered subframe; the bits above them have no
-- meaning.
-- Assumes nothing.
use Rattle.std.specs.Prelude.{ℕ, ◌+◌, ◌-◌, ◌*◌, ◌/◌, ◌%◌, ◌^◌, ◌≤◌, Bool, cond, ◌||◌, ◌≡◌, eqb}
use Rattle.frame.specs.declared.Settings.{Settings}
use Rattle.frame.specs.Earliest.{earliest_k}
use Rattle.frame.specs.Settings.{new_mode_refusal, in_mode}

-- The mode that stood when the subframe k ago was fed, k from 1 to 13.
unfoldable pub mode_ago : ℕ → ℕ → ℕ
mode_ago modes k = modes / 2 ^ (k - 1) % 2

-- Before the start: the mode that the handset was made with, 13 times; 8191 is 13 bits of 1.
abbrev pub modes_before : ℕ → ℕ
modes_before mode = cond (eqb mode 1) 8191 0

-- A subframe was fed in this mode: it is the newest, and of the others the 12 newest stay, one place further up.
abbrev pub modes_pushed : ℕ → ℕ → ℕ
modes_pushed modes mode = modes % 4096 * 2 + mode

-- 8 covers the remembered modes: none of the 13 is 1, or the settings may have mode 1. That is: each is a mode that 4, 5
-- and 24 allow (ModesFit).
unfoldable pub modes_sound : Settings → ℕ → Bool
modes_sound s modes = eqb (modes % 8192) 0 || eqb (new_mode_refusal (in_mode s 1)) 0

abbrev pub ModesFit : Settings → ℕ → Type 0
ModesFit s modes = (k : ℕ) → 1 ≤ k → k ≤ 13 → new_mode_refusal (in_mode s (mode_ago modes k)) ≡ 0

-- Settings in the mode of the window of subframe n: U8, "the mode that stood when its earliest downlink subframe was fed".
abbrev pub in_window_mode : Settings → ℕ → ℕ → Settings
in_window_mode s n modes = in_mode s (mode_ago modes (earliest_k s.config n))
