-- The verdict that a scheduler acts on, in the runs of demand 3: what feedback_confirmed answers to a station that gives it the records of
-- what it sent in a window and the reply that came. Document 00: "A block called delivered leaves my retransmission buffer."
-- Assumes nothing.
use Rattle.std.specs.Prelude.{ℕ, ◌/◌, ◌%◌, ◌^◌, ◌<◌, true, ◌↔◌, ◌≡◌}
use Rattle.frame.specs.declared.Settings.{Settings}
use Rattle.confirmation.specs.Confirmed.{confirmed}
use Rattle.confirming.specs.Blocks.{Confirmed}
use Rattle.confirming.specs.declared.SentWindow.{SentWindow}
use Rattle.agreement.specs.Confirmation.{reading_at}
use Rattle.agreement.specs.Demand3.{Engine}
use Rattle.agreement.specs.Run.{sent_ago, window_at, settings_in}
use Rattle.billing.specs.Billing.{Billable, size, decoded_there}

-- A confirming call: settings, n, the sent window, the reply's resource and bits.
abbrev pub Confirming : Type 0
Confirming = Settings → ℕ → SentWindow → ℕ → ℕ → ℕ → Confirmed

module _ {e : Engine} (b : Billable e) where
  -- The call with the settings in the window's own mode, n = s mod 10, and the reply's own resource and bits.
  abbrev pub confirm_at : Confirming → Confirmed
  confirm_at confirm = confirm (settings_in b.set b.items b.s) (b.s % 10) b.w b.r.resource.0 b.r.b0 b.r.b1

  -- A set of positions, bit m for position m, has exactly those whose block the station's reading of the reply confirms, from what the
  -- schedule sent.
  abbrev pub IsConfirmed : ℕ → ℕ → Type 0
  IsConfirmed set block =
      (m : ℕ)
      → (set / 2 ^ m % 2 ≡ 1)
      ↔ ((m < size b)
      × (confirmed (window_at b.set b.s) (sent_ago b.sent b.s) (reading_at e b.set b.sent b.items b.s b.r) m block ≡ true))

  -- Each block of the set was heard and decoded by the handset.
  abbrev pub WasDecoded : ℕ → ℕ → Type 0
  WasDecoded set block = (m : ℕ) → set / 2 ^ m % 2 ≡ 1 → decoded_there b m block ≡ true

  pub record Verdict (c : Confirmed) : Type 0 where
    -- a truthful station is not refused
    pub accepted : c.refusal ≡ 0
    pub first : IsConfirmed c.first 0
    pub second : IsConfirmed c.second 1
    pub first_decoded : WasDecoded c.first 0
    pub second_decoded : WasDecoded c.second 1

-- Of every reply of every run.
abbrev pub Judged : Engine → Confirming → Type 0
Judged e confirm = (b : Billable e) → Verdict b (confirm_at b confirm)
