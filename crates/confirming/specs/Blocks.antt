-- Which blocks of a sent window a reply confirms, as a call: document 02, U10, "confirmed data". The definition behind it is `confirmed`
-- (confirmation/specs/Confirmed.antt), of which agreement/proofs/Conclusions.antt proves that each confirmed block was decoded.
-- Assumes nothing.
use Rattle.std.specs.Prelude.{Result, Ok, Err, Option, ℕ, Bool, List, length}
use Rattle.frame.specs.declared.Settings.{Settings}
use Rattle.frame.specs.declared.refusal.Refusal.{Refusal}
use Rattle.frame.specs.Refusals.{number_of, unless_refused, refused_or, number_in}
use Rattle.frame.specs.Table.{window_of}
use Rattle.symbols.specs.Delivered.{set_of}
use Rattle.station.specs.declared.Reading.{Reading}
use Rattle.station.specs.Readings.{read_of}
use Rattle.confirmation.specs.declared.Send.{Send}
use Rattle.confirmation.specs.Confirmed.{confirmed}
use Rattle.confirmation.specs.Sent.{told_of}
use Rattle.confirming.specs.declared.blocks.Blocks.{Blocks}
use Rattle.confirming.specs.declared.SentWindow.{SentWindow}
use Rattle.confirming.specs.Records.{sent_in}
use Rattle.confirming.specs.Refusals.{call_refusal}

-- The refusal, 0 for none, and the confirmed blocks as sets of positions, bit m for position m: the first block there or the only one,
-- and the second.
pub record Confirmed : Type 0 where
  pub refusal : ℕ
  pub first : ℕ
  pub second : ℕ

-- What a result of the code is in these terms; beside a refusal there are no blocks.
abbrev pub confirmed_as : Result Blocks Refusal → Confirmed
confirmed_as (Ok blocks) = record { refusal = 0; first = blocks.first.0; second = blocks.second.0 }
confirmed_as (Err r) = record { refusal = number_of r; first = 0; second = 0 }

-- Blocks as sets of positions, bit p for position p: the first block at each position, or the only one, and the second.
abbrev pub blocks_as : ℕ → ℕ → (ℕ → ℕ → Bool) → Confirmed
blocks_as refusal size f = record { refusal = refusal; first = set_of size (λ (m : ℕ). f m 0); second = set_of size (λ (m : ℕ). f m 1) }

-- The blocks that a reading confirms, in the window with K = ks; none where it is refused.
unfoldable pub confirmed_by : List ℕ → (ℕ → Send) → Result Reading ℕ → Confirmed
confirmed_by ks sent reading = blocks_as (number_in reading) (length ks) (confirmed ks sent reading)

-- What is refused before the reply is looked at, and where it is nothing the position that the reading is told: that of the block sent.
unfoldable pub checked_of : Settings → ℕ → SentWindow → Result (Option ℕ) ℕ
checked_of s n w =
    let ks : List ℕ = window_of s.config n in
    unless_refused (call_refusal s n w) (told_of ks (sent_in ks w))

-- The reading of the reply to a sent window: its refusals, then 13 and 14.
unfoldable pub read_sent : Settings → ℕ → SentWindow → ℕ → ℕ → ℕ → Result Reading ℕ
read_sent s n w r b0 b1 =
    let ks : List ℕ = window_of s.config n in
    refused_or (call_refusal s n w) (read_of s n (told_of ks (sent_in ks w)) r b0 b1)

-- The confirmed blocks of a sent window, from the reply on resource r with the bits b0 and b1.
unfoldable pub confirmed_of : Settings → ℕ → SentWindow → ℕ → ℕ → ℕ → Confirmed
confirmed_of s n w r b0 b1 =
    let ks : List ℕ = window_of s.config n in
    confirmed_by ks (sent_in ks w) (read_sent s n w r b0 b1)
