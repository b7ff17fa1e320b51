-- What a scheduler may conclude from a reading, in every run of demand 3: what include/feedback.h says at feedback_reading. And that no
-- cleverer reading could conclude more from a multiplexed reply: document 02, U7.
-- Assumes nothing.
use Rattle.std.specs.Prelude.{Result, Ok, ℕ, ◌/◌, ◌%◌, ◌^◌, ◌<◌, Bool, true, false, cond, ◌&&◌, List, ◌≡◌, eqb, ltb, length, get_or}
use Rattle.frame.specs.declared.Settings.{Settings}
use Rattle.frame.specs.Settings.{settings_refusal}
use Rattle.resource.specs.declared.Cce.{Cce}
use Rattle.station.specs.declared.Place.{Place}
use Rattle.station.specs.declared.Place.TheVariants as place
use Rattle.station.specs.declared.Reading.{Reading}
use Rattle.station.specs.declared.Reading.TheVariants as reading
use Rattle.station.specs.Readings.{place_position}
use Rattle.limit.specs.Rules.{Positions, Rule, Sound}
use Rattle.confirmation.specs.declared.Send.{Send}
use Rattle.confirmation.specs.Confirmed.{speaks_for, confirmed}
use Rattle.confirmation.specs.Sent.{is_sent}
use Rattle.heard.specs.declared.Heard.{Heard}
use Rattle.heard.specs.declared.Heard.TheVariants.{Nothing, Granted, Scheduled, Released}
use Rattle.heard.specs.Heard.{is_block}
use Rattle.reply.specs.declared.Answer.TheVariants as answer
use Rattle.reply.specs.declared.Reply.{Reply}
use Rattle.agreement.specs.Demand3.{Engine, fed_at, reading_in, IsSubframe}
use Rattle.agreement.specs.Run.{Item, heard_in_run, sent_ago, heard_ago, window_at, settings_in, Schedule, BringsSent}
use Rattle.agreement.specs.Window.{is_heard, is_pdcch}

-- A run of demand 3 whose uplink subframe s was fed and answered with the reply r.
pub record Replied (e : Engine) (set : Settings) (sent : ℕ → Send) (items : List Item) (s : ℕ) (r : Reply) : Type 0 where
  pub accepted : settings_refusal set ≡ 0
  pub schedule : Schedule set sent
  pub brings : BringsSent set sent items
  pub item : ℕ
  pub brought : Heard
  pub subframe : IsSubframe set items item s brought
  pub answered : (fed_at e set items item brought).answer ≡ Ok (answer.Sent r)

-- The station's reading of it, in the window's own mode.
abbrev pub reading_at : Engine → Settings → (ℕ → Send) → List Item → ℕ → Reply → Result Reading ℕ
reading_at e set sent items s r = reading_in e (settings_in set items s) sent s r.resource.0 r.b0 r.b1

-- What was heard at position m of the window of s.
abbrev pub heard_there : Settings → List Item → ℕ → ℕ → Heard
heard_there set items s m = heard_ago (heard_in_run set items) s (get_or (window_at set s) m 0)

-- The positions of the window of s at which something was sent.
abbrev pub sent_there : Settings → (ℕ → Send) → ℕ → Positions
sent_there set sent s m = ltb m (length (window_at set s)) && is_sent (sent_ago sent s (get_or (window_at set s) m 0))

-- What was heard carries the block and decoded it; block 0 is the first or only one, block 1 the second. A release carries none.
abbrev pub decoded_block : Heard → ℕ → Bool
decoded_block Nothing block = false
decoded_block (Granted g) block = ltb block g.blocks && cond (eqb block 0) g.first g.second
decoded_block (Scheduled b) block = ltb block b.blocks && cond (eqb block 0) b.first b.second
decoded_block (Released p) block = false

pub record Conclusions (e : Engine) : Type 0 where
  -- Each block that the reading confirms, from what was sent alone (confirmation/specs/Confirmed.antt), was heard and decoded.
  pub confirmed_decoded : (set : Settings) (sent : ℕ → Send) (items : List Item) (s : ℕ) (r : Reply) → Replied e set sent items s r
      → (m block : ℕ) → confirmed (window_at set s) (sent_ago sent s) (reading_at e set sent items s r) m block ≡ true
      → decoded_block (heard_there set items s m) block ≡ true
  -- "if at most four PDCCHs of the window were sent up to and with the one named here, all of these were heard", ACK or NACK; the
  -- one named was heard in any case
  pub heard_up_to : (set : Settings) (sent : ℕ → Send) (items : List Item) (s : ℕ) (r : Reply) → Replied e set sent items s r
      → (named : ℕ) (c : Cce) (b0 b1 : ℕ) → reading_at e set sent items s r ≡ Ok (reading.Bundled (place.Pdcch named c) b0 b1)
      → (m : ℕ) → m < length (window_at set s)
      → speaks_for (window_at set s) (sent_ago sent s) (get_or (window_at set s) named 0) (get_or (window_at set s) m 0) ≡ true
      → is_heard (heard_there set items s m) ≡ true
  -- "PDCCHs sent after it were lost."
  pub lost_after : (set : Settings) (sent : ℕ → Send) (items : List Item) (s : ℕ) (r : Reply) → Replied e set sent items s r
      → (named : ℕ) (c : Cce) (b0 b1 : ℕ) → reading_at e set sent items s r ≡ Ok (reading.Bundled (place.Pdcch named c) b0 b1)
      → (m : ℕ) → m < length (window_at set s) → get_or (window_at set s) m 0 < get_or (window_at set s) named 0
      → is_pdcch (heard_there set items s m) ≡ false
  -- Read as the scheduled block: that block was heard, ACK or NACK, and every PDCCH of the window was lost.
  pub block_heard : (set : Settings) (sent : ℕ → Send) (items : List Item) (s : ℕ) (r : Reply) → Replied e set sent items s r
      → (named b0 b1 : ℕ) → reading_at e set sent items s r ≡ Ok (reading.Bundled (place.Block named) b0 b1)
      → is_block (heard_there set items s named) ≡ true
  pub none_heard : (set : Settings) (sent : ℕ → Send) (items : List Item) (s : ℕ) (r : Reply) → Replied e set sent items s r
      → (named b0 b1 : ℕ) → reading_at e set sent items s r ≡ Ok (reading.Bundled (place.Block named) b0 b1)
      → (m : ℕ) → m < length (window_at set s) → is_pdcch (heard_there set items s m) ≡ false
  -- A multiplexed reading: what was sent at each delivered position was heard, a release too.
  pub delivered_heard : (set : Settings) (sent : ℕ → Send) (items : List Item) (s : ℕ) (r : Reply) → Replied e set sent items s r
      → (named : Place) (positions : ℕ) → reading_at e set sent items s r ≡ Ok (reading.Multiplexed named positions)
      → (m : ℕ) → m < length (window_at set s) → positions / 2 ^ m % 2 ≡ 1
      → is_heard (heard_there set items s m) ≡ true
  -- 02, U7: a rule that knows M, at which positions something was sent, and the reply's index and bits, and that is sound there
  -- (limit/specs/Rules.antt), names only positions that the reading delivers.
  pub names_no_more : (set : Settings) (sent : ℕ → Send) (items : List Item) (s : ℕ) (r : Reply) → Replied e set sent items s r
      → (named : Place) (positions : ℕ) → reading_at e set sent items s r ≡ Ok (reading.Multiplexed named positions)
      → (rule : Rule) → Sound rule (length (window_at set s)) (sent_there set sent s) (place_position named) r.b0 r.b1
      → (m : ℕ) → rule (length (window_at set s)) (sent_there set sent s) (place_position named) r.b0 r.b1 m ≡ true
      → positions / 2 ^ m % 2 ≡ 1
