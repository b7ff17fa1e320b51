-- What the call refuses, and which blocks it confirms, in words, with no word of how it is found: document 01, "Causes and their
-- numbers"; document 02, U1, U2 and U10. proofs/Exactly.antt and proofs/Answers.antt show that the definitions are exactly this.
-- Assumes nothing.
use Rattle.std.specs.Prelude.{Result, ℕ, ◌/◌, ◌%◌, ◌^◌, ◌<◌, ◌≤◌, true, ◌⊎◌, ◌↔◌, ◌≡◌}
use Rattle.frame.specs.declared.Settings.{Settings}
use Rattle.frame.specs.Distance.{subframe_of}
use Rattle.frame.specs.Refusals.{number_in}
use Rattle.frame.specs.Settings.{window_refusal}
use Rattle.frame.specs.Special.{too_short}
use Rattle.frame.specs.Table.{window_of}
use Rattle.heard.specs.Heard.{heard_refusal, is_data}
use Rattle.resource.specs.Calls.{size_of}
use Rattle.station.specs.declared.Reading.{Reading}
use Rattle.station.specs.Readings.{told_refusal, read_of}
use Rattle.confirmation.specs.declared.Send.{Send}
use Rattle.confirmation.specs.Confirmed.{confirmed}
use Rattle.confirmation.specs.Sent.{is_block, as_heard, told_of}
use Rattle.confirming.specs.Blocks.{Confirmed}
use Rattle.confirming.specs.declared.SentWindow.{SentWindow}
use Rattle.confirming.specs.Blocks.{confirmed_of}
use Rattle.confirming.specs.Records.{send_of, record_at, sent_in}
use Rattle.confirming.specs.Refusals.{rank_of, call_refusal}

-- What the record at position m says was sent.
abbrev pub send_at : Settings → ℕ → SentWindow → ℕ → Send
send_at s n w m = send_of (record_at (size_of s n) w m)

-- The refusal of what was sent at position m, in its subframe, 01's n − k_m; 0 where it is valid there.
abbrev pub refusal_at : Settings → ℕ → SentWindow → ℕ → ℕ
refusal_at s n w m = heard_refusal s (subframe_of s.config n m) (as_heard (send_at s n w m))

-- Some position is refused k.
pub record SomeRefused (s : Settings) (n : ℕ) (w : SentWindow) (k : ℕ) : Type 0 where
  pub position : ℕ
  pub inside : position < size_of s n
  pub refused : refusal_at s n w position ≡ k

-- "Lowest number first", which is about the call: some position is refused k, and none is refused for a cause that comes before it.
pub record FirstRefused (s : Settings) (n : ℕ) (w : SentWindow) (k : ℕ) : Type 0 where
  pub some : SomeRefused s n w k
  pub first : (m : ℕ) → m < size_of s n → rank_of k ≤ rank_of (refusal_at s n w m)

-- 20: "a data grant or scheduled block in such a subframe", one too short for data, at some position.
pub record DataTooShort (s : Settings) (n : ℕ) (w : SentWindow) : Type 0 where
  pub position : ℕ
  pub inside : position < size_of s n
  pub carries : is_data (as_heard (send_at s n w position)) ≡ true
  pub short : too_short s (subframe_of s.config n position) ≡ true

-- 18: "a second scheduled block in one window": two positions have one.
pub record SecondBlock (s : Settings) (n : ℕ) (w : SentWindow) : Type 0 where
  pub one : ℕ
  pub other : ℕ
  pub apart : one < other
  pub inside : other < size_of s n
  pub one_block : is_block (send_at s n w one) ≡ true
  pub other_block : is_block (send_at s n w other) ≡ true

-- What the call refuses before it looks at the reply: settings and subframe as everywhere, then what was sent, by the order of the causes
-- over all positions of the window.
pub record CallRefused (s : Settings) (n : ℕ) (w : SentWindow) : Type 0 where
  pub settings : (window_refusal s n ≡ 0 → ⊥) → call_refusal s n w ≡ window_refusal s n
  -- nothing is refused exactly if what was sent is valid at every position, and no second scheduled block is among it
  pub none : window_refusal s n ≡ 0
      → (call_refusal s n w ≡ 0) ↔ (((m : ℕ) → m < size_of s n → refusal_at s n w m ≡ 0) × (SecondBlock s n w → ⊥))
  -- any number but 18 is answered exactly if it is the first over all positions
  pub first : window_refusal s n ≡ 0 → (k : ℕ) → (k ≡ 0 → ⊥) → (k ≡ 18 → ⊥) → (call_refusal s n w ≡ k) ↔ FirstRefused s n w k
  -- 18 comes last: exactly if no position is refused with another number, and one is refused 18 or a second block was sent
  pub eighteen : window_refusal s n ≡ 0
      → (call_refusal s n w ≡ 18)
      ↔ (((m : ℕ) → m < size_of s n → (refusal_at s n w m ≡ 0) ⊎ (refusal_at s n w m ≡ 18)) × (SomeRefused s n w 18 ⊎ SecondBlock s n w))
  -- 20 comes first of what is looked for in what was sent: whatever else is met
  pub twenty : window_refusal s n ≡ 0 → (call_refusal s n w ≡ 20) ↔ DataTooShort s n w
  -- 9 is never met: every subframe of a window is downlink
  pub nine : call_refusal s n w ≡ 9 → ⊥
  -- where nothing is refused, neither is the position that the reading is told
  pub told : call_refusal s n w ≡ 0 → told_refusal s n (told_of (window_of s.config n) (sent_in (window_of s.config n) w)) ≡ 0

-- The reading of the reply on resource r with the bits b0 and b1, told the scheduled position that was sent.
abbrev pub reply_read : Settings → ℕ → SentWindow → ℕ → ℕ → ℕ → Result Reading ℕ
reply_read s n w r b0 b1 = read_of s n (told_of (window_of s.config n) (sent_in (window_of s.config n) w)) r b0 b1

-- The set has bit m exactly for the positions m of the window whose block that reading confirms.
abbrev pub HasConfirmed : ℕ → Settings → ℕ → SentWindow → Result Reading ℕ → ℕ → Type 0
HasConfirmed set s n w reading block =
    (m : ℕ)
    → (set / 2 ^ m % 2 ≡ 1)
    ↔ ((m < size_of s n) × (confirmed (window_of s.config n) (sent_in (window_of s.config n) w) reading m block ≡ true))

-- What the call answers.
pub record BlocksConfirmed (s : Settings) (n : ℕ) (w : SentWindow) (r b0 b1 : ℕ) (answer : Confirmed) : Type 0 where
  -- first what is refused before the reply is looked at, then what the reading refuses, of which 13 and 14 are left
  pub refused : (call_refusal s n w ≡ 0 → ⊥) → answer.refusal ≡ call_refusal s n w
  pub reading : call_refusal s n w ≡ 0 → answer.refusal ≡ number_in (reply_read s n w r b0 b1)
  pub left : call_refusal s n w ≡ 0 → (answer.refusal ≡ 0) ⊎ ((answer.refusal ≡ 13) ⊎ (answer.refusal ≡ 14))
  -- the blocks that the reading confirms, and none beside a refusal
  pub first_blocks : answer.refusal ≡ 0 → HasConfirmed answer.first s n w (reply_read s n w r b0 b1) 0
  pub second_blocks : answer.refusal ≡ 0 → HasConfirmed answer.second s n w (reply_read s n w r b0 b1) 1
  pub first_below : answer.first < 2 ^ size_of s n
  pub second_below : answer.second < 2 ^ size_of s n
  pub nothing : (answer.refusal ≡ 0 → ⊥) → (answer.first ≡ 0) × (answer.second ≡ 0)
  -- neither the records from M on, nor fields that a record's kind has not, nor sizes are looked at
  pub same : (v : SentWindow) → ((m : ℕ) → m < size_of s n → send_at s n w m ≡ send_at s n v m) → answer ≡ confirmed_of s n v r b0 b1
