-- What is credited and what is refused, in 02's words: proofs/Exactly.antt and proofs/Answers.antt show that the definitions are exactly
-- this. And the law over any list of credits: proofs/Lists.antt.
-- Assumes nothing.
use Rattle.std.specs.Prelude.{Result, Ok, ℕ, ◌+◌, ◌<◌, ◌≤◌, true, List, ◌⊎◌, ◌↔◌, ◌≡◌, length, get_or}
use Rattle.frame.specs.declared.Settings.{Settings}
use Rattle.frame.specs.Order.{times_of}
use Rattle.frame.specs.Refusals.{number_in}
use Rattle.frame.specs.Table.{window_of}
use Rattle.resource.specs.Calls.{size_of}
use Rattle.station.specs.declared.Place.{Place}
use Rattle.station.specs.declared.Place.TheVariants as place
use Rattle.station.specs.declared.Reading.{Reading}
use Rattle.station.specs.declared.Reading.TheVariants as reading
use Rattle.confirmation.specs.declared.Send.{Send}
use Rattle.confirmation.specs.Confirmed.{sent_up_to, confirmed}
use Rattle.confirmation.specs.Exactly.{WasSent, MultiplexedConfirmed}
use Rattle.confirmation.specs.Sent.{is_pdcch, blocks_of}
use Rattle.confirming.specs.declared.SentWindow.{SentWindow}
use Rattle.confirming.specs.Exactly.{send_at, reply_read}
use Rattle.confirming.specs.Records.{record_at}
use Rattle.confirming.specs.Refusals.{call_refusal}
use Rattle.account.specs.declared.Account.{Account}
use Rattle.account.specs.Credits.{Credited, Charged}
use Rattle.account.specs.Laws.{InOrder, Grown}
use Rattle.credit.specs.Credit.{credited, itbs_of, nprb_of, credited_octets, credit_of}

-- The block's own bit: bit 0 for "that block" where it is the first, "a sole block being the first", bit 1 for the second.
abbrev pub OwnBit : ℕ → ℕ → ℕ → Type 0
OwnBit block b0 b1 = (block ≡ 0 → b0 ≡ 1) × ((block ≡ 0 → ⊥) → b1 ≡ 1)

-- "A bundled ACK credits that block in every grant up to the last heard one if those, releases counted, are at most four, else in that
-- one only": the last heard one is what the reply is read as; "both only what was granted", "and nothing if what they are read as
-- wasn't sent". "A scheduled block isn't counted": it is no PDCCH.
pub record BundledCredited (ks : List ℕ) (sent : ℕ → Send) (named c b0 b1 m block : ℕ) : Type 0 where
  pub there : WasSent ks sent (place.Pdcch named (record { 0 = c }))
  pub inside : m < length ks
  pub pdcch : is_pdcch (sent (get_or ks m 0)) ≡ true
  pub carries : block < blocks_of (sent (get_or ks m 0))
  pub up_to : (get_or ks m 0 ≡ get_or ks named 0) ⊎ ((sent_up_to sent (get_or ks named 0) (times_of ks) ≤ 4) × (get_or ks named 0 ≤ get_or ks m 0))
  pub bit : OwnBit block b0 b1

-- "a bundled reading credits [a scheduled block] only if read as that block".
pub record BlockCredited (ks : List ℕ) (sent : ℕ → Send) (named b0 b1 m block : ℕ) : Type 0 where
  pub there : WasSent ks sent (place.Block named)
  pub inside : m < length ks
  pub same : get_or ks m 0 ≡ get_or ks named 0
  pub carries : block < blocks_of (sent (get_or ks m 0))
  pub bit : OwnBit block b0 b1

-- What a reading of a window of at most two blocks to a grant credits, both ways; what is credited is confirmed.
pub record CreditedExactly (ks : List ℕ) (sent : ℕ → Send) : Type 0 where
  pub bundled : (named c b0 b1 m block : ℕ) → blocks_of (sent (get_or ks m 0)) ≤ 2
      → (credited ks sent (Ok (reading.Bundled (place.Pdcch named (record { 0 = c })) b0 b1)) m block ≡ true) ↔ BundledCredited ks sent named c b0 b1 m block
  pub block : (named b0 b1 m block : ℕ) → blocks_of (sent (get_or ks m 0)) ≤ 2
      → (credited ks sent (Ok (reading.Bundled (place.Block named) b0 b1)) m block ≡ true) ↔ BlockCredited ks sent named b0 b1 m block
  -- "a multiplexed reading credits its positions": what it confirms
  pub multiplexed : (named : Place) (positions m block : ℕ)
      → (credited ks sent (Ok (reading.Multiplexed named positions)) m block ≡ true) ↔ MultiplexedConfirmed ks sent named positions m block
  pub is_confirmed : (read : Result Reading ℕ) (m block : ℕ) → credited ks sent read m block ≡ true → confirmed ks sent read m block ≡ true

-- "a size index or width of any block sent in the window .. out of range": a block that the record at a position of the window carries.
abbrev pub SizeOut : ℕ → SentWindow → Type 0
SizeOut size w =
    (m block : ℕ) × (m < size) × (block ≤ 1) × (block < (record_at size w m).blocks)
    × ((26 < itbs_of (record_at size w m) block) ⊎ (nprb_of (record_at size w m) block < 1) ⊎ (110 < nprb_of (record_at size w m) block))

-- Two windows say the same: at each position the same was sent, with the same sizes of the blocks that it carries.
abbrev pub SaySame : Settings → ℕ → SentWindow → SentWindow → Type 0
SaySame s n w v =
    (m : ℕ) → m < size_of s n
    → (send_at s n w m ≡ send_at s n v m)
    × ((block : ℕ) → block < blocks_of (send_at s n w m)
    → (itbs_of (record_at (size_of s n) w m) block ≡ itbs_of (record_at (size_of s n) v m) block)
    × (nprb_of (record_at (size_of s n) w m) block ≡ nprb_of (record_at (size_of s n) v m) block))

-- What one call answers.
pub record CreditAnswers (s : Settings) (n : ℕ) (w : SentWindow) (r b0 b1 : ℕ) (a : Account) : Type 0 where
  -- what is refused for settings, subframe and what was sent comes first
  pub sent : (call_refusal s n w ≡ 0 → ⊥) → (credit_of s n w r b0 b1 a).refusal ≡ call_refusal s n w
  -- "25, after 18, is a size index or width of any block sent in the window, or a price, out of range, or an account off that equation
  -- or its carry's bound"
  pub charge : call_refusal s n w ≡ 0
      → ((credit_of s n w r b0 b1 a).refusal ≡ 25) ↔ (SizeOut (length (window_of s.config n)) w ⊎ (InOrder a → ⊥))
  -- then the reading's own, 13 and 14
  pub reply : call_refusal s n w ≡ 0 → (SizeOut (length (window_of s.config n)) w → ⊥) → InOrder a
      → (number_in (reply_read s n w r b0 b1) ≡ 0 → ⊥)
      → (credit_of s n w r b0 b1 a).refusal ≡ number_in (reply_read s n w r b0 b1)
  -- "26, after 25, a total that would pass 1,000,000,000,000 octets", where the reading answers; else the credit
  pub total : call_refusal s n w ≡ 0 → (SizeOut (length (window_of s.config n)) w → ⊥) → InOrder a
      → number_in (reply_read s n w r b0 b1) ≡ 0
      → let octets : ℕ = credited_octets s.config n w (reply_read s n w r b0 b1) in
      (((credit_of s n w r b0 b1 a).refusal ≡ 26) ↔ (1000000000000 < a.octets + octets))
      × (a.octets + octets ≤ 1000000000000
      → ((credit_of s n w r b0 b1 a).refusal ≡ 0) × ((credit_of s n w r b0 b1 a).octets ≡ octets) × Grown a octets (credit_of s n w r b0 b1 a).account)
  -- a refusal credits nothing and leaves the account
  pub leaves : ((credit_of s n w r b0 b1 a).refusal ≡ 0 → ⊥) → ((credit_of s n w r b0 b1 a).octets ≡ 0) × ((credit_of s n w r b0 b1 a).account ≡ a)
  -- neither the records from M on, nor fields that a record's kind has not, nor sizes of blocks that it does not carry are looked at
  pub same : (v : SentWindow) → SaySame s n w v → credit_of s n w r b0 b1 a ≡ credit_of s n v r b0 b1 a

-- A call without its account: settings, n, what was sent, resource and bits.
pub record Call : Type 0 where
  pub settings : Settings
  pub n : ℕ
  pub sent : SentWindow
  pub resource : ℕ
  pub b0 : ℕ
  pub b1 : ℕ

-- Its answer on an account, for the law over any list of credits (account/specs/Credits.antt).
abbrev pub answer_of : Call → Account → Credited
answer_of c a = credit_of c.settings c.n c.sent c.resource c.b0 c.b1 a

-- "Over any list of credits from a new account, octets × price = 1,000,000 × charged + carry, the carry below 1,000,000 and the octets
-- those of the list's credits not refused." The price is "0 to 1,000,000".
abbrev pub CreditsCharged : Type 0
CreditsCharged = (price : ℕ) → price ≤ 1000000 → (cs : List Call) → Charged answer_of price cs
