-- The code's way to the definitions: what is kept of a reading, once what it names was found among what was sent.
-- Assumes nothing.
use Rattle.std.specs.Prelude.{Option, Some, None, ℕ, ◌/◌, ◌%◌, ◌^◌, Bool, cond, ◌&&◌, ◌||◌, List, eqb, leb, ltb, length, get_or, take}
use Rattle.std.specs.List.{list_all, zip}
use Rattle.std.specs.Option.{option_map}
use Rattle.frame.specs.declared.Settings.{Settings}
use Rattle.frame.specs.Distance.{before}
use Rattle.frame.specs.Order.{times_of}
use Rattle.frame.specs.Table.{window_of}
use Rattle.symbols.specs.Delivered.{set_of}
use Rattle.station.specs.declared.Place.{Place}
use Rattle.station.specs.declared.Place.TheVariants as place
use Rattle.station.specs.declared.Reading.{Reading}
use Rattle.station.specs.declared.Reading.TheVariants as reading
use Rattle.confirmation.specs.declared.Send.{Send}
use Rattle.confirmation.specs.Confirmed.{named_sent, sent_up_to, acknowledged}
use Rattle.confirmation.specs.Sent.{is_pdcch, blocks_of, as_heard}
use Rattle.heard.specs.Heard.{heard_refusal}
use Rattle.confirming.specs.declared.blocks.Acks.{Acks}
use Rattle.confirming.specs.declared.blocks.Acks.TheVariants as acks
use Rattle.confirming.specs.declared.blocks.Named.{Named}
use Rattle.confirming.specs.declared.blocks.Named.TheVariants as named
use Rattle.confirming.specs.declared.Sent.{Sent}
use Rattle.confirming.specs.declared.SentIn.{SentIn}
use Rattle.confirming.specs.Records.{send_of, sent_in}

-- K of a window.
abbrev pub k_in : SentIn → List ℕ
k_in w = window_of w.settings.config w.n

-- The records of its positions.
abbrev pub records_in : SentIn → List Sent
records_in w = take (length (k_in w)) w.sent.now.at

-- What was sent k before the reply.
abbrev pub send_in : SentIn → ℕ → Send
send_in w = sent_in (k_in w) w.sent.now

-- Position m is in the set, as a number with bit m for it.
abbrev pub in_set : ℕ → ℕ → Bool
in_set set m = eqb (set / 2 ^ m % 2) 1

-- A bundled ACK holds for x, sent k ago, by what it names: the PDCCH there, with whether at most four PDCCHs were sent up to and with
-- it, or the block there.
unfoldable pub holds_by : Named → ℕ → Send → Bool
holds_by (named.Pdcch at few) k x = is_pdcch x && (eqb k at || (few && leb at k))
holds_by (named.Block at) k x = eqb k at

-- What stands at a place.
abbrev pub named_at : List ℕ → (ℕ → Send) → Place → Named
named_at ks sent (place.Pdcch m c) = named.Pdcch (get_or ks m 0) (leb (sent_up_to sent (get_or ks m 0) (times_of ks)) 4)
named_at ks sent (place.Block m) = named.Block (get_or ks m 0)

-- The same, if it was sent.
unfoldable pub named_by : List ℕ → (ℕ → Send) → Place → Option Named
named_by ks sent place = cond (named_sent ks sent place) (Some (named_at ks sent place)) None

-- What a reading acknowledges, if what it names was sent.
unfoldable pub acks_of : List ℕ → (ℕ → Send) → Reading → Option Acks
acks_of ks sent (reading.Bundled place b0 b1) = option_map (λ (n : Named). acks.Bits n b0 b1) (named_by ks sent place)
acks_of ks sent (reading.Multiplexed place positions) = option_map (λ (n : Named). acks.Positions (record { 0 = positions })) (named_by ks sent place)

-- A block of x, sent k ago at position m, is confirmed: x carries it, and it is acknowledged.
unfoldable pub confirms_by : Acks → ℕ → ℕ → Send → ℕ → Bool
confirms_by (acks.Bits named b0 b1) k m x block = ltb block (blocks_of x) && (holds_by named k x && acknowledged x block b0 b1)
confirms_by (acks.Positions positions) k m x block = ltb block (blocks_of x) && in_set positions.0 m

-- The positions whose block is confirmed.
unfoldable pub confirmed_set : List ℕ → (ℕ → Send) → Acks → ℕ → ℕ
confirmed_set ks sent acks block = set_of (length ks) (λ (m : ℕ). confirms_by acks (get_or ks m 0) m (sent (get_or ks m 0)) block)

-- What was sent k before subframe n, as its record says it, is valid there by itself; k is 1 to 16, as in each window.
unfoldable pub valid_ago : Settings → ℕ → ℕ × Sent → Bool
valid_ago s n p = (ltb 0 p.0 && leb p.0 16) && eqb (heard_refusal s (before n p.0) (as_heard (send_of p.1))) 0

-- So is each record of a window.
abbrev pub all_valid : SentIn → Bool
all_valid w = list_all (valid_ago w.settings w.n) (zip (k_in w) (records_in w))
