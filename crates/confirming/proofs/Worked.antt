-- Calls on numbers, in cells of 50 resource blocks with N1 = 10, of two blocks and with the scheduled resource 3.
-- Assumes nothing.
use Prim.Native.Nat.{ℕ}
use mathlib.Core.List.{[], ◌∷◌}
use mathlib.Core.Path.{◌≡◌, refl}
use Rattle.frame.specs.declared.Settings.{Settings}
use Rattle.frame.specs.Layout.{layouts, letter_of, downlink, is_special}
use Rattle.frame.specs.Order.{times_of}
use Rattle.frame.specs.Settings.{bundles, cell_refusal, mode_refusal, blocks_refusal, has_scheduled, scheduled_refusal, has_second_port, ports_mode_refusal, ports_refusal, later_refusal, settings_refusal, no_window_refusal, window_refusal}
use Rattle.frame.specs.Special.{special_refusal, no_pdsch, too_short}
use Rattle.frame.specs.Distance.{subframe_of}
use Rattle.frame.specs.Table.{table, window_of}
use Rattle.heard.specs.Heard.{uplink_refusal, short_refusal, data_refusal, carried_refusal, pdcch_refusal, unset_refusal, heard_refusal}
use Rattle.resource.specs.Calls.{range_refusal, inverse_of}
use Rattle.resource.specs.Formula.{edge, region_of, region_back, position_back, cce_back}
use Rattle.symbols.specs.Delivered.{in_some_row, delivered_at, delivered_set, delivery_of}
use Rattle.symbols.specs.Selection.{table2, table_of, symbol_of}
use Rattle.station.specs.Readings.{bad_bits, bundled_reading, multiplexed_reading, read_at, dynamic_reading, told_refusal, read_on, read_of}
use Rattle.confirmation.specs.Confirmed.{confirmed}
use Rattle.confirming.specs.Blocks.{Confirmed}
use Rattle.confirming.specs.declared.Sent.{Sent}
use Rattle.confirming.specs.declared.SentWindow.{SentWindow}
use Rattle.confirming.specs.Blocks.{confirmed_by, read_sent, confirmed_of}
use Rattle.confirming.specs.Records.{nothing_sent, send_of}
use Rattle.confirming.specs.Refusals.{rank_of, earlier, lowest, blocks_sent, sent_refusal, call_refusal}

abbrev cell : ℕ → ℕ → ℕ → Settings
cell config mode special =
    record { config = config; nrb = 50; n1 = 10; mode = mode; blocks = 2; scheduled = 3; prefix = 0; special = special; ports = 1 }

abbrev sent : ℕ → ℕ → ℕ → ℕ → Sent
sent signalled blocks cce dai =
    record { signalled = signalled; blocks = blocks; cce = record { 0 = cce }; dai = dai; itbs0 = 0; nprb0 = 0; itbs1 = 0; nprb1 = 0 }

-- A grant of two blocks, a release and a scheduled block of two.
abbrev grant : ℕ → Sent
grant cce = sent 1 2 cce 1

abbrev release : ℕ → Sent
release cce = sent 1 0 cce 1

abbrev block : Sent
block = sent 0 2 0 0

-- Configuration 5, n = 2: positions 0 to 8 are 13, 12, 9, 8, 7, 5, 4, 11 and 6 ago, so that position 7 is the third in time. Grants with
-- the position as first CCE, but for what is sent at positions 0, 1, 3, 7 and 8.
abbrev with : Sent → Sent → Sent → Sent → Sent → SentWindow
with at0 at1 at3 at7 at8 = record { at = at0 ∷ at1 ∷ grant 2 ∷ at3 ∷ grant 4 ∷ grant 5 ∷ grant 6 ∷ at7 ∷ at8 ∷ [] }

abbrev nine : SentWindow
nine = with (grant 0) (grant 1) (grant 3) (grant 7) (grant 8)

-- The reply on the resource of position 2 and first CCE 2, which is 9 ago and the fourth in time, and on that of position 3 and 3, 8 ago.
abbrev fourth : ℕ
fourth = 34

abbrev fifth : ℕ
fifth = 46

-- Configuration 1, n = 2, of two positions: a grant at each, and a record after them that says nothing valid.
abbrev two : Sent → SentWindow
two at0 = record { at = at0 ∷ grant 1 ∷ sent 1 3 99 0 ∷ nothing_sent ∷ nothing_sent ∷ nothing_sent ∷ nothing_sent ∷ nothing_sent ∷ nothing_sent ∷ [] }

abbrev blocks : ℕ → ℕ → Confirmed
blocks first second = record { refusal = 0; first = first; second = second }

abbrev refused : ℕ → Confirmed
refused k = record { refusal = k; first = 0; second = 0 }

record Worked : Type 0 where
  pub accepted : window_refusal (cell 5 0 1) 2 ≡ 0
  -- up to and with the fourth: positions 0, 1, 7 and 2, and of them the blocks whose bit is set; with the fifth that one alone
  pub four : confirmed_of (cell 5 0 1) 2 nine fourth 1 1 ≡ blocks 135 135
  pub one : confirmed_of (cell 5 0 1) 2 nine fifth 1 1 ≡ blocks 8 8
  pub bits : confirmed_of (cell 5 0 1) 2 nine fourth 1 0 ≡ blocks 135 0
  -- a release among them carries nothing, and counts
  pub with_release : confirmed_of (cell 5 0 1) 2 (with (grant 0) (grant 1) (grant 3) (release 7) (grant 8)) fourth 1 1 ≡ blocks 7 7
  pub release_counts : confirmed_of (cell 5 0 1) 2 (with (grant 0) (grant 1) (grant 3) (release 7) (grant 8)) fifth 1 1 ≡ blocks 8 8
  -- a sole block at position 1 is the first, confirmed by bit 1 too
  pub sole : confirmed_of (cell 5 0 1) 2 (with (grant 0) (sent 1 1 1 1) (grant 3) (grant 7) (grant 8)) fourth 0 1 ≡ blocks 2 133
  -- a scheduled block at position 0 is not counted, is confirmed where the reply is read as it, and not by another's ACK
  pub block_named : confirmed_of (cell 5 0 1) 2 (with block (grant 1) (grant 3) (grant 7) (grant 8)) 3 1 1 ≡ blocks 1 1
  pub block_before : confirmed_of (cell 5 0 1) 2 (with block (grant 1) (grant 3) (grant 7) (grant 8)) fifth 1 1 ≡ blocks 142 142
  -- position 3 was not sent with first CCE 2
  pub other_cce : confirmed_of (cell 5 0 1) 2 nine 45 1 1 ≡ blocks 0 0
  -- 12 at position 0 and 11 at position 3: 11; with 10 at position 8 too: 10; with data at position 7, too short for it: 20, where a
  -- release is fine
  pub fault_two : confirmed_of (cell 5 0 1) 2 (with (sent 1 2 0 5) (grant 1) (grant 61) (grant 7) (grant 8)) fourth 1 1 ≡ refused 11
  pub fault_three : confirmed_of (cell 5 0 1) 2 (with (sent 1 2 0 5) (grant 1) (grant 61) (grant 7) (sent 1 3 8 1)) fourth 1 1 ≡ refused 10
  pub short : confirmed_of (cell 5 0 5) 2 (with (sent 1 2 0 5) (grant 1) (grant 61) (grant 7) (sent 1 3 8 1)) fourth 1 1 ≡ refused 20
  pub short_release : confirmed_of (cell 5 0 5) 2 (with (grant 0) (grant 1) (grant 3) (release 7) (grant 8)) fourth 1 1 ≡ blocks 7 7
  -- a second scheduled block: 18; and a DAI of 5 after both: 12
  pub second : confirmed_of (cell 5 0 1) 2 (with block (grant 1) (grant 3) (grant 7) block) fourth 1 1 ≡ refused 18
  pub second_after : confirmed_of (cell 5 0 1) 2 (with block (grant 1) (grant 3) block (sent 1 2 8 5)) fourth 1 1 ≡ refused 12
  -- the reading's own: the scheduled resource where no block was sent, and a bit over 1
  pub unsent : confirmed_of (cell 5 0 1) 2 nine 3 1 1 ≡ refused 13
  pub bad_bit : confirmed_of (cell 5 0 1) 2 nine fourth 2 1 ≡ refused 14
  -- two positions, bundled and multiplexed: the record after them is not looked at, and a delivered position's scheduled block is confirmed
  pub beyond : confirmed_of (cell 1 0 1) 2 (two (grant 0)) 22 1 1 ≡ blocks 3 3
  pub delivered : confirmed_of (cell 1 1 1) 2 (two (sent 0 1 0 0)) 22 1 1 ≡ blocks 3 2

worked : Worked
unfolding layouts letter_of downlink is_special times_of bundles cell_refusal mode_refusal blocks_refusal has_scheduled scheduled_refusal has_second_port ports_mode_refusal ports_refusal later_refusal settings_refusal no_window_refusal window_refusal special_refusal no_pdsch too_short subframe_of table window_of uplink_refusal short_refusal data_refusal carried_refusal pdcch_refusal unset_refusal heard_refusal range_refusal inverse_of edge region_of region_back position_back cce_back in_some_row delivered_at delivered_set delivery_of table2 table_of symbol_of bad_bits bundled_reading multiplexed_reading read_at dynamic_reading told_refusal read_on read_of confirmed confirmed_by read_sent confirmed_of send_of rank_of earlier lowest blocks_sent sent_refusal call_refusal
worked =
    record {
      accepted = refl;
      four = refl;
      one = refl;
      bits = refl;
      with_release = refl;
      release_counts = refl;
      sole = refl;
      block_named = refl;
      block_before = refl;
      other_cce = refl;
      fault_two = refl;
      fault_three = refl;
      short = refl;
      short_release = refl;
      second = refl;
      second_after = refl;
      unsent = refl;
      bad_bit = refl;
      beyond = refl;
      delivered = refl;
    }
