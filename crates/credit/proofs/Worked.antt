-- Credits on numbers, in cells of 50 resource blocks with N1 = 10, of two blocks. The sizes are of Table 7.1.7.2.1-1: with I_TBS 9 and
-- N_PRB 10 a block has 193 octets, in a special subframe, whose column is 7, 137; with N_PRB 1 the octets of I_TBS 0, 1, 2, 3 and 4 are
-- 2, 3, 4, 5 and 7.
-- Assumes nothing.
use Prim.Native.Nat.{ℕ}
use mathlib.Core.List.{[], ◌∷◌}
use mathlib.Core.Path.{◌≡◌, refl}
use Rattle.frame.specs.declared.Settings.{Settings}
use Rattle.frame.specs.Layout.{layouts, letter_of, downlink, is_special}
use Rattle.frame.specs.Order.{times_of}
use Rattle.frame.specs.Settings.{bundles, cell_refusal, mode_refusal, blocks_refusal, has_scheduled, scheduled_refusal, has_second_port, ports_mode_refusal, ports_refusal, later_refusal, settings_refusal, no_window_refusal, window_refusal}
use Rattle.frame.specs.Special.{special_refusal, no_pdsch, too_short}
use Rattle.frame.specs.Distance.{subframe_of}
use Rattle.frame.specs.Table.{table, window_of}
use Rattle.heard.specs.Heard.{uplink_refusal, short_refusal, data_refusal, carried_refusal, pdcch_refusal, unset_refusal, heard_refusal}
use Rattle.resource.specs.Calls.{range_refusal, inverse_of}
use Rattle.resource.specs.Formula.{edge, region_of, region_back, position_back, cce_back}
use Rattle.symbols.specs.Delivered.{in_some_row, delivered_at, delivered_set, delivery_of}
use Rattle.symbols.specs.Selection.{table2, table_of, symbol_of}
use Rattle.station.specs.Readings.{bad_bits, bundled_reading, multiplexed_reading, read_at, dynamic_reading, told_refusal, read_on, read_of}
use Rattle.confirmation.specs.Confirmed.{confirmed}
use Rattle.confirming.specs.declared.Sent.{Sent}
use Rattle.confirming.specs.declared.SentWindow.{SentWindow}
use Rattle.confirming.specs.Blocks.{confirmed_by, read_sent, confirmed_of}
use Rattle.confirming.specs.Records.{nothing_sent, send_of}
use Rattle.confirming.specs.Refusals.{rank_of, earlier, lowest, blocks_sent, sent_refusal, call_refusal}
use Rattle.sizes.specs.Table.{blocks, printed, block_size, table_column}
use Rattle.account.specs.declared.Account.{Account}
use Rattle.account.specs.Account.{balanced, out_of_order, account_refusal, account_at, add_refusal, add_of}
use Rattle.account.specs.Credits.{Credited}
use Rattle.credit.specs.Credit.{credited, octets_of, bad_size, bad_record, bad_records, sizes_refusal, prior_refusal, sum_below, octets_at, octets_where, credited_octets, credit_by, credit_reading, credit_of}

-- Configuration, mode, scheduled resource (65535: none is set) and antenna ports.
abbrev cell : ℕ → ℕ → ℕ → ℕ → Settings
cell config mode scheduled ports =
    record { config = config; nrb = 50; n1 = 10; mode = mode; blocks = 2; scheduled = scheduled; prefix = 0; special = 1; ports = ports }

-- Records: a grant of one block with first CCE, I_TBS and N_PRB; a scheduled block; a release.
abbrev grant : ℕ → ℕ → ℕ → Sent
grant c i n = record { signalled = 1; blocks = 1; cce = record { 0 = c }; dai = 1; itbs0 = i; nprb0 = n; itbs1 = 0; nprb1 = 0 }

abbrev scheduled : ℕ → ℕ → Sent
scheduled i n = record { signalled = 0; blocks = 1; cce = record { 0 = 0 }; dai = 0; itbs0 = i; nprb0 = n; itbs1 = 0; nprb1 = 0 }

abbrev release : ℕ → Sent
release c = record { signalled = 1; blocks = 0; cce = record { 0 = c }; dai = 1; itbs0 = 0; nprb0 = 0; itbs1 = 0; nprb1 = 0 }

-- Configuration 1, n = 2: two positions, of which the second is the special subframe.
abbrev two : Sent → Sent → SentWindow
two at0 at1 =
    record { at = at0 ∷ at1 ∷ nothing_sent ∷ nothing_sent ∷ nothing_sent ∷ nothing_sent ∷ nothing_sent ∷ nothing_sent ∷ nothing_sent ∷ [] }

-- Configuration 5, n = 2: positions 0, 1, 7, 2 and 3 in time order. Grants at the first three, and this at positions 2 and 3.
abbrev five : Sent → Sent → SentWindow
five at2 at3 =
    record { at = grant 0 0 1 ∷ grant 1 1 1 ∷ at2 ∷ at3 ∷ nothing_sent ∷ nothing_sent ∷ nothing_sent ∷ grant 7 2 1 ∷ nothing_sent ∷ [] }

-- A new account, at 300,000 smallest coins per million octets, and one beyond 1,000,000,000,000 octets that is on its equation.
abbrev new : Account
new = account_at 300000 0

abbrev beyond : Account
beyond = record { octets = 1000000000001; charged = 300000000000; price = 300000; carry = 300000 }

-- So many octets are credited to the new account; a refusal leaves its account.
abbrev paid : ℕ → Credited
paid octets = record { refusal = 0; octets = octets; account = account_at 300000 octets }

abbrev refused : ℕ → Account → Credited
refused k a = record { refusal = k; octets = 0; account = a }

record Worked : Type 0 where
  -- position 1 and first CCE 1, which were sent: both grants, the second in the special subframe
  pub sent_there : credit_of (cell 1 0 3 1) 2 (two (grant 0 9 10) (grant 1 9 10)) 22 1 0 new ≡ paid 330
  -- position 1 and first CCE 2, which was not sent there: not refused, and nothing
  pub other_cce : credit_of (cell 1 0 3 1) 2 (two (grant 0 9 10) (grant 1 9 10)) 23 1 0 new ≡ paid 0
  -- the scheduled resource: the block alone, and not the grant before it
  pub block_alone : credit_of (cell 1 0 3 1) 2 (two (grant 0 9 10) (scheduled 9 10)) 3 1 0 new ≡ paid 137
  -- a resource that no PDCCH has is 13; with a size out of range, I_TBS 27 or N_PRB 111, it is 25
  pub no_pdcch : credit_of (cell 1 0 3 1) 2 (two (grant 0 9 10) (grant 1 9 10)) 9 1 0 new ≡ refused 13 new
  pub bad_index : credit_of (cell 1 0 3 1) 2 (two (grant 0 9 10) (grant 1 27 10)) 9 1 0 new ≡ refused 25 new
  pub bad_width : credit_of (cell 1 0 3 1) 2 (two (grant 0 9 111) (grant 1 9 10)) 9 1 0 new ≡ refused 25 new
  -- beyond the most octets, a resource that no PDCCH has is 13; a reply that is read and credits nothing is 26
  pub beyond_unread : credit_of (cell 1 0 3 1) 2 (two (grant 0 9 10) (grant 1 9 10)) 9 1 0 beyond ≡ refused 13 beyond
  pub beyond_read : credit_of (cell 1 0 3 1) 2 (two (grant 0 9 10) (grant 1 9 10)) 23 1 0 beyond ≡ refused 26 beyond
  -- multiplexed, the state A,A on the grant's resource: the scheduled block at position 0 is paid beside the grant
  pub delivered : credit_of (cell 1 1 3 1) 2 (two (scheduled 9 10) (grant 1 9 10)) 22 1 1 new ≡ paid 330
  -- the state A,N on the scheduled resource: the block alone
  pub delivered_alone : credit_of (cell 1 1 3 1) 2 (two (scheduled 9 10) (grant 1 9 10)) 3 0 1 new ≡ paid 193
  -- read as a release that is the fourth PDCCH: the three grants before it; as the fifth: nothing before it
  pub fourth : credit_of (cell 5 0 3 1) 2 (five (release 2) nothing_sent) 34 1 1 new ≡ paid 9
  pub fifth : credit_of (cell 5 0 3 1) 2 (five (grant 2 3 1) (release 3)) 46 1 1 new ≡ paid 0
  -- read as a grant that is the fifth, a release counted: that one alone
  pub counted : credit_of (cell 5 0 3 1) 2 (five (release 2) (grant 3 4 1)) 46 1 1 new ≡ paid 7
  -- two antenna ports, bundled, no scheduled resource: as with one
  pub one_port : credit_of (cell 1 0 65535 1) 2 (two (grant 0 9 10) (grant 1 9 10)) 22 1 0 new ≡ paid 330
  pub two_ports : credit_of (cell 1 0 65535 2) 2 (two (grant 0 9 10) (grant 1 9 10)) 22 1 0 new ≡ paid 330
  -- a sole block with bits 0 and 1 is confirmed, at position 1, and nothing is paid for it
  pub sole_confirmed : confirmed_of (cell 1 0 3 1) 2 (two nothing_sent (grant 1 9 10)) 22 0 1 ≡ record { refusal = 0; first = 2; second = 0 }
  pub sole_not_paid : credit_of (cell 1 0 3 1) 2 (two nothing_sent (grant 1 9 10)) 22 0 1 new ≡ paid 0

worked : Worked
unfolding layouts letter_of downlink is_special times_of bundles cell_refusal mode_refusal blocks_refusal has_scheduled scheduled_refusal has_second_port ports_mode_refusal ports_refusal later_refusal settings_refusal no_window_refusal window_refusal special_refusal no_pdsch too_short subframe_of table window_of uplink_refusal short_refusal data_refusal carried_refusal pdcch_refusal unset_refusal heard_refusal range_refusal inverse_of edge region_of region_back position_back cce_back in_some_row delivered_at delivered_set delivery_of table2 table_of symbol_of bad_bits bundled_reading multiplexed_reading read_at dynamic_reading told_refusal read_on read_of confirmed confirmed_by read_sent confirmed_of send_of rank_of earlier lowest blocks_sent sent_refusal call_refusal blocks printed block_size table_column balanced out_of_order account_refusal account_at add_refusal add_of credited octets_of bad_size bad_record bad_records sizes_refusal prior_refusal sum_below octets_at octets_where credited_octets credit_by credit_reading credit_of
worked =
    record {
      sent_there = refl;
      other_cce = refl;
      block_alone = refl;
      no_pdcch = refl;
      bad_index = refl;
      bad_width = refl;
      beyond_unread = refl;
      beyond_read = refl;
      delivered = refl;
      delivered_alone = refl;
      fourth = refl;
      fifth = refl;
      counted = refl;
      one_port = refl;
      two_ports = refl;
      sole_confirmed = refl;
      sole_not_paid = refl;
    }
