-- The definitions that a worked run computes with, under three names for an `unfolding` line.
-- Assumes nothing.
use Rattle.frame.specs.Distance.{distance_up_to, distance_of, subframe_of, shares}
use Rattle.frame.specs.Earliest.{earliest_k}
use Rattle.frame.specs.Layout.{layouts, letter_of, downlink, is_special}
use Rattle.frame.specs.Order.{times_of, order_of}
use Rattle.frame.specs.Settings.{bundles, cell_refusal, mode_refusal, blocks_refusal, has_scheduled, scheduled_refusal, has_second_port, ports_mode_refusal, ports_refusal, later_refusal, settings_refusal, new_mode_refusal, no_window_refusal, window_refusal}
use Rattle.frame.specs.Special.{special_refusal, no_pdsch, too_short}
use Rattle.frame.specs.Table.{table, window_of}
use Rattle.resource.specs.Calls.{pair_refusal, range_refusal, resource_of, inverse_of}
use Rattle.resource.specs.Formula.{edge, region_of, resource_number, region_back, position_back, cce_back}
use Rattle.resource.specs.Ports.{second_port}
use Rattle.symbols.specs.Delivered.{in_some_row, delivered_at, delivered_set, delivery_of}
use Rattle.symbols.specs.Selection.{symbol_of, table_of, table2, table3, table4}
use Rattle.heard.specs.Heard.{uplink_refusal, short_refusal, data_refusal, carried_refusal, pdcch_refusal, unset_refusal, heard_refusal, block_before, second_refusal, cause_of, view_of}
use Rattle.heard.specs.Memory.{slot_of, heard_in, view_in, view_ago, block_ago}
use Rattle.fold.specs.Fold.{expected, step_of, seen_from, seen_of}
use Rattle.reply.specs.Replies.{reply_on, miss_shown, second_bit, lone_answer, bundled_answer, state_of, carrier_of, window_state, symbol_answer, multiplexed_answer, window_answer}
use Rattle.handset.specs.Change.{change_refusal, change_of}
use Rattle.handset.specs.Feed.{answer_of, window_settings, next_answer, pushed, feed_refusal, feed_of}
use Rattle.handset.specs.Make.{fresh, make_of}
use Rattle.handset.specs.Modes.{mode_ago, modes_sound}
use Rattle.handset.specs.Sound.{slot_sound, all_sound, state_sound, state_refusal}
use Rattle.station.specs.Readings.{bad_bits, bundled_reading, multiplexed_reading, read_at, dynamic_reading, told_refusal, read_on, read_of}

-- The causes of a refusal and the windows: what the hypotheses of a run ask.
unfoldable pub schedules : Unit {0}
unfolding layouts letter_of downlink is_special times_of cell_refusal mode_refusal blocks_refusal has_scheduled scheduled_refusal special_refusal has_second_port ports_mode_refusal ports_refusal later_refusal settings_refusal new_mode_refusal no_window_refusal window_refusal table window_of distance_up_to distance_of subframe_of shares edge no_pdsch too_short uplink_refusal short_refusal data_refusal carried_refusal pdcch_refusal unset_refusal heard_refusal block_before second_refusal cause_of
schedules = tt

-- The handset's half: making, feeding and changing mode.
unfoldable pub handsets : Unit {0}
unfolding schedules order_of earliest_k bundles pair_refusal resource_of region_of resource_number second_port symbol_of table_of table2 table3 table4 view_of slot_of heard_in view_in view_ago block_ago step_of seen_from seen_of reply_on expected miss_shown second_bit lone_answer bundled_answer state_of carrier_of window_state symbol_answer multiplexed_answer window_answer answer_of mode_ago window_settings next_answer pushed feed_refusal feed_of change_refusal change_of fresh make_of modes_sound slot_sound all_sound state_sound state_refusal
handsets = tt

-- The station's half: inverse and reading.
unfoldable pub stations : Unit {0}
unfolding schedules bundles range_refusal inverse_of region_of region_back position_back cce_back symbol_of table_of table2 table3 table4 in_some_row delivered_at delivered_set delivery_of bad_bits bundled_reading multiplexed_reading read_at dynamic_reading told_refusal read_on read_of
stations = tt
