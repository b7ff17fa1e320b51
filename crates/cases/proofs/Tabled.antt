-- The worked cases of documents 01 and 02, U9, by computation.
-- Assumes nothing.
use mathlib.Core.Path.{refl}
use Rattle.frame.specs.Order.{times_of, order_of}
use Rattle.frame.specs.Settings.{bundles, cell_refusal, mode_refusal, blocks_refusal, has_scheduled, scheduled_refusal, has_second_port, ports_mode_refusal, ports_refusal, later_refusal, settings_refusal, no_window_refusal, window_refusal}
use Rattle.frame.specs.Special.{special_refusal}
use Rattle.frame.specs.Table.{table, window_of}
use Rattle.resource.specs.Calls.{pair_refusal, range_refusal, resource_of, inverse_of}
use Rattle.resource.specs.Formula.{edge, region_of, resource_number}
use Rattle.resource.specs.Ports.{second_port, ports_of}
use Rattle.claims.specs.Bits.{bit_room_of}
use Rattle.claims.specs.Claims.{resources_of, room_of, is_bad, first_bad, clashes, first_clash, scratch_refusal, checked_on, checked_with}
use Rattle.fold.specs.Fold.{expected, step_of, seen_from, seen_of}
use Rattle.heard.specs.Heard.{view_of}
use Rattle.reply.specs.Replies.{miss_shown, bundled_answer, window_answer}
use Rattle.cases.specs.Tabled.{Tabled}

pub tabled : Tabled
unfolding times_of order_of bundles cell_refusal mode_refusal blocks_refusal has_scheduled scheduled_refusal special_refusal has_second_port ports_mode_refusal ports_refusal later_refusal settings_refusal no_window_refusal window_refusal table window_of pair_refusal range_refusal resource_of inverse_of edge region_of resource_number second_port ports_of bit_room_of resources_of room_of is_bad first_bad clashes first_clash scratch_refusal checked_on checked_with step_of seen_from seen_of view_of expected miss_shown bundled_answer window_answer
tabled =
    record {
      bandwidth50 = refl;
      size = refl;
      pair00 = refl;
      pair010 = refl;
      pair10 = refl;
      pair110 = refl;
      pair011 = refl;
      pair160 = refl;
      refused61 = (refl, refl);
      refused9 = refl;
      refused132 = refl;
      bandwidth6 = refl;
      bandwidth110 = refl;
      position3 = refl;
      subframe3 = refl;
      silent = λ g g' e e'. rw e';
      ports010 = refl;
      ports10 = refl;
      ports_room = (refl, refl);
      ports_clash = (refl, refl);
      one_port = (refl, refl);
    }
