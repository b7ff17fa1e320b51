-- Runs of a handset with two antenna ports (document 02, U9) that meet the hypotheses of demand 3, with every answer, the refusal of
-- every change and the station's reading of every reply: the reading is of the first port's resource. The cells are those of
-- Worked.antt.
-- Assumes nothing.
use Rattle.std.proofs.Common.{Ok}
use mathlib.Core.Bool.{true, false}
use mathlib.Core.List.{[], ◌∷◌}
use mathlib.Core.Path.{refl}
use Rattle.reply.specs.declared.Answer.TheVariants as answer
use Rattle.agreement.specs.Run.{change}
use Rattle.engines.proofs.ChangedRuns.{Changes}
use Rattle.engines.proofs.Computing.{handsets, stations}
use Rattle.engines.proofs.Worked.{Run, Worked, worked, worked_changed, Left, two_port_cell, times, nothing, grant, release, hears_nothing, hears, hears_two, hears_release, reply_on_both, bundled_read, answers_in_two}

-- Configuration 1: the window of subframe 7 is 0 and 1, both heard. The reply goes on 31 and 32. A change to mode 1 is refused 24 and one
-- to mode 2 is refused 4; they leave the handset. One to mode 0, which stands, is not refused.
abbrev pub on_two_ports : Run
on_two_ports =
    record {
      set = two_port_cell 1 1;
      sends = grant 1 3 1 ∷ grant 1 10 2 ∷ [];
      items = change 1 ∷ hears 3 1 true ∷ change 2 ∷ hears 10 2 true ∷ change 0 ∷ times 6 hears_nothing [];
      answers = times 2 (Ok answer.Taken) (times 2 (Ok answer.Silent) (times 3 (Ok answer.Taken) (reply_on_both 31 32 1 0 ∷ [])));
      readings = bundled_read 1 10 1 0 ∷ [];
    }

pub on_two_ports_holds : Worked on_two_ports
unfolding handsets stations
on_two_ports_holds = worked_changed on_two_ports refl tt tt refl refl

pub twenty_four : Changes on_two_ports (24 ∷ 4 ∷ 0 ∷ [])
unfolding handsets
twenty_four = refl

pub ports_left : Left on_two_ports 0 × Left on_two_ports 2
unfolding handsets
ports_left = (refl, refl)

-- Configuration 5: a change to mode 1 is refused 5, which comes before 24. Of the window of subframe 12, which starts at -1, the grants
-- in 0, 1, 3 and 4 are lost and the fifth, in 5, is heard.
abbrev pub four_lost_on_two : Run
four_lost_on_two =
    record {
      set = two_port_cell 1 5;
      sends = grant 1 0 1 ∷ grant 1 1 2 ∷ nothing ∷ grant 1 2 3 ∷ grant 1 3 4 ∷ grant 1 4 1 ∷ [];
      items = times 5 hears_nothing (change 1 ∷ hears 4 1 true ∷ times 7 hears_nothing []);
      answers = times 2 (Ok answer.Taken) ((Ok answer.Silent) ∷ times 9 (Ok answer.Taken) (reply_on_both 58 59 1 0 ∷ []));
      readings = bundled_read 4 4 1 0 ∷ [];
    }

pub four_lost_on_two_holds : Worked four_lost_on_two
unfolding handsets stations
four_lost_on_two_holds = worked_changed four_lost_on_two refl tt tt refl refl

pub five_first : Changes four_lost_on_two (5 ∷ [])
unfolding handsets
five_first = refl

-- Configuration 2, two blocks: the window of subframe 12 is 4, 5, 8 and 6. A grant in 4, of which one block is decoded, and a release in
-- 5 are heard.
abbrev pub release_on_two : Run
release_on_two =
    record {
      set = two_port_cell 2 2;
      sends = times 4 nothing (grant 2 0 1 ∷ release 5 2 ∷ []);
      items = times 4 hears_nothing (hears_two 0 1 true false ∷ hears_release 5 2 ∷ times 7 hears_nothing []);
      answers = answers_in_two (reply_on_both 26 27 1 0);
      readings = bundled_read 1 5 1 0 ∷ [];
    }

pub release_on_two_holds : Worked release_on_two
unfolding handsets stations
release_on_two_holds = worked release_on_two refl tt tt refl tt refl
