-- Runs with changes of mode (document 02, U8) that meet the hypotheses of demand 3, with every answer, the refusal of every change and
-- the station's reading of every reply, each in its window's own mode. The cells are those of Worked.antt.
-- Assumes nothing.
use Rattle.std.proofs.Common.{Ok, Err}
use Prim.Native.Nat.{ℕ}
use mathlib.Core.Bool.{true, false}
use mathlib.Core.List.{List, [], ◌∷◌}
use mathlib.Core.Path.{◌≡◌, refl}
use Rattle.reply.specs.declared.Answer.TheVariants as answer
use Rattle.handset.specs.Make.{make_of}
use Rattle.agreement.specs.Run.{change}
use Rattle.engines.proofs.Computing.{handsets, stations}
use Rattle.engines.proofs.Worked.{Run, Worked, worked_changed, Left, changes_of, cell, times, nothing, grant, hears_nothing, hears, reply, bundled_read, multiplexed_read}

-- The refusals of a run's changes, 0 for none.
abbrev pub Changes : Run → List ℕ → Type 0
Changes r refusals = changes_of (make_of r.set).handset r.items ≡ refusals

-- Configuration 3, made in mode 0: the window of subframe 12 is 5, 6 and 1, that of 13 is 7 and 8, that of 14 is 9 and 10. The mode is
-- changed to 1 after subframe 1, while the window of 12 is open, and back to 0 after subframe 8, while those of 12 and 13 are. So 12 is
-- bundled, by the mode of subframe 1, though 5, which K begins with, was fed in mode 1; 13 is multiplexed, with the state A,N, though
-- mode 0 stands; 14 is bundled.
abbrev pub between_windows : Run
between_windows =
    record {
      set = cell 3 0;
      sends =
          nothing ∷ grant 1 4 1 ∷ times 3 nothing
          (grant 1 12 2 ∷ grant 1 30 3 ∷ grant 1 3 1 ∷ grant 1 5 2 ∷ grant 1 3 1 ∷ grant 1 10 2 ∷ []);
      items =
          hears_nothing ∷ hears 4 1 true ∷ change 1 ∷ times 3 hears_nothing
          (hears 12 2 true ∷ hears 30 3 true ∷ hears 3 1 true ∷ hears 5 2 false ∷ change 0 ∷ hears 3 1 true ∷ hears 10 2 true ∷ times 4 hears_nothing []);
      answers =
          times 2 (Ok answer.Taken) (times 3 (Ok answer.Silent) (times 7 (Ok answer.Taken) (reply 1 111 1 0 ∷ reply 2 13 0 1 ∷ reply 1 31 1 0 ∷ [])));
      readings = bundled_read 1 30 1 0 ∷ multiplexed_read 0 3 1 ∷ bundled_read 1 10 1 0 ∷ [];
    }

pub between_windows_holds : Worked between_windows
unfolding handsets stations
between_windows_holds = worked_changed between_windows refl tt tt refl refl

pub between_changes : Changes between_windows (0 ∷ 0 ∷ [])
unfolding handsets
between_changes = refl

-- Configuration 2, made in mode 1 and changed to mode 0 before the first feed. The window of subframe 7 is -1, 0, 3 and 1: its earliest
-- subframe lies before the start, so it is multiplexed, though all that was fed was fed in mode 0; the state is D,A,D,D. The window of
-- 12, which is 4, 5, 8 and 6, is bundled.
abbrev pub changed_first : Run
changed_first =
    record {
      set = cell 2 1;
      sends = grant 1 0 1 ∷ times 3 nothing (grant 1 3 1 ∷ []);
      items = change 0 ∷ hears 0 1 true ∷ times 3 hears_nothing (hears 3 1 true ∷ times 8 hears_nothing []);
      answers =
          times 2 (Ok answer.Taken) ((Ok answer.Silent) ∷ times 4 (Ok answer.Taken) (reply 2 21 0 1 ∷ times 4 (Ok answer.Taken) (reply 1 13 1 0 ∷ [])));
      readings = multiplexed_read 1 0 2 ∷ bundled_read 0 3 1 0 ∷ [];
    }

pub changed_first_holds : Worked changed_first
unfolding handsets stations
changed_first_holds = worked_changed changed_first refl tt tt refl refl

pub first_changes : Changes changed_first (0 ∷ [])
unfolding handsets
first_changes = refl

-- Configuration 5: changes to mode 1 are refused 5 and one to mode 2 is refused 4. They leave the handset and are no subframes; the
-- window of subframe 12 is answered as if they had not come.
abbrev pub refused_changes : Run
refused_changes =
    record {
      set = cell 5 0;
      sends = grant 1 0 1 ∷ grant 1 4 2 ∷ [];
      items = change 1 ∷ hears 0 1 true ∷ change 2 ∷ hears 4 2 true ∷ times 10 hears_nothing (change 1 ∷ hears_nothing ∷ []);
      answers = times 2 (Ok answer.Taken) ((Ok answer.Silent) ∷ times 9 (Ok answer.Taken) (reply 1 91 1 0 ∷ []));
      readings = bundled_read 7 4 1 0 ∷ [];
    }

pub refused_changes_holds : Worked refused_changes
unfolding handsets stations
refused_changes_holds = worked_changed refused_changes refl tt tt refl refl

pub five_and_four : Changes refused_changes (5 ∷ 4 ∷ 5 ∷ [])
unfolding handsets
five_and_four = refl

pub changes_left : Left refused_changes 0 × Left refused_changes 2 × Left refused_changes 14
unfolding handsets
changes_left = (refl, refl, refl)

-- Configuration 1, made in mode 0: a grant of DAI 5 is refused 12 in subframe 0, the mode is changed to 1, then 0 is fed. The mode at
-- the feed that is not refused counts: the window of 7, which is 0 and 1, is multiplexed, with the state A,A.
abbrev pub after_refused : Run
after_refused =
    record {
      set = cell 1 0;
      sends = grant 1 3 1 ∷ grant 1 10 2 ∷ [];
      items = hears 3 5 true ∷ change 1 ∷ hears 3 1 true ∷ hears 10 2 true ∷ times 6 hears_nothing [];
      answers = Err 12 ∷ times 2 (Ok answer.Taken) (times 2 (Ok answer.Silent) (times 3 (Ok answer.Taken) (reply 2 31 1 1 ∷ [])));
      readings = multiplexed_read 1 10 3 ∷ [];
    }

pub after_refused_holds : Worked after_refused
unfolding handsets stations
after_refused_holds = worked_changed after_refused refl tt tt refl refl

pub then_changed : Changes after_refused (0 ∷ [])
unfolding handsets
then_changed = refl
