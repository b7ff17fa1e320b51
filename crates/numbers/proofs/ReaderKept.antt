-- The numbers of feedback_record lose nothing, and those of feedback_replay and feedback_trace_write tell a refusal by the kind.
-- Assumes nothing.
use Rattle.heard.specs.declared.Slot.{Slot}
use Rattle.std.proofs.Common.{Option, Result, Err}
use Prim.Native.Nat.{ℕ, zero, suc}
use mathlib.Core.Bool.{Bool, true, false, cond, not}
use mathlib.Core.List.{List}
use mathlib.Core.Path.{◌≡◌, refl, sym, ap}
use lib.Dec.{eqb, ltb, leb, eqb-suc-zero}
use Rattle.frame.proofs.Bools.{either}
use Rattle.reader.specs.Record.{record_slot, as_record, read_as, record_of}
use Rattle.trace.specs.Trace.{header_of, settings_of, parts_refusal, trace_refusal}
use Rattle.frame.specs.Refusals.{refused_or}
use Rattle.frame.specs.Settings.{or_else}
use Rattle.handset.specs.Make.{make_of}
use Rattle.replaying.specs.Replay.{Played, played_in, start_refusal, replay_done, replay_stopped, replayed_as, replay_of}
use Rattle.spelling.specs.Spelling.{spelled_size}
use Rattle.spelling.specs.Writing.{Stop, Written, stop_of, room_refusal, written_as, stopped_or, write_of}
use Rattle.numbers.specs.Answers.{record_answer}
use Rattle.numbers.specs.Back.{record_in, KindFor, DoneFor}
use Rattle.numbers.specs.Kinds.{record_end}

-- A reader's answer comes back from its numbers, and its kind is one that there is, 0 where it is refused.
abbrev Kept : Result (Option Slot) ℕ → Type 0
Kept x = (record_in (record_answer x) ≡ x) × KindFor record_end (record_answer x).kind (record_answer x).refusal

refused_kept : (k : ℕ) → Kept (Err (suc k))
refused_kept k = (refl, (sym (ap not (eqb-suc-zero k)), refl))

read_kept : (k : ℕ) (x : Result (Option Slot) ℕ) → Kept x → Kept (refused_or k x)
read_kept zero x kept = kept
read_kept (suc k) x kept = refused_kept k

pub reader_kept : (l : List ℕ) (i : ℕ) → Kept (record_of l i)
unfolding record_of read_as
reader_kept l i =
    read_kept (parts_refusal l) _
    (either Kept (ltb i (header_of l).records) _ _
    (either (λ (x : Result Slot ℕ). Kept (as_record x)) (leb (record_slot l i).kind 3) _ _ (refl, (refl, refl)) (refused_kept 21))
    (refl, (refl, refl)))

-- Done, or stopped at a record, or refused before any.
ended_told : (b : Bool) → (eqb (cond b replay_done replay_stopped) replay_done ≡ b) × (leb (cond b replay_done replay_stopped) replay_stopped ≡ true)
ended_told true = (refl, refl)
ended_told false = (refl, refl)

told_as_holds : (k : ℕ) (p : Played) → DoneFor (replayed_as k p).kind (replayed_as k p).refusal
told_as_holds zero p = ended_told (eqb p.refusal 0)
told_as_holds (suc k) p = (sym (eqb-suc-zero k), refl)

pub replay_told : (l : List ℕ) (room : ℕ) → DoneFor (replay_of l room).kind (replay_of l room).refusal
unfolding replay_of
replay_told l room = told_as_holds (start_refusal l room) (played_in l)

-- Written, or refused by the output, or stopped as a replay is.
written_told : (k size : ℕ) → DoneFor (written_as k size).kind (written_as k size).refusal
written_told zero size = (refl, refl)
written_told (suc k) size = (sym (eqb-suc-zero k), refl)

stopped_told : (k : ℕ) (stop : Stop) (next : Written) → DoneFor stop.kind stop.refusal → DoneFor next.kind next.refusal
    → DoneFor (stopped_or k stop next).kind (stopped_or k stop next).refusal
stopped_told zero stop next s n = n
stopped_told (suc k) stop next s n = s

pub writing_told : (l : List ℕ) (room : ℕ) → DoneFor (write_of l room).kind (write_of l room).refusal
unfolding write_of stop_of
writing_told l room =
    stopped_told (stop_of l).refusal (stop_of l) _ (told_as_holds (or_else (trace_refusal l) (make_of (settings_of l)).refusal) (played_in l))
    (written_told (room_refusal l room) (spelled_size (header_of l).records))
