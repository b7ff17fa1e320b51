-- The call that writes a trace in its one spelling: its answer, and every byte of the output afterwards. Document 02, U4.
-- Assumes nothing.
use Rattle.std.specs.Prelude.{Result, Ok, Err, ℕ, zero, suc, cond, List, ltb, length}
use Rattle.frame.specs.Settings.{or_else}
use Rattle.handset.specs.Make.{make_of}
use Rattle.trace.specs.Trace.{header_of, settings_of, trace_refusal}
use Rattle.replaying.specs.declared.stop.Stop.{Stop as Ending}
use Rattle.replaying.specs.Ended.{end_refusal, end_kind, end_record}
use Rattle.replaying.specs.Replay.{Replayed, played_in, replay_refused, replay_done, replayed_as, output_as}
use Rattle.spelling.specs.Spelling.{spelled_size, spelling_of}

-- What a trace is refused for, its output apart: the refusal, 0 for none; the kind; and the number of the record that is refused, from 0.
pub record Stop : Type 0 where
  pub refusal : ℕ
  pub kind : ℕ
  pub number : ℕ

-- What writing answers: the same, and how many bytes were written.
pub record Written : Type 0 where
  pub refusal : ℕ
  pub kind : ℕ
  pub number : ℕ
  pub size : ℕ

-- What results of the code say in these numbers.
abbrev pub stopped_by : {T : Type 0} → Result T Ending → Stop
stopped_by r = record { refusal = end_refusal r; kind = end_kind r; number = end_record r }

abbrev pub size_in : Result ℕ Ending → ℕ
size_in (Ok size) = size
size_in (Err stop) = 0

abbrev pub written_by : Result ℕ Ending → Written
written_by r = record { refusal = end_refusal r; kind = end_kind r; number = end_record r; size = size_in r }

-- What stops a trace: of a replay's answer the refusal, its kind and the record. The kinds are those of a replay: refused, and by no
-- record; done, where nothing stops; stopped at a record.
abbrev pub stop_in : Replayed → Stop
stop_in r = record { refusal = r.refusal; kind = r.kind; number = r.number }

-- "all refusals of reading and replay", the replay's own 23 apart: 21, 22, those on settings, then that of the first refused record.
unfoldable pub stop_of : List ℕ → Stop
stop_of l = stop_in (replayed_as (or_else (trace_refusal l) (make_of (settings_of l)).refusal) (played_in l))

-- "Here 23 means an output below 18 bytes and four per record, after all refusals of reading and replay." `room` is the output's length.
unfoldable pub room_refusal : List ℕ → ℕ → ℕ
room_refusal l room = cond (ltb room (spelled_size (header_of l).records)) 23 0

abbrev pub written_as : ℕ → ℕ → Written
written_as zero size = record { refusal = 0; kind = replay_done; number = 0; size = size }
written_as (suc k) size = record { refusal = suc k; kind = replay_refused; number = 0; size = 0 }

abbrev pub stopped_or : ℕ → Stop → Written → Written
stopped_or zero stop next = next
stopped_or (suc k) stop next = record { refusal = stop.refusal; kind = stop.kind; number = stop.number; size = 0 }

-- The answer to a trace with an output of `room` bytes: the refusal, its kind and record, and how many bytes were written.
unfoldable pub write_of : List ℕ → ℕ → Written
write_of l room = stopped_or (stop_of l).refusal (stop_of l) (written_as (room_refusal l room) (spelled_size (header_of l).records))

-- The output afterwards: the spelling, and behind it the old bytes; a refusal writes nothing.
unfoldable pub spelled_into : List ℕ → List ℕ → List ℕ
spelled_into l old = output_as (write_of l (length old)).refusal (spelling_of l) old
