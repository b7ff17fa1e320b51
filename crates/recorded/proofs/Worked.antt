-- Traces with their replays, so that the statement of specs/Run.antt is about something: one that is replayed to its end, whose feeds
-- are a worked run of engines/proofs/Worked.antt and bring what its station sends, and one that stops; and the sizes of these and of
-- traces that are refused, so that the statement of sizing/specs/Sizing.antt is about something.
-- Assumes nothing.
use Rattle.std.proofs.Common.{Ok, Err}
use Prim.Native.Nat.{ℕ}
use mathlib.Core.List.{List, [], ◌∷◌, ◌++◌}
use mathlib.Core.Path.{◌≡◌, refl}
use lib.ListN.{replicate}
use Rattle.counting.specs.Windows.{has_window, windows_before}
use Rattle.trace.specs.Trace.{number_at, header_of, settings_at, settings_of, settings_fit, records_fit, length_refusal, parts_refusal, kinds_known, trace_refusal}
use Rattle.reader.specs.Record.{slot_at, used_results, used_in, brought_by, record_slot, brought_at}
use Rattle.replaying.specs.Replay.{brought_in, played, played_in, output_needed, start_refusal, replay_of, output_of}
use Rattle.replaying.specs.Written.{window_bytes}
use Rattle.sizing.specs.Size.{size_refusal, figures_in, size_of}
use Rattle.sizing.specs.Sizing.{windows_answered, size_written, refused_by}
use Rattle.agreement.specs.Demand3.{feedback_engine, HoldsAfter}
use Rattle.engines.proofs.Computing.{handsets}
use Rattle.engines.proofs.Finite.{sending}
use Rattle.engines.proofs.Worked.{all_heard, all_heard_holds}
use Rattle.recorded.specs.Run.{feeds_from, run_of}
use Rattle.recorded.proofs.Run.{is_run}

-- The definitions that a replay computes with, beside those of the handset.
unfoldable pub replays : Unit {0}
unfolding handsets has_window windows_before number_at header_of settings_at settings_of settings_fit records_fit length_refusal parts_refusal kinds_known trace_refusal slot_at used_results used_in brought_by record_slot brought_at brought_in played played_in output_needed start_refusal replay_of output_of window_bytes feeds_from run_of size_refusal figures_in size_of windows_answered size_written
replays = tt

-- Configuration 1, N_RB 50, mode 0, one block, special configuration 7, normal prefix, N1 10, no scheduled resource.
abbrev pub settings : List ℕ
settings = 1 ∷ 50 ∷ 0 ∷ 1 ∷ 7 ∷ 0 ∷ 10 ∷ 0 ∷ 255 ∷ 255 ∷ []

-- Eight records at 18, settings at 8, 50 bytes: grants of DAI 1 and 2 with first CCEs 3 and 10, both decoded, then nothing; the bits
-- that are not used are set.
abbrev pub drive : List ℕ
drive = (8 ∷ 0 ∷ 18 ∷ 0 ∷ 8 ∷ 0 ∷ 50 ∷ 0 ∷ []) ++ settings ++ (1 ∷ 3 ∷ 1 ∷ 3 ∷ 1 ∷ 10 ∷ 2 ∷ 251 ∷ []) ++ replicate 24 0

-- Its replay: subframes 2 and 3 silent, in 7 a bundled reply on resource 31, ACK.
pub drive_replayed : replay_of drive 26 ≡ record { refusal = 0; kind = 1; number = 0; windows = 3 }
unfolding replays
drive_replayed = refl

pub drive_written : output_of drive (replicate 26 9)
    ≡ (2 ∷ 0 ∷ 0 ∷ 0 ∷ 0 ∷ 0 ∷ 0 ∷ 0 ∷ []) ++ (3 ∷ 0 ∷ 0 ∷ 0 ∷ 0 ∷ 0 ∷ 0 ∷ 0 ∷ []) ++ (7 ∷ 1 ∷ 31 ∷ 0 ∷ 1 ∷ 0 ∷ 0 ∷ 0 ∷ []) ++ 9 ∷ 9 ∷ []
unfolding replays
drive_written = refl

-- Its feeds are those of the worked run, of whose schedule demand 3 therefore holds.
pub drive_run : run_of drive ≡ all_heard.items
unfolding replays
drive_run = refl

pub drive_holds : HoldsAfter feedback_engine (settings_of drive) (sending all_heard.sends) (run_of drive)
unfolding replays
drive_holds = (is_run drive refl).holds (sending all_heard.sends) all_heard_holds.schedule all_heard_holds.brings

-- The same with a grant in record 3, an uplink subframe: refused 9 there, and the window of subframe 2 is written.
abbrev pub stopped : List ℕ
stopped = (8 ∷ 0 ∷ 18 ∷ 0 ∷ 8 ∷ 0 ∷ 50 ∷ 0 ∷ []) ++ settings ++ (1 ∷ 3 ∷ 1 ∷ 3 ∷ 1 ∷ 10 ∷ 2 ∷ 251 ∷ []) ++ replicate 4 0 ++ (1 ∷ 5 ∷ 1 ∷ 1 ∷ []) ++ replicate 16 0

pub stopped_replayed : replay_of stopped 24 ≡ record { refusal = 9; kind = 2; number = 3; windows = 1 }
unfolding replays
stopped_replayed = refl

pub stopped_written : output_of stopped (replicate 24 9) ≡ (2 ∷ 0 ∷ 0 ∷ 0 ∷ 0 ∷ 0 ∷ 0 ∷ 0 ∷ []) ++ replicate 16 9
unfolding replays
stopped_written = refl

-- With a byte of output less than the three windows of all records need, 23, though record 3 is refused.
pub stopped_short : replay_of stopped 23 ≡ record { refusal = 23; kind = 0; number = 0; windows = 0 }
unfolding replays
stopped_short = refl

-- What is worked out of the first trace is what its replay writes; of the second, which stops, the same, and its replay writes a window.
pub drive_sized : (size_of drive ≡ Ok (record { windows = 3; bytes = 24 })) × (size_written drive ≡ record { windows = 3; bytes = 24 })
unfolding replays
drive_sized = (refl, refl)

pub stopped_sized : (size_of stopped ≡ Ok (record { windows = 3; bytes = 24 })) × (size_written stopped ≡ record { windows = 1; bytes = 8 })
unfolding replays
stopped_sized = (refl, refl)

-- With a kind of 4 in record 1 it is refused 22 by the replay, and sized like the others.
abbrev pub unknown : List ℕ
unknown = (8 ∷ 0 ∷ 18 ∷ 0 ∷ 8 ∷ 0 ∷ 50 ∷ 0 ∷ []) ++ settings ++ (1 ∷ 3 ∷ 1 ∷ 3 ∷ 4 ∷ 10 ∷ 2 ∷ 251 ∷ []) ++ replicate 24 0

pub unknown_sized : (size_of unknown ≡ Ok (record { windows = 3; bytes = 24 })) × (replay_of unknown 24 ≡ refused_by 22)
unfolding replays
unknown_sized = (refl, refl)

-- Refused, and by the replay too: no bytes, 21; settings that begin in the header's last byte, 22; N_RB 5, 2.
abbrev pub overlapping : List ℕ
overlapping = (8 ∷ 0 ∷ 18 ∷ 0 ∷ 7 ∷ 0 ∷ 50 ∷ 0 ∷ []) ++ settings ++ replicate 32 0

abbrev pub narrow_cell : List ℕ
narrow_cell = 1 ∷ 5 ∷ 0 ∷ 1 ∷ 7 ∷ 0 ∷ 10 ∷ 0 ∷ 255 ∷ 255 ∷ []

abbrev pub narrow : List ℕ
narrow = (8 ∷ 0 ∷ 18 ∷ 0 ∷ 8 ∷ 0 ∷ 50 ∷ 0 ∷ []) ++ narrow_cell ++ replicate 32 0

pub refused_sized : (size_of [] ≡ Err 21) × (size_of overlapping ≡ Err 22) × (size_of narrow ≡ Err 2)
unfolding replays
refused_sized = (refl, refl, refl)

pub refused_replayed : (replay_of [] 0 ≡ refused_by 21) × (replay_of overlapping 24 ≡ refused_by 22) × (replay_of narrow 24 ≡ refused_by 2)
unfolding replays
refused_replayed = (refl, refl, refl)

-- With N_RB 5 and a kind of 9, 2, where the replay is refused 22.
abbrev pub narrow_unknown : List ℕ
narrow_unknown = (8 ∷ 0 ∷ 18 ∷ 0 ∷ 8 ∷ 0 ∷ 50 ∷ 0 ∷ []) ++ narrow_cell ++ (9 ∷ []) ++ replicate 31 0

pub narrow_unknown_sized : (size_of narrow_unknown ≡ Err 2) × (replay_of narrow_unknown 24 ≡ refused_by 22)
unfolding replays
narrow_unknown_sized = (refl, refl)
