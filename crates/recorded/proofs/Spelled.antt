-- What is written of a trace is the same run; and traces that are written, so that the statement of spelling/specs/OneSpelling.antt is
-- about something: a drive, the same drive from another recorder, one that differs in a bit, one that is refused.
-- Assumes nothing.
use Prim.Native.Nat.{ℕ}
use mathlib.Core.List.{List, [], ◌∷◌, ◌++◌}
use mathlib.Core.Path.{◌≡◌, refl, sym, ap, ◌∙◌}
use native.Mathlib.Omega.{arith}
use lib.ListN.{replicate, get_or}
use Rattle.spelling.specs.OneSpelling.{trace_writer, Writes, bytes_written}
use Rattle.spelling.specs.Spelling.{header_bytes, settings_bytes, spelling_of}
use Rattle.spelling.specs.Used.{SameTrace}
use Rattle.spelling.specs.Writing.{stop_of, room_refusal, write_of, spelled_into}
use Rattle.spelling.proofs.OneSpelling.{one_spelling}
use Rattle.recorded.specs.Run.{run_of, SpelledSameRun}
use Rattle.recorded.proofs.Worked.{replays, settings, drive, stopped}

pub spelled_same_run : (l old : List ℕ) → SpelledSameRun l old
unfolding run_of
spelled_same_run l old w =
    let same = sym (one_spelling.spells l old w).same.settings in
    (same, rw (same, one_spelling.brought l old w))

-- The definitions that writing computes with, beside those of the replay.
unfoldable pub spellings : Unit {0}
unfolding replays stop_of room_refusal write_of spelled_into header_bytes settings_bytes spelling_of
spellings = tt

-- The drive, written: bit 1 of two grants of one block, and what stands above bit 2, are 0.
abbrev spelled : List ℕ
spelled = (8 ∷ 0 ∷ 18 ∷ 0 ∷ 8 ∷ 0 ∷ 50 ∷ 0 ∷ []) ++ settings ++ (1 ∷ 3 ∷ 1 ∷ 1 ∷ 1 ∷ 10 ∷ 2 ∷ 1 ∷ []) ++ replicate 24 0

pub drive_spelled : spelled_into drive (replicate 52 9) ≡ spelled ++ 9 ∷ 9 ∷ []
unfolding spellings
drive_spelled = refl

pub drive_answer : write_of drive 50 ≡ record { refusal = 0; kind = 1; number = 0; size = 50 }
unfolding spellings
drive_answer = refl

pub drive_short : write_of drive 49 ≡ record { refusal = 23; kind = 0; number = 0; size = 0 }
unfolding spellings
drive_short = refl

-- The same drive from another recorder: a byte before the records, the settings behind them, two bytes more, and other numbers in what
-- is not used.
abbrev pub elsewhere : List ℕ
elsewhere =
    (8 ∷ 0 ∷ 9 ∷ 0 ∷ 41 ∷ 0 ∷ 53 ∷ 0 ∷ []) ++ (7 ∷ []) ++ (1 ∷ 3 ∷ 1 ∷ 233 ∷ 1 ∷ 10 ∷ 2 ∷ 3 ∷ []) ++ (0 ∷ 5 ∷ 6 ∷ 7 ∷ []) ++ replicate 20 0 ++ settings ++ 8 ∷ 8 ∷ []

drive_writes : Writes trace_writer drive (replicate 50 9)
unfolding spellings
drive_writes = refl

elsewhere_writes : Writes trace_writer elsewhere (replicate 60 5)
unfolding spellings
elsewhere_writes = refl

same_bytes : bytes_written trace_writer drive (replicate 50 9) ≡ bytes_written trace_writer elsewhere (replicate 60 5)
unfolding spellings
same_bytes = refl

pub alike : SameTrace drive elsewhere
alike = (one_spelling.equal drive elsewhere (replicate 50 9) (replicate 60 5) drive_writes elsewhere_writes).0 same_bytes

-- The first grant not decoded: bit 0, which is used.
abbrev pub missed : List ℕ
missed = (8 ∷ 0 ∷ 18 ∷ 0 ∷ 8 ∷ 0 ∷ 50 ∷ 0 ∷ []) ++ settings ++ (1 ∷ 3 ∷ 1 ∷ 2 ∷ 1 ∷ 10 ∷ 2 ∷ 251 ∷ []) ++ replicate 24 0

missed_writes : Writes trace_writer missed (replicate 50 9)
unfolding spellings
missed_writes = refl

bit_written : (get_or (bytes_written trace_writer drive (replicate 50 9)) 21 0 ≡ 1) × (get_or (bytes_written trace_writer missed (replicate 50 9)) 21 0 ≡ 0)
unfolding spellings
bit_written = (refl, refl)

pub unlike : SameTrace drive missed → ⊥
unlike s =
    let same = (one_spelling.equal drive missed (replicate 50 9) (replicate 50 9) drive_writes missed_writes).1 s in
    let zero = sym bit_written.0 ∙ ap (λ (l : List ℕ). get_or l 21 0) same ∙ bit_written.1 in
    omega (arith, zero)

-- A grant in record 3, an uplink subframe: refused 9 there, before 23.
pub stopped_answer : write_of stopped 10 ≡ record { refusal = 9; kind = 2; number = 3; size = 0 }
unfolding spellings
stopped_answer = refl

-- No records, at an offset that is ignored: in the spelling it is 18.
abbrev pub empty : List ℕ
empty = (0 ∷ 0 ∷ 255 ∷ 255 ∷ 10 ∷ 0 ∷ 21 ∷ 0 ∷ []) ++ (7 ∷ 7 ∷ []) ++ settings ++ 7 ∷ []

pub empty_spelled : spelled_into empty (replicate 19 9) ≡ (0 ∷ 0 ∷ 18 ∷ 0 ∷ 8 ∷ 0 ∷ 18 ∷ 0 ∷ []) ++ settings ++ 9 ∷ []
unfolding spellings
empty_spelled = refl

-- A grant of two blocks, the second decoded, with every bit above bit 2 set: bits 1 and 2 stay. The cell has two blocks.
abbrev pub two_blocks : List ℕ
two_blocks = (1 ∷ 0 ∷ 18 ∷ 0 ∷ 8 ∷ 0 ∷ 22 ∷ 0 ∷ []) ++ (1 ∷ 50 ∷ 0 ∷ 2 ∷ 7 ∷ 0 ∷ 10 ∷ 0 ∷ 255 ∷ 255 ∷ []) ++ 1 ∷ 3 ∷ 1 ∷ 254 ∷ []

pub two_blocks_spelled : spelled_into two_blocks (replicate 22 9)
    ≡ (1 ∷ 0 ∷ 18 ∷ 0 ∷ 8 ∷ 0 ∷ 22 ∷ 0 ∷ []) ++ (1 ∷ 50 ∷ 0 ∷ 2 ∷ 7 ∷ 0 ∷ 10 ∷ 0 ∷ 255 ∷ 255 ∷ []) ++ 1 ∷ 3 ∷ 1 ∷ 6 ∷ []
unfolding spellings
two_blocks_spelled = refl
