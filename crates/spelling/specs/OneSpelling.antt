-- One spelling of a trace: document 02, U4, said of anything that writes traces, over all traces. A trace is any list of numbers, so any
-- bytes.
-- Assumes nothing.
use Rattle.std.specs.Prelude.{ℕ, ◌+◌, ◌*◌, ◌≤◌, ◌<◌, List, ◌↔◌, ◌≡◌, length, take, drop, get_or}
use Rattle.heard.specs.declared.Slot.{Slot}
use Rattle.trace.specs.Trace.{header_of}
use Rattle.reader.specs.Record.{used_in, record_slot, record_of}
use Rattle.replaying.specs.Accepted.{AcceptedTrace}
use Rattle.replaying.specs.Replay.{brought_in, output_needed, replay_refused, replay_done, replay_of, output_of}
use Rattle.spelling.specs.Used.{SameRecord, SameTrace, RecordBare}
use Rattle.spelling.specs.Writing.{Written, write_of, spelled_into}

-- Anything that writes traces: its answer to a trace and an output's length, and the output's bytes afterwards.
pub record Writer : Type 0 where
  pub answer : List ℕ → ℕ → Written
  pub output : List ℕ → List ℕ → List ℕ

-- The writer of this repository: the promise of `spelling::write`, and of `feedback_trace_write`.
abbrev pub trace_writer : Writer
trace_writer = record { answer = write_of; output = spelled_into }

-- The writer w wrote the trace l into an output whose bytes were `old`.
abbrev pub Writes : Writer → List ℕ → List ℕ → Type 0
Writes w l old = (w.answer l (length old)).refusal ≡ 0

-- The bytes that it wrote: as many as the answer says.
abbrev pub bytes_written : Writer → List ℕ → List ℕ → List ℕ
bytes_written w l old = take (w.answer l (length old)).size (w.output l old)

-- Every number of a list goes into a byte.
abbrev pub Bytes : List ℕ → Type 0
Bytes l = (i : ℕ) → get_or l i 0 < 256

-- The bytes b spell the trace l: "settings at 8, records at 18 (also if there are none) and every unused field or bit 0", no byte more,
-- and what is used is that of l.
pub record Spells (b l : List ℕ) : Type 0 where
  pub header : header_of b ≡ record { records = (header_of l).records; first = 18; settings = 8; size = 18 + 4 * (header_of l).records }
  pub size : length b ≡ 18 + 4 * (header_of l).records
  pub same : SameTrace l b
  pub bare : (i : ℕ) → i < (header_of b).records → RecordBare (record_slot b i)

pub record OneSpelling (w : Writer) : Type 0 where
  -- "any accepted trace", and an output of 18 bytes and four per record
  pub writes : (l old : List ℕ) → Writes w l old ↔ (AcceptedTrace l × 18 + 4 * (header_of l).records ≤ length old)
  pub done : (l : List ℕ) → AcceptedTrace l → (room : ℕ) → 18 + 4 * (header_of l).records ≤ room
      → w.answer l room ≡ record { refusal = 0; kind = replay_done; number = 0; size = 18 + 4 * (header_of l).records }
  -- "after all refusals of reading and replay": what is not accepted is refused as the replay refuses it in an output that is large
  -- enough for it, at the same record; then 23
  pub stops : (l : List ℕ) → (AcceptedTrace l → ⊥) → (room out : ℕ) → output_needed l ≤ out
      → w.answer l room ≡ record { refusal = (replay_of l out).refusal; kind = (replay_of l out).kind; number = (replay_of l out).number; size = 0 }
  pub small : (l : List ℕ) → AcceptedTrace l → (room : ℕ) → room < 18 + 4 * (header_of l).records
      → w.answer l room ≡ record { refusal = 23; kind = replay_refused; number = 0; size = 0 }
  -- what is written, and that nothing else of the output moves
  pub spells : (l old : List ℕ) → Writes w l old → Spells (bytes_written w l old) l
  pub bytes : (l old : List ℕ) → Bytes l → Writes w l old → Bytes (bytes_written w l old)
  pub kept : (l old : List ℕ) → Writes w l old → drop (w.answer l (length old)).size (w.output l old) ≡ drop (w.answer l (length old)).size old
  pub refused : (l old : List ℕ) → (Writes w l old → ⊥) → w.output l old ≡ old
  -- "Two accepted traces give equal bytes exactly when settings, number of records and the records' used fields and bits are equal."
  pub equal : (l m a b : List ℕ) → Writes w l a → Writes w m b → (bytes_written w l a ≡ bytes_written w m b) ↔ SameTrace l m
  -- what is written is accepted; "Writing twice changes nothing"
  pub accepted : (l old : List ℕ) → Writes w l old → AcceptedTrace (bytes_written w l old)
  pub again : (l old : List ℕ) → Writes w l old → (new : List ℕ) → length (bytes_written w l old) ≤ length new
      → Writes w (bytes_written w l old) new × (bytes_written w (bytes_written w l old) new ≡ bytes_written w l old)
  -- a reader gives the same records, they bring the same, and its replay is that of the trace, answer and output, in any output
  pub read : (l old : List ℕ) → Writes w l old → (i : ℕ) → record_of (bytes_written w l old) i ≡ record_of l i
  pub brought : (l old : List ℕ) → Writes w l old → brought_in (bytes_written w l old) ≡ brought_in l
  pub replayed : (l old : List ℕ) → Writes w l old → (room : ℕ) → replay_of (bytes_written w l old) room ≡ replay_of l room
  pub printed : (l old : List ℕ) → Writes w l old → (out : List ℕ) → output_of (bytes_written w l old) out ≡ output_of l out

-- An output as long as the trace is always enough.
abbrev pub LengthEnough : List ℕ → Type 0
LengthEnough l = AcceptedTrace l → 18 + 4 * (header_of l).records ≤ length l

-- What the reader takes of a record, and the handset is fed, is what is used of it: of known kinds, no more and no less.
abbrev pub UsedExactly : Slot → Slot → Type 0
UsedExactly a b = a.kind ≤ 3 → b.kind ≤ 3 → (used_in a ≡ used_in b) ↔ SameRecord a b

-- The statement leaves no choice: of bytes, a writer that meets it answers and writes as the one of this repository does.
abbrev pub OnlyWriter : Writer → Type 0
OnlyWriter w =
    OneSpelling w → (l old : List ℕ) → Bytes l → (w.answer l (length old) ≡ write_of l (length old)) × (w.output l old ≡ spelled_into l old)
