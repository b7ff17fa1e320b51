-- The records of an accepted trace, each with its number, as the replay and the writer take them: document 02, U3.
-- Assumes nothing.
use Rattle.std.specs.Prelude.{ℕ, ◌+◌, ◌<◌, Option, Some, Ok, ◌≡◌, MatchOption}
use Rattle.heard.specs.declared.Slot.{Slot}
use Rattle.reader.specs.declared.accepted.Records.{Records}
use Rattle.reader.specs.declared.accepted.Trace.{Trace}
use Rattle.reader.specs.Record.{used_in, record_slot, record_of}

-- Record i of a trace with its number: what is used of it, and what a reader gives.
pub record IsNumbered (trace : Trace) (i : ℕ) (x : ℕ × Slot) : Type 0 where
  pub inside : i < trace.records
  pub number : x.0 ≡ i
  pub used : x.1 ≡ used_in (record_slot trace.bytes.now i)
  pub read : record_of trace.bytes.now i ≡ Ok (Some x.1)

-- What they give as an iterator: the record that is next, with its number, and the records after it; or none, where all were given, and
-- the records as they were.
abbrev pub GivesNumbered : Records → Option (ℕ × Slot) → Records → Type 0
GivesNumbered r found s = MatchOption found ((r.reader.next ≡ r.trace.records) × (s ≡ r)) (λ x. IsNumbered r.trace r.reader.next x × (s.trace ≡ r.trace) × (s.reader.next ≡ r.reader.next + 1))
