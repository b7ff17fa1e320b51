-- The reader, which keeps a lent trace and the number of the next record together: document 02, U3.
-- Assumes nothing.
use Rattle.std.specs.Prelude.{ℕ, zero, suc, ◌+◌, ◌-◌, cond, List, [], ◌∷◌, Option, Some, None, Result, Ok, Err, ◌≡◌, ltb, MatchOption}
use Rattle.heard.specs.declared.Heard.{Heard}
use Rattle.heard.specs.declared.Heard.TheVariants.{Nothing}
use Rattle.heard.specs.declared.Slot.{Slot}
use Rattle.heard.specs.Memory.{heard_in}
use Rattle.reader.specs.declared.Reader.{Reader}
use Rattle.reader.specs.Record.{record_of}
use Rattle.trace.specs.Trace.{header_of}

-- The number after i; the greatest that a machine word holds stays, and no trace has so many records.
unfoldable pub following_of : ℕ → ℕ
following_of i = cond (ltb i 18446744073709551615) (i + 1) i

-- What a reader's answer brings the handset; nothing where it is no record.
abbrev pub heard_of : Result (Option Slot) ℕ → Heard
heard_of (Err k) = Nothing
heard_of (Ok (Some t)) = heard_in t
heard_of (Ok None) = Nothing

-- A record and those after it; nothing at the end or where it is refused.
abbrev pub read_on : Result (Option Slot) ℕ → List Slot → List Slot
read_on (Ok (Some t)) others = t ∷ others
read_on (Ok None) others = []
read_on (Err k) others = []

-- The records of a trace from number i on, as a reader gives them, `count` of them at most.
unfoldable pub records_from : List ℕ → ℕ → ℕ → List Slot
records_from l i zero = []
records_from l i (suc count) = read_on (record_of l i) (records_from l (i + 1) count)

-- The records that a reader has before it.
unfoldable pub records_left : Reader → List Slot
records_left r = records_from r.trace.now r.next ((header_of r.trace.now).records - r.next)

-- What a reader gives as an iterator: the first of the records before it, and a reader at the record after; or none, where none is left or
-- the next one is refused, and the reader as it was.
abbrev pub Gives : Reader → Option Slot → Reader → Type 0
Gives r found s = MatchOption found ((records_left r ≡ []) × (s ≡ r)) (λ t. (records_left r ≡ t ∷ records_left s) × (s.trace ≡ r.trace) × (s.next ≡ following_of r.next))
