-- A record of a trace, and what of it is used: document 02, U3, whose sentences stand above the definitions.
-- Assumes nothing.
use Rattle.std.specs.Prelude.{ℕ, ◌+◌, ◌/◌, ◌%◌, cond, List, Option, Some, None, Result, Ok, Err, eqb, ltb, leb}
use Rattle.frame.specs.Refusals.{refused_or}
use Rattle.heard.specs.declared.Heard.{Heard}
use Rattle.heard.specs.declared.Slot.{Slot}
use Rattle.heard.specs.Memory.{none, heard_in}
use Rattle.trace.specs.Trace.{byte_at, header_of, parts_refusal, place_of}

-- "A record takes four: kind (0 nothing, 1 grant, 2 scheduled, 3 release), first CCE, DAI, results (bit 0 first block, bit 1 second,
-- bit 2 set for two blocks)": the four numbers of a remembered subframe.
unfoldable pub slot_at : List ℕ → ℕ → Slot
slot_at l at = record { kind = byte_at l at; cce = byte_at l (at + 1); dai = byte_at l (at + 2); results = byte_at l (at + 3) }

-- "bit 1 only with bit 2": bits 0 to 2 where bit 2 is set, else bit 0 alone.
unfoldable pub used_results : ℕ → ℕ
used_results results = cond (eqb (results / 4 % 2) 1) (4 + results % 4) (results % 2)

-- "Kind 1 uses all, 2 results, 3 CCE and DAI, ..; the rest .. ignored": what is not used is 0.
unfoldable pub used_in : Slot → Slot
used_in t =
    cond (eqb t.kind 1) (record { kind = 1; cce = t.cce; dai = t.dai; results = used_results t.results })
    (cond (eqb t.kind 2) (record { kind = 2; cce = 0; dai = 0; results = used_results t.results })
    (cond (eqb t.kind 3) (record { kind = 3; cce = t.cce; dai = t.dai; results = 0 })
    none))

-- What a record brings the handset.
unfoldable pub brought_by : Slot → Heard
brought_by t = heard_in (used_in t)

-- Record i of a trace, its unused fields and bits too.
unfoldable pub record_slot : List ℕ → ℕ → Slot
record_slot l i = slot_at l (place_of (header_of l).first i)

-- What record i of a trace brings.
unfoldable pub brought_at : List ℕ → ℕ → Heard
brought_at l i = brought_by (record_slot l i)

-- What of a record is used, or 22 for a kind over 3.
abbrev pub used_of : Slot → Result Slot ℕ
used_of t = cond (leb t.kind 3) (Ok (used_in t)) (Err 22)

-- The same as a reader's answer: a record, and not the end.
abbrev pub as_record : Result Slot ℕ → Result (Option Slot) ℕ
as_record (Ok t) = Ok (Some t)
as_record (Err k) = Err k

unfoldable pub read_as : Slot → Result (Option Slot) ℕ
read_as t = as_record (used_of t)

-- The record of number i of any bytes: 21, or 22 for their parts; none, the end, where there are no more than i records; else record i,
-- or 22 for its own kind.
unfoldable pub record_of : List ℕ → ℕ → Result (Option Slot) ℕ
record_of l i = refused_or (parts_refusal l) (cond (ltb i (header_of l).records) (read_as (record_slot l i)) (Ok None))
