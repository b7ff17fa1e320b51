-- The reader's answers: a refusal of the parts, and the records of a trace that is not refused. Assumes nothing.
use Prim.Native.Nat.{ℕ, ◌+◌, ◌<◌}
use mathlib.Core.List.{List}
use mathlib.Core.Path.{◌≡◌, ap}
use native.Mathlib.Omega.{arith}
use borrow.Author.Tests.{lt-ltb}
use Rattle.std.proofs.Common.{Some, Ok}
use Rattle.reader.specs.Reading.{following_of, heard_of}
use Rattle.reader.specs.Record.{slot_at, used_in, brought_by, record_slot, brought_at, read_as, record_of}
use Rattle.trace.specs.Trace.{header_of, trace_refusal}
use Rattle.trace.proofs.Known.{in_order}

-- The reader of a trace that is not refused gives each of its records, and what it brings is what its bytes say.
module _ (l : List ℕ) (accepted : trace_refusal l ≡ 0) (i : ℕ) (inside : i < (header_of l).records) where
  pub record_read_holds : record_of l i ≡ Ok (Some (used_in (record_slot l i)))
  unfolding record_of read_as record_slot slot_at
  record_read_holds =
      let p = in_order l accepted i inside in
      rw (p.0, lt-ltb i _ inside, p.1)

  pub record_heard : heard_of (record_of l i) ≡ brought_at l i
  unfolding brought_at brought_by
  record_heard = ap heard_of record_read_holds

-- The number after one that a trace may have.
pub next_number : (i : ℕ) → i < 65536 → following_of i ≡ i + 1
unfolding following_of
next_number i h = rw (lt-ltb i 18446744073709551615 (omega arith))
