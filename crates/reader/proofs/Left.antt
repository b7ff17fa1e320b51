-- The records that a reader has before it: how `next` takes the first of them. Assumes nothing.
use Prim.Native.Nat.{ℕ, zero, suc, ◌+◌, ◌-◌, ◌≤◌, ◌<◌}
use mathlib.Core.Bool.{false, cond}
use mathlib.Core.List.{List, [], ◌∷◌}
use mathlib.Core.Path.{◌≡◌, refl, ◌∙◌}
use native.Mathlib.Decide.{dec_le}
use native.Mathlib.Omega.{arith}
use lib.Dec.{ltb}
use borrow.Author.Tests.{le-ltb}
use Rattle.std.proofs.Common.{Option, Some, None, Result, Ok, Err}
use Rattle.std.specs.Option.{option_flatten, IfSome}
use Rattle.std.specs.Result.{result_ok, IfOk}
use Rattle.frame.specs.declared.refusal.Refusal.{Refusal}
use Rattle.frame.specs.Refusals.{numbered, refused_or}
use Rattle.heard.specs.declared.Slot.{Slot}
use Rattle.reader.specs.declared.Reader.{Reader}
use Rattle.reader.specs.Reading.{following_of, read_on, records_from, records_left}
use Rattle.reader.specs.Record.{record_slot, read_as, record_of}
use Rattle.reader.proofs.Given.{next_number}
use Rattle.trace.specs.Trace.{header_of, parts_refusal}

-- A record that is read is one of the trace's.
inside : (l : List ℕ) (i : ℕ) (t : Slot) → record_of l i ≡ Ok (Some t) → i < (header_of l).records
unfolding record_of
inside l i t e = go (parts_refusal l) (dec_le (suc i) (header_of l).records) e
  where
    go : (k : ℕ) → Dec (suc i ≤ (header_of l).records)
        → refused_or k (cond (ltb i (header_of l).records) (read_as (record_slot l i)) (Ok None)) ≡ Ok (Some t) → i < (header_of l).records
    go (suc k) d e = absurd (cc)
    go zero (yes less) e = less
    go zero (no more) e =
        let past : ltb i (header_of l).records ≡ false = le-ltb i (header_of l).records (omega arith) in
        let none : Ok None ≡ Ok (Some t) = rw past at e in
        absurd (cc)

-- What a reader has before it, by what it reads: a record and what the reader after it has, or nothing at the end and at a refusal.
module _ (r s : Reader) (same : s.trace ≡ r.trace) (after : s.next ≡ following_of r.next) where
  pub left_read : (read : Result (Option Slot) Refusal) (t : Slot) → numbered read ≡ record_of r.trace.now r.next
      → IfOk read (λ found. IfSome found (λ _. r.next < 65536)) → option_flatten (result_ok read) ≡ Some t → records_left r ≡ t ∷ records_left s
  unfolding records_left records_from
  left_read (Ok (Some x)) t given few e =
      let f : record_of r.trace.now r.next ≡ Ok (Some t) = cc in
      let here = inside r.trace.now r.next t f in
      let next : s.next ≡ r.next + 1 = after ∙ next_number r.next few in
      let one_more : (header_of r.trace.now).records - r.next ≡ suc ((header_of r.trace.now).records - (r.next + 1)) = omega (arith, here) in
      rw (same, next, one_more, f)
  left_read (Ok None) t given few e = absurd (cc)
  left_read (Err k) t given few e = absurd (cc)

module _ (r : Reader) where
  ends : (read : Result (Option Slot) ℕ) (count : ℕ) → read ≡ record_of r.trace.now r.next → ((others : List Slot) → read_on read others ≡ [])
      → records_from r.trace.now r.next count ≡ []
  unfolding records_from
  ends read zero given h = refl
  ends read (suc count) given h = rw (← given) (h _)

  pub none_left : (read : Result (Option Slot) Refusal) → numbered read ≡ record_of r.trace.now r.next → option_flatten (result_ok read) ≡ None
      → records_left r ≡ []
  unfolding records_left
  none_left (Ok (Some x)) given e = absurd (cc)
  none_left (Ok None) given e = ends _ _ given (λ others. refl)
  none_left (Err k) given e = ends _ _ given (λ others. refl)
