-- The answers of `stop_of` and `write`, from what was refused. Assumes nothing.
use Prim.Native.Nat.{ℕ, zero, suc, ◌≤◌, ◌<◌}
use mathlib.Core.List.{List}
use mathlib.Core.Path.{◌≡◌, refl, ap, ◌∙◌}
use native.Mathlib.Omega.{arith}
use lib.ListN.{length, drop, length-append}
use borrow.Author.Tests.{lt-ltb, le-ltb}
use Rattle.std.proofs.Common.{Result, Ok, Err}
use Rattle.std.specs.Result.{IfOk}
use Rattle.frame.specs.declared.refusal.Refusal.{Refusal}
use Rattle.handset.specs.declared.Handset.{Handset}
use Rattle.reader.specs.declared.accepted.Trace.{Trace}
use Rattle.frame.specs.declared.refusal.Refusal.TheVariants.{Output}
use Rattle.frame.specs.Refusals.{number_of}
use Rattle.frame.specs.Settings.{or_else}
use Rattle.frame.proofs.Refused.{from_one}
use Rattle.replaying.specs.declared.stop.Stop.{Stop as Ending}
use Rattle.replaying.specs.declared.stop.Stop.TheVariants.{Refused, AtRecord}
use Rattle.frame.proofs.Accepted.{neither}
use Rattle.handset.specs.Make.{make_of}
use Rattle.trace.specs.Trace.{header_of, settings_of, trace_refusal}
use Rattle.replaying.specs.Replay.{brought_in, played, played_in, ended_as, replayed_as, written}
use Rattle.spelling.specs.Spelling.{spelled_size, header_bytes, settings_bytes, spelling_of}
use Rattle.spelling.specs.Writable.{Writable}
use Rattle.spelling.specs.Writing.{stopped_by, written_by, stop_in, stop_of, room_refusal, write_of, spelled_into}
use Rattle.spelling.proofs.Putting.{records_length}
use Rattle.spelling.specs.OneSpelling.{Bytes}
use Rattle.spelling.proofs.Size.{size_least_holds}
use Rattle.spelling.proofs.Small.{file_small}

module _ (l : List ℕ) where
  -- A refusal before any record, and none.
  pub refused_before : {T : Type 0} (given : Result T Ending) (r : Refusal) → given ≡ Err (Refused r)
      → number_of r ≡ or_else (trace_refusal l) (make_of (settings_of l)).refusal → stopped_by given ≡ stop_of l
  unfolding stop_of
  refused_before given r is e = let one = from_one r in rw (is, ← e, one.1)

  pub none_before : {T : Type 0} (given : Result T Ending) (h : Handset) → h ≡ (make_of (settings_of l)).handset
      → 0 ≡ or_else (trace_refusal l) (make_of (settings_of l)).refusal → stopped_by given ≡ stop_in (ended_as (played h 0 (brought_in l)))
      → stopped_by given ≡ stop_of l
  unfolding stop_of played_in
  none_before given h made none fed = rw (← none, ← made) fed

  -- Where nothing stops, the trace and its settings are in order.
  pub nothing_before : (stop_of l).refusal ≡ 0 → (trace_refusal l ≡ 0) × ((make_of (settings_of l)).refusal ≡ 0)
  unfolding stop_of
  nothing_before e = neither (trace_refusal l) (make_of (settings_of l)).refusal (go (or_else (trace_refusal l) (make_of (settings_of l)).refusal) e)
    where
      go : (r : ℕ) → (stop_in (replayed_as r (played_in l))).refusal ≡ 0 → r ≡ 0
      go zero e = refl
      go (suc r) e = absurd (omega arith)

-- The spelling has 18 bytes and four per record.
pub spelling_length : (l : List ℕ) → length (spelling_of l) ≡ spelled_size (header_of l).records
unfolding spelling_of header_bytes settings_bytes
spelling_length l = omega (arith, records_length l 0 (header_of l).records)

module _ (l old : List ℕ) where
  -- An answer and an output that are right.
  abbrev Right : Result ℕ Ending → List ℕ → Type 0
  Right r new = (written_by r ≡ write_of l (length old)) × ((new ≡ spelled_into l old) × IfOk r (λ size. size ≤ length new))

  -- The trace, its settings or a record is refused.
  pub stopped : (s : Ending) → stopped_by {T = ℕ} (Err s) ≡ stop_of l → Right (Err s) old
  unfolding write_of spelled_into
  stopped (Refused r) e = let one = from_one r in rw (← e, one.1) (refl, (refl, tt))
  stopped (AtRecord r i) e = let one = from_one r in rw (← e, one.1) (refl, (refl, tt))

  module _ (trace : Trace) (lent : trace.bytes.now ≡ l) (none : stopped_by (Ok trace) ≡ stop_of l) where
    read : trace.records ≡ (header_of l).records
    read = trace.counted ∙ ap (λ (b : List ℕ). (header_of b).records) lent

    -- The output is too small.
    pub too_small : length old < spelled_size trace.records → Right (Err (Refused Output)) old
    unfolding write_of spelled_into room_refusal
    too_small p = rw (← none, ← read, lt-ltb _ _ p) (refl, (refl, tt))

    -- It is not.
    module _ (room : spelled_size trace.records ≤ length old) where
      pub writable : Bytes l → Writable trace old
      unfolding make_of
      writable bytes =
          let p = nothing_before l (rw (← none)) in
          record { settings = rw lent p.1; short = omega (arith, size_least_holds l p.0, file_small l bytes, read); room = room }

      pub written_out : (new : List ℕ) → new ≡ written (spelling_of trace.bytes.now) old → Right (Ok (spelled_size trace.records)) new
      unfolding write_of spelled_into room_refusal
      written_out new given =
          let e : new ≡ written (spelling_of l) old = rw lent at given in
          let size = ap length e ∙ length-append (spelling_of l) (drop (length (spelling_of l)) old) in
          let own : length (spelling_of l) ≡ spelled_size trace.records = rw read (spelling_length l) in
          rw (← none, ← read, le-ltb _ _ room) (refl, (e, omega (arith, size, own)))
