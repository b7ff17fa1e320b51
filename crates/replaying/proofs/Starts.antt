-- What comes before the records, and the whole call: refused before any record, or the feeds. Assumes nothing.
use Prim.Native.Nat.{ℕ, zero, suc, ◌*◌, ◌≤◌}
use mathlib.Core.Bool.{cond}
use mathlib.Core.List.{List}
use mathlib.Core.Path.{◌≡◌, refl, sym, ap, ◌∙◌}
use native.Mathlib.Omega.{arith}
use lib.Dec.{ltb}
use lib.ListN.{length, drop, length-append}
use borrow.Author.Tests.{ltb-false}
use Rattle.std.proofs.Common.{Err}
use Rattle.frame.specs.declared.refusal.Refusal.{Refusal}
use Rattle.frame.specs.Refusals.{number_of}
use Rattle.frame.specs.Settings.{or_else, settings_refusal}
use Rattle.frame.proofs.Accepted.{neither, unmet}
use Rattle.frame.proofs.Refused.{from_one}
use Rattle.handset.specs.Make.{fresh, make_of}
use Rattle.trace.specs.Trace.{header_of, settings_of, trace_refusal}
use Rattle.reader.specs.declared.accepted.Trace.{Trace}
use Rattle.replaying.specs.declared.Outcome.{Outcome}
use Rattle.replaying.specs.declared.stop.Stop.TheVariants.{Refused}
use Rattle.replaying.specs.declared.windows.Windows.{Windows}
use Rattle.replaying.specs.Ended.{replayed_by}
use Rattle.replaying.specs.Ready.{Ready}
use Rattle.replaying.specs.Replay.{Replayed, brought_in, played, played_in, output_needed, start_refusal, ended_as, replay_of, written, output_of}

-- The trace, then its settings, are two refusals of three.
first_two : (t m next : ℕ) → or_else t (or_else m next) ≡ or_else (or_else t m) next
first_two zero m next = refl
first_two (suc t) m next = refl

pub start_as : (l : List ℕ) (room : ℕ)
    → start_refusal l room ≡ or_else (or_else (trace_refusal l) (make_of (settings_of l)).refusal) (cond (ltb room (output_needed l)) 23 0)
unfolding start_refusal
start_as l room = first_two (trace_refusal l) (make_of (settings_of l)).refusal (cond (ltb room (output_needed l)) 23 0)

module _ (l old : List ℕ) where
  -- An answer and an output that are right.
  abbrev Right : Outcome → List ℕ → Type 0
  Right o new = (replayed_by o ≡ replay_of l (length old)) × ((new ≡ output_of l old) × (8 * o.windows ≤ length new))

  pub refused_before : (r : Refusal) → number_of r ≡ start_refusal l (length old) → Right (record { windows = 0; end = Err (Refused r) }) old
  unfolding replay_of output_of
  refused_before r e = let one = from_one r in rw (← e, one.1) (refl, (refl, omega arith))

  module _ (none : 0 ≡ start_refusal l (length old)) where
    -- Nothing is refused: the handset is fresh, and the output has room.
    pub ready : (trace : Trace) → trace.bytes.now ≡ l → (w : Windows) → w.out.now ≡ old → w.written ≡ 0
        → Ready trace (make_of (settings_of l)).handset w
    unfolding start_refusal make_of fresh output_needed
    ready trace lent w same unwritten =
        let parts = neither (trace_refusal l) _ (sym none) in
        let rest = neither (settings_refusal (settings_of l)) _ parts.1 in
        let room = ltb-false (length old) (output_needed l) (unmet _ 22 0 rest.1).0 in
        let all = trace.counted ∙ ap (λ (b : List ℕ). (header_of b).records) lent in
        record { begins = rw rest.0; none = unwritten; room = rw (rest.0, all, same) room }

    pub played_on : (o : Outcome) (new : List ℕ) → replayed_by o ≡ ended_as (played (make_of (settings_of l)).handset 0 (brought_in l))
        → new ≡ written (played (make_of (settings_of l)).handset 0 (brought_in l)).bytes old → Right o new
    unfolding replay_of output_of played_in
    played_on o new e f =
        let bytes : List ℕ = (played (make_of (settings_of l)).handset 0 (brought_in l)).bytes in
        let size = ap length f ∙ length-append bytes (drop (length bytes) old) in
        let windows = ap (λ (a : Replayed). a.windows) e in
        (rw (← none) e, (rw (← none) f, omega (arith, size, windows)))
