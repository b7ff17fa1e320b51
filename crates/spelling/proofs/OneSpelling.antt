-- One spelling of a trace: specs/OneSpelling.antt, proved. Assumes nothing.
use Prim.Native.Nat.{ℕ, zero, suc, ◌+◌, ◌≤◌, ◌<◌}
use mathlib.Core.Bool.{cond}
use mathlib.Core.List.{List}
use mathlib.Core.Path.{◌≡◌, refl, sym, ap, ◌∙◌}
use native.Mathlib.Decide.{dec_le}
use native.Mathlib.Omega.{arith}
use lib.Dec.{eqb}
use lib.ListN.{length, drop}
use lib.Seq.{take_at, drop_at}
use borrow.Author.Tests.{lt-ltb, le-ltb}
use Rattle.frame.specs.Settings.{or_else}
use Rattle.heard.specs.declared.Slot.{Slot}
use Rattle.handset.specs.Make.{make_of}
use Rattle.trace.specs.declared.Header.{Header}
use Rattle.trace.specs.Trace.{header_of, settings_of, trace_refusal}
use Rattle.trace.proofs.Exactly.{exactly}
use Rattle.reader.specs.Record.{slot_at, used_in, record_slot}
use Rattle.replaying.specs.Accepted.{AcceptedTrace}
use Rattle.replaying.specs.Replay.{Played, played_in, output_needed, start_refusal, ended_as, replayed_as, replay_of, written, output_as, output_of}
use Rattle.replaying.proofs.Accepting.{roomy}
use Rattle.spelling.specs.OneSpelling.{trace_writer, Writes, bytes_written, Spells, OneSpelling, LengthEnough, UsedExactly}
use Rattle.spelling.specs.Spelling.{spelled_size, records_bytes, spelling_of}
use Rattle.spelling.specs.Used.{SameTrace}
use Rattle.spelling.specs.Writing.{Written, stop_in, stop_of, room_refusal, written_as, stopped_or, write_of, spelled_into}
use Rattle.spelling.proofs.Answers.{nothing_before, spelling_length}
use Rattle.spelling.proofs.ReadBack.{header_back, settings_back, record_back, trace_back, read_back, all_brought, played_back, spelled_again}
use Rattle.spelling.proofs.Size.{size_least_holds, size_length}
use Rattle.spelling.proofs.Small.{spelled_bytes}
use Rattle.spelling.proofs.Using.{used_again, known_kind, used_bare, record_same, same_record}

-- Nothing stops an accepted trace, and what nothing stops is accepted.
module _ (l : List ℕ) where
  free : AcceptedTrace l → (stop_of l).refusal ≡ 0
  unfolding stop_of
  free a = rw (a.trace, a.settings, a.records)

  accepted : (stop_of l).refusal ≡ 0 → AcceptedTrace l
  unfolding stop_of
  accepted e =
      let p = nothing_before l e in
      record { trace = p.0; settings = p.1; records = rw (p.0, p.1) at e }

  -- The answer to an accepted trace, with room and without.
  done : AcceptedTrace l → (room : ℕ) → spelled_size (header_of l).records ≤ room
      → write_of l room ≡ record { refusal = 0; kind = 1; number = 0; size = spelled_size (header_of l).records }
  unfolding write_of room_refusal
  done a room h = rw (free a, le-ltb room (spelled_size (header_of l).records) h)

  small : AcceptedTrace l → (room : ℕ) → room < spelled_size (header_of l).records
      → write_of l room ≡ record { refusal = 23; kind = 0; number = 0; size = 0 }
  unfolding write_of room_refusal
  small a room h = rw (free a, lt-ltb room (spelled_size (header_of l).records) h)

  -- The answer to one that is not.
  as_replayed : (t m : ℕ) (p : Played) (next : Written) → ((t ≡ 0) × (m ≡ 0) × (p.refusal ≡ 0) → ⊥)
      → stopped_or (replayed_as (or_else t m) p).refusal (stop_in (replayed_as (or_else t m) p)) next
      ≡ record {
        refusal = (replayed_as (or_else t (or_else m 0)) p).refusal;
        kind = (replayed_as (or_else t (or_else m 0)) p).kind;
        number = (replayed_as (or_else t (or_else m 0)) p).number;
        size = 0;
      }
  as_replayed zero zero p next some = go p.refusal refl
    where
      go : (k : ℕ) → p.refusal ≡ k
          → stopped_or p.refusal (stop_in (ended_as p)) next ≡ record { refusal = p.refusal; kind = cond (eqb p.refusal 0) 1 2; number = p.number; size = 0 }
      go zero e = absurd (some (refl, refl, e))
      go (suc k) e = rw e
  as_replayed zero (suc m) p next some = refl
  as_replayed (suc t) m p next some = refl

  stops : (AcceptedTrace l → ⊥) → (room out : ℕ) → output_needed l ≤ out
      → write_of l room ≡ record { refusal = (replay_of l out).refusal; kind = (replay_of l out).kind; number = (replay_of l out).number; size = 0 }
  unfolding write_of stop_of replay_of
  stops not room out h =
      rw (roomy l out h)
      (as_replayed (trace_refusal l) (make_of (settings_of l)).refusal (played_in l) (written_as (room_refusal l room) (spelled_size (header_of l).records))
      (λ z. not (record { trace = z.0; settings = z.1; records = z.2 })))

  -- A kind of an accepted trace is known.
  pub kinds : trace_refusal l ≡ 0 → (i : ℕ) → i < (header_of l).records → (record_slot l i).kind ≤ 3
  unfolding record_slot slot_at
  kinds good i h = ((exactly l).none.0 good).2 i h

  module _ (old : List ℕ) where
    -- It was written: the trace is accepted, and there was room.
    written_so : Writes trace_writer l old → AcceptedTrace l × spelled_size (header_of l).records ≤ length old
    unfolding write_of
    written_so e =
        let a = accepted (go (stop_of l).refusal refl e) in
        (a, there a (dec_le (spelled_size (header_of l).records) (length old)))
      where
        go : (k : ℕ) → (stop_of l).refusal ≡ k
            → (stopped_or k (stop_of l) (written_as (room_refusal l (length old)) (spelled_size (header_of l).records))).refusal ≡ 0 → (stop_of l).refusal ≡ 0
        go zero z w = z
        go (suc k) z w = w

        there : AcceptedTrace l → Dec (spelled_size (header_of l).records ≤ length old) → spelled_size (header_of l).records ≤ length old
        there a (yes room) = room
        there a (no none) = absurd (omega (arith, sym (ap (λ (r : Written). r.refusal) (small a (length old) (omega arith))) ∙ e))

    so_written : AcceptedTrace l × spelled_size (header_of l).records ≤ length old → Writes trace_writer l old
    so_written p = ap (λ (r : Written). r.refusal) (done p.0 (length old) p.1)

    -- Then the spelling was written, and nothing behind it.
    module _ (w : Writes trace_writer l old) where
      spelled : spelled_into l old ≡ written (spelling_of l) old
      unfolding spelled_into
      spelled = rw w

      size : (write_of l (length old)).size ≡ length (spelling_of l)
      size = let p = written_so w in ap (λ (r : Written). r.size) (done p.0 (length old) p.1) ∙ sym (spelling_length l)

      bytes : bytes_written trace_writer l old ≡ spelling_of l
      bytes = rw spelled (take_at (spelling_of l) (drop (length (spelling_of l)) old) _ (sym size))

      kept : drop (write_of l (length old)).size (spelled_into l old) ≡ drop (write_of l (length old)).size old
      kept = rw (spelled, size) (drop_at (spelling_of l) (drop (length (spelling_of l)) old) _ refl)

    untouched : (Writes trace_writer l old → ⊥) → spelled_into l old ≡ old
    unfolding spelled_into
    untouched not = go (write_of l (length old)).refusal not
      where
        go : (k : ℕ) → (k ≡ 0 → ⊥) → output_as k (spelling_of l) old ≡ old
        go zero not = absurd (not refl)
        go (suc k) not = refl

  module _ (a : AcceptedTrace l) where
    same_use : SameTrace l (spelling_of l)
    same_use =
        record {
          settings = sym (settings_back l);
          count = sym (ap (λ (h : Header). h.records) (header_back l));
          records = λ i h.
              rw (record_back l i h)
              (same_record (record_slot l i) (used_in (record_slot l i)) (kinds a.trace i h) (known_kind (record_slot l i)) (sym (used_again (record_slot l i))));
        }

    spells : Spells (spelling_of l) l
    spells =
        record {
          header = header_back l;
          size = spelling_length l;
          same = same_use;
          bare = λ i h. rw (record_back l i (rw (header_back l) at h)) (used_bare (record_slot l i));
        }

    accepted_back : AcceptedTrace (spelling_of l)
    accepted_back = record { trace = trace_back l; settings = rw (settings_back l) a.settings; records = rw (played_back l) a.records }

    -- Its replay is that of the trace.
    start_same : (room : ℕ) → start_refusal (spelling_of l) room ≡ start_refusal l room
    unfolding start_refusal output_needed
    start_same room = rw (trace_back l, a.trace, settings_back l, header_back l)

    answer_same : (room : ℕ) → replay_of (spelling_of l) room ≡ replay_of l room
    unfolding replay_of
    answer_same room = rw (start_same room, played_back l)

    output_same : (out : List ℕ) → output_of (spelling_of l) out ≡ output_of l out
    unfolding output_of
    output_same out = rw (start_same (length out), played_back l)

-- Alike in what is used, alike in bytes; and back.
module _ (l m : List ℕ) where
  records_alike : ((i : ℕ) → i < (header_of l).records → used_in (record_slot l i) ≡ used_in (record_slot m i)) → (i count : ℕ)
      → i + count ≤ (header_of l).records → records_bytes l i count ≡ records_bytes m i count
  records_alike same i zero h = refl
  records_alike same i (suc count) h = rw (same i (omega arith), records_alike same (suc i) count (omega arith))

  bytes_alike : SameTrace l m → spelling_of l ≡ spelling_of m
  unfolding spelling_of
  bytes_alike s =
      let records = records_alike (λ i h. record_same (record_slot l i) (record_slot m i) (s.records i h)) 0 (header_of l).records (omega arith) in
      rw (s.settings, records, s.count)

  use_alike : AcceptedTrace l → AcceptedTrace m → spelling_of l ≡ spelling_of m → SameTrace l m
  use_alike a b e =
      let count : (header_of l).records ≡ (header_of m).records = ap (λ (h : Header). h.records) (sym (header_back l) ∙ ap header_of e ∙ header_back m) in
      record {
        settings = sym (settings_back l) ∙ ap settings_of e ∙ settings_back m;
        count = count;
        records = λ i h.
            let there : i < (header_of m).records = rw count at h in
            same_record (record_slot l i) (record_slot m i) (kinds l a.trace i h) (kinds m b.trace i there)
            (sym (record_back l i h) ∙ ap (λ (t : List ℕ). record_slot t i) e ∙ record_back m i there);
      }

-- Document 02, U4.
pub one_spelling : OneSpelling trace_writer
one_spelling =
    record {
      writes = λ l old. (written_so l old, so_written l old);
      done = done;
      stops = stops;
      small = small;
      spells = λ l old w. rw (bytes l old w) (spells l (written_so l old w).0);
      bytes = λ l old b w. rw (bytes l old w) (spelled_bytes l b (written_so l old w).0);
      kept = kept;
      refused = untouched;
      equal = λ l m a b v w. (
        λ e. use_alike l m (written_so l a v).0 (written_so m b w).0 (sym (bytes l a v) ∙ e ∙ bytes m b w),
        λ s. bytes l a v ∙ bytes_alike l m s ∙ sym (bytes m b w),
      );
      accepted = λ l old w. rw (bytes l old w) (accepted_back l (written_so l old w).0);
      again = λ l old w new room.
          let e = bytes l old w in
          let size : spelled_size (header_of (spelling_of l)).records ≤ length new = omega (arith, room, ap length e, spelling_length l, ap (λ (h : Header). h.records) (header_back l)) in
          let twice = so_written (spelling_of l) new (accepted_back l (written_so l old w).0, size) in
          rw e (twice, bytes (spelling_of l) new twice ∙ spelled_again l);
      read = λ l old w i. rw (bytes l old w) (read_back l (written_so l old w).0.trace i);
      brought = λ l old w. rw (bytes l old w) (all_brought l);
      replayed = λ l old w room. rw (bytes l old w) (answer_same l (written_so l old w).0 room);
      printed = λ l old w out. rw (bytes l old w) (output_same l (written_so l old w).0 out);
    }

pub length_enough : (l : List ℕ) → LengthEnough l
length_enough l a = rw (size_length l a.trace) at (size_least_holds l a.trace)

pub used_exactly : (a b : Slot) → UsedExactly a b
used_exactly a b ka kb = (same_record a b ka kb, record_same a b)
