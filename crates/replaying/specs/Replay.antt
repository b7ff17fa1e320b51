-- The replay of a trace: document 02, U3, whose sentences stand above the definitions.
-- Assumes nothing.
use Rattle.std.specs.Prelude.{ℕ, zero, suc, ◌*◌, ◌/◌, cond, List, [], ◌∷◌, ◌++◌, eqb, ltb, length, drop}
use Rattle.frame.specs.Refusals.{number_in}
use Rattle.frame.specs.Settings.{or_else}
use Rattle.counting.specs.Windows.{windows_before}
use Rattle.heard.specs.declared.Heard.{Heard}
use Rattle.handset.specs.declared.Handset.{Handset}
use Rattle.handset.specs.Feed.{feed_of}
use Rattle.handset.specs.Make.{make_of}
use Rattle.reader.specs.Record.{brought_at}
use Rattle.trace.specs.Trace.{header_of, settings_of, trace_refusal}
use Rattle.replaying.specs.Written.{bytes_of}

-- What the records bring, from record i on, `count` of them.
abbrev pub brought_from : List ℕ → ℕ → ℕ → List Heard
brought_from l i zero = []
brought_from l i (suc count) = brought_at l i ∷ brought_from l (suc i) count

-- What all records of a trace bring, in their order.
unfoldable pub brought_in : List ℕ → List Heard
brought_in l = brought_from l 0 (header_of l).records

-- Where the feeds of a replay end: the refusal that stopped it, 0 for none, with the number of the record that met it, and what the
-- windows before gave.
pub record Played : Type 0 where
  pub refusal : ℕ
  pub number : ℕ
  pub bytes : List ℕ

-- The same with the bytes of windows that came before.
abbrev pub after : List ℕ → Played → Played
after bytes p = record { refusal = p.refusal; number = p.number; bytes = bytes ++ p.bytes }

-- "stops at the first refusal with its record's number from 0": at record i, or else what comes after it.
abbrev pub stop_or : ℕ → ℕ → Played → Played
stop_or zero i next = next
stop_or (suc k) i next = record { refusal = suc k; number = i; bytes = [] }

-- "The replay equals the feeds one by one": the handset is fed what record i brings, and the handset after it what the next ones do.
unfoldable pub played : Handset → ℕ → List Heard → Played
played h i [] = record { refusal = 0; number = 0; bytes = [] }
played h i (x ∷ xs) =
    stop_or (number_in (feed_of h x).answer) i
    (after (bytes_of h.next (feed_of h x).answer) (played (feed_of h x).handset (suc i) xs))

-- The feeds of a trace: a handset made from its settings, then its records.
unfoldable pub played_in : List ℕ → Played
played_in l = played (make_of (settings_of l)).handset 0 (brought_in l)

-- The output that the windows need which the records of the header complete.
unfoldable pub output_needed : List ℕ → ℕ
output_needed l = 8 * windows_before (settings_of l).config (header_of l).records

-- "23, after those on settings and before any record, an output under eight bytes per window that the records complete". `room` is the
-- output's length. 21 and 22 come first, then the refusals of making a handset.
unfoldable pub start_refusal : List ℕ → ℕ → ℕ
start_refusal l room =
    or_else (trace_refusal l) (or_else (make_of (settings_of l)).refusal (cond (ltb room (output_needed l)) 23 0))

-- What a replay answers: the refusal, 0 for none; a kind; the number of the record that was refused, from 0; and how many windows were
-- written.
pub record Replayed : Type 0 where
  pub refusal : ℕ
  pub kind : ℕ
  pub number : ℕ
  pub windows : ℕ

-- Kinds of an answer: refused before any record, done, stopped at a record.
abbrev pub replay_refused : ℕ
replay_refused = 0

abbrev pub replay_done : ℕ
replay_done = 1

abbrev pub replay_stopped : ℕ
replay_stopped = 2

-- The answer where the feeds were made, in the kind that they ended in; each window gave eight bytes.
abbrev pub ended_as : Played → Replayed
ended_as p =
    record {
      refusal = p.refusal;
      kind = cond (eqb p.refusal 0) replay_done replay_stopped;
      number = p.number;
      windows = length p.bytes / 8;
    }

abbrev pub replayed_as : ℕ → Played → Replayed
replayed_as zero p = ended_as p
replayed_as (suc k) p = record { refusal = suc k; kind = replay_refused; number = 0; windows = 0 }

-- The answer to a trace with an output of `room` bytes.
unfoldable pub replay_of : List ℕ → ℕ → Replayed
replay_of l room = replayed_as (start_refusal l room) (played_in l)

-- The output afterwards: "windows written before it remain", and the bytes after them are the old ones.
abbrev pub written : List ℕ → List ℕ → List ℕ
written bytes old = bytes ++ drop (length bytes) old

abbrev pub output_as : ℕ → List ℕ → List ℕ → List ℕ
output_as zero bytes old = written bytes old
output_as (suc k) bytes old = old

-- A refusal before any record writes nothing.
unfoldable pub output_of : List ℕ → List ℕ → List ℕ
output_of l old = output_as (start_refusal l (length old)) (played_in l).bytes old
