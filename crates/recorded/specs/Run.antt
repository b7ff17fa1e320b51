-- The feeds of a replay are a run of demand 3: document 02, U3, "The replay equals the feeds one by one". So what demand 3 says of a
-- run it says of what a replay prints.
-- Assumes nothing.
use Rattle.std.specs.Prelude.{Result, ℕ, zero, suc, ◌*◌, ◌%◌, ◌<◌, true, cond, List, [], ◌∷◌, ◌++◌, ◌≡◌, eqb, length, take, drop}
use Rattle.frame.specs.Refusals.{number_in}
use Rattle.frame.specs.Settings.{ports_refusal}
use Rattle.counting.specs.Windows.{has_window, windows_before}
use Rattle.confirmation.specs.declared.Send.{Send}
use Rattle.heard.specs.declared.Heard.{Heard}
use Rattle.reply.specs.declared.Answer.{Answer}
use Rattle.handset.specs.declared.Handset.{Handset}
use Rattle.handset.specs.Feed.{feed_of}
use Rattle.handset.specs.Make.{make_of}
use Rattle.reader.specs.Record.{brought_at}
use Rattle.trace.specs.Trace.{header_of, settings_of}
use Rattle.replaying.specs.Replay.{brought_in, played_in, start_refusal, ended_as, replay_of, written, output_of}
use Rattle.replaying.specs.Written.{bytes_of}
use Rattle.spelling.specs.OneSpelling.{trace_writer, Writes, bytes_written}
use Rattle.agreement.specs.Demand3.{feedback_engine, fed_at, IsFeed, cause_at, HoldsAfter}
use Rattle.agreement.specs.Run.{Item, feed, subframe_at, settings_in, Schedule, BringsSent}

-- After a feed that is refused no more are made.
abbrev pub unless_refused : ℕ → List Item → List Item
unless_refused zero items = items
unless_refused (suc k) items = []

-- The feeds that a replay makes, the refused one included.
unfoldable pub feeds_from : Handset → List Heard → List Item
feeds_from h [] = []
feeds_from h (x ∷ xs) = feed x ∷ unless_refused (number_in (feed_of h x).answer) (feeds_from (feed_of h x).handset xs)

unfoldable pub run_of : List ℕ → List Item
run_of l = feeds_from (make_of (settings_of l)).handset (brought_in l)

-- What the run answers to record i.
abbrev pub answer_to : List ℕ → ℕ → Result Answer ℕ
answer_to l i = (fed_at feedback_engine (settings_of l) (run_of l) i (brought_at l i)).answer

-- The bytes that `count` answers give, from that of subframe i on.
abbrev pub bytes_from : (ℕ → Result Answer ℕ) → ℕ → ℕ → List ℕ
bytes_from answers i zero = []
bytes_from answers i (suc count) = bytes_of (i % 10) (answers i) ++ bytes_from answers (suc i) count

pub record IsRun (l : List ℕ) : Type 0 where
  -- item i feeds record i, and comes to the run's subframe i
  pub feeds : (i : ℕ) → i < length (run_of l) → IsFeed (run_of l) i (brought_at l i)
  pub counted : (i : ℕ) → i < length (run_of l) → subframe_at (settings_of l) (run_of l) i ≡ i
  -- a cause of a refusal is met by the record at which the replay stopped, and by no other
  pub causes : (i : ℕ) → i < length (run_of l)
      → cause_at (settings_of l) (run_of l) i (brought_at l i) ≡ cond (eqb i (played_in l).number) (played_in l).refusal 0
  -- all records are fed, or those up to the refused one
  pub whole : (played_in l).refusal ≡ 0 → length (run_of l) ≡ (header_of l).records
  pub stopped : ((played_in l).refusal ≡ 0 → ⊥) → length (run_of l) ≡ suc (played_in l).number
  -- what is printed is what the run answers,
  pub prints : (played_in l).bytes ≡ bytes_from (answer_to l) 0 (length (run_of l))
  -- the window of subframe i behind those of the subframes before it,
  pub window : (i : ℕ) → i < length (run_of l) → cause_at (settings_of l) (run_of l) i (brought_at l i) ≡ 0 → has_window (settings_of l).config (i % 10) ≡ true
      → (take 8 (drop (8 * windows_before (settings_of l).config i) (played_in l).bytes) ≡ bytes_of (i % 10) (answer_to l i)) × (length (bytes_of (i % 10) (answer_to l i)) ≡ 8)
  -- and that is what a replay with room enough leaves in its output, and what it tells
  pub output : (old : List ℕ) → start_refusal l (length old) ≡ 0 → output_of l old ≡ written (bytes_from (answer_to l) 0 (length (run_of l))) old
  pub told : (room : ℕ) → start_refusal l room ≡ 0 → replay_of l room ≡ ended_as (played_in l)
  -- every window of it is answered and read in the mode of the trace's settings, since a trace has no changes of mode (U8)
  pub mode : (s : ℕ) → settings_in (settings_of l) (run_of l) s ≡ settings_of l
  -- it is a handset's of one antenna port, U9: "Replays and traces keep one port"; so that 24 is never met
  pub ports : ((settings_of l).ports ≡ 1) × (ports_refusal (settings_of l) ≡ 0)
  -- and demand 3 holds of it, for every schedule that its feeds bring
  pub holds : (sent : ℕ → Send) → Schedule (settings_of l) sent → BringsSent (settings_of l) sent (run_of l)
      → HoldsAfter feedback_engine (settings_of l) sent (run_of l)

-- What is written of a trace (document 02, U4) is the same run, so that demand 3 says the same of both.
abbrev pub SpelledSameRun : List ℕ → List ℕ → Type 0
SpelledSameRun l old =
    Writes trace_writer l old
    → (settings_of (bytes_written trace_writer l old) ≡ settings_of l) × (run_of (bytes_written trace_writer l old) ≡ run_of l)
