-- What a sizing of replays must be: document 02, U14, sentence by sentence. The statement is over any sizing; that of specs/Size.antt meets
-- it (proofs/Sizing.antt) and no other does (proofs/Only.antt).
-- Assumes nothing.
use Rattle.std.specs.Prelude.{ℕ, suc, ◌*◌, ◌≤◌, ◌<◌, List, [], ◌∷◌, Result, Ok, Err, ◌↔◌, ◌≡◌, length}
use Rattle.frame.specs.Refusals.{number_in}
use Rattle.frame.specs.Settings.{or_else, settings_refusal}
use Rattle.trace.specs.Exactly.{Holds, PartsFit, RightLength}
use Rattle.trace.specs.Trace.{byte_at, header_of, settings_of, Part, header_part, settings_part, parts_refusal, trace_refusal}
use Rattle.heard.specs.declared.Heard.{Heard}
use Rattle.heard.specs.declared.Heard.TheVariants.{Nothing}
use Rattle.reply.specs.declared.Answer.{Answer}
use Rattle.reply.specs.declared.Answer.TheVariants.{Taken, NoWindow, Silent, Sent}
use Rattle.handset.specs.declared.Handset.{Handset}
use Rattle.handset.specs.Feed.{feed_of}
use Rattle.handset.specs.Make.{make_of}
use Rattle.reader.specs.Record.{brought_at}
use Rattle.replaying.specs.Replay.{Replayed, brought_in, played_in, written, output_of, replay_refused, replay_done, replay_stopped, replay_of}
use Rattle.sizing.specs.declared.ReplaySize.{ReplaySize}

-- Any bytes are sized, or refused by a number.
abbrev pub Sizing : Type 0
Sizing = List ℕ → Result ReplaySize ℕ

-- The windows that feeds answer, with silence or a reply, where `more` come after the first feed; a refused feed and all after it
-- answer none.
abbrev pub with_answer : Result Answer ℕ → ℕ → ℕ
with_answer (Ok Silent) more = suc more
with_answer (Ok (Sent r)) more = suc more
with_answer (Ok Taken) more = more
with_answer (Ok NoWindow) more = more
with_answer (Err k) more = 0

unfoldable pub windows_answered : Handset → List Heard → ℕ
windows_answered h [] = 0
windows_answered h (x ∷ xs) = with_answer (feed_of h x).answer (windows_answered (feed_of h x).handset xs)

-- The size of what the replay of a trace writes: "the windows answered and the output bytes", counted over the feeds, as far as they are
-- not refused (ShowsSize).
unfoldable pub size_written : List ℕ → ReplaySize
size_written l = record { windows = windows_answered (make_of (settings_of l)).handset (brought_in l); bytes = length (played_in l).bytes }

-- Both figures of one size are no smaller than those of another.
pub record AtLeast (z least : ReplaySize) : Type 0 where
  pub windows : least.windows ≤ z.windows
  pub bytes : least.bytes ≤ z.bytes

-- Two lists have the same bytes in a part.
abbrev pub SameIn : Part → List ℕ → List ℕ → Type 0
SameIn p l m = (i : ℕ) → Holds p i → byte_at l i ≡ byte_at m i

-- Two traces of one length have the same header and the same settings. All other bytes are free.
pub record SameHead (l m : List ℕ) : Type 0 where
  pub size : length l ≡ length m
  pub header : SameIn header_part l m
  pub settings : SameIn (settings_part (header_of l)) l m

-- A replay refused by a number, before any record.
abbrev pub refused_by : ℕ → Replayed
refused_by k = record { refusal = k; kind = replay_refused; number = 0; windows = 0 }

-- `stopped`, `enough`, `short` and `early` follow from the others; they are said because the request, or one who lends an output, asks.
pub record SizesReplays (size : Sizing) : Type 0 where
  -- "21, 22 (kinds apart) and those on settings apply", in this order, and no others
  pub refusals : (l : List ℕ) → number_in (size l) ≡ or_else (parts_refusal l) (settings_refusal (settings_of l))
  -- "For every trace that the replay accepts to its end, both figures equal what it writes;" whatever room it was given
  pub done : (l : List ℕ) (room : ℕ) → (replay_of l room).kind ≡ replay_done → size l ≡ Ok (size_written l)
  -- "for one refused midway they are no smaller."
  pub stopped : (l : List ℕ) (room : ℕ) → (replay_of l room).kind ≡ replay_stopped → (z : ReplaySize) × (size l ≡ Ok z) × AtLeast z (size_written l)
  -- "From the header and settings alone"
  pub alone : (l m : List ℕ) → SameHead l m → size l ≡ size m
  -- "Bench engineers must lend the output buffer first": in one of so many bytes the replay comes to its records, in a shorter one it is
  -- refused 23
  pub enough : (l : List ℕ) (z : ReplaySize) → size l ≡ Ok z → trace_refusal l ≡ 0 → (room : ℕ) → z.bytes ≤ room → (replay_of l room).kind ≡ replay_refused → ⊥
  pub short : (l : List ℕ) (z : ReplaySize) → size l ≡ Ok z → trace_refusal l ≡ 0 → (room : ℕ) → room < z.bytes → replay_of l room ≡ refused_by 23
  -- what is refused here is refused by the replay before any record, by 22 if the replay refuses it for a kind over 3, else by the same
  -- number
  pub early : (l : List ℕ) → (number_in (size l) ≡ 0 → ⊥) → (room : ℕ) → replay_of l room ≡ refused_by (or_else (trace_refusal l) (number_in (size l)))

-- 21 and 22 of the parts are given for their causes, whatever the kinds; that neither is, `RefusedExactly.parts` says
-- (trace/specs/Exactly.antt).
pub record PartsRefused (l : List ℕ) : Type 0 where
  pub twenty_one : (parts_refusal l ≡ 21) ↔ (RightLength l → ⊥)
  pub twenty_two : (parts_refusal l ≡ 22) ↔ (RightLength l × (PartsFit (header_of l) → ⊥))

-- `size_written` is what a replay tells that is not refused before its records, and what its output shows: so many windows, eight bytes
-- for each of them, and those bytes over the first of the output.
pub record ShowsSize (l old : List ℕ) : Type 0 where
  pub windows : (replay_of l (length old)).windows ≡ (size_written l).windows
  pub bytes : (size_written l).bytes ≡ 8 * (size_written l).windows
  pub output : output_of l old ≡ written (played_in l).bytes old

abbrev pub EachShown : Type 0
EachShown = (l old : List ℕ) → ((replay_of l (length old)).kind ≡ replay_refused → ⊥) → ShowsSize l old

-- No smaller figures would do, whatever header and settings that are not refused: a trace with the same, whose records bring nothing, is
-- replayed to its end, so that it writes as much. None of its bytes is greater than the first's, so it is bytes where that is.
pub record Reached (l m : List ℕ) : Type 0 where
  pub head : SameHead l m
  pub bytes : (i : ℕ) → byte_at m i ≤ byte_at l i
  pub nothing : (i : ℕ) → i < (header_of m).records → brought_at m i ≡ Nothing
  pub done : (room : ℕ) × ((replay_of m room).kind ≡ replay_done)

abbrev pub EachReached : Sizing → Type 0
EachReached size = (l : List ℕ) → number_in (size l) ≡ 0 → (m : List ℕ) × Reached l m

-- So a sizing that meets the statement is this one, on every list.
abbrev pub Only : Sizing → Type 0
Only size = (other : Sizing) → SizesReplays other → (l : List ℕ) → other l ≡ size l
