-- The way back from the numbers of a C answer to the answer, and that no answer of a call is lost on the way there.
-- Assumes nothing.
use Rattle.std.specs.Prelude.{Option, Some, None, Result, Ok, Err, ℕ, zero, suc, Bool, true, cond, not, List, ◌≡◌, eqb, leb, take}
use Rattle.heard.specs.declared.Slot.{Slot}
use Rattle.resource.specs.declared.ports.OnPorts.{OnPorts}
use Rattle.resource.specs.declared.Cce.{Cce}
use Rattle.resource.specs.declared.Resource.{Resource}
use Rattle.frame.specs.declared.Answered.{Answered}
use Rattle.frame.specs.declared.Settings.{Settings}
use Rattle.frame.specs.Distance.{answered_of}
use Rattle.frame.specs.Order.{order_of}
use Rattle.frame.specs.Refusals.{refused_or, unless_refused}
use Rattle.frame.specs.Settings.{window_refusal}
use Rattle.frame.specs.Table.{window_of}
use Rattle.resource.specs.Calls.{inverse_of}
use Rattle.resource.specs.Ports.{ports_of}
use Rattle.station.specs.declared.Place.{Place}
use Rattle.station.specs.declared.Place.TheVariants as place
use Rattle.station.specs.declared.Reading.{Reading}
use Rattle.station.specs.declared.Reading.TheVariants as reading
use Rattle.station.specs.Readings.{read_of}
use Rattle.claims.specs.Claims.{Checked, checked_with}
use Rattle.reply.specs.declared.ReplyKind.{ReplyKind}
use Rattle.reply.specs.declared.Answer.{Answer}
use Rattle.reply.specs.declared.Answer.TheVariants as answer
use Rattle.heard.specs.declared.Heard.{Heard}
use Rattle.account.specs.declared.Account.{Account}
use Rattle.playing.specs.Game.{game_of}
use Rattle.account.specs.Account.{AccountAnswer, open_of}
use Rattle.confirming.specs.declared.SentWindow.{SentWindow}
use Rattle.confirming.specs.Blocks.{Confirmed, confirmed_of}
use Rattle.account.specs.Credits.{Credited}
use Rattle.credit.specs.Credit.{credit_of}
use Rattle.handset.specs.declared.Handset.{Handset}
use Rattle.handset.specs.Change.{Changed, change_of}
use Rattle.handset.specs.Feed.{Fed, feed_of}
use Rattle.handset.specs.Make.{Made, make_of}
use Rattle.silence.specs.declared.Cause.{Cause}
use Rattle.silence.specs.declared.Cause.TheVariants as cause
use Rattle.silence.specs.Cause.{Explained, explain_of}
use Rattle.replaying.specs.Replay.{Replayed, replay_done, replay_stopped, replay_of}
use Rattle.sizing.specs.declared.ReplaySize.{ReplaySize}
use Rattle.sizing.specs.Size.{size_of}
use Rattle.spelling.specs.Writing.{Written, write_of}
use Rattle.reader.specs.Record.{record_of}
use Rattle.numbers.specs.declared.accounts.ConfirmedAnswer.{ConfirmedAnswer}
use Rattle.numbers.specs.declared.accounts.CreditAnswer.{CreditAnswer}
use Rattle.numbers.specs.declared.accounts.OpenedAnswer.{OpenedAnswer}
use Rattle.numbers.specs.declared.drives.ReplayAnswer.{ReplayAnswer}
use Rattle.numbers.specs.declared.drives.ReplaySizeAnswer.{ReplaySizeAnswer}
use Rattle.numbers.specs.declared.drives.WriteAnswer.{WriteAnswer}
use Rattle.numbers.specs.declared.claimed.ClaimsAnswer.{ClaimsAnswer}
use Rattle.numbers.specs.declared.feeds.FedAnswer.{FedAnswer}
use Rattle.numbers.specs.declared.readings.ReadingAnswer.{ReadingAnswer}
use Rattle.numbers.specs.declared.drives.RecordAnswer.{RecordAnswer}
use Rattle.numbers.specs.declared.resources.ResourceAnswer.{ResourceAnswer}
use Rattle.numbers.specs.declared.resources.InverseAnswer.{InverseAnswer}
use Rattle.numbers.specs.declared.feeds.SilenceAnswer.{SilenceAnswer}
use Rattle.numbers.specs.declared.frames.WindowAnswer.{WindowAnswer}
use Rattle.numbers.specs.declared.feeds.ChangedAnswer.{ChangedAnswer}
use Rattle.numbers.specs.declared.feeds.MadeAnswer.{MadeAnswer}
use Rattle.numbers.specs.declared.frames.AnsweredAnswer.{AnsweredAnswer}
use Rattle.numbers.specs.declared.games.GameAnswer.{GameAnswer}
use Rattle.numbers.specs.declared.commands.CommandAnswer.{CommandAnswer}
use Rattle.registers.specs.Call.{Told, command_of}
use Rattle.numbers.specs.Answers.{window_answer, answered_answer, made_answer, changed_answer, resource_answer, inverse_answer, reading_answer, claims_answer, fed_answer, silence_answer, record_answer, confirmed_answer, opened_answer, credit_answer, replay_answer, replay_size_answer, write_answer, game_answer, command_answer}
use Rattle.reply.specs.Kinds.{kind_bundled, kind_multiplexed, kind_number}
use Rattle.numbers.specs.Kinds.{kind_silent, kind_taken, kind_no_window, cause_nothing_heard, cause_miss_shown, claims_clash, record_end}

-- What feedback_window answers before it stands in arrays of nine: a refusal, or K as printed and its positions in time order.
unfoldable pub told_window : Settings → ℕ → Result (List ℕ × List ℕ) ℕ
told_window s n = unless_refused (window_refusal s n) (window_of s.config n, order_of (window_of s.config n))

-- In most answers a refusal other than 0 is the answer; where it is 0 the kind, if there is one, says what the values are.
abbrev pub window_in : WindowAnswer → Result (List ℕ × List ℕ) ℕ
window_in a = unless_refused a.refusal (take a.size a.k, take a.size a.order)

abbrev pub answered_in : AnsweredAnswer → Result Answered ℕ
answered_in a = unless_refused a.refusal (record { n = a.n; k = a.k; position = a.position })

-- No second antenna port has the resource 0, which is one above no other.
abbrev pub second_in : ℕ → Option Resource
second_in second = cond (eqb second 0) None (Some (record { 0 = second }))

abbrev pub mapped_in : ResourceAnswer → Result OnPorts ℕ
mapped_in a = unless_refused a.refusal (record { first = record { 0 = a.resource }; second = second_in a.second })

abbrev pub inverted_in : InverseAnswer → Result (ℕ × Cce) ℕ
inverted_in a = unless_refused a.refusal (a.position, record { 0 = a.cce })

abbrev pub place_in : ReadingAnswer → Place
place_in a = cond (eqb a.scheduled 0) (place.Pdcch a.position (record { 0 = a.cce })) (place.Block a.position)

abbrev pub reading_in : ReadingAnswer → Result Reading ℕ
reading_in a =
    refused_or a.refusal
    (cond (eqb a.kind (kind_number kind_bundled)) (Ok (reading.Bundled (place_in a) a.b0 a.b1)) (Ok (reading.Multiplexed (place_in a) a.delivered)))

abbrev pub checked_as : ℕ → ℕ → Checked → Checked
checked_as zero index told = told
checked_as (suc k) index told = Err (suc k, index)

abbrev pub checked_in : ClaimsAnswer → Checked
checked_in a = checked_as a.refusal a.index (cond (eqb a.kind claims_clash) (Ok (Some a.index)) (Ok None))

abbrev pub confirmed_in : ConfirmedAnswer → Confirmed
confirmed_in a = record { refusal = a.refusal; first = a.first; second = a.second }

abbrev pub opened_in : OpenedAnswer → AccountAnswer
opened_in a = record { refusal = a.refusal; account = a.account }

abbrev pub credited_in : CreditAnswer → Credited
credited_in a = record { refusal = a.refusal; octets = a.octets; account = a.account }

-- The handset that was made or changed, beside its refusal.
abbrev pub made_in : MadeAnswer → Made
made_in a = record { refusal = a.refusal; handset = a.handset }

abbrev pub changed_in : ChangedAnswer → Changed
changed_in a = record { refusal = a.refusal; handset = a.handset }

-- The kind of a reply that has this number: bundled for its own, else multiplexed.
abbrev pub reply_kind_in : ℕ → ReplyKind
reply_kind_in number = cond (eqb number (kind_number kind_bundled)) kind_bundled kind_multiplexed

-- Any other kind is a reply's own: bundled or multiplexed.
abbrev pub answer_in : FedAnswer → Result Answer ℕ
answer_in a =
    refused_or a.refusal
    (cond (eqb a.kind kind_silent) (Ok answer.Silent)
    (cond (eqb a.kind kind_taken) (Ok answer.Taken)
    (cond (eqb a.kind kind_no_window) (Ok answer.NoWindow)
    (Ok (answer.Sent (record { kind = reply_kind_in a.kind; resource = record { 0 = a.resource }; b0 = a.b0; b1 = a.b1; second = second_in a.second }))))))

abbrev pub fed_in : FedAnswer → Fed
fed_in a = record { answer = answer_in a; handset = a.handset }

abbrev pub silence_cause_in : SilenceAnswer → Option Cause
silence_cause_in a =
    cond (eqb a.cause cause_nothing_heard) (Some cause.NothingHeard)
    (cond (eqb a.cause cause_miss_shown) (Some (cause.MissShown a.v a.expected)) None)

abbrev pub explained_in : SilenceAnswer → Explained
explained_in a = record { fed = fed_in a.fed; cause = silence_cause_in a }

abbrev pub record_in : RecordAnswer → Result (Option Slot) ℕ
record_in a = refused_or a.refusal (cond (eqb a.kind record_end) (Ok None) (Ok (Some a.slot)))

abbrev pub replayed_in : ReplayAnswer → Replayed
replayed_in a = record { refusal = a.refusal; kind = a.kind; number = a.number; windows = a.windows }

abbrev pub size_in : ReplaySizeAnswer → Result ReplaySize ℕ
size_in a = unless_refused a.refusal (record { windows = a.windows; bytes = a.bytes })

abbrev pub written_in : WriteAnswer → Written
written_in a = record { refusal = a.refusal; kind = a.kind; number = a.number; size = a.size }

abbrev pub game_in : GameAnswer → Result Bool ℕ
game_in a = unless_refused a.refusal (eqb a.radio 1)

abbrev pub told_in : CommandAnswer → Told
told_in a = record { refusal = a.refusal; line = eqb a.line 1; handset = a.handset }

-- Every answer of every call comes back from its numbers.
pub record AnswersComeBack : Type 0 where
  pub window : (s : Settings) (n : ℕ) → window_in (window_answer s n) ≡ told_window s n
  pub answered : (s : Settings) (d : ℕ) → answered_in (answered_answer (answered_of s d)) ≡ answered_of s d
  pub resource : (s : Settings) (n m c : ℕ) → mapped_in (resource_answer (ports_of s n m c)) ≡ ports_of s n m c
  pub inverse : (s : Settings) (n r : ℕ) → inverted_in (inverse_answer (inverse_of s n r)) ≡ inverse_of s n r
  pub reading : (s : Settings) (n : ℕ) (t : Option ℕ) (r b0 b1 : ℕ) → reading_in (reading_answer (read_of s n t r b0 b1)) ≡ read_of s n t r b0 b1
  pub confirmed : (s : Settings) (n : ℕ) (w : SentWindow) (r b0 b1 : ℕ)
      → confirmed_in (confirmed_answer (confirmed_of s n w r b0 b1)) ≡ confirmed_of s n w r b0 b1
  pub opened : (price : ℕ) → opened_in (opened_answer (open_of price)) ≡ open_of price
  pub credit : (s : Settings) (n : ℕ) (w : SentWindow) (r b0 b1 : ℕ) (a : Account)
      → credited_in (credit_answer (credit_of s n w r b0 b1 a)) ≡ credit_of s n w r b0 b1 a
  -- in both forms of the scratch, whichever room they ask for
  pub claims : (s : Settings) (n : ℕ) (list : List ℕ) (room lent : ℕ)
      → checked_in (claims_answer (checked_with s n list room lent)) ≡ checked_with s n list room lent
  pub make : (s : Settings) → made_in (made_answer (make_of s)) ≡ make_of s
  pub change : (h : Handset) (mode : ℕ) → changed_in (changed_answer (change_of h mode)) ≡ change_of h mode
  pub feed : (h : Handset) (x : Heard) → fed_in (fed_answer (feed_of h x)) ≡ feed_of h x
  pub silence : (h : Handset) (x : Heard) → explained_in (silence_answer (explain_of h x)) ≡ explain_of h x
  pub reader : (l : List ℕ) (i : ℕ) → record_in (record_answer (record_of l i)) ≡ record_of l i
  pub replay : (l : List ℕ) (room : ℕ) → replayed_in (replay_answer (replay_of l room)) ≡ replay_of l room
  pub size : (l : List ℕ) → size_in (replay_size_answer (size_of l)) ≡ size_of l
  pub writing : (l : List ℕ) (room : ℕ) → written_in (write_answer (write_of l room)) ≡ write_of l room
  pub game : (size grants losses : ℕ) → game_in (game_answer (game_of size grants losses)) ≡ game_of size grants losses
  pub command : (b : List ℕ) (h : Handset) → told_in (command_answer (command_of b h).told) ≡ (command_of b h).told

-- So no two answers of a call look alike from C: where their numbers are equal, the answers are.
abbrev pub Apart : {A N : Type 0} → (A → N) → A → A → Type 0
Apart numbers x y = numbers x ≡ numbers y → x ≡ y

pub record SameNumbers : Type 0 where
  pub window : (s t : Settings) (n n' : ℕ) → window_answer s n ≡ window_answer t n' → told_window s n ≡ told_window t n'
  pub answered : (s t : Settings) (d e : ℕ) → Apart answered_answer (answered_of s d) (answered_of t e)
  pub resource : (s t : Settings) (n m c n' m' c' : ℕ) → Apart resource_answer (ports_of s n m c) (ports_of t n' m' c')
  pub inverse : (s t : Settings) (n r n' r' : ℕ) → Apart inverse_answer (inverse_of s n r) (inverse_of t n' r')
  pub reading : (s s' : Settings) (n : ℕ) (t : Option ℕ) (r b0 b1 n' : ℕ) (t' : Option ℕ) (r' c0 c1 : ℕ) → Apart reading_answer (read_of s n t r b0 b1) (read_of s' n' t' r' c0 c1)
  pub confirmed : (s t : Settings) (n n' : ℕ) (v w : SentWindow) (r b0 b1 r' c0 c1 : ℕ)
      → Apart confirmed_answer (confirmed_of s n v r b0 b1) (confirmed_of t n' w r' c0 c1)
  pub opened : (p q : ℕ) → Apart opened_answer (open_of p) (open_of q)
  pub credit : (s t : Settings) (n n' : ℕ) (v w : SentWindow) (r b0 b1 r' c0 c1 : ℕ) (a b : Account)
      → Apart credit_answer (credit_of s n v r b0 b1 a) (credit_of t n' w r' c0 c1 b)
  pub claims : (s t : Settings) (n n' : ℕ) (list list' : List ℕ) (room room' lent lent' : ℕ)
      → Apart claims_answer (checked_with s n list room lent) (checked_with t n' list' room' lent')
  pub make : (s t : Settings) → Apart made_answer (make_of s) (make_of t)
  pub change : (h i : Handset) (m n : ℕ) → Apart changed_answer (change_of h m) (change_of i n)
  pub feed : (h i : Handset) (x y : Heard) → Apart fed_answer (feed_of h x) (feed_of i y)
  pub silence : (h i : Handset) (x y : Heard) → Apart silence_answer (explain_of h x) (explain_of i y)
  pub reader : (l m : List ℕ) (i j : ℕ) → Apart record_answer (record_of l i) (record_of m j)
  pub replay : (l m : List ℕ) (room room' : ℕ) → Apart replay_answer (replay_of l room) (replay_of m room')
  pub size : (l m : List ℕ) → Apart replay_size_answer (size_of l) (size_of m)
  pub writing : (l m : List ℕ) (room room' : ℕ) → Apart write_answer (write_of l room) (write_of m room')
  pub game : (size grants losses size' grants' losses' : ℕ) → Apart game_answer (game_of size grants losses) (game_of size' grants' losses')
  pub command : (b c : List ℕ) (h i : Handset) → Apart command_answer (command_of b h).told (command_of c i).told

-- Where an answer has a kind, it is 0 exactly where the refusal is not 0, and it is one of those that Kinds.antt names, the last of
-- which is `most`: a caller may look at either, and a struct of zeros is no such answer. So a feed's answer that is not
-- refused, silent, taken or without a window is a bundled or a multiplexed reply.
abbrev pub KindFor : ℕ → ℕ → ℕ → Type 0
KindFor most kind refusal = (eqb kind 0 ≡ not (eqb refusal 0)) × (leb kind most ≡ true)

-- A replay and the writing of a trace are done exactly where nothing is refused; so here too a struct of zeros is no such answer.
abbrev pub DoneFor : ℕ → ℕ → Type 0
DoneFor kind refusal = (eqb kind replay_done ≡ eqb refusal 0) × (leb kind replay_stopped ≡ true)

-- A silence has a cause, and no other answer has one: the cause is 0 exactly where the kind is not that of a silence.
abbrev pub CauseFor : ℕ → ℕ → Type 0
CauseFor cause kind = (eqb cause 0 ≡ not (eqb kind kind_silent)) × (leb cause cause_miss_shown ≡ true)

pub record KindsOfAnswers : Type 0 where
  pub reading : (s : Settings) (n : ℕ) (t : Option ℕ) (r b0 b1 : ℕ)
      → KindFor (kind_number kind_multiplexed) (reading_answer (read_of s n t r b0 b1)).kind (reading_answer (read_of s n t r b0 b1)).refusal
  pub claims : (s : Settings) (n : ℕ) (list : List ℕ) (room lent : ℕ)
      → KindFor claims_clash (claims_answer (checked_with s n list room lent)).kind (claims_answer (checked_with s n list room lent)).refusal
  pub feed : (h : Handset) (x : Heard) → KindFor kind_no_window (fed_answer (feed_of h x)).kind (fed_answer (feed_of h x)).refusal
  pub silence : (h : Handset) (x : Heard) → CauseFor (silence_answer (explain_of h x)).cause (silence_answer (explain_of h x)).fed.kind
  pub reader : (l : List ℕ) (i : ℕ) → KindFor record_end (record_answer (record_of l i)).kind (record_answer (record_of l i)).refusal
  pub replay : (l : List ℕ) (room : ℕ) → DoneFor (replay_answer (replay_of l room)).kind (replay_answer (replay_of l room)).refusal
  pub writing : (l : List ℕ) (room : ℕ) → DoneFor (write_answer (write_of l room)).kind (write_answer (write_of l room)).refusal
