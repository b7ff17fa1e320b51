-- The papers' refusal number and values for each case of an answer, as a C caller gets them.
-- Assumes nothing.
use Rattle.std.specs.Prelude.{Option, Some, None, Result, Ok, Err, ℕ, zero, suc, Bool, cond, not, List, [], ◌∷◌, eqb, length}
use Rattle.heard.specs.declared.Slot.{Slot}
use Rattle.resource.specs.declared.ports.OnPorts.{OnPorts}
use Rattle.resource.specs.declared.Cce.{Cce}
use Rattle.resource.specs.declared.Resource.{Resource}
use Rattle.frame.specs.declared.Answered.{Answered}
use Rattle.frame.specs.declared.Settings.{Settings}
use Rattle.frame.specs.Order.{order_of}
use Rattle.frame.specs.Settings.{window_refusal}
use Rattle.frame.specs.Table.{window_of}
use Rattle.station.specs.declared.Place.{Place}
use Rattle.station.specs.declared.Place.TheVariants as place
use Rattle.station.specs.declared.Reading.{Reading}
use Rattle.station.specs.declared.Reading.TheVariants as reading
use Rattle.claims.specs.Claims.{Checked}
use Rattle.account.specs.Account.{AccountAnswer}
use Rattle.confirming.specs.Blocks.{Confirmed}
use Rattle.account.specs.Credits.{Credited}
use Rattle.reply.specs.declared.Answer.{Answer}
use Rattle.reply.specs.declared.Answer.TheVariants as answer
use Rattle.heard.specs.declared.Heard.{Heard}
use Rattle.heard.specs.declared.Heard.TheVariants.{Granted, Scheduled, Released}
use Rattle.heard.specs.Memory.{none}
use Rattle.handset.specs.Change.{Changed}
use Rattle.handset.specs.Feed.{Fed}
use Rattle.handset.specs.Make.{Made}
use Rattle.handset.specs.declared.Handset.{Handset}
use Rattle.silence.specs.declared.Cause.{Cause}
use Rattle.silence.specs.declared.Cause.TheVariants as cause
use Rattle.silence.specs.Cause.{Explained}
use Rattle.replaying.specs.Replay.{Replayed}
use Rattle.sizing.specs.declared.ReplaySize.{ReplaySize}
use Rattle.spelling.specs.Writing.{Written}
use Rattle.numbers.specs.declared.accounts.ConfirmedAnswer.{ConfirmedAnswer}
use Rattle.numbers.specs.declared.accounts.CreditAnswer.{CreditAnswer}
use Rattle.numbers.specs.declared.accounts.OpenedAnswer.{OpenedAnswer}
use Rattle.numbers.specs.declared.drives.ReplayAnswer.{ReplayAnswer}
use Rattle.numbers.specs.declared.drives.ReplaySizeAnswer.{ReplaySizeAnswer}
use Rattle.numbers.specs.declared.drives.WriteAnswer.{WriteAnswer}
use Rattle.numbers.specs.declared.claimed.ClaimsAnswer.{ClaimsAnswer}
use Rattle.numbers.specs.declared.feeds.FedAnswer.{FedAnswer}
use Rattle.numbers.specs.declared.readings.ReadingAnswer.{ReadingAnswer}
use Rattle.numbers.specs.declared.drives.RecordAnswer.{RecordAnswer}
use Rattle.numbers.specs.declared.resources.ResourceAnswer.{ResourceAnswer}
use Rattle.numbers.specs.declared.resources.InverseAnswer.{InverseAnswer}
use Rattle.numbers.specs.declared.feeds.SilenceAnswer.{SilenceAnswer}
use Rattle.numbers.specs.declared.feeds.ChangedAnswer.{ChangedAnswer}
use Rattle.numbers.specs.declared.feeds.MadeAnswer.{MadeAnswer}
use Rattle.numbers.specs.declared.frames.AnsweredAnswer.{AnsweredAnswer}
use Rattle.numbers.specs.declared.frames.WindowAnswer.{WindowAnswer}
use Rattle.numbers.specs.declared.games.GameAnswer.{GameAnswer}
use Rattle.numbers.specs.declared.commands.CommandAnswer.{CommandAnswer}
use Rattle.registers.specs.Call.{Told}
use Rattle.reply.specs.Kinds.{kind_bundled, kind_multiplexed, kind_number}
use Rattle.numbers.specs.Kinds.{kind_refused, kind_silent, kind_taken, kind_no_window, cause_none, cause_nothing_heard, cause_miss_shown, claims_clean, claims_clash, claims_refused, record_refused, record_read, record_end}

-- The first n numbers of a list, zeros where it has ended.
abbrev pub padded : ℕ → List ℕ → List ℕ
padded zero l = []
padded (suc n) [] = 0 ∷ padded n []
padded (suc n) (x ∷ xs) = x ∷ padded n xs

-- A refusal, with zeros beside it, or where it is 0 a window: M, K in the print's order and its positions in time order.
abbrev pub window_as : ℕ → List ℕ → WindowAnswer
window_as zero ks = record { refusal = 0; size = length ks; k = padded 9 ks; order = padded 9 (order_of ks) }
window_as (suc r) ks = record { refusal = suc r; size = 0; k = padded 9 []; order = padded 9 [] }

-- The window of uplink subframe n.
unfoldable pub window_answer : Settings → ℕ → WindowAnswer
window_answer s n = window_as (window_refusal s n) (window_of s.config n)

-- The uplink subframe that answers for a downlink subframe, how far it is from that, and the position there.
abbrev pub answered_answer : Result Answered ℕ → AnsweredAnswer
answered_answer (Ok a) = record { refusal = 0; n = a.n; k = a.k; position = a.position }
answered_answer (Err k) = record { refusal = k; n = 0; k = 0; position = 0 }

-- The second antenna port's resource as a C caller gets it: 0 where there is one port.
abbrev pub second_number : Option Resource → ℕ
second_number None = 0
second_number (Some r) = r.0

-- Both antenna ports' resources.
abbrev pub resource_answer : Result OnPorts ℕ → ResourceAnswer
resource_answer (Ok ports) = record { refusal = 0; resource = ports.first.0; second = second_number ports.second }
resource_answer (Err k) = record { refusal = k; resource = 0; second = 0 }

abbrev pub inverse_answer : Result (ℕ × Cce) ℕ → InverseAnswer
inverse_answer (Ok (m, c)) = record { refusal = 0; position = m; cce = c.0 }
inverse_answer (Err k) = record { refusal = k; position = 0; cce = 0 }

-- A position as a C caller tells it: 65535 where none is told.
abbrev pub told_position : ℕ → Option ℕ
told_position position = cond (eqb position 65535) None (Some position)

-- A reading that is not refused, of a PDCCH with its first CCE or of the scheduled block, which has none.
abbrev pub place_answer : Place → ℕ → ℕ → ℕ → ℕ → ReadingAnswer
place_answer (place.Pdcch m c) kind b0 b1 delivered =
    record { refusal = 0; kind = kind; position = m; cce = c.0; b0 = b0; b1 = b1; delivered = delivered; scheduled = 0 }
place_answer (place.Block m) kind b0 b1 delivered =
    record { refusal = 0; kind = kind; position = m; cce = 0; b0 = b0; b1 = b1; delivered = delivered; scheduled = 1 }

abbrev pub reading_answer : Result Reading ℕ → ReadingAnswer
reading_answer (Ok (reading.Bundled named b0 b1)) = place_answer named (kind_number kind_bundled) b0 b1 0
reading_answer (Ok (reading.Multiplexed named positions)) = place_answer named (kind_number kind_multiplexed) 0 0 positions
reading_answer (Err k) =
    record { refusal = k; kind = kind_refused; position = 0; cce = 0; b0 = 0; b1 = 0; delivered = 0; scheduled = 0 }

-- The blocks that a reply confirms.
abbrev pub confirmed_answer : Confirmed → ConfirmedAnswer
confirmed_answer c = record { refusal = c.refusal; first = c.first; second = c.second }

-- A new account, or beside a refusal one with the price that is refused.
abbrev pub opened_answer : AccountAnswer → OpenedAnswer
opened_answer o = record { refusal = o.refusal; account = o.account }

-- The octets credited, and the account afterwards.
abbrev pub credit_answer : Credited → CreditAnswer
credit_answer c = record { refusal = c.refusal; octets = c.octets; account = c.account }

abbrev pub claims_answer : Checked → ClaimsAnswer
claims_answer (Ok None) = record { refusal = 0; kind = claims_clean; index = 0 }
claims_answer (Ok (Some i)) = record { refusal = 0; kind = claims_clash; index = i }
claims_answer (Err (k, i)) = record { refusal = k; kind = claims_refused; index = i }

-- A handset that was made, or beside a refusal one that every feed refuses.
abbrev pub made_answer : Made → MadeAnswer
made_answer m = record { refusal = m.refusal; handset = m.handset }

-- The handset after a change of mode.
abbrev pub changed_answer : Changed → ChangedAnswer
changed_answer c = record { refusal = c.refusal; handset = c.handset }

abbrev pub no_reply : ℕ → ℕ → Handset → FedAnswer
no_reply refusal kind h = record { refusal = refusal; kind = kind; resource = 0; b0 = 0; b1 = 0; second = 0; handset = h }

abbrev pub answer_numbers : Result Answer ℕ → Handset → FedAnswer
answer_numbers (Ok answer.Taken) h = no_reply 0 kind_taken h
answer_numbers (Ok answer.NoWindow) h = no_reply 0 kind_no_window h
answer_numbers (Ok answer.Silent) h = no_reply 0 kind_silent h
answer_numbers (Ok (answer.Sent r)) h =
    record { refusal = 0; kind = kind_number r.kind; resource = r.resource.0; b0 = r.b0; b1 = r.b1; second = second_number r.second; handset = h }
answer_numbers (Err k) h = no_reply k kind_refused h

abbrev pub fed_answer : Fed → FedAnswer
fed_answer f = answer_numbers f.answer f.handset

-- U11: the cause stands beside what the feed answers, V and the value expected beside a miss shown.
abbrev pub cause_numbers : Option Cause → FedAnswer → SilenceAnswer
cause_numbers None f = record { fed = f; cause = cause_none; v = 0; expected = 0 }
cause_numbers (Some cause.NothingHeard) f = record { fed = f; cause = cause_nothing_heard; v = 0; expected = 0 }
cause_numbers (Some (cause.MissShown v expected)) f = record { fed = f; cause = cause_miss_shown; v = v; expected = expected }

abbrev pub silence_answer : Explained → SilenceAnswer
silence_answer e = cause_numbers e.cause (fed_answer e.fed)

-- U12: 1 where the radio can force the outcome, 0 where the scheduler can.
abbrev pub game_answer : Result Bool ℕ → GameAnswer
game_answer (Ok forced) = record { refusal = 0; radio = cond forced 1 0 }
game_answer (Err k) = record { refusal = k; radio = 0 }

-- What a command to a register block answers.
abbrev pub command_answer : Told → CommandAnswer
command_answer t = record { refusal = t.refusal; line = cond t.line 1 0; handset = t.handset }

-- A grant as a C caller feeds it: a block is decoded unless its flag is 0.
abbrev pub grant_of : ℕ → ℕ → ℕ → ℕ → ℕ → Heard
grant_of blocks first second cce dai =
    Granted (record { blocks = blocks; first = not (eqb first 0); second = not (eqb second 0); cce = record { 0 = cce }; dai = dai })

-- A scheduled block and a release as a C caller feeds them.
abbrev pub block_of : ℕ → ℕ → ℕ → Heard
block_of blocks first second = Scheduled (record { blocks = blocks; first = not (eqb first 0); second = not (eqb second 0) })

abbrev pub release_of : ℕ → ℕ → Heard
release_of cce dai = Released (record { cce = record { 0 = cce }; dai = dai })

-- A reader's answer without a record: refused, or at the end.
abbrev pub no_record : ℕ → ℕ → RecordAnswer
no_record refusal kind = record { refusal = refusal; kind = kind; slot = none }

abbrev pub record_answer : Result (Option Slot) ℕ → RecordAnswer
record_answer (Err k) = no_record k record_refused
record_answer (Ok (Some slot)) = record { refusal = 0; kind = record_read; slot = slot }
record_answer (Ok None) = no_record 0 record_end

abbrev pub replay_answer : Replayed → ReplayAnswer
replay_answer r = record { refusal = r.refusal; kind = r.kind; number = r.number; windows = r.windows }

abbrev pub replay_size_answer : Result ReplaySize ℕ → ReplaySizeAnswer
replay_size_answer (Ok z) = record { refusal = 0; windows = z.windows; bytes = z.bytes }
replay_size_answer (Err k) = record { refusal = k; windows = 0; bytes = 0 }

abbrev pub write_answer : Written → WriteAnswer
write_answer w = record { refusal = w.refusal; kind = w.kind; number = w.number; size = w.size }
