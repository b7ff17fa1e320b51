-- The numbers of a silence lose nothing, and the cause is told beside a silence alone.
-- Assumes nothing.
use Rattle.std.proofs.Common.{Option, Some, None, Result, Ok}
use Prim.Native.Nat.{ℕ, zero, suc}
use mathlib.Core.Bool.{Bool, true, false, cond}
use mathlib.Core.Path.{◌≡◌, refl}
use lib.Dec.{eqb}
use Rattle.fold.specs.declared.Seen.{Seen}
use Rattle.fold.specs.Fold.{expected}
use Rattle.reply.specs.declared.ReplyKind.{ReplyKind}
use Rattle.reply.specs.declared.ReplyKind.TheVariants as kind
use Rattle.reply.specs.declared.Answer.{Answer}
use Rattle.reply.specs.declared.Answer.TheVariants as answer
use Rattle.reply.specs.Kinds.{kind_number}
use Rattle.heard.specs.declared.Heard.{Heard}
use Rattle.handset.specs.declared.Handset.{Handset}
use Rattle.handset.specs.Feed.{Fed, next_answer, pushed, feed_refusal, fed_as, feed_of}
use Rattle.silence.specs.declared.Cause.{Cause}
use Rattle.silence.specs.declared.Cause.TheVariants as cause
use Rattle.silence.specs.Cause.{window_seen, silence_cause, cause_beside, explain_of}
use Rattle.numbers.specs.Answers.{fed_answer, answer_numbers, cause_numbers, silence_answer}
use Rattle.numbers.specs.Back.{fed_in, explained_in, CauseFor}
use Rattle.numbers.specs.Kinds.{cause_none}
use Rattle.numbers.proofs.FeedKept.{feed_kept}

explained_back : (c : Option Cause) (f : Fed) → fed_in (fed_answer f) ≡ f → explained_in (cause_numbers c (fed_answer f)) ≡ record { fed = f; cause = c }
explained_back None f e = rw e
explained_back (Some cause.NothingHeard) f e = rw e
explained_back (Some (cause.MissShown v w)) f e = rw e

pub silence_back : (h : Handset) (x : Heard) → explained_in (silence_answer (explain_of h x)) ≡ explain_of h x
unfolding explain_of
silence_back h x = explained_back _ (feed_of h x) (feed_kept h x).0

-- The cause that is told beside an answer goes with the answer's kind.
abbrev CauseTold : Option Cause → Result Answer ℕ → Handset → Type 0
CauseTold c a h = CauseFor (cause_numbers c (answer_numbers a h)).cause (cause_numbers c (answer_numbers a h)).fed.kind

-- A silence's cause is 1 or 2.
cause_there : (seen : Seen) (h : Handset) → CauseTold (Some (silence_cause seen)) (Ok answer.Silent) h
unfolding silence_cause
cause_there seen h = go (eqb seen.u 0)
  where
    go : (b : Bool) → CauseTold (Some (cond b cause.NothingHeard (cause.MissShown seen.v (expected seen.u)))) (Ok answer.Silent) h
    go true = (refl, refl)
    go false = (refl, refl)

no_cause : (k : ReplyKind) → CauseFor cause_none (kind_number k)
no_cause kind.Bundled = (refl, refl)
no_cause kind.Multiplexed = (refl, refl)

told_cause : (a : Answer) (h : Handset) (seen : Seen) → CauseTold (cause_beside (Ok a) seen) (Ok a) h
unfolding cause_beside
told_cause answer.Taken h seen = (refl, refl)
told_cause answer.NoWindow h seen = (refl, refl)
told_cause answer.Silent h seen = cause_there seen h
told_cause (answer.Sent r) h seen = no_cause r.kind

pub silence_told : (h : Handset) (x : Heard) → CauseFor (silence_answer (explain_of h x)).cause (silence_answer (explain_of h x)).fed.kind
unfolding explain_of feed_of cause_beside
silence_told h x = go (feed_refusal h x)
  where
    go : (k : ℕ) → CauseTold (cause_beside (fed_as k h x).answer (window_seen h)) (fed_as k h x).answer (fed_as k h x).handset
    go zero = told_cause (next_answer h) (pushed h x) (window_seen h)
    go (suc k) = (refl, refl)
