-- The cause of a silence: document 02, U11. It stands beside the answer of a feed, which is as it was.
-- Assumes nothing.
use Rattle.std.specs.Prelude.{Option, Some, None, Result, Ok, Err, cond, eqb, ℕ}
use Rattle.frame.specs.Table.{window_of}
use Rattle.heard.specs.declared.Heard.{Heard}
use Rattle.heard.specs.Memory.{view_ago}
use Rattle.fold.specs.declared.Seen.{Seen}
use Rattle.fold.specs.Fold.{expected, seen_of}
use Rattle.reply.specs.declared.Answer.{Answer}
use Rattle.reply.specs.declared.Answer.TheVariants.{Taken, NoWindow, Silent, Sent}
use Rattle.handset.specs.declared.Handset.{Handset}
use Rattle.handset.specs.Feed.{Fed, feed_of}
use Rattle.silence.specs.declared.Cause.{Cause}
use Rattle.silence.specs.declared.Cause.TheVariants.{NothingHeard, MissShown}

-- U, V and whether a scheduled block was heard, as 01 and U1 have them (fold/specs/Fold.antt), in the window of the subframe that the
-- handset expects.
abbrev pub window_seen : Handset → Seen
window_seen h = seen_of (view_ago h.past) (window_of h.settings.config h.next)

-- "nothing heard in the window, or a miss shown, with V and the value expected." Of a silence these two are all there is, and U tells
-- them apart: a window that heard a scheduled block and no PDCCH is answered (proofs/Exactly.antt).
unfoldable pub silence_cause : Seen → Cause
silence_cause seen = cond (eqb seen.u 0) NothingHeard (MissShown seen.v (expected seen.u))

-- "Beside a silent answer give its cause"; beside any other there is none.
unfoldable pub cause_beside : Result Answer ℕ → Seen → Option Cause
cause_beside (Ok Taken) seen = None
cause_beside (Ok NoWindow) seen = None
cause_beside (Ok Silent) seen = Some (silence_cause seen)
cause_beside (Ok (Sent r)) seen = None
cause_beside (Err k) seen = None

-- What a feed gives, and the cause beside its answer.
pub record Explained : Type 0 where
  pub fed : Fed
  pub cause : Option Cause

-- The feed, to the letter, with the cause beside its answer.
unfoldable pub explain_of : Handset → Heard → Explained
explain_of h x = record { fed = feed_of h x; cause = cause_beside (feed_of h x).answer (window_seen h) }
