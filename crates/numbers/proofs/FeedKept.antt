-- The numbers of a feed lose nothing: no feed is refused with 0, and a reply's kind is none of the other kinds.
-- Assumes nothing.
use Rattle.std.proofs.Common.{Option, Ok}
use Prim.Native.Nat.{ℕ, zero, suc}
use mathlib.Core.Bool.{not}
use mathlib.Core.Path.{◌≡◌, refl, sym, ap}
use Rattle.frame.specs.declared.Settings.{Settings}
use Rattle.frame.specs.Layout.{downlink}
use Rattle.frame.proofs.Bools.{either}
use lib.Dec.{eqb-suc-zero}
use Rattle.resource.specs.declared.Resource.{Resource}
use Rattle.reply.specs.declared.ReplyKind.{ReplyKind}
use Rattle.reply.specs.declared.ReplyKind.TheVariants as kind
use Rattle.reply.specs.declared.Answer.{Answer}
use Rattle.reply.specs.declared.Answer.TheVariants as answer
use Rattle.reply.specs.Replies.{window_answer}
use Rattle.reply.proofs.Ports.{second_carried}
use Rattle.heard.specs.declared.Heard.{Heard}
use Rattle.heard.specs.declared.View.{View}
use Rattle.heard.specs.Memory.{view_ago}
use Rattle.handset.specs.declared.Handset.{Handset}
use Rattle.handset.specs.Feed.{Fed, answer_of, window_settings, next_answer, pushed, feed_refusal, fed_as, feed_of}
use Rattle.numbers.specs.Answers.{second_number, fed_answer}
use Rattle.numbers.specs.Back.{second_in, fed_in, KindFor}
use Rattle.numbers.specs.Kinds.{kind_no_window}
use Rattle.numbers.proofs.ResourceKept.{second_back}

-- What a feed answers comes back from its numbers with the handset, and its kind is one that there is, 0 where it is refused.
abbrev pub FedKept : Fed → Type 0
FedKept f = (fed_in (fed_answer f) ≡ f) × KindFor kind_no_window (fed_answer f).kind (fed_answer f).refusal

-- A reply's second resource comes back from its number.
abbrev SecondKept : Answer → Type 0
SecondKept (answer.Sent r) = second_in (second_number r.second) ≡ r.second
SecondKept answer.Taken = Unit {0}
SecondKept answer.NoWindow = Unit {0}
SecondKept answer.Silent = Unit {0}

window_kept : (s : Settings) (n : ℕ) (view : ℕ → View) → SecondKept (window_answer s n view)
window_kept s n view = go (window_answer s n view) refl
  where
    go : (a : Answer) → window_answer s n view ≡ a → SecondKept a
    go (answer.Sent r) e = rw (second_carried s n view r e) (second_back s r.resource.0)
    go answer.Taken e = tt
    go answer.NoWindow e = tt
    go answer.Silent e = tt

next_kept : (h : Handset) → SecondKept (next_answer h)
unfolding next_answer answer_of
next_kept h = either SecondKept (downlink (window_settings h).config h.next) _ _ tt (window_kept (window_settings h) h.next (view_ago h.past))

sent_kept : (k : ReplyKind) (r : Resource) (b0 b1 : ℕ) (second : Option Resource) (h : Handset) → second_in (second_number second) ≡ second
    → FedKept (record { answer = Ok (answer.Sent (record { kind = k; resource = r; b0 = b0; b1 = b1; second = second })); handset = h })
sent_kept kind.Bundled r b0 b1 second h back = (rw back, (refl, refl))
sent_kept kind.Multiplexed r b0 b1 second h back = (rw back, (refl, refl))

answered_kept : (a : Answer) (h : Handset) → SecondKept a → FedKept (record { answer = Ok a; handset = h })
answered_kept answer.Taken h back = (refl, (refl, refl))
answered_kept answer.NoWindow h back = (refl, (refl, refl))
answered_kept answer.Silent h back = (refl, (refl, refl))
answered_kept (answer.Sent r) h back = sent_kept r.kind r.resource r.b0 r.b1 r.second h back

fed_as_kept : (k : ℕ) (h : Handset) (x : Heard) → FedKept (fed_as k h x)
fed_as_kept zero h x = answered_kept (next_answer h) (pushed h x) (next_kept h)
fed_as_kept (suc k) h x = (refl, (sym (ap not (eqb-suc-zero k)), refl))

pub feed_kept : (h : Handset) (x : Heard) → FedKept (feed_of h x)
unfolding feed_of
feed_kept h x = fed_as_kept (feed_refusal h x) h x
