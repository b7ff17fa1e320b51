-- A feed that is not refused, as a replay uses it: the handset keeps its settings and goes on by a subframe, and eight bytes are
-- written exactly where the subframe has a window. Assumes nothing.
use Rattle.std.proofs.Common.{Result, Ok, Err}
use Rattle.std.specs.Result.{IfOk}
use Prim.Native.Nat.{ℕ, zero, suc, ◌+◌, ◌*◌, ◌%◌, ◌≤◌}
use mathlib.Core.Bool.{Bool, true, false, cond}
use mathlib.Core.Path.{◌≡◌, refl, ap}
use native.Mathlib.Omega.{arith}
use lib.Dec.{eqb}
use lib.ListN.{length}
use borrow.Author.Tests.{eqb-false}
use Rattle.frame.specs.declared.Settings.{Settings}
use Rattle.frame.specs.Layout.{downlink}
use Rattle.frame.specs.Refusals.{number_in}
use Rattle.frame.specs.Table.{window_of}
use Rattle.frame.proofs.Bools.{either}
use Rattle.frame.proofs.Windows.{window_uplink}
use Rattle.counting.specs.Windows.{has_window, windows_before}
use Rattle.heard.specs.declared.Heard.{Heard}
use Rattle.heard.specs.declared.View.{View}
use Rattle.heard.specs.Memory.{view_ago}
use Rattle.reply.specs.declared.Answer.{Answer}
use Rattle.reply.specs.declared.Answer.TheVariants.{Taken, NoWindow, Silent, Sent}
use Rattle.reply.specs.Replies.{window_answer}
use Rattle.reply.proofs.Answered.{Answered, Told, window_answered}
use Rattle.handset.specs.declared.Handset.{Handset}
use Rattle.handset.specs.Feed.{answer_of, window_settings, next_answer, pushed, feed_refusal, fed_as, feed_of}
use Rattle.handset.proofs.Passing.{passed}
use Rattle.handset.proofs.Told.{answer_told}
use Rattle.replaying.specs.Written.{window_bytes, answer_bytes, bytes_of, FitsBytes}

-- How many bytes the answer to a subframe gives, and that it goes into bytes.
pub record Gives (c n : ℕ) (x : Result Answer ℕ) : Type 0 where
  pub size : length (bytes_of n x) ≡ 8 * cond (has_window c n) 1 0
  pub fits : IfOk x FitsBytes

answered_size : (n : ℕ) (x : Answer) → Answered x → length (answer_bytes n x) ≡ 8
unfolding window_bytes
answered_size n Silent a = refl
answered_size n (Sent r) a = refl
answered_size n Taken a = absurd a
answered_size n NoWindow a = absurd a

told_fits : (x : Answer) → Told x → FitsBytes x
told_fits Silent t = tt
told_fits (Sent r) t = (omega (arith, t.0), omega (arith, t.1))
told_fits Taken t = tt
told_fits NoWindow t = tt

module _ (s : Settings) (n : ℕ) (view : ℕ → View) where
  with_window : eqb (length (window_of s.config n)) 0 ≡ false → length (answer_bytes n (answer_of s n view)) ≡ 8 * cond (has_window s.config n) 1 0
  unfolding answer_of has_window
  with_window some =
      let up : downlink s.config n ≡ false = window_uplink s.config n (positive (length (window_of s.config n)) some) in
      rw (up, some) (answered_size n (window_answer s n view) (window_answered s n view some))
    where
      positive : (size : ℕ) → eqb size 0 ≡ false → 1 ≤ size
      positive zero e = absurd (eqb-false 0 0 e refl)
      positive (suc size) e = omega arith

  without_window : eqb (length (window_of s.config n)) 0 ≡ true → length (answer_bytes n (answer_of s n view)) ≡ 8 * cond (has_window s.config n) 1 0
  unfolding answer_of window_answer has_window
  without_window none = rw none (either (λ (x : Answer). length (answer_bytes n x) ≡ 0) (downlink s.config n) _ _ refl refl)

  sized : (b : Bool) → eqb (length (window_of s.config n)) 0 ≡ b → length (answer_bytes n (answer_of s n view)) ≡ 8 * cond (has_window s.config n) 1 0
  sized true e = without_window e
  sized false e = with_window e

  gives : Gives s.config n (Ok (answer_of s n view))
  gives = record { size = sized (eqb (length (window_of s.config n)) 0) refl; fits = told_fits (answer_of s n view) (answer_told s n view) }

-- A feed that was taken up.
pub record TakenUp (h : Handset) (x : Heard) : Type 0 where
  pub settings : (feed_of h x).handset.settings ≡ h.settings
  pub next : (feed_of h x).handset.next ≡ (h.next + 1) % 10
  pub gives : Gives h.settings.config h.next (feed_of h x).answer

taken_as : (k : ℕ) (h : Handset) (x : Heard) → k ≡ feed_refusal h x → number_in (fed_as k h x).answer ≡ 0 → TakenUp h x
unfolding feed_of window_settings next_answer pushed
taken_as zero h x e none =
    let g = gives (window_settings h) h.next (view_ago h.past) in
    record { settings = rw (← e); next = rw (← e); gives = rw (← e) g }
taken_as (suc k) h x e none = absurd (omega arith)

pub taken_up : (h : Handset) (x : Heard) → number_in (feed_of h x).answer ≡ 0 → TakenUp h x
unfolding feed_of
taken_up h x none = taken_as (feed_refusal h x) h x refl none

-- The bytes of one subframe more.
pub grows : (h : Handset) (x : Heard) → TakenUp h x → (i : ℕ) → h.next ≡ i % 10
    → 8 * windows_before h.settings.config i + length (bytes_of h.next (feed_of h x).answer) ≡ 8 * windows_before h.settings.config (suc i)
unfolding windows_before
grows h x t i e =
    let one : ℕ → ℕ = λ (n : ℕ). cond (has_window h.settings.config n) 1 0 in
    omega (arith, t.gives.size, ap one e)

-- What a feed that is not refused gives goes into bytes.
pub fits_window : (h : Handset) (x : Heard) (a : Answer) → Ok a ≡ (feed_of h x).answer → (h.next ≤ 255) × FitsBytes a
unfolding feed_of
fits_window h x a e = go (feed_refusal h x) refl
  where
    go : (k : ℕ) → feed_refusal h x ≡ k → (h.next ≤ 255) × FitsBytes a
    go zero none =
        let low : h.next ≤ 9 = (passed h x none).state.next in
        let told : number_in (feed_of h x).answer ≡ 0 = rw (← e) in
        (omega arith, rw (← e) at (taken_up h x told).gives.fits)
    go (suc k) some = let bad : Ok a ≡ Err (suc k) = rw some at e in absurd (cc)
