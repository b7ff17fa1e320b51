-- The answer for a downlink subframe: its refusal, and that in an accepted cell it is there and is the only one.
-- Assumes nothing.
use Prim.Native.Nat.{ℕ, ◌+◌, ◌≤◌, ◌%◌}
use mathlib.Core.Bool.{Bool, true, false, cond, false≢true}
use mathlib.Core.Path.{◌≡◌, refl, sym, ap, ◌∙◌}
use native.Mathlib.Decide.{dec_lt}
use native.Mathlib.Omega.{arith}
use Rattle.std.proofs.Common.{Result, Ok, Err}
use Rattle.frame.specs.declared.refusal.Refusal.{Refusal}
use Rattle.frame.specs.declared.Answered.{Answered}
use Rattle.frame.specs.declared.Settings.{Settings}
use Rattle.frame.specs.Coded.{coded_position, coded_answer}
use Rattle.frame.specs.Distance.{distance_of, uplink_of, answered_position, no_downlink_refusal, answered_refusal, answered_of, Answers, AnswersAlone, EachAnswered}
use Rattle.frame.specs.Layout.{downlink}
use Rattle.frame.specs.Once.{InWindow, InExactlyOne}
use Rattle.frame.specs.Refusals.{number_of, refusal_in}
use Rattle.frame.specs.Settings.{settings_refusal}
use Rattle.frame.proofs.Causes.{refused_next}
use Rattle.frame.proofs.Distances.{uplink_distance}
use Rattle.frame.proofs.Layouts.{outside_frame}
use Rattle.frame.proofs.Refused.{chain_refused}
use Rattle.frame.proofs.Windows.{inside_downlink, distance_inside, position_window, exactly_one_holds}

-- Accepted settings are refused by 7 exactly where d is not downlink.
module _ (s : Settings) (d k : ℕ) (asked : k ≡ settings_refusal s) (none : k ≡ 0) where
  pub at_downlink : downlink s.config d ≡ true → 0 ≡ answered_refusal s d
  unfolding answered_refusal no_downlink_refusal
  at_downlink e = refused_next k _ 0 _ asked none (rw e)

  pub at_other : downlink s.config d ≡ false → 7 ≡ answered_refusal s d
  unfolding answered_refusal no_downlink_refusal
  at_other e = refused_next k _ 7 _ asked none (rw e)

-- A downlink subframe is one of the frame's ten.
pub downlink_frame : (c d : ℕ) → downlink c d ≡ true → d ≤ 9
downlink_frame c d e =
    elim (dec_lt 9 d) [ yes over ↦ absurd (false≢true (outside_frame c d over ∙ e)) | no within ↦ omega arith ]

-- The table has a k exactly for a downlink subframe.
no_answer : (c d : ℕ) → (coded_answer c d).k ≡ 0 → downlink c d ≡ false
unfolding coded_answer
no_answer c d none = go (downlink c d) refl none
  where
    go : (b : Bool) → downlink c d ≡ b → cond b (distance_of c d) 0 ≡ 0 → downlink c d ≡ false
    go true e none = uplink_distance c d (downlink_frame c d e) none
    go false e none = e

an_answer : (c d : ℕ) → ((coded_answer c d).k ≡ 0 → ⊥) → downlink c d ≡ true
unfolding coded_answer
an_answer c d some = go (downlink c d) refl some
  where
    go : (b : Bool) → downlink c d ≡ b → (cond b (distance_of c d) 0 ≡ 0 → ⊥) → downlink c d ≡ true
    go true e some = e
    go false e some = absurd (some refl)

-- What the code answers: the settings' refusal, or 7, or for a downlink subframe its answer.
module _ (s : Settings) (d : ℕ) {T : Type 0} (asked : Result T Refusal) (told : refusal_in asked ≡ settings_refusal s) where
  pub answer_refused : (e : Refusal) → asked ≡ Err e → answered_of s d ≡ Err (number_of e)
  unfolding answered_refusal answered_of
  answer_refused e refused = chain_refused asked e (settings_refusal s) _ _ refused told

  accepted : (x : T) → asked ≡ Ok x → 0 ≡ settings_refusal s
  accepted x ok = sym (ap refusal_in ok) ∙ told

  refused : (x : T) → asked ≡ Ok x → downlink s.config d ≡ false → answered_of s d ≡ Err 7
  unfolding answered_of
  refused x ok e = rw (← at_other s d 0 (accepted x ok) refl e)

  pub none_refused : (x : T) → asked ≡ Ok x → (a : Answered) → a ≡ coded_answer s.config d → a.k ≡ 0 → answered_of s d ≡ Err 7
  none_refused x ok a e none = refused x ok (no_answer s.config d (sym (ap (λ (a : Answered). a.k) e) ∙ none))

  pub answer_told : (x : T) → asked ≡ Ok x → (a : Answered) → a ≡ coded_answer s.config d → (a.k ≡ 0 → ⊥) → Ok a ≡ answered_of s d
  unfolding coded_answer coded_position answered_of
  answer_told x ok a e some =
      let down = an_answer s.config d (λ none. some (ap (λ (a : Answered). a.k) e ∙ none)) in
      rw (← at_downlink s d 0 (accepted x ok) refl down, e, down)

-- An answer for d is a position of d in the window of d + k of the run.
in_run : (c d n k m : ℕ) → Answers c d n k m → InWindow c (d + k) m d
in_run c d n k m a =
    record { position = rw a.uplink a.position; distance = rw a.uplink (ap (λ (x : ℕ). d + x) a.distance) }

-- The distance and the position of a downlink subframe are an answer for it; and the run has it in exactly one window.
module _ (c d : ℕ) (e : downlink c d ≡ true) where
  within : d % 10 ≡ d
  within = omega (arith, downlink_frame c d e)

  inside : Answers c d (uplink_of c d) (distance_of c d) (answered_position c d)
  unfolding uplink_of answered_position
  inside =
      let found = position_window c ((d + distance_of c d) % 10) (distance_of c d) (rw within at (distance_inside c d (rw within e))) in
      record { uplink = refl; position = found.0; distance = found.1 }

  alone : AnswersAlone c d (uplink_of c d) (distance_of c d) (answered_position c d)
  alone =
      let one : InExactlyOne c d = exactly_one_holds c d (rw within e) in
      let here = one.only _ _ (in_run _ _ _ _ _ inside) in
      record {
        answers = inside;
        only = λ n k m a.
            let there = one.only _ _ (in_run c d n k m a) in
            let same : k ≡ distance_of c d = omega arith in
            (sym a.uplink ∙ ap (λ (x : ℕ). (d + x) % 10) same ∙ inside.uplink, same, there.1 ∙ sym here.1);
      }

-- The answer of the call is there and is the only one; where the call refuses 7, there is none.
pub each_answered : (s : Settings) (d : ℕ) → settings_refusal s ≡ 0 → EachAnswered s d
unfolding answered_of
each_answered s d ok =
    record {
      answered = λ e. (_, rw (← at_downlink s d 0 (sym ok) refl e), alone s.config d e);
      refused = λ e. rw (← at_other s d 0 (sym ok) refl e);
      none = λ within e n k m a.
          let same : d % 10 ≡ d = omega arith in
          false≢true (sym e ∙ (rw same at (inside_downlink s.config (d + k) m d (in_run s.config d n k m a))));
    }
