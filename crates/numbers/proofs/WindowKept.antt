-- The numbers of feedback_window and feedback_answered lose nothing: M entries of an array of nine are the list.
-- Assumes nothing.
use Prim.Native.Nat.{ℕ, zero, suc, ◌≤◌}
use mathlib.Core.List.{List, [], ◌∷◌}
use mathlib.Core.Path.{◌≡◌, refl, ap}
use native.Mathlib.Nat.{le_of_suc-le-suc, not-suc-le-zero}
use lib.ListN.{length, take}
use Rattle.frame.specs.declared.Answered.{Answered}
use Rattle.frame.specs.declared.Settings.{Settings}
use Rattle.frame.specs.Distance.{answered_of}
use Rattle.frame.specs.Order.{order_of}
use Rattle.frame.specs.Refusals.{unless_refused}
use Rattle.frame.specs.Settings.{window_refusal}
use Rattle.frame.specs.Table.{window_of}
use Rattle.frame.proofs.Times.{order_size}
use Rattle.frame.proofs.Windows.{window_size}
use Rattle.numbers.specs.Answers.{padded, window_as, window_answer, answered_answer}
use Rattle.numbers.specs.Back.{told_window, window_in, answered_in}

padded_taken : (n : ℕ) (l : List ℕ) → length l ≤ n → take (length l) (padded n l) ≡ l
padded_taken n [] h = refl
padded_taken zero (x ∷ l) h = absurd (not-suc-le-zero h)
padded_taken (suc n) (x ∷ l) h = ap (λ (l : List ℕ). x ∷ l) (padded_taken n l (le_of_suc-le-suc h))

told_back : (r : ℕ) (ks : List ℕ) → length ks ≤ 9 → length (order_of ks) ≡ length ks
    → window_in (window_as r ks) ≡ unless_refused {T = List ℕ × List ℕ} r (ks, order_of ks)
told_back zero ks most size =
    let order : take (length ks) (padded 9 (order_of ks)) ≡ order_of ks = rw (← size) (padded_taken 9 (order_of ks) (rw size most)) in
    rw (padded_taken 9 ks most, order)
told_back (suc r) ks most size = refl

pub window_back : (s : Settings) (n : ℕ) → window_in (window_answer s n) ≡ told_window s n
unfolding window_answer told_window
window_back s n =
    told_back (window_refusal s n) (window_of s.config n) (window_size s.config n) (order_size s.config n)

answer_back : (k : ℕ) (a : Answered) → answered_in (answered_answer (unless_refused k a)) ≡ unless_refused k a
answer_back zero a = refl
answer_back (suc k) a = refl

pub answered_back : (s : Settings) (d : ℕ) → answered_in (answered_answer (answered_of s d)) ≡ answered_of s d
unfolding answered_of
answered_back s d = answer_back _ _
