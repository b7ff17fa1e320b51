-- What is told of a tested window is what is told of the settings and the subframe that it was made of.
-- Assumes nothing.
use Prim.Native.Nat.{ℕ}
use mathlib.Core.List.{List}
use mathlib.Core.Path.{◌≡◌}
use Rattle.std.proofs.Common.{Result, Ok, Err}
use Rattle.std.specs.Result.{IfOk}
use Rattle.frame.specs.declared.Settings.{Settings}
use Rattle.frame.specs.declared.refusal.Refusal.{Refusal}
use Rattle.frame.specs.declared.window.Window.{Window}
use Rattle.frame.specs.Coded.{grid}
use Rattle.frame.specs.Order.{times_of, order_of}
use Rattle.frame.specs.Refusals.{refusal_in}
use Rattle.frame.specs.Settings.{window_refusal}
use Rattle.frame.specs.Table.{window_of}
use Rattle.frame.proofs.Refused.{from_one}
use Rattle.frame.proofs.Rows.{grid_at}
use Rattle.frame.proofs.Windows.{outside_configurations, outside_subframes}
use Rattle.numbers.specs.declared.frames.WindowAnswer.{WindowAnswer}
use Rattle.numbers.specs.Answers.{window_as, window_answer}
use Rattle.numbers.specs.Windows.{no_window, answer_in, tested_answer}

pub window_told : (s : Settings) (n : ℕ) (x : Result Window Refusal) → refusal_in x ≡ window_refusal s n → IfOk x (λ w. (w.settings ≡ s) × (w.n ≡ n))
    → tested_answer x ≡ window_answer s n
unfolding window_answer
window_told s n (Ok w) e of = rw (← e, of.0, of.1)
window_told s n (Err r) e of = let one = from_one r in rw (← e, one.1)

-- The table of answers has what is told of each window, and of a subframe without one.
pub answer_at : (rows : List (List WindowAnswer)) (c n : ℕ) (a : WindowAnswer) → a ≡ answer_in rows c n
    → rows ≡ grid (λ c n. window_as 0 (window_of c n)) → a ≡ window_as 0 (window_of c n)
unfolding answer_in times_of order_of
answer_at rows c n a read same =
    rw (read, same)
    (grid_at (λ (c n : ℕ). window_as 0 (window_of c n)) no_window (λ c n h. rw (outside_configurations c n h))
    (λ c n h. rw (outside_subframes c n h)) c n)
