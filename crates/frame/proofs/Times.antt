-- Time order: `times_of` lists the k of a window in time order, and `order_of` lists the positions of those k.
-- Assumes nothing.
use Prim.Native.Nat.{ℕ, zero, suc, ◌<◌, ◌≤◌, suc-le-suc}
use mathlib.Core.Bool.{Bool, true, false, cond, false≢true, or-true}
use mathlib.Core.List.{List, ◌∷◌}
use mathlib.Core.Logic.{⊎_elim}
use mathlib.Core.Path.{◌≡◌, refl, ◌∙◌}
use native.Mathlib.Nat.{eq-or-lt_of_le, le_of_suc-le-suc, le_refl, le_step, not-suc-le-zero}
use native.Mathlib.Omega.{arith}
use lib.Dec.{T, eqb, ltb, lit<, eqb→eq}
use lib.ListN.{length, get_or, length-map}
use borrow.Author.Tests.{eqb-true, eq-eqb}
use Rattle.std.specs.Cmp.{both_ways}
use Rattle.frame.specs.Order.{member, falling, times_of, InTimeOrder, position_of, order_of}
use Rattle.frame.specs.Table.{table, window_of}
use Rattle.frame.proofs.Windows.{every_row, every_position, window_passes, position_passes, window_k, position_window}

-- the list with k in front of it, or the list alone: the step by which `falling` goes
abbrev added : Bool → ℕ → List ℕ → List ℕ
added b k ts = cond b (k ∷ ts) ts

-- no number of the list is over n
abbrev AtMost : ℕ → List ℕ → Type 0
AtMost n ts = (j : ℕ) → j < length ts → get_or ts j 0 ≤ n

-- each number of the list is smaller than the ones before it
abbrev Falls : List ℕ → Type 0
Falls ts = (i j : ℕ) → i < j → j < length ts → get_or ts j 0 < get_or ts i 0

-- A list of numbers up to n is, with n + 1 in front or not, one of numbers up to n + 1.
added_at_most : (b : Bool) (n : ℕ) (ts : List ℕ) → AtMost n ts → AtMost (suc n) (added b (suc n) ts)
added_at_most true n ts a zero h = le_refl (suc n)
added_at_most true n ts a (suc j) h = le_step (a j (le_of_suc-le-suc h))
added_at_most false n ts a j h = le_step (a j h)

-- `falling n` lists no number over n.
falling_at_most : (n : ℕ) (ks : List ℕ) → AtMost n (falling n ks)
falling_at_most zero ks = λ j h. absurd (not-suc-le-zero h)
falling_at_most (suc n) ks = added_at_most (member (suc n) ks) n (falling n ks) (falling_at_most n ks)

-- A falling list of numbers up to n still falls with n + 1 in front.
added_falls : (b : Bool) (n : ℕ) (ts : List ℕ) → AtMost n ts → Falls ts → Falls (added b (suc n) ts)
added_falls true n ts a f i zero l h = absurd (not-suc-le-zero l)
added_falls true n ts a f zero (suc j) l h = suc-le-suc (a j (le_of_suc-le-suc h))
added_falls true n ts a f (suc i) (suc j) l h = f i j (le_of_suc-le-suc l) (le_of_suc-le-suc h)
added_falls false n ts a f i j l h = f i j l h

-- What `falling` lists falls.
falling_falls : (n : ℕ) (ks : List ℕ) → Falls (falling n ks)
falling_falls zero ks = λ i j l h. absurd (not-suc-le-zero h)
falling_falls (suc n) ks =
    added_falls (member (suc n) ks) n (falling n ks) (falling_at_most n ks) (falling_falls n ks)

-- `falling` lists only members of K.
falling_from : (n : ℕ) (ks : List ℕ) (k : ℕ) → member k (falling n ks) ≡ true → member k ks ≡ true
falling_from zero ks k e = absurd (false≢true e)
falling_from (suc n) ks k e = go (member (suc n) ks) (eqb (suc n) k) refl refl e (falling_from n ks k)
  where
    go : (b q : Bool) → member (suc n) ks ≡ b → eqb (suc n) k ≡ q → member k (added b (suc n) (falling n ks)) ≡ true
        → (member k (falling n ks) ≡ true → member k ks ≡ true) → member k ks ≡ true
    go true true b q e rest = rw (← eqb-true (suc n) k q) b
    go true false b q e rest = rest (rw q at e)
    go false _ b q e rest = rest e

-- A member of a list stays one with a number in front.
added_keeps : (b : Bool) (x : ℕ) (ts : List ℕ) (k : ℕ) → member k ts ≡ true → member k (added b x ts) ≡ true
added_keeps true x ts k e = rw (e, or-true)
added_keeps false x ts k e = e

-- `falling n` lists each member of K from 1 to n.
falling_to : (n : ℕ) (ks : List ℕ) (k : ℕ) → 0 < k → k ≤ n → member k ks ≡ true → member k (falling n ks) ≡ true
falling_to zero ks k low high e = absurd (omega arith)
falling_to (suc n) ks k low high e =
    ⊎_elim (λ last. rw (← last, e, eq-eqb k k refl))
    (λ less. added_keeps (member (suc n) ks) (suc n) (falling n ks) k (falling_to n ks k low (le_of_suc-le-suc less) e))
    (eq-or-lt_of_le high)

-- Two tests are equal if each passes where the other does.
-- Time order and the window have the same k.
times_same : (c n k : ℕ) → member k (times_of (window_of c n)) ≡ member k (window_of c n)
unfolding times_of
times_same c n k = both_ways _ _ (falling_from 13 (window_of c n) k) into
  where
    into : member k (window_of c n) ≡ true → member k (falling 13 (window_of c n)) ≡ true
    into e =
        let found = position_window c n k e in
        let range = window_k c n (position_of k (window_of c n)) found.0 in
        falling_to 13 (window_of c n) k (omega arith) (omega arith) e

size_tested : T (every_row (λ c n ks. eqb (length (times_of ks)) (length ks)) table)
unfolding table times_of
size_tested = tt

-- Time order has as many k as the window.
times_size : (c n : ℕ) → length (times_of (window_of c n)) ≡ length (window_of c n)
unfolding times_of
times_size c n = eqb→eq _ _ (window_passes _ size_tested c n tt)

-- `times_of` lists the k of a window in time order.
pub in_time_order : (c n : ℕ) → InTimeOrder (window_of c n) (times_of (window_of c n))
unfolding times_of
in_time_order c n =
    record { size = times_size c n; same = times_same c n; falls = falling_falls 13 (window_of c n) }

-- `order_of` lists as many positions as the window has.
pub order_size : (c n : ℕ) → length (order_of (window_of c n)) ≡ length (window_of c n)
unfolding order_of
order_size c n = length-map (times_of (window_of c n)) _ ∙ times_size c n

below_tested : T (every_position (λ c n ks j. ltb (get_or (order_of ks) j 0) (length ks)) table)
unfolding table times_of order_of
below_tested = tt

-- `order_of` lists positions of the window.
pub order_below : (c n j : ℕ) → j < length (window_of c n) → get_or (order_of (window_of c n)) j 0 < length (window_of c n)
order_below c n j h = lit< (position_passes _ below_tested c n j h)
