-- Computed tests over all states: what passes at every state of M positions holds of each of them, and the other way round; and
-- what passes at every state of 2, 3 and 4 positions holds of every window's state and its symbol.
-- Assumes nothing.
use Prim.Native.Nat.{ℕ, zero, suc, ◌≤◌}
use mathlib.Core.Bool.{Bool, true, ◌&&◌}
use mathlib.Core.List.{List, [], ◌∷◌}
use mathlib.Core.Path.{◌≡◌, refl, ap}
use native.Mathlib.Decide.{ℕ_discrete}
use native.Mathlib.Nat.{suc_inj}
use native.Mathlib.Omega.{arith}
use lib.Dec.{T}
use lib.Ieee.Fits.{and_i, and_l, and_r}
use lib.ListN.{length}
use borrow.Author.Tests.{ne_eqb}
use Rattle.std.proofs.Common.{Option, Some, None}
use Rattle.symbols.specs.declared.State.{State}
use Rattle.symbols.specs.declared.State.TheVariants.{Ack, Nack, Dtx}
use Rattle.symbols.specs.declared.Symbol.{Symbol}
use Rattle.symbols.specs.Delivered.{every_state}
use Rattle.symbols.specs.Selection.{Row, symbol, table_of, said_in, symbol_of}

-- every state that starts with s
abbrev starting : ℕ → (List State → Bool) → State → Bool
starting n f s = every_state n (λ (t : List State). f (s ∷ t))

starting_at : (n : ℕ) (f : List State → Bool) → T (every_state (suc n) f) → (s : State) → T (starting n f s)
starting_at n f h Ack =
    and_l (starting n f Ack) (starting n f Nack) (and_l (starting n f Ack && starting n f Nack) (starting n f Dtx) h)
starting_at n f h Nack =
    and_r (starting n f Ack) (starting n f Nack) (and_l (starting n f Ack && starting n f Nack) (starting n f Dtx) h)
starting_at n f h Dtx = and_r (starting n f Ack && starting n f Nack) (starting n f Dtx) h

-- A test that passes at every state of n positions passes at each of them.
pub every_at : (n : ℕ) (f : List State → Bool) → T (every_state n f) → (t : List State) → length t ≡ n → T (f t)
every_at zero f h [] e = h
every_at zero f h (s ∷ ss) e = absurd (omega arith)
every_at (suc n) f h [] e = absurd (omega arith)
every_at (suc n) f h (s ∷ ss) e = every_at n (λ (t : List State). f (s ∷ t)) (starting_at n f h s) ss (suc_inj e)

-- A test that passes at each state of n positions passes at every one.
pub every_from : (n : ℕ) (f : List State → Bool) → ((t : List State) → length t ≡ n → T (f t)) → T (every_state n f)
every_from zero f h = h [] refl
every_from (suc n) f h =
    let rest : (s : State) → T (starting n f s) = λ s.
    every_from n (λ (t : List State). f (s ∷ t)) (λ t e. h (s ∷ t) (ap suc e)) in
    and_i (starting n f Ack && starting n f Nack) (starting n f Dtx)
    (and_i (starting n f Ack) (starting n f Nack) (rest Ack) (rest Nack))
    (rest Dtx)

-- the test passes at every state of 2, 3 and 4 positions
unfoldable pub every_window : (List State → Bool) → Bool
every_window f = every_state 2 f && every_state 3 f && every_state 4 f

-- What passes at every state of 2, 3 and 4 positions, and at this one if it has another length, passes at this one.
passes : (f : List State → Bool) → T (every_window f) → (ss : List State)
    → ((length ss ≡ 2 → ⊥) → (length ss ≡ 3 → ⊥) → (length ss ≡ 4 → ⊥) → T (f ss)) → T (f ss)
unfolding every_window
passes f t ss other =
    let lower = and_l (every_state 2 f && every_state 3 f) (every_state 4 f) t in
    elim (ℕ_discrete (length ss) 2) [
      | yes e ↦ every_at 2 f (and_l (every_state 2 f) (every_state 3 f) lower) ss e
      | no two ↦ elim (ℕ_discrete (length ss) 3) [
        | yes e ↦ every_at 3 f (and_r (every_state 2 f) (every_state 3 f) lower) ss e
        | no three ↦ elim (ℕ_discrete (length ss) 4) [
          | yes e ↦ every_at 4 f (and_r (every_state 2 f && every_state 3 f) (every_state 4 f) t) ss e
          | no four ↦ other two three four
        ]
      ]
    ]

-- What passes at every state of 2, 3 and 4 positions passes at the state of a window of 2 to 4.
pub window_passes : (f : List State → Bool) → T (every_window f) → (ss : List State) → 2 ≤ length ss → length ss ≤ 4 → T (f ss)
window_passes f t ss low high = passes f t ss (λ two three four. absurd (omega arith))

-- Windows of other sizes have no table.
pub no_table : (n : ℕ) → (n ≡ 2 → ⊥) → (n ≡ 3 → ⊥) → (n ≡ 4 → ⊥) → table_of n ≡ []
unfolding table_of
no_table n two three four = rw (ne_eqb n 2 two, ne_eqb n 3 three, ne_eqb n 4 four)

-- Their states are silent.
pub other_silent : (ss : List State) → (length ss ≡ 2 → ⊥) → (length ss ≡ 3 → ⊥) → (length ss ≡ 4 → ⊥) → symbol_of ss ≡ None
unfolding symbol_of
other_silent ss two three four = ap (λ (rs : List Row). said_in rs ss) (no_table (length ss) two three four)

-- the test, of a state, the index, b0 and b1
abbrev when_sent : (List State → ℕ → ℕ → ℕ → Bool) → List State → Option Symbol → Bool
when_sent f t (Some y) = f t y.index y.b0 y.b1
when_sent f t None = true

-- the test passes at every state of 2, 3 and 4 positions and what it sends
unfoldable pub every_sent : (List State → ℕ → ℕ → ℕ → Bool) → Bool
every_sent f = every_window (λ t. when_sent f t (symbol_of t))

-- What passes at every state of 2, 3 and 4 positions and what it sends passes wherever something is sent.
pub sent_passes : (f : List State → ℕ → ℕ → ℕ → Bool) → T (every_sent f) → (ss : List State) (i b0 b1 : ℕ)
    → symbol_of ss ≡ symbol i b0 b1 → T (f ss i b0 b1)
unfolding every_sent
sent_passes f t ss i b0 b1 sent =
    let all = passes (λ t. when_sent f t (symbol_of t)) t ss (λ two three four. rw (other_silent ss two three four) tt) in
    rw sent at all
