-- What a symbol tells the station: it is in some row exactly where some state sends it, and it delivers exactly the positions that
-- are A in every state that sends it; a set of positions as a number has the bits of those positions.
-- Assumes nothing.
use Prim.Native.Nat.{ℕ, zero, suc, ◌+◌, ◌*◌, ◌/◌, ◌%◌, ◌^◌, ◌≤◌, ◌<◌}
use mathlib.Core.Bool.{Bool, true, false, cond, not, ◌&&◌, ◌||◌, false≢true}
use mathlib.Core.List.{List}
use mathlib.Core.Logic.{◌↔◌, ◌⊎◌, inl, inr}
use mathlib.Core.Path.{◌≡◌, refl, ap}
use native.Mathlib.Decide.{dec_le}
use native.Mathlib.Nat.{pow-succ', div-div-eq-div-mul, le_of_suc-le-suc, not-suc-le-zero}
use native.Mathlib.Omega.{arith}
use lib.Dec.{T, eqb, eqb→eq, not_T}
use lib.Ieee.Bits.{is_true}
use lib.Ieee.Fits.{and_l, and_r}
use lib.ListN.{length, get_or}
use borrow.Author.Tests.{eq-eqb}
use Rattle.std.proofs.Common.{Option, Some, None}
use Rattle.symbols.specs.declared.State.{State}
use Rattle.symbols.specs.declared.State.TheVariants.{Ack, Nack, Dtx}
use Rattle.symbols.specs.declared.Symbol.{Symbol}
use Rattle.symbols.specs.Delivered.{every_state, is_symbol, is_ack, in_some_row, delivered_at, set_of, delivery_of}
use Rattle.symbols.specs.Selection.{symbol, symbol_of}
use Rattle.symbols.proofs.Rows.{sent_size, index_heard, bits_small}
use Rattle.symbols.proofs.States.{every_at, every_from}

same_symbol : (i b0 b1 : ℕ) → is_symbol (symbol i b0 b1) i b0 b1 ≡ true
same_symbol i b0 b1 = rw (eq-eqb i i refl, eq-eqb b0 b0 refl, eq-eqb b1 b1 refl)

-- A symbol that passes the test is (i, b0 b1).
pub is_symbol_holds : (x : Option Symbol) (i b0 b1 : ℕ) → T (is_symbol x i b0 b1) → x ≡ symbol i b0 b1
is_symbol_holds (Some y) i b0 b1 t = parts y.index y.b0 y.b1 t
  where
    parts : (j a0 a1 : ℕ) → T (eqb j i && eqb a0 b0 && eqb a1 b1) → symbol j a0 a1 ≡ symbol i b0 b1
    parts j a0 a1 t =
        rw (
          eqb→eq j i (and_l (eqb j i) (eqb a0 b0) (and_l (eqb j i && eqb a0 b0) (eqb a1 b1) t)),
          eqb→eq a0 b0 (and_r (eqb j i) (eqb a0 b0) (and_l (eqb j i && eqb a0 b0) (eqb a1 b1) t)),
          eqb→eq a1 b1 (and_r (eqb j i && eqb a0 b0) (eqb a1 b1) t),
        )
is_symbol_holds None i b0 b1 t = absurd t

-- the state does not send the symbol
abbrev unsent : ℕ → ℕ → ℕ → List State → Bool
unsent i b0 b1 t = not (is_symbol (symbol_of t) i b0 b1)

-- A symbol that some state sends is in a row.
pub sent_in_row : (ss : List State) (i b0 b1 : ℕ) → symbol_of ss ≡ symbol i b0 b1 → in_some_row (length ss) i b0 b1 ≡ true
unfolding in_some_row
sent_in_row ss i b0 b1 sent =
    is_true (not (every_state (length ss) (unsent i b0 b1)))
    (not_T (every_state (length ss) (unsent i b0 b1))
    (λ h. rw (sent, same_symbol i b0 b1) at (every_at (length ss) (unsent i b0 b1) h ss refl)))

-- A symbol that no state sends is in no row.
pub in_no_row : (size i b0 b1 : ℕ) → ((ss : List State) → length ss ≡ size → symbol_of ss ≡ symbol i b0 b1 → ⊥)
    → in_some_row size i b0 b1 ≡ false
unfolding in_some_row
in_no_row size i b0 b1 none =
    ap not
    (is_true (every_state size (unsent i b0 b1))
    (every_from size (unsent i b0 b1)
    (λ t e. not_T (is_symbol (symbol_of t) i b0 b1) (λ same. none t e (is_symbol_holds (symbol_of t) i b0 b1 same)))))

pub is_ack_holds : (s : State) → T (is_ack s) → s ≡ Ack
is_ack_holds Ack t = refl
is_ack_holds Nack t = absurd t
is_ack_holds Dtx t = absurd t

-- A symbol delivers a position exactly if the position is A in every state that sends the symbol.
pub delivered_exactly : (size i b0 b1 p : ℕ)
    → (delivered_at size i b0 b1 p ≡ true)
    ↔ ((ss : List State) → length ss ≡ size → symbol_of ss ≡ symbol i b0 b1 → get_or ss p Dtx ≡ Ack)
unfolding delivered_at
delivered_exactly size i b0 b1 p = (there, back)
  where
    acked : List State → Bool
    acked t = not (is_symbol (symbol_of t) i b0 b1) || is_ack (get_or t p Dtx)

    there : every_state size acked ≡ true → (ss : List State) → length ss ≡ size → symbol_of ss ≡ symbol i b0 b1 → get_or ss p Dtx ≡ Ack
    there e ss l sent = is_ack_holds (get_or ss p Dtx) (rw (sent, same_symbol i b0 b1) at (every_at size acked (rw e tt) ss l))

    one : (t : List State) (b : Bool) → is_symbol (symbol_of t) i b0 b1 ≡ b → (symbol_of t ≡ symbol i b0 b1 → get_or t p Dtx ≡ Ack)
        → T (not b || is_ack (get_or t p Dtx))
    one t true e h = rw (h (is_symbol_holds (symbol_of t) i b0 b1 (rw e tt))) tt
    one t false e h = tt

    back : ((ss : List State) → length ss ≡ size → symbol_of ss ≡ symbol i b0 b1 → get_or ss p Dtx ≡ Ack) → every_state size acked ≡ true
    back h = is_true _ (every_from size acked (λ t l. one t (is_symbol (symbol_of t) i b0 b1) refl (h t l)))

-- A set of positions below n is a number below 2^n.
pub set_below : (n : ℕ) (f : ℕ → Bool) → set_of n f < 2 ^ n
set_below zero f = omega arith
set_below (suc n) f = rw (pow-succ' 2 n) (go (f zero) (set_below n (λ (p : ℕ). f (suc p))))
  where
    go : {r : ℕ} (b : Bool) → r < 2 ^ n → cond b 1 0 + 2 * r < 2 * 2 ^ n
    go true h = omega arith
    go false h = omega arith

-- Bit p of the number is set exactly if position p is in the set.
pub set_bit : (n : ℕ) (f : ℕ → Bool) (p : ℕ) → p < n → (set_of n f / 2 ^ p % 2 ≡ 1) ↔ (f p ≡ true)
set_bit zero f p h = absurd (not-suc-le-zero h)
set_bit (suc n) f zero h = go (f zero) (set_of n (λ (p : ℕ). f (suc p)))
  where
    go : (b : Bool) (r : ℕ) → ((cond b 1 0 + 2 * r) / 1 % 2 ≡ 1) ↔ (b ≡ true)
    go true r = (λ e. refl, λ e. omega arith)
    go false r = (λ e. absurd (omega arith), λ e. absurd (false≢true e))
set_bit (suc n) f (suc p) h =
    rw (pow-succ' 2 p, ← div-div-eq-div-mul (set_of (suc n) f) 2 (2 ^ p), without_bit_0 (f zero) (set_of n (λ (p : ℕ). f (suc p))))
    (set_bit n (λ (p : ℕ). f (suc p)) p (le_of_suc-le-suc h))
  where
    without_bit_0 : (b : Bool) (r : ℕ) → (cond b 1 0 + 2 * r) / 2 ≡ r
    without_bit_0 true r = omega arith
    without_bit_0 false r = omega arith

-- Only symbols of windows of 2 to 4 positions, with an index up to 3 and bits of 0 or 1, are in a row.
abbrev Inside : ℕ → ℕ → ℕ → ℕ → Type 0
Inside size i b0 b1 = (2 ≤ size) × (size ≤ 4) × (i ≤ 3) × (b0 ≤ 1) × (b1 ≤ 1)

pub in_row : (size i b0 b1 : ℕ) → (delivery_of size i b0 b1 ≡ None) ⊎ Inside size i b0 b1
unfolding delivery_of
in_row size i b0 b1 = go (dec_le 2 size) (dec_le size 4) (dec_le i 3) (dec_le b0 1) (dec_le b1 1)
  where
    outside : (Inside size i b0 b1 → ⊥) → (delivery_of size i b0 b1 ≡ None) ⊎ Inside size i b0 b1
    outside out =
        let none : in_some_row size i b0 b1 ≡ false = in_no_row size i b0 b1
        (λ ss e sent. out (omega (arith, sent_size ss i b0 b1 sent, (index_heard ss i b0 b1 sent).0, bits_small ss i b0 b1 sent))) in
        inl (rw none)

    go : Dec (2 ≤ size) → Dec (size ≤ 4) → Dec (i ≤ 3) → Dec (b0 ≤ 1) → Dec (b1 ≤ 1) → (delivery_of size i b0 b1 ≡ None) ⊎ Inside size i b0 b1
    go (yes a) (yes b) (yes d) (yes e) (yes f) = inr (a, b, d, e, f)
    go (no a) b d e f = outside (λ t. a t.0)
    go a (no b) d e f = outside (λ t. b t.1)
    go a b (no d) e f = outside (λ t. d t.2)
    go a b d (no e) f = outside (λ t. e t.3)
    go a b d e (no f) = outside (λ t. f t.4)
