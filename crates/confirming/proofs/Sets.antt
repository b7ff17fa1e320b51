-- Sets of positions as numbers, filled from the first position up, and the positions that a number says.
-- Assumes nothing.
use Prim.Native.Nat.{ℕ, zero, suc, ◌+◌, ◌*◌, ◌/◌, ◌%◌, ◌^◌, ◌<◌, ◌≤◌}
use mathlib.Core.Bool.{Bool, true, false, cond}
use mathlib.Core.Logic.{◌↔◌}
use mathlib.Core.Path.{◌≡◌, refl}
use native.Mathlib.Decide.{dec_lt}
use native.Mathlib.Nat.{div-eq_of_lt, pow-le-pow_right, pow-succ'}
use lib.Dec.{lit<}
use native.Mathlib.Omega.{arith}
use Rattle.symbols.specs.Delivered.{set_of}
use Rattle.symbols.proofs.Reading.{set_below, set_bit}
use Rattle.confirming.specs.Coded.{in_set}

-- Two sets of the same positions are the same number.
pub set_same : (n : ℕ) (f g : ℕ → Bool) → ((p : ℕ) → p < n → f p ≡ g p) → set_of n f ≡ set_of n g
set_same zero f g h = refl
set_same (suc n) f g h =
    rw (h 0 (omega arith), set_same n (λ (p : ℕ). f (suc p)) (λ (p : ℕ). g (suc p)) (λ p q. h (suc p) (omega arith)))

-- A set of no position is 0.
pub set_none : (n : ℕ) (f : ℕ → Bool) → ((p : ℕ) → f p ≡ false) → 0 ≡ set_of n f
set_none zero f h = refl
set_none (suc n) f h = rw (h 0, ← set_none n (λ (p : ℕ). f (suc p)) (λ p. h (suc p)))

-- Bit p of the number is set exactly if p is a position, and in the set.
pub set_exactly : (n : ℕ) (f : ℕ → Bool) (p : ℕ) → (set_of n f / 2 ^ p % 2 ≡ 1) ↔ ((p < n) × (f p ≡ true))
set_exactly n f p = go (dec_lt p n)
  where
    go : Dec (p < n) → (set_of n f / 2 ^ p % 2 ≡ 1) ↔ ((p < n) × (f p ≡ true))
    go (yes h) = (λ e. (h, (set_bit n f p h).0 e), λ e. (set_bit n f p h).1 e.1)
    go (no h) =
        let most : 2 ^ n ≤ 2 ^ p = pow-le-pow_right (lit< tt) (omega arith) in
        let none : set_of n f / 2 ^ p ≡ 0 = div-eq_of_lt (omega (arith, set_below n f, most)) in
        (λ e. absurd (omega (arith, none, e)), λ e. absurd (h e.0))

-- One position more, behind the others.
pub set_next : (n : ℕ) (f : ℕ → Bool) → set_of (suc n) f ≡ set_of n f + cond (f n) (2 ^ n) 0
set_next zero f = go (f zero)
  where
    go : (b : Bool) → cond b 1 0 + 2 * 0 ≡ 0 + cond b (2 ^ 0) 0
    go true = refl
    go false = refl
set_next (suc n) f = go (f (suc n)) (set_next n (λ (p : ℕ). f (suc p)))
  where
    go : (b : Bool) → set_of (suc n) (λ (p : ℕ). f (suc p)) ≡ set_of n (λ (p : ℕ). f (suc p)) + cond b (2 ^ n) 0
        → cond (f zero) 1 0 + 2 * set_of (suc n) (λ (p : ℕ). f (suc p)) ≡ cond (f zero) 1 0 + 2 * set_of n (λ (p : ℕ). f (suc p)) + cond b (2 ^ suc n) 0
    go true e = omega (arith, e, pow-succ' 2 n)
    go false e = omega (arith, e)

-- No number of 16 bits has a position from 16 on.
pub none_beyond : (set m : ℕ) → set < 65536 → 16 ≤ m → in_set set m ≡ false
none_beyond set m low h =
    let most : 2 ^ 16 ≤ 2 ^ m = pow-le-pow_right (lit< tt) h in
    let none : set / 2 ^ m ≡ 0 = div-eq_of_lt (omega (arith, low, most)) in
    rw none
