-- Computed tests: what a test shows at every number below a bound, one after the other, holds of each of them.
-- Assumes nothing.
use Prim.Native.Nat.{ℕ, zero, suc, ◌<◌}
use mathlib.Core.Bool.{Bool, true, ◌&&◌}
use native.Mathlib.Nat.{le_of_suc-le-suc, not-suc-le-zero}
use lib.Dec.{T}
use lib.Ieee.Fits.{and_l, and_r}

-- the test passes at every number below the bound
abbrev pub below : ℕ → (ℕ → Bool) → Bool
below zero f = true
below (suc n) f = f zero && below n (λ (i : ℕ). f (suc i))

-- A test that passes at every number below n passes at each i < n.
pub below_at : (n : ℕ) (f : ℕ → Bool) → T (below n f) → (i : ℕ) → i < n → T (f i)
below_at zero f t i h = absurd (not-suc-le-zero h)
below_at (suc n) f t zero h = and_l (f zero) (below n (λ (i : ℕ). f (suc i))) t
below_at (suc n) f t (suc i) h =
    below_at n (λ (i : ℕ). f (suc i)) (and_r (f zero) (below n (λ (i : ℕ). f (suc i))) t) i (le_of_suc-le-suc h)
