-- The digits of a number that was put together of numbers below 16 are those numbers.
-- Assumes nothing.
use Prim.Native.Nat.{ℕ, zero, suc, ◌+◌, ◌*◌, ◌/◌, ◌^◌, ◌<◌, ◌≤◌}
use mathlib.Core.Path.{◌≡◌}
use native.Mathlib.Nat.{div-div-eq-div-mul, le_of_suc-le-suc, not-suc-le-zero, pow-succ', zero-div, zero-mod}
use native.Mathlib.Omega.{arith}
use Rattle.frame.specs.Coded.{digits, digit_at}

-- Four bits more.
sixteen : (n : ℕ) → 2 ^ (4 * suc n) ≡ 16 * 2 ^ (4 * n)
sixteen n =
    let four : 4 * suc n ≡ suc (suc (suc (suc (4 * n)))) = omega arith in
    rw four
    (omega
    (arith, pow-succ' 2 (suc (suc (suc (4 * n)))), pow-succ' 2 (suc (suc (4 * n))), pow-succ' 2 (suc (4 * n)), pow-succ' 2 (4 * n)))

pub digit_at_holds : (k : ℕ) (f : ℕ → ℕ) → ((i : ℕ) → f i < 16) → (n : ℕ) → n < k → digit_at (digits k f) n ≡ f n
digit_at_holds zero f small n h = absurd (not-suc-le-zero h)
digit_at_holds (suc k) f small zero h = omega (arith, small 0)
digit_at_holds (suc k) f small (suc n) h =
    let rest : ℕ = digits k (λ (i : ℕ). f (suc i)) in
    let first : (f 0 + 16 * rest) / 16 ≡ rest = omega (arith, small 0) in
    rw (sixteen n, ← div-div-eq-div-mul, first)
    (digit_at_holds k (λ (i : ℕ). f (suc i)) (λ i. small (suc i)) n (le_of_suc-le-suc h))

-- It has no others.
pub no_digit : (k : ℕ) (f : ℕ → ℕ) → ((i : ℕ) → f i < 16) → (n : ℕ) → k ≤ n → digit_at (digits k f) n ≡ 0
no_digit zero f small n h = rw (zero-div (2 ^ (4 * n)), zero-mod 16)
no_digit (suc k) f small zero h = absurd (not-suc-le-zero h)
no_digit (suc k) f small (suc n) h =
    let rest : ℕ = digits k (λ (i : ℕ). f (suc i)) in
    let first : (f 0 + 16 * rest) / 16 ≡ rest = omega (arith, small 0) in
    rw (sixteen n, ← div-div-eq-div-mul, first)
    (no_digit k (λ (i : ℕ). f (suc i)) (λ i. small (suc i)) n (le_of_suc-le-suc h))
