-- The bits of a number, counted from the lowest, which is 0.
-- Assumes nothing.
use Prim.Native.Nat.{ℕ, zero, suc, ◌+◌, ◌*◌, ◌/◌, ◌%◌, ◌^◌, ◌<◌}
use mathlib.Core.Path.{◌≡◌, sym, ap, ◌∙◌}
use native.Mathlib.Nat.{pow-succ', pow-suc, div-one, div-div-eq-div-mul, le_of_suc-le-suc, not-suc-le-zero}
use native.Mathlib.Omega.{arith}
use lib.Arith.{mod-mul}
use lib.Pow.{pow_pos}

-- Bit b + 1 of a number is bit b of its half.
pub half_bit : (x b : ℕ) → x / 2 ^ suc b % 2 ≡ x / 2 / 2 ^ b % 2
half_bit x b = rw (pow-succ' 2 b, ← div-div-eq-div-mul x 2 (2 ^ b))

-- The low bits of a number are its lowest one and those of its half.
low_bits : (count x : ℕ) → x % 2 ^ suc count ≡ x / 2 % 2 ^ count * 2 + x % 2
low_bits count x = rw (pow-suc 2 count) (mod-mul x (pow_pos count) (omega arith))

-- A bit below `count` is not changed by what stands from there on.
pub bit_of_low : (count x b : ℕ) → b < count → x % 2 ^ count / 2 ^ b % 2 ≡ x / 2 ^ b % 2
bit_of_low zero x b h = absurd (not-suc-le-zero h)
bit_of_low (suc count) x zero h = rw (div-one, div-one) (omega (arith, low_bits count x))
bit_of_low (suc count) x (suc b) h =
    let half : x % 2 ^ suc count / 2 ≡ x / 2 % 2 ^ count = omega (arith, low_bits count x) in
    half_bit (x % 2 ^ suc count) b ∙ ap (λ (y : ℕ). y / 2 ^ b % 2) half ∙ bit_of_low count (x / 2) b (le_of_suc-le-suc h) ∙ sym (half_bit x b)

-- The low bits are all 0 exactly if their number is.
pub low_none : (count x : ℕ) → x % 2 ^ count ≡ 0 → (b : ℕ) → b < count → x / 2 ^ b % 2 ≡ 0
low_none zero x e b h = absurd (not-suc-le-zero h)
low_none (suc count) x e zero h = rw div-one (omega (arith, low_bits count x))
low_none (suc count) x e (suc b) h = half_bit x b ∙ low_none count (x / 2) (omega (arith, low_bits count x)) b (le_of_suc-le-suc h)

pub none_low : (count x : ℕ) → ((b : ℕ) → b < count → x / 2 ^ b % 2 ≡ 0) → x % 2 ^ count ≡ 0
none_low zero x none = omega arith
none_low (suc count) x none =
    let low : x % 2 ≡ 0 = rw div-one at (none 0 (omega arith)) in
    let high : x / 2 % 2 ^ count ≡ 0 = none_low count (x / 2) (λ b h. sym (half_bit x b) ∙ none (suc b) (omega arith)) in
    omega (arith, low_bits count x)
