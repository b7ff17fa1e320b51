-- A product shared out in whole parts of m and a rest, over any m above 0. The account has m = 1,000,000, x octets and the price p.
-- Assumes nothing.
use Prim.Native.Nat.{ℕ, ◌+◌, ◌*◌, ◌/◌, ◌%◌, ◌<◌, ◌≤◌}
use mathlib.Core.Path.{◌≡◌, sym, ap, ◌∙◌}
use native.Mathlib.Nat.{add-zero, mul_comm, add-mul, mul_assoc, mul-le-mul, mul-le-mul_left, mod-lt, mod-eq_of_lt, div-add-mod, div-eq_of_lt, div-le_of_le-mul, mul-add-div, mul-add-mod_self_left, le_of_lt}

module _ (m : ℕ) (some : 0 < m) where
  -- A number that is d whole parts of m and a rest r below m has no other parts and no other rest.
  pub parts : (y d r : ℕ) → y ≡ m * d + r → r < m → (d ≡ y / m) × (r ≡ y % m)
  parts y d r e h = (
    sym (ap (λ (z : ℕ). z / m) e ∙ mul-add-div some d r ∙ ap (λ (z : ℕ). d + z) (div-eq_of_lt h) ∙ add-zero d),
    sym (ap (λ (z : ℕ). z % m) e ∙ mul-add-mod_self_left m d r ∙ mod-eq_of_lt h),
  )

  module _ (x p : ℕ) where
    -- The whole parts of x, each times p, are whole parts of x × p.
    split : x * p ≡ m * (x / m * p) + x % m * p
    split =
        ap (λ (y : ℕ). y * p) (sym (div-add-mod x m)) ∙ add-mul (m * (x / m)) (x % m) p
        ∙ ap (λ (y : ℕ). y + x % m * p) (mul_assoc m (x / m) p)

    pub whole : x * p / m ≡ x / m * p + x % m * p / m
    whole = ap (λ (y : ℕ). y / m) split ∙ mul-add-div some (x / m * p) (x % m * p)

    pub rest : x * p % m ≡ x % m * p % m
    rest = ap (λ (y : ℕ). y % m) split ∙ mul-add-mod_self_left m (x / m * p) (x % m * p)

    -- With p at most m no number on the way is large.
    pub part_most : p ≤ m → x % m * p ≤ m * m
    part_most h = mul-le-mul (le_of_lt (mod-lt x some)) h

    pub whole_most : p ≤ m → x / m * p + x % m * p / m ≤ x
    whole_most h = rw whole at (div-le_of_le-mul m (rw (mul_comm x m) at (mul-le-mul_left x h)))
