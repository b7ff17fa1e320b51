-- Demand 3: "the pairs of position and first CCE map, by 01's formula, one to one onto the resources N1 to N1 + M × N_4 − 1".
-- It is said of any map and inverse; proofs/OneToOne.antt shows it of the ones that the calls promise.
-- Assumes nothing.
use Rattle.std.specs.Prelude.{ℕ, ◌+◌, ◌*◌, ◌<◌, ◌≤◌, ◌≡◌, Result, Ok}
use Rattle.resource.specs.declared.Cce.{Cce}
use Rattle.resource.specs.declared.Resource.{Resource}

-- the map takes (m, c) to r, and the inverse takes r to (m, c)
pub record Paired (map : ℕ → ℕ → Result Resource ℕ) (inverse : ℕ → Result (ℕ × Cce) ℕ) (m c r : ℕ) : Type 0 where
  pub there : map m c ≡ Ok (record { 0 = r })
  pub back : inverse r ≡ Ok (m, record { 0 = c })

-- M positions, `top` first CCEs below N_4, resources from `low` = N1 on
pub record OneToOne (size top low : ℕ) (map : ℕ → ℕ → Result Resource ℕ) (inverse : ℕ → Result (ℕ × Cce) ℕ) : Type 0 where
  -- every pair has a resource in the range
  pub into : (m c : ℕ) → m < size → c < top → (r : ℕ) × (low ≤ r) × (r < low + size * top) × Paired map inverse m c r
  -- every resource of the range is that of a pair
  pub onto : (r : ℕ) → low ≤ r → r < low + size * top → (m c : ℕ) × (m < size) × (c < top) × Paired map inverse m c r
  -- and of one pair only
  pub once : (m c m' c' r : ℕ) → map m c ≡ Ok (record { 0 = r }) → map m' c' ≡ Ok (record { 0 = r }) → (m ≡ m') × (c ≡ c')
