-- The PUCCH resource of a grant: document 01, "Resources" (TS 36.213, section 10.1).
-- Assumes nothing.
use Rattle.std.specs.Prelude.{ℕ, ◌+◌, ◌-◌, ◌*◌, ◌/◌, ◌%◌, cond, List, map, ltb}
use Rattle.std.specs.List.{range_with_len}

-- N_p = max(0, floor(N_RB × (12 × p − 4) / 36)), p 0 to 4. Subtraction on ℕ stops at 0, which is the max at p = 0.
unfoldable pub edge : ℕ → ℕ → ℕ
edge nrb p = nrb * (12 * p - 4) / 36

-- N_0 to N_4.
abbrev pub edges_of : ℕ → List ℕ
edges_of nrb = map (edge nrb) (range_with_len 0 5)

-- The region p of a CCE: regions are tried upward, and the search ends with the first region whose upper edge N_(p+1) lies
-- above the CCE. The last region, 3, ends at N_4.
unfoldable pub region_of : ℕ → ℕ → ℕ
region_of nrb c =
    cond (ltb c (edge nrb 1)) 0
    (cond (ltb c (edge nrb 2)) 1
    (cond (ltb c (edge nrb 3)) 2
    3))

-- Resource = (M − m − 1) × N_p + m × N_(p+1) + c + N1, with p the region of c.
unfoldable pub resource_number : ℕ → ℕ → ℕ → ℕ → ℕ → ℕ
resource_number nrb n1 size m c =
    let p : ℕ = region_of nrb c in
    (size - m - 1) * edge nrb p + m * edge nrb (p + 1) + c + n1

-- The inverse, from t = resource − N1. The pairs of region p have the t from M × N_p to M × N_(p+1) − 1, so the region is that
-- of floor(t / M). In it each position has N_(p+1) − N_p resources in a row, one for each CCE of the region.
unfoldable pub region_back : ℕ → ℕ → ℕ → ℕ
region_back nrb size t = region_of nrb (t / size)

unfoldable pub position_back : ℕ → ℕ → ℕ → ℕ
position_back nrb size t =
    let p : ℕ = region_back nrb size t in
    (t - size * edge nrb p) / (edge nrb (p + 1) - edge nrb p)

unfoldable pub cce_back : ℕ → ℕ → ℕ → ℕ
cce_back nrb size t =
    let p : ℕ = region_back nrb size t in
    edge nrb p + (t - size * edge nrb p) % (edge nrb (p + 1) - edge nrb p)
