-- The offset of a pair of position and first CCE, which is how far its resource stands above N1; and the numbers that it is made of.
-- Assumes nothing.
use Rattle.std.specs.Prelude.{ℕ, ◌+◌, ◌-◌, ◌*◌, cond, ◌&&◌, ltb, List, map}
use Rattle.std.specs.List.{range_with_len}
use Rattle.resource.specs.Formula.{edge, resource_number}

-- The formula's resource with 0 for N1; 0 too where m is not below M or c is not below N_4.
unfoldable pub offset_of : ℕ → ℕ → ℕ → ℕ → ℕ
offset_of nrb size m c = cond (ltb m size && ltb c (edge nrb 4)) (resource_number nrb 0 size m c) 0

-- (M − 1) × N_p for each region p, 0 to 3.
abbrev pub bases_of : ℕ → ℕ → List ℕ
bases_of nrb size = map (λ (p : ℕ). (size - 1) * edge nrb p) (range_with_len 0 4)

-- The width of each region: N_(p+1) − N_p.
abbrev pub widths_of : ℕ → List ℕ
widths_of nrb = map (λ (p : ℕ). edge nrb (p + 1) - edge nrb p) (range_with_len 0 4)
