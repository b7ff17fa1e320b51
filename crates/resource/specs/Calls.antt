-- The resource call and its inverse, with their refusals: document 01, "Resources" and "Causes and their numbers".
-- Assumes nothing.
use Rattle.std.specs.Prelude.{ℕ, ◌+◌, ◌-◌, ◌*◌, cond, ◌&&◌, ltb, leb, length, Result}
use Rattle.frame.specs.declared.Settings.{Settings}
use Rattle.frame.specs.Refusals.{unless_refused}
use Rattle.frame.specs.Settings.{or_else, outside, window_refusal}
use Rattle.frame.specs.Table.{window_of}
use Rattle.resource.specs.declared.Cce.{Cce}
use Rattle.resource.specs.declared.Resource.{Resource}
use Rattle.resource.specs.Formula.{edge, resource_number, position_back, cce_back}

-- 11: first CCE not below N_4, or position not below M.
unfoldable pub pair_refusal : ℕ → ℕ → ℕ → ℕ → ℕ
pair_refusal nrb size m c = cond (ltb m size && ltb c (edge nrb 4)) 0 11

-- 13: resource below N1 or above N1 + M × N_4 − 1.
unfoldable pub range_refusal : ℕ → ℕ → ℕ → ℕ → ℕ
range_refusal nrb n1 size r = cond (leb n1 r && ltb r (n1 + size * edge nrb 4)) 0 13

-- N_4, which a first CCE lies below; 0 where N_RB is refused.
unfoldable pub cces_of : ℕ → ℕ
cces_of nrb = cond (outside 6 110 nrb) 0 (edge nrb 4)

-- In a window of M positions: 11, else the formula's resource.
unfoldable pub resource_in : ℕ → ℕ → ℕ → ℕ → ℕ → Result Resource ℕ
resource_in nrb n1 size m c = unless_refused (pair_refusal nrb size m c) (record { 0 = resource_number nrb n1 size m c })

-- In a window of M positions: 13, else the pair.
unfoldable pub inverse_in : ℕ → ℕ → ℕ → ℕ → Result (ℕ × Cce) ℕ
inverse_in nrb n1 size r =
    unless_refused (range_refusal nrb n1 size r) (position_back nrb size (r - n1), record { 0 = cce_back nrb size (r - n1) })

-- The map of a window of M positions, whether or not a window has as many: 7 where N_RB, N1 or M is over what settings and windows
-- allow, or M is 0.
unfoldable pub map_refusal : Settings → ℕ → ℕ
map_refusal s size = cond (ltb 110 s.nrb) 7 (cond (ltb 2047 s.n1) 7 (cond (outside 1 9 size) 7 0))

-- M of uplink subframe n
abbrev pub size_of : Settings → ℕ → ℕ
size_of s n = length (window_of s.config n)

-- The resource call: 1 to 6, 17, 19, 24 and 7, then 11, else the formula's resource.
unfoldable pub resource_of : Settings → ℕ → ℕ → ℕ → Result Resource ℕ
resource_of s n m c =
    unless_refused (or_else (window_refusal s n) (pair_refusal s.nrb (size_of s n) m c))
    (record { 0 = resource_number s.nrb s.n1 (size_of s n) m c })

-- The inverse call: 1 to 6, 17, 19, 24 and 7, then 13, else the pair.
unfoldable pub inverse_of : Settings → ℕ → ℕ → Result (ℕ × Cce) ℕ
inverse_of s n r =
    unless_refused (or_else (window_refusal s n) (range_refusal s.nrb s.n1 (size_of s n) r))
    (position_back s.nrb (size_of s n) (r - s.n1), record { 0 = cce_back s.nrb (size_of s n) (r - s.n1) })
