-- What the region search gives for t and `size`: the region of t / size with its edges, or nothing where t / size is not below N_4.
-- Assumes nothing.
use Rattle.std.specs.Prelude.{ℕ, ◌+◌, ◌*◌, ◌/◌, ◌<◌, ◌≤◌, ◌≡◌, Option, Some, None}
use Rattle.resource.specs.declared.map.Region.{Region}
use Rattle.resource.specs.Formula.{edge, region_of}

pub record Held (nrb size t : ℕ) (r : Region) : Type 0 where
  pub below : t < size * edge nrb 4
  pub number : r.number ≡ region_of nrb (t / size)
  pub low : r.low ≡ edge nrb r.number
  pub high : r.high ≡ edge nrb (r.number + 1)

pub record Searched (nrb size t : ℕ) (found : Option Region) : Type 0 where
  pub above : found ≡ None → size * edge nrb 4 ≤ t
  pub held : (r : Region) → found ≡ Some r → Held nrb size t r
