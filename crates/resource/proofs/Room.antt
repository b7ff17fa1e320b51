-- What the code of the formula and of its inverse computes on the way: the definitions' numbers, which fit sixteen bits.
-- Assumes nothing.
use Prim.Native.Nat.{ℕ, ◌+◌, ◌-◌, ◌*◌, ◌/◌, ◌%◌, ◌<◌, ◌≤◌}
use mathlib.Core.Path.{◌≡◌, refl}
use native.Mathlib.Nat.{div-lt_iff_lt-mul, div-one, mul_comm}
use native.Mathlib.Omega.{arith}
use Rattle.std.proofs.Common.{Option, Some}
use Rattle.resource.specs.declared.map.Region.{Region}
use Rattle.resource.specs.Bounds.{Bounds}
use Rattle.resource.specs.Formula.{edge, region_of, resource_number, region_back, position_back, cce_back}
use Rattle.resource.specs.Search.{Held, Searched}
use Rattle.resource.proofs.Edges.{In, edge_most, edge_top, region_in, resources_most}
use Rattle.resource.proofs.Layers.{back}
use Rattle.resource.proofs.OneToOne.{Forth, forth}

module _ (nrb n1 size : ℕ) (bounds : Bounds nrb n1 size) where
  pub record Computed (m c low high : ℕ) : Type 0 where
    pub number : (size - m - 1) * low + m * high + c + n1 ≡ resource_number nrb n1 size m c
    pub most : (size - m - 1) * low + m * high + c + n1 ≤ 3252

  pub computed : (m c : ℕ) (r : Region) → m < size → Held nrb 1 c r → Computed m c r.low r.high
  unfolding resource_number
  computed m c r h held =
      let low : ℕ = r.low in
      let high : ℕ = r.high in
      let number : r.number ≡ region_of nrb c = rw div-one at held.number in
      let el : low ≡ edge nrb (region_of nrb c) = rw number at held.low in
      let eh : high ≡ edge nrb (region_of nrb c + 1) = rw number at held.high in
      let top : c < edge nrb 4 = omega (arith, held.below) in
      let f : Forth nrb n1 size m c (resource_number nrb n1 size m c) = forth nrb n1 size m c h top in
      let e : (size - m - 1) * low + m * high + c + n1 ≡ resource_number nrb n1 size m c = rw (el, eh) in
      record { number = e; most = omega (arith, f.high, resources_most nrb size bounds.size_most bounds.nrb_most, bounds.n1_most) }

  -- The quotient of a number of the range lies below N_4.
  pub quotient : (t : ℕ) → t < size * edge nrb 4 → t / size < edge nrb 4
  quotient t h =
      (div-lt_iff_lt-mul {k = size} {x = t} {y = edge nrb 4} bounds.size_least).1 (omega (arith, mul_comm size (edge nrb 4)))

  pub record Undone (t low high : ℕ) : Type 0 where
    pub rows : size * low ≤ t
    pub width : low < high
    pub position : (t - size * low) / (high - low) ≡ position_back nrb size t
    pub cce : low + (t - size * low) % (high - low) ≡ cce_back nrb size t
    pub most : low + (t - size * low) % (high - low) ≤ 134

  pub undone : (t : ℕ) (r : Region) → Held nrb size t r → Undone t r.low r.high
  unfolding region_back position_back cce_back
  undone t r held =
      let i : In nrb (t / size) (region_of nrb (t / size)) = region_in nrb (t / size) (quotient t held.below) in
      let b = back size (edge nrb (region_of nrb (t / size))) (edge nrb (region_of nrb (t / size) + 1)) t bounds.size_least i.low i.high in
      let top : edge nrb (region_of nrb (t / size) + 1) ≤ 134 = omega (arith, edge_top nrb (region_of nrb (t / size)) i.region, edge_most nrb bounds.nrb_most) in
      rw (held.low, held.high, held.number)
      (record { rows = b.rows; width = b.width; position = refl; cce = refl; most = omega (arith, b.cce_high, top) })

-- What the code knows of a region that it found.
module _ (nrb n1 size : ℕ) (bounds : Bounds nrb n1 size) (r : Region) where
  pub resource_computed : (m c : ℕ) (found : Option Region) → Searched nrb 1 c found → found ≡ Some r → m < size
      → Computed nrb n1 size bounds m c r.low r.high
  resource_computed m c found searched there h = computed nrb n1 size bounds m c r h (searched.held r there)

  pub inverse_computed : (t : ℕ) (found : Option Region) → Searched nrb size t found → found ≡ Some r
      → Undone nrb n1 size bounds t r.low r.high
  inverse_computed t found searched there = undone nrb n1 size bounds t r (searched.held r there)
