-- The sum that the code makes is a pair's offset; a claim's offset is its resource less N1, or 0 where the claim is bad.
-- Assumes nothing.
use Prim.Native.Nat.{ℕ, ◌+◌, ◌-◌, ◌*◌, ◌<◌, ◌≤◌}
use mathlib.Core.Bool.{Bool, true, false, not, ◌&&◌, not-not}
use mathlib.Core.Path.{◌≡◌, refl, sym, ap, ◌∙◌}
use native.Mathlib.Nat.{add-mul, mul-le-mul}
use native.Mathlib.Omega.{arith}
use lib.Dec.{ltb}
use lib.ListN.{get_or}
use borrow.Author.Tests.{ltb-true, lt-ltb}
use Rattle.std.proofs.lemmas.Bool.{and_parts}
use Rattle.std.proofs.lemmas.List.FromFn.{get_or-map-range_with_len}
use Rattle.resource.specs.declared.map.Map.{Map}
use Rattle.resource.specs.Formula.{edge, region_of, resource_number}
use Rattle.resource.proofs.Counts.{resources_least}
use Rattle.resource.proofs.Edges.{In, edge_most, edge_top, edge_rises, region_in}
use Rattle.resource.proofs.Layers.{in_rows}
use Rattle.resource.proofs.Mapped.{resource_mapped}
use Rattle.resource.proofs.OneToOne.{resource_range}
use Rattle.resource.proofs.Refused.{resource_given}
use Rattle.claims.specs.declared.offsets.Offsets.{Offsets}
use Rattle.claims.specs.declared.window.ClaimedWindow.{ClaimedWindow}
use Rattle.claims.specs.Claims.{claim_position, claim_cce, resources_of, is_bad}
use Rattle.claims.specs.Marking.{Has}
use Rattle.claims.specs.Offsets.{offset_of}
use Rattle.claims.proofs.Share.{in_range}

-- Sixteen bits hold the first product.
pub bases_most : (map : Map) (p : ℕ) → p ≤ 3 → (map.size - 1) * edge map.nrb p ≤ 1072
bases_most map p h =
    mul-le-mul {n₂ = 8} {m₂ = 134} (omega (arith, map.bounds.size_most))
    (omega (arith, edge_rises map.nrb p h, edge_top map.nrb p h, edge_most map.nrb map.bounds.nrb_most))

module _ (o : Offsets) where
  flat_at : (p : ℕ) → p ≤ 3 → get_or o.bases p 0 ≡ (o.map.size - 1) * edge o.map.nrb p
  flat_at p h = ap (λ xs. get_or xs p 0) o.bases_made ∙ get_or-map-range_with_len (λ x. (o.map.size - 1) * edge o.map.nrb x) 0 4 p p 0 (omega arith) (omega arith)

  wide_at : (p : ℕ) → p ≤ 3 → get_or o.widths p 0 ≡ edge o.map.nrb (p + 1) - edge o.map.nrb p
  wide_at p h = ap (λ xs. get_or xs p 0) o.widths_made ∙ get_or-map-range_with_len (λ x. edge o.map.nrb (x + 1) - edge o.map.nrb x) 0 4 p p 0 (omega arith) (omega arith)

  -- With a position of sixteen bits, whatever it is, the sum stays far below 2^64.
  pub bases_and_widths : (m p : ℕ) → m ≤ 65535 → p ≤ 3 → get_or o.bases p 0 + m * get_or o.widths p 0 ≤ 8782762
  bases_and_widths m p short h =
      let top : edge o.map.nrb (p + 1) ≤ 134 = omega (arith, edge_top o.map.nrb p h, edge_most o.map.nrb o.map.bounds.nrb_most) in
      let bases : (o.map.size - 1) * edge o.map.nrb p ≤ 1072 = bases_most o.map p h in
      let widths : m * (edge o.map.nrb (p + 1) - edge o.map.nrb p) ≤ 8781690 = mul-le-mul {n₂ = 65535} {m₂ = 134} short (omega arith) in
      rw (flat_at p h, wide_at p h) (omega arith)

  -- The sum is the formula with 0 for N1.
  pub offset_made : (m c : ℕ) → (ltb m o.map.size && ltb c (edge o.map.nrb 4)) ≡ true
      → get_or o.bases (region_of o.map.nrb c) 0 + m * get_or o.widths (region_of o.map.nrb c) 0 + c ≡ resource_number o.map.nrb 0 o.map.size m c
  unfolding resource_number
  offset_made m c has =
      let nrb : ℕ = o.map.nrb in
      let size : ℕ = o.map.size in
      let p : ℕ = region_of nrb c in
      let both = and_parts (ltb m size) (ltb c (edge nrb 4)) has in
      let below : m < size = ltb-true m size both.0 in
      let i : In nrb c p = region_in nrb c (ltb-true c (edge nrb 4) both.1) in
      let rows : size * edge nrb p ≡ (size - 1) * edge nrb p + edge nrb p = ap (λ (x : ℕ). x * edge nrb p) (omega arith) ∙ add-mul (size - 1) 1 (edge nrb p) ∙ omega arith in
      rw (flat_at p i.region, wide_at p i.region)
      (omega (arith, rows, in_rows size (edge nrb p) (edge nrb (p + 1)) m c below i.low (edge_rises nrb p i.region), i.low))

module _ (w : ClaimedWindow) (claim : ℕ) where
  abbrev offset : ℕ
  offset = offset_of w.offsets.map.nrb w.offsets.map.size (claim_position claim) (claim_cce claim)

  pub offset_resource : is_bad w.window.settings w.window.n claim ≡ false → Has w.window.settings w.window.n claim (offset + w.window.settings.n1)
  unfolding offset_of resource_number
  offset_resource good =
      let s = w.window.settings in
      let m : ℕ = claim_position claim in
      let c : ℕ = claim_cce claim in
      let r = in_range s w.window.n claim good in
      let below : m < w.window.size = omega (arith, w.window.positions, r.0) in
      sym
      (resource_given s.nrb s.n1 w.window.size m c (offset + s.n1) below r.1 (rw (w.map.0, w.map.1, lt-ltb m w.window.size below, lt-ltb c (edge s.nrb 4) r.1) (omega arith))
      ∙ resource_mapped s w.window.n w.window.size m c w.window.accepted w.window.positions)

  pub offset_below : offset < resources_of w.window.settings w.window.n
  unfolding offset_of resources_of is_bad
  offset_below = go (is_bad w.window.settings w.window.n claim) refl
    where
      go : (b : Bool) → is_bad w.window.settings w.window.n claim ≡ b → offset < resources_of w.window.settings w.window.n
      go true bad =
          let none : (ltb (claim_position claim) w.window.size && ltb (claim_cce claim) (edge w.window.settings.nrb 4)) ≡ false = rw w.window.positions (sym (not-not _) ∙ ap not bad) in
          rw (w.map.0, w.map.1, none) (resources_least w.window.settings w.window.n w.window.accepted)
      go false good =
          omega (arith, (resource_range w.window.settings w.window.n w.window.accepted (claim_position claim) (claim_cce claim) _ (offset_resource good)).1)
