-- The region search: the products that it compares fit, and where it ends it has the region of t / size, or none is left.
-- Assumes nothing.
use Prim.Native.Nat.{ℕ, ◌+◌, ◌*◌, ◌/◌, ◌<◌, ◌≤◌}
use mathlib.Core.Path.{◌≡◌, subst}
use native.Mathlib.Nat.{div-lt_iff_lt-mul, le-div_iff_mul-le, mul_comm, mul-le-mul, mul-le-mul_left}
use native.Mathlib.Omega.{arith}
use Rattle.std.proofs.Common.{Some}
use Rattle.std.proofs.lemmas.Option.{same_Some}
use Rattle.resource.specs.Formula.{edge, region_of}
use Rattle.resource.specs.Search.{Held, Searched}
use Rattle.resource.proofs.Edges.{edge_most, edge_top, region_only}

pub product_most : (nrb size p high : ℕ) → nrb ≤ 110 → size ≤ 9 → p ≤ 3 → high ≡ edge nrb (p + 1) → size * high ≤ 1206
product_most nrb size p high narrow short h e =
    mul-le-mul {n₂ = 9} {m₂ = 134} short (omega (arith, edge_top nrb p h, edge_most nrb narrow))

module _ (nrb size t p low high : ℕ) where
  -- region p holds t / size
  pub found : 0 < size → p ≤ 3 → low ≡ edge nrb p → size * low ≤ t → high ≡ edge nrb (p + 1) → t < size * high
      → Searched nrb size t (Some (record { number = p; low = low; high = high }))
  found some h el from eh to =
      let lo : ℕ = edge nrb p in
      let hi : ℕ = edge nrb (p + 1) in
      let from : size * lo ≤ t = rw el at from in
      let to : t < size * hi = rw eh at to in
      let least : lo ≤ t / size = (le-div_iff_mul-le {k = size} {x = lo} {y = t} some).1 (omega (arith, mul_comm lo size)) in
      let most : t / size < hi = (div-lt_iff_lt-mul {k = size} {x = t} {y = hi} some).1 (omega (arith, mul_comm hi size)) in
      let number : p ≡ region_of nrb (t / size) = region_only nrb (t / size) p (record { region = h; low = least; high = most }) in
      let held : Held nrb size t (record { number = p; low = low; high = high }) =
      record {
        below = omega (arith, mul-le-mul_left size (edge_top nrb p h));
        number = number;
        low = el;
        high = eh;
      } in
      record { above = λ none. absurd (cc); held = λ r same. subst (Held nrb size t) (same_Some _ _ same) held }
