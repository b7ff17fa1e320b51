-- Laws of the edges N_p and of the region search: N_p does not fall, and each CCE below N_4 lies in exactly one region.
-- Assumes nothing.
use Prim.Native.Nat.{ℕ, zero, suc, ◌+◌, ◌*◌, ◌<◌, ◌≤◌}
use mathlib.Core.Bool.{cond}
use mathlib.Core.Path.{◌≡◌}
use native.Mathlib.Decide.{dec_lt}
use native.Mathlib.Nat.{mul-le-mul}
use native.Mathlib.Omega.{arith}
use lib.Dec.{leb}
use borrow.Author.Tests.{lt-ltb, le-ltb, le-leb, lt-leb}
use Rattle.frame.proofs.Bools.{bit_small}
use Rattle.resource.specs.Formula.{edge, region_of}

pub edge_none : (nrb : ℕ) → edge nrb 0 ≡ 0
unfolding edge
edge_none nrb = omega arith

-- N_4 of the narrowest cell is 7.
pub edge_least : (nrb : ℕ) → 6 ≤ nrb → 7 ≤ edge nrb 4
unfolding edge
edge_least nrb h = omega arith

-- N_4 of the widest cell is 134.
pub edge_most : (nrb : ℕ) → nrb ≤ 110 → edge nrb 4 ≤ 134
unfolding edge
edge_most nrb h = omega arith

-- c lies in region p
pub record In (nrb c p : ℕ) : Type 0 where
  pub region : p ≤ 3
  pub low : edge nrb p ≤ c
  pub high : c < edge nrb (p + 1)

-- The upper edge of a region is at most N_4.
pub edge_top : (nrb p : ℕ) → p ≤ 3 → edge nrb (p + 1) ≤ edge nrb 4
unfolding edge
edge_top nrb zero h = omega arith
edge_top nrb (suc zero) h = omega arith
edge_top nrb (suc (suc zero)) h = omega arith
edge_top nrb (suc (suc (suc zero))) h = omega arith
edge_top nrb (suc (suc (suc (suc p)))) h = absurd (omega arith)

-- No edge lies below the one before it.
pub edge_rises : (nrb p : ℕ) → p ≤ 3 → edge nrb p ≤ edge nrb (p + 1)
unfolding edge
edge_rises nrb zero h = omega arith
edge_rises nrb (suc zero) h = omega arith
edge_rises nrb (suc (suc zero)) h = omega arith
edge_rises nrb (suc (suc (suc zero))) h = omega arith
edge_rises nrb (suc (suc (suc (suc p)))) h = absurd (omega arith)

-- The region found holds the CCE.
pub region_in : (nrb c : ℕ) → c < edge nrb 4 → In nrb c (region_of nrb c)
unfolding region_of
region_in nrb c top = go (dec_lt c (edge nrb 1)) (dec_lt c (edge nrb 2)) (dec_lt c (edge nrb 3))
  where
    go : Dec (c < edge nrb 1) → Dec (c < edge nrb 2) → Dec (c < edge nrb 3) → In nrb c (region_of nrb c)
    go (yes a) b d = rw (lt-ltb c (edge nrb 1) a) (record { region = omega arith; low = omega (arith, edge_none nrb); high = a })
    go (no a) (yes b) d =
        rw (le-ltb c (edge nrb 1) (omega arith), lt-ltb c (edge nrb 2) b) (record { region = omega arith; low = omega arith; high = b })
    go (no a) (no b) (yes d) =
        rw (le-ltb c (edge nrb 1) (omega arith), le-ltb c (edge nrb 2) (omega arith), lt-ltb c (edge nrb 3) d)
        (record { region = omega arith; low = omega arith; high = d })
    go (no a) (no b) (no d) =
        rw (le-ltb c (edge nrb 1) (omega arith), le-ltb c (edge nrb 2) (omega arith), le-ltb c (edge nrb 3) (omega arith))
        (record { region = omega arith; low = omega arith; high = top })

-- No other region holds it.
pub region_only : (nrb c p : ℕ) → In nrb c p → p ≡ region_of nrb c
unfolding region_of edge
region_only nrb c zero i = rw (lt-ltb c (edge nrb 1) i.high)
region_only nrb c (suc zero) i = rw (le-ltb c (edge nrb 1) i.low, lt-ltb c (edge nrb 2) i.high)
region_only nrb c (suc (suc zero)) i =
    rw (le-ltb c (edge nrb 1) (omega (arith, i.low)), le-ltb c (edge nrb 2) i.low, lt-ltb c (edge nrb 3) i.high)
region_only nrb c (suc (suc (suc zero))) i =
    rw
    (le-ltb c (edge nrb 1) (omega (arith, i.low)), le-ltb c (edge nrb 2) (omega (arith, i.low)), le-ltb c (edge nrb 3) i.low)
region_only nrb c (suc (suc (suc (suc p)))) i = absurd (omega (arith, i.region))

-- How many of N_1, N_2 and N_3 do not lie above c.
abbrev pub edges_passed : ℕ → ℕ → ℕ
edges_passed nrb c = cond (leb (edge nrb 1) c) 1 0 + cond (leb (edge nrb 2) c) 1 0 + cond (leb (edge nrb 3) c) 1 0

-- The region of any CCE is that count.
pub region_counted : (nrb c : ℕ) → edges_passed nrb c ≡ region_of nrb c
unfolding region_of
region_counted nrb c = go (dec_lt c (edge nrb 1)) (dec_lt c (edge nrb 2)) (dec_lt c (edge nrb 3))
  where
    second : edge nrb 1 ≤ edge nrb 2
    second = edge_rises nrb 1 (omega arith)

    third : edge nrb 2 ≤ edge nrb 3
    third = edge_rises nrb 2 (omega arith)

    go : Dec (c < edge nrb 1) → Dec (c < edge nrb 2) → Dec (c < edge nrb 3) → edges_passed nrb c ≡ region_of nrb c
    go (yes a) b d =
        rw (lt-ltb c (edge nrb 1) a, lt-leb (edge nrb 1) c a)
        (rw (lt-leb (edge nrb 2) c (omega (arith, second)), lt-leb (edge nrb 3) c (omega (arith, second, third))))
    go (no a) (yes b) d =
        rw (le-ltb c (edge nrb 1) (omega arith), lt-ltb c (edge nrb 2) b)
        (rw (le-leb (edge nrb 1) c (omega arith), lt-leb (edge nrb 2) c b, lt-leb (edge nrb 3) c (omega (arith, third))))
    go (no a) (no b) (yes d) =
        rw (le-ltb c (edge nrb 1) (omega arith), le-ltb c (edge nrb 2) (omega arith), lt-ltb c (edge nrb 3) d)
        (rw (le-leb (edge nrb 1) c (omega arith), le-leb (edge nrb 2) c (omega arith), lt-leb (edge nrb 3) c d))
    go (no a) (no b) (no d) =
        rw (le-ltb c (edge nrb 1) (omega arith), le-ltb c (edge nrb 2) (omega arith), le-ltb c (edge nrb 3) (omega arith))
        (rw (le-leb (edge nrb 1) c (omega arith), le-leb (edge nrb 2) c (omega arith), le-leb (edge nrb 3) c (omega arith)))

-- It is one of the four.
pub region_most : (nrb c : ℕ) → region_of nrb c ≤ 3
region_most nrb c =
    rw (← region_counted nrb c)
    (omega (arith, bit_small (leb (edge nrb 1) c), bit_small (leb (edge nrb 2) c), bit_small (leb (edge nrb 3) c)))

-- A window has at most 9 × 134 resources.
pub resources_most : (nrb size : ℕ) → size ≤ 9 → nrb ≤ 110 → size * edge nrb 4 ≤ 1206
resources_most nrb size h top = mul-le-mul {n₂ = 9} {m₂ = 134} h (edge_most nrb top)
