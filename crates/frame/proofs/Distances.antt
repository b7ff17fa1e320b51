-- Laws of distances: how large they are, that a distance is the same in every frame of the run, and that there are none
-- outside configurations 0 to 6.
-- Assumes nothing.
use Prim.Native.Nat.{ℕ, zero, suc, ◌+◌, ◌<◌, ◌≤◌, ◌%◌, zero-le}
use mathlib.Core.Bool.{Bool, true, false, cond}
use mathlib.Core.Path.{◌≡◌, refl}
use native.Mathlib.Nat.{le_refl, le_step}
use native.Mathlib.Omega.{arith}
use native.Mathlib.Decide.{dec_lt}
use lib.Dec.{T, eqb, leb, leb→le}
use Rattle.frame.specs.Distance.{distance_up_to, distance_of}
use Rattle.frame.specs.Layout.{layouts, letter_of, downlink}
use Rattle.frame.specs.Order.{member}
use Rattle.frame.specs.Table.{table, window_of}
use Rattle.frame.proofs.Below.{below, below_at}
use Rattle.frame.proofs.Layouts.{no_letter}
use Rattle.frame.proofs.Windows.{outside_configurations}

most_up_to : (k c d : ℕ) → distance_up_to k c d ≤ k
unfolding distance_up_to
most_up_to zero c d = zero-le
most_up_to (suc k) c d = go (member (suc k) (window_of c ((d + suc k) % 10))) (most_up_to k c d)
  where
    go : (b : Bool) → distance_up_to k c d ≤ k → cond b (suc k) (distance_up_to k c d) ≤ suc k
    go true h = le_refl (suc k)
    go false h = le_step h

-- No distance is over 13.
pub distance_most : (c d : ℕ) → distance_of c d ≤ 13
unfolding distance_of
distance_most c d = most_up_to 13 c d

same_up_to : (k c d : ℕ) → distance_up_to k c (d % 10) ≡ distance_up_to k c d
unfolding distance_up_to
same_up_to zero c d = refl
same_up_to (suc k) c d =
    let same : (d % 10 + suc k) % 10 ≡ (d + suc k) % 10 = omega arith in
    rw (same, same_up_to k c d)

-- Ten subframes on, the distance is the same.
pub distance_frame : (c d : ℕ) → distance_of c (d % 10) ≡ distance_of c d
unfolding distance_of
distance_frame c d = same_up_to 13 c d

none_up_to : (k c d : ℕ) → 6 < c → distance_up_to k c d ≡ 0
unfolding distance_up_to
none_up_to zero c d h = refl
none_up_to (suc k) c d h = rw (outside_configurations c ((d + suc k) % 10) h, none_up_to k c d h)

-- A configuration over 6 has no distances.
pub no_distance : (c d : ℕ) → 6 < c → distance_of c d ≡ 0
unfolding distance_of
no_distance c d h = none_up_to 13 c d h

-- Only an uplink subframe has distance 0.
abbrev answers : ℕ → ℕ → Bool
answers c d = cond (downlink c d) (leb 1 (distance_of c d)) (eqb (distance_of c d) 0)

answers_tested : T (below 7 (λ c. below 10 (answers c)))
unfolding table window_of layouts letter_of downlink distance_up_to distance_of
answers_tested = tt

answers_at : (c d : ℕ) → d ≤ 9 → T (answers c d)
unfolding downlink
answers_at c d h =
    elim (dec_lt c 7) [
      | yes inside ↦ below_at 10 (answers c) (below_at 7 (λ c. below 10 (answers c)) answers_tested c inside) d (omega arith)
      | no over ↦ rw (no_letter c d (omega arith), no_distance c d (omega arith)) tt
    ]

pub uplink_distance : (c d : ℕ) → d ≤ 9 → distance_of c d ≡ 0 → downlink c d ≡ false
uplink_distance c d h none = go (downlink c d) refl (answers_at c d h)
  where
    go : (b : Bool) → downlink c d ≡ b → T (cond b (leb 1 (distance_of c d)) (eqb (distance_of c d) 0)) → b ≡ false
    go true e t = absurd (omega (arith, leb→le 1 (distance_of c d) t))
    go false e t = refl
