-- Which subframes share a window: the distance says so, exactly, and they stand near each other.
-- Assumes nothing.
use Prim.Native.Nat.{ℕ, zero, suc, ◌+◌, ◌-◌, ◌*◌, ◌<◌, ◌≤◌, ◌%◌}
use mathlib.Core.Bool.{Bool, true, false, cond}
use mathlib.Core.Path.{◌≡◌, refl, sym, ap, ◌∙◌}
use native.Mathlib.Omega.{arith}
use borrow.Author.Tests.{eqb-true, eq-eqb, ne_eqb}
use Rattle.frame.specs.Distance.{distance_up_to, distance_of, before, shares, SharesExactly}
use Rattle.frame.specs.Layout.{downlink}
use Rattle.frame.specs.Once.{InWindow}
use Rattle.frame.specs.Order.{member, position_of}
use Rattle.frame.specs.Table.{window_of}
use Rattle.frame.proofs.Answers.{downlink_frame}
use Rattle.frame.proofs.Distances.{distance_most, distance_frame}
use Rattle.frame.proofs.Windows.{window_k, position_window, distance_inside, distance_only}

-- A distance that is not 0 is that of a window with d in it.
found_up_to : (k c d : ℕ) → 0 < distance_up_to k c d
    → member (distance_up_to k c d) (window_of c ((d + distance_up_to k c d) % 10)) ≡ true
unfolding distance_up_to
found_up_to zero c d h = absurd (omega arith)
found_up_to (suc k) c d h = go (member (suc k) (window_of c ((d + suc k) % 10))) refl h (found_up_to k c d)
  where
    go : (b : Bool) → member (suc k) (window_of c ((d + suc k) % 10)) ≡ b → 0 < cond b (suc k) (distance_up_to k c d)
        → (0 < distance_up_to k c d → member (distance_up_to k c d) (window_of c ((d + distance_up_to k c d) % 10)) ≡ true)
        → member (cond b (suc k) (distance_up_to k c d)) (window_of c ((d + cond b (suc k) (distance_up_to k c d)) % 10)) ≡ true
    go true e h rest = e
    go false e h rest = rest h

distance_found : (c d : ℕ) → 0 < distance_of c d → member (distance_of c d) (window_of c ((d + distance_of c d) % 10)) ≡ true
unfolding distance_of
distance_found c d h = found_up_to 13 c d h

-- A subframe of the run that has a distance is in the window that stands so far after it.
in_its_window : (c d : ℕ) → 0 < distance_of c d
    → InWindow c (d + distance_of c d) (position_of (distance_of c d) (window_of c ((d + distance_of c d) % 10))) d
in_its_window c d h =
    let found = position_window c ((d + distance_of c d) % 10) (distance_of c d) (distance_found c d h) in
    record { position = found.0; distance = ap (λ (x : ℕ). d + x) found.1 }

-- The distance of a downlink subframe of the run is from 4 on.
distance_least : (c d : ℕ) → downlink c (d % 10) ≡ true → 4 ≤ distance_of c d
distance_least c d e =
    let k : ℕ = distance_of c (d % 10) in
    let found = position_window c ((d + k) % 10) k (distance_inside c d e) in
    omega (arith, window_k c ((d + k) % 10) _ found.0, found.1, distance_frame c d)

shares_by : (c n a : ℕ) → shares c n a ≡ true → distance_of c n + a ≡ distance_of c (before n a)
unfolding shares
shares_by c n a e = eqb-true (distance_of c n + a) (distance_of c (before n a)) e

-- Two subframes of a window stand at most 13 apart, and at most 9 where the later one is downlink.
pub shares_most : (c n a : ℕ) → shares c n a ≡ true → a ≤ 13
shares_most c n a e = omega (arith, shares_by c n a e, distance_most c (before n a))

pub shares_near : (c n a : ℕ) → downlink c n ≡ true → shares c n a ≡ true → a ≤ 9
shares_near c n a down e =
    let within : n % 10 ≡ n = omega (arith, downlink_frame c n down) in
    omega (arith, shares_by c n a e, distance_most c (before n a), distance_least c n (rw within down))

-- Too far apart to share a window.
pub shares_far : (c n a : ℕ) → 13 < a → false ≡ shares c n a
unfolding shares
shares_far c n a h =
    sym (ne_eqb (distance_of c n + a) (distance_of c (before n a)) (λ e. omega (arith, distance_most c (before n a))))

-- Subframe d - a of the run is a before d % 10, counted round the frame's ten.
before_run : (c d a : ℕ) → a ≤ d → distance_of c (before (d % 10) a) ≡ distance_of c (d - a)
before_run c d a h =
    let same : (d % 10 + 9 * a) % 10 ≡ (d - a) % 10 = omega arith in
    ap (distance_of c) same ∙ distance_frame c (d - a)

-- The test is that one uplink subframe has both in its window.
pub shares_exactly : (c d a : ℕ) → SharesExactly c d a
unfolding shares
shares_exactly c d a down h = (to, from)
  where
    to : shares c (d % 10) a ≡ true → (s i j : ℕ) × InWindow c s i d × InWindow c s j (d - a)
    to e =
        let apart : distance_of c d + a ≡ distance_of c (d - a)
        = sym (ap (λ (x : ℕ). x + a) (distance_frame c d)) ∙ shares_by c (d % 10) a e ∙ before_run c d a h in
        let least = distance_least c d down in
        let same : (d - a) + distance_of c (d - a) ≡ d + distance_of c d = omega arith in
        let later = in_its_window c d (omega arith) in
        let earlier = in_its_window c (d - a) (omega arith) in
        (d + distance_of c d, _, _, later, rw same at earlier)

    from : ((s i j : ℕ) × InWindow c s i d × InWindow c s j (d - a)) → shares c (d % 10) a ≡ true
    from (s, i, j, later, earlier) =
        eq-eqb (distance_of c (d % 10) + a) (distance_of c (before (d % 10) a))
        (omega (
          arith,
          later.distance,
          earlier.distance,
          distance_only c s i d later,
          distance_only c s j (d - a) earlier,
          before_run c d a h,
          distance_frame c (d - a),
        ))
