-- The windows of Table 10.1-1, for any numbers c (configuration), n (subframe) and m (position): how many k they have and which,
-- the positions, the subframes that have windows and those that are in them; and that each downlink subframe is in exactly one.
-- What the table's rows decide is tested at every row and position by antt, in the declarations named `..-tested`.
-- Assumes nothing.
use Prim.Native.Nat.{ℕ, zero, suc, ◌+◌, ◌-◌, ◌*◌, ◌<◌, ◌≤◌, ◌%◌, suc-le-suc}
use mathlib.Core.Bool.{Bool, true, false, cond, not, ◌&&◌, ◌||◌, false≢true}
use mathlib.Core.List.{List, [], ◌∷◌}
use mathlib.Core.Path.{◌≡◌, refl, sym, ap, ◌∙◌, subst₂}
use native.Mathlib.Decide.{dec_lt}
use native.Mathlib.Nat.{zero-lt-suc}
use native.Mathlib.Omega.{arith}
use lib.Dec.{T, leb→le, eqb, leb, lit≤, eqb→eq}
use lib.Ieee.Bits.{is_true, is_false}
use lib.Ieee.Fits.{and_l, and_r}
use lib.ListN.{length, get_or, get_or-eq_default}
use borrow.Author.Tests.{eqb-true, eqb-false, leb-true}
use Rattle.frame.specs.declared.Settings.{Settings}
use Rattle.frame.specs.Distance.{distance_up_to, distance_of, subframe_of}
use Rattle.frame.specs.Layout.{layouts, letter_of, downlink}
use Rattle.frame.specs.Once.{InWindow, InExactlyOne}
use Rattle.frame.specs.Order.{member, position_of}
use Rattle.frame.specs.Settings.{bundles}
use Rattle.frame.specs.Table.{Printed, table, find_in, window_of}
use Rattle.frame.proofs.Accepted.{Accepted}
use Rattle.frame.proofs.Below.{below, below_at}

-- the test, of configuration, n and K, passes at every row
abbrev pub every_row : (ℕ → ℕ → List ℕ → Bool) → List Printed → Bool
every_row f [] = true
every_row f (r ∷ rs) = f r.config r.n r.k && every_row f rs

-- the test, of configuration, n, K and a position of K, passes at every position of every row
abbrev pub every_position : (ℕ → ℕ → List ℕ → ℕ → Bool) → List Printed → Bool
every_position f = every_row (λ (c n : ℕ) (ks : List ℕ). below (length ks) (f c n ks))

-- What passes at every row, and at the empty K, passes at the K that `find_in` finds in the rows.
found_passes : (f : ℕ → ℕ → List ℕ → Bool) (rs : List Printed) → T (every_row f rs) → (c n : ℕ) → T (f c n [])
    → T (f c n (find_in rs c n))
found_passes f [] t c n e = e
found_passes f (r ∷ rs) t c n e =
    go (eqb r.config c) (eqb r.n n) refl refl
    (found_passes f rs (and_r (f r.config r.n r.k) (every_row f rs) t) c n e)
  where
    go : (a b : Bool) → eqb r.config c ≡ a → eqb r.n n ≡ b → T (f c n (find_in rs c n))
        → T (f c n (cond (a && b) r.k (find_in rs c n)))
    go true true p q rest =
        subst₂ (λ (c n : ℕ). T (f c n r.k)) (eqb-true r.config c p) (eqb-true r.n n q)
        (and_l (f r.config r.n r.k) (every_row f rs) t)
    go true false p q rest = rest
    go false b p q rest = rest

-- What passes at every row, and at the empty K, passes at every window.
pub window_passes : (f : ℕ → ℕ → List ℕ → Bool) → T (every_row f table) → (c n : ℕ) → T (f c n []) → T (f c n (window_of c n))
unfolding window_of
window_passes f t c n e = found_passes f table t c n e

-- What passes at every position of every row passes at every position of every window.
pub position_passes : (f : ℕ → ℕ → List ℕ → ℕ → Bool) → T (every_position f table) → (c n m : ℕ) → m < length (window_of c n)
    → T (f c n (window_of c n) m)
position_passes f t c n m h =
    below_at (length (window_of c n)) (f c n (window_of c n)) (window_passes _ t c n tt) m h

size_tested : T (every_row (λ c n ks. leb (length ks) 9) table)
unfolding table
size_tested = tt

-- A window has at most nine positions.
pub window_size : (c n : ℕ) → length (window_of c n) ≤ 9
window_size c n = lit≤ (window_passes _ size_tested c n tt)

range_tested : T (every_position (λ c n ks m. leb c 6 && leb n 9) table)
unfolding table
range_tested = tt

-- Only configurations 0 to 6 and subframes 0 to 9 have windows.
pub window_range : (c n : ℕ) → 0 < length (window_of c n) → (c ≤ 6) × (n ≤ 9)
window_range c n h =
    let t = position_passes _ range_tested c n 0 h in
    (lit≤ (and_l (leb c 6) (leb n 9) t), lit≤ (and_r (leb c 6) (leb n 9) t))

empty : (ks : List ℕ) → (0 < length ks → ⊥) → ks ≡ []
empty [] h = refl
empty (k ∷ ks) h = absurd (h (zero-lt-suc (length ks)))

pub outside_configurations : (c n : ℕ) → 6 < c → window_of c n ≡ []
outside_configurations c n h = empty (window_of c n) (λ some. omega (arith, (window_range c n some).0))

pub outside_subframes : (c n : ℕ) → 9 < n → window_of c n ≡ []
outside_subframes c n h = empty (window_of c n) (λ some. omega (arith, (window_range c n some).1))

k_tested : T (every_position (λ c n ks m. leb 4 (get_or ks m 0) && leb (get_or ks m 0) 13) table)
unfolding table
k_tested = tt

-- Every k is from 4 to 13.
pub window_k : (c n m : ℕ) → m < length (window_of c n) → (4 ≤ get_or (window_of c n) m 0) × (get_or (window_of c n) m 0 ≤ 13)
window_k c n m h =
    let k = get_or (window_of c n) m 0 in
    let t = position_passes _ k_tested c n m h in
    (lit≤ (and_l (leb 4 k) (leb k 13) t), lit≤ (and_r (leb 4 k) (leb k 13) t))

position_tested : T (every_position (λ c n ks m. eqb (position_of (get_or ks m 0) ks) m) table)
unfolding table
position_tested = tt

-- The k at position m has position m: no k stands twice in a window.
pub window_position : (c n m : ℕ) → m < length (window_of c n) → position_of (get_or (window_of c n) m 0) (window_of c n) ≡ m
window_position c n m h = eqb→eq _ _ (position_passes _ position_tested c n m h)

-- In any list, a member stands at its position.
member_position : (k : ℕ) (ks : List ℕ) → member k ks ≡ true → (position_of k ks < length ks) × (get_or ks (position_of k ks) 0 ≡ k)
member_position k [] e = absurd (false≢true e)
member_position k (x ∷ xs) e = go (eqb x k) refl e (member_position k xs)
  where
    go : (b : Bool) → eqb x k ≡ b → (b || member k xs) ≡ true
        → (member k xs ≡ true → (position_of k xs < length xs) × (get_or xs (position_of k xs) 0 ≡ k))
        → (cond b zero (suc (position_of k xs)) < suc (length xs))
        × (get_or (x ∷ xs) (cond b zero (suc (position_of k xs))) 0 ≡ k)
    go true same e rest = (zero-lt-suc (length xs), eqb-true x k same)
    go false other e rest = (suc-le-suc (rest e).0, (rest e).1)

-- A k of a window stands at its position.
pub position_window : (c n k : ℕ) → member k (window_of c n) ≡ true
    → (position_of k (window_of c n) < length (window_of c n)) × (get_or (window_of c n) (position_of k (window_of c n)) 0 ≡ k)
position_window c n k e = member_position k (window_of c n) e

uplink_tested : T (every_position (λ c n ks m. not (downlink c n)) table)
unfolding table layouts letter_of downlink
uplink_tested = tt

-- Only uplink subframes have windows.
pub window_uplink : (c n : ℕ) → 0 < length (window_of c n) → downlink c n ≡ false
window_uplink c n h = is_false (downlink c n) (position_passes _ uplink_tested c n 0 h)

downlink_tested : T (every_position (λ c n ks m. downlink c ((n + 20 - get_or ks m 0) % 10)) table)
unfolding table layouts letter_of downlink
downlink_tested = tt

-- Only downlink subframes are in windows. The subframe k before n is n - k, counted round the frame's ten.
pub window_downlink : (c n m : ℕ) → m < length (window_of c n) → downlink c ((n + 20 - get_or (window_of c n) m 0) % 10) ≡ true
window_downlink c n m h = is_true _ (position_passes _ downlink_tested c n m h)

-- Where subframe d of the run is in the window of s, d is k before s, counted round the frame's ten.
k_before : (c s m d : ℕ) → InWindow c s m d → (s % 10 + 20 - get_or (window_of c (s % 10)) m 0) % 10 ≡ d % 10
k_before c s m d w = omega (arith, window_k c (s % 10) m w.position)

-- It is the subframe at its position.
pub position_subframe : (c s m d : ℕ) → InWindow c s m d → subframe_of c (s % 10) m ≡ d % 10
unfolding subframe_of
position_subframe c s m d w = go (get_or (window_of c (s % 10)) m 0) w.distance
  where
    go : (k : ℕ) → d + k ≡ s → (s % 10 + 9 * k) % 10 ≡ d % 10
    go k e = omega arith

-- A subframe of the run that is in a window is downlink.
pub inside_downlink : (c s m d : ℕ) → InWindow c s m d → downlink c (d % 10) ≡ true
inside_downlink c s m d w = rw (k_before c s m d w) at (window_downlink c (s % 10) m w.position)

-- if subframe x is downlink, it is in the window at its distance
abbrev at_distance : ℕ → ℕ → Bool
at_distance c x = not (downlink c x) || member (distance_of c x) (window_of c ((x + distance_of c x) % 10))

inside_tested : T (below 7 (λ c. below 10 (at_distance c)))
unfolding table window_of layouts letter_of downlink distance_up_to distance_of
inside_tested = tt

only_tested : T (every_position (λ c n ks m. eqb (get_or ks m 0) (distance_of c ((n + 20 - get_or ks m 0) % 10))) table)
unfolding table window_of distance_up_to distance_of
only_tested = tt

-- Only configurations 0 to 6 have downlink subframes.
downlink_range : (c x : ℕ) → downlink c x ≡ true → c < 7
unfolding layouts letter_of downlink
downlink_range c x e = go (dec_lt c 7)
  where
    go : Dec (c < 7) → c < 7
    go (yes h) = h
    go (no h) = absurd (false≢true (rw (get_or-eq_default layouts [] {n = c} (omega arith)) at e))

-- A downlink subframe of the run is in the window at its distance.
pub distance_inside : (c d : ℕ) → downlink c (d % 10) ≡ true
    → member (distance_of c (d % 10)) (window_of c ((d + distance_of c (d % 10)) % 10)) ≡ true
distance_inside c d e =
    let k = distance_of c (d % 10) in
    let all = below_at 7 (λ c. below 10 (at_distance c)) inside_tested c (downlink_range c (d % 10) e) in
    let t = below_at 10 (at_distance c) all (d % 10) (omega arith) in
    let same : (d % 10 + k) % 10 ≡ (d + k) % 10 = omega arith in
    is_true _ (rw (e, same) at t)

-- A subframe of the run is in no window but the one at its distance.
pub distance_only : (c s m d : ℕ) → InWindow c s m d → get_or (window_of c (s % 10)) m 0 ≡ distance_of c (d % 10)
distance_only c s m d w =
    rw (← k_before c s m d w) (eqb→eq _ _ (position_passes _ only_tested c (s % 10) m w.position))

-- Each downlink subframe of the run is in exactly one window, at exactly one position.
pub exactly_one_holds : (c d : ℕ) → downlink c (d % 10) ≡ true → InExactlyOne c d
exactly_one_holds c d e =
    let k = distance_of c (d % 10) in
    let found = position_window c ((d + k) % 10) k (distance_inside c d e) in
    record {
      uplink = d + k;
      position = position_of k (window_of c ((d + k) % 10));
      inside = record { position = found.0; distance = ap (λ (x : ℕ). d + x) found.1 };
      only = λ s m w.
          let same : s ≡ d + k = sym w.distance ∙ ap (λ (x : ℕ). d + x) (distance_only c s m d w) in
          (same, sym (window_position c (s % 10) m w.position) ∙ rw (distance_only c s m d w, same));
    }

zero_tested : T (every_row (λ (c n : ℕ) (ks : List ℕ). leb (length ks) 1 || not (eqb c 0)) table)
unfolding table
zero_tested = tt

-- Configuration 0 has windows of one subframe.
pub zero_windows : (n : ℕ) → length (window_of 0 n) ≤ 1
zero_windows n = leb→le _ 1 (only (leb (length (window_of 0 n)) 1) (window_passes _ zero_tested 0 n tt))
  where
    only : (b : Bool) → T (b || false) → T b
    only true t = tt
    only false t = t

four_tested : T (every_row (λ (c n : ℕ) (ks : List ℕ). leb (length ks) 4 || eqb c 5) table)
unfolding table
four_tested = tt

-- Only configuration 5 has a window of more than four subframes.
pub small_windows : (c n : ℕ) → (c ≡ 5 → ⊥) → length (window_of c n) ≤ 4
small_windows c n h = go (leb (length (window_of c n)) 4) refl (eqb c 5) refl (window_passes _ four_tested c n tt)
  where
    go : (a : Bool) → leb (length (window_of c n)) 4 ≡ a → (b : Bool) → eqb c 5 ≡ b → T (a || b) → length (window_of c n) ≤ 4
    go true e b f t = leb-true (length (window_of c n)) 4 e
    go false e true f t = absurd (h (eqb-true c 5 f))
    go false e false f t = absurd t

-- A multiplexed window has 2 to 4 positions.
module _ (s : Settings) (n : ℕ) (ok : Accepted s) (some : 0 < length (window_of s.config n)) where
  pub multiplexed_size : bundles s (length (window_of s.config n)) ≡ false
      → (2 ≤ length (window_of s.config n)) × (length (window_of s.config n) ≤ 4)
  unfolding bundles
  multiplexed_size e = go (eqb s.mode 0) refl (eqb (length (window_of s.config n)) 1) refl e
    where
      go : (a : Bool) → eqb s.mode 0 ≡ a → (b : Bool) → eqb (length (window_of s.config n)) 1 ≡ b → (a || b) ≡ false
          → (2 ≤ length (window_of s.config n)) × (length (window_of s.config n) ≤ 4)
      go true a b b' e = absurd (false≢true (sym e))
      go false a true b e = absurd (false≢true (sym e))
      go false a false b e =
          let mode = eqb-false s.mode 0 a in
          let many = eqb-false (length (window_of s.config n)) 1 b in
          (omega arith, small_windows s.config n (λ five. ok.no_five (omega (arith, ok.mode)) five))
