-- A digit that is looked up is what the rows say, in a frame and outside it: a number of ten digits has 0 after them.
-- Assumes nothing.
use Prim.Native.Nat.{ℕ, zero, suc, ◌*◌, ◌^◌, ◌+◌, ◌%◌, ◌<◌, ◌≤◌, zero-le}
use mathlib.Core.Bool.{Bool, true, false, cond, not, ◌&&◌, ◌||◌}
use mathlib.Core.List.{List, [], ◌∷◌}
use mathlib.Core.Path.{◌≡◌, refl, ap, ◌∙◌}
use native.Mathlib.Decide.{dec_lt}
use native.Mathlib.Nat.{zero-div, zero-mod}
use native.Mathlib.Omega.{arith}
use lib.Dec.{T, eqb}
use lib.ListN.{length, get_or, get_or-eq_default}
use borrow.Author.Tests.{ne_eqb}
use Rattle.frame.specs.Coded.{digits, digit_at, size_digits, earliest_digits, distance_digits, special_from, special_place, special_digits, row_in}
use Rattle.frame.specs.Distance.{before, distance_of, subframe_of}
use Rattle.frame.specs.Earliest.{earliest_k}
use Rattle.frame.specs.Layout.{layouts, letter_of, is_special}
use Rattle.frame.specs.Special.{no_pdsch}
use Rattle.frame.specs.Table.{table, window_of}
use Rattle.frame.proofs.Distances.{distance_frame, distance_most}
use Rattle.frame.proofs.Earliest.{earliest_most, none_outside}
use Rattle.frame.proofs.Hex.{digit_at_holds, no_digit}
use Rattle.frame.proofs.Windows.{every_position, position_passes, window_size, outside_configurations, outside_subframes}

looked_up : (f : ℕ → ℕ) → ((n : ℕ) → f n < 16) → ((n : ℕ) → 9 < n → 0 ≡ f n) → (n : ℕ) → digit_at (digits 10 f) n ≡ f n
looked_up f small outside n =
    elim (dec_lt n 10) [ yes h ↦ digit_at_holds 10 f small n h | no h ↦ no_digit 10 f small n (omega arith) ∙ outside n (omega arith) ]

pub size_at : (c n w : ℕ) → w ≡ size_digits c → digit_at w n ≡ length (window_of c n)
unfolding size_digits
size_at c n w row =
    rw row
    (looked_up (λ (n : ℕ). length (window_of c n)) (λ n. omega (arith, window_size c n)) (λ n h. rw (outside_subframes c n h)) n)

pub earliest_at : (c n w : ℕ) → w ≡ earliest_digits c → digit_at w n ≡ earliest_k c n
unfolding earliest_digits
earliest_at c n w row = rw row (looked_up (earliest_k c) (λ n. omega (arith, earliest_most c n)) (none_outside c) n)

special_from_most : (c n i : ℕ) (ks : List ℕ) → special_from c n i ks ≤ i + length ks
special_from_most c n i [] = zero-le
special_from_most c n i (k ∷ ks) = go (is_special c (before n k)) (special_from_most c n (suc i) ks)
  where
    go : (b : Bool) → special_from c n (suc i) ks ≤ suc i + length ks → cond b i (special_from c n (suc i) ks) ≤ i + suc (length ks)
    go true h = omega arith
    go false h = omega (arith, h)

special_most : (c n : ℕ) → special_place c n ≤ 10
unfolding special_place
special_most c n = omega (arith, special_from_most c n 1 (window_of c n), window_size c n)

none_beyond : (c n : ℕ) → 9 < n → 0 ≡ special_place c n
unfolding special_place
none_beyond c n h = rw (outside_subframes c n h)

-- Windows outside configurations 0 to 6 have no special subframe.
pub no_special : (c n : ℕ) → 6 < c → special_place c n ≡ 0
unfolding special_place
no_special c n h = rw (outside_configurations c n h)

pub special_at : (c n w : ℕ) → w ≡ special_digits c → digit_at w n ≡ special_place c n
unfolding special_digits
special_at c n w row = rw row (looked_up (special_place c) (λ n. omega (arith, special_most c n)) (none_beyond c) n)

special_tested : T (every_position (λ c n ks m. cond (is_special c (before n (get_or ks m 0))) (eqb (special_from c n 1 ks) (m + 1)) (not (eqb (special_from c n 1 ks) (m + 1)))) table)
unfolding table layouts letter_of is_special
special_tested = tt

same_test : (a b : Bool) → T (cond b a (not a)) → a ≡ b
same_test true true t = refl
same_test false false t = refl
same_test true false t = absurd t
same_test false true t = absurd t

-- A position of the window is special exactly where the lookup says so; any other reads as n itself.
pub special_inside : (c n m w : ℕ) → w ≡ special_place c n → m < length (window_of c n) → eqb w (m + 1) ≡ is_special c (subframe_of c n m)
unfolding special_place subframe_of
special_inside c n m w read h = rw read (same_test _ _ (position_passes _ special_tested c n m h))

pub special_beyond : (c n m : ℕ) → length (window_of c n) ≤ m → is_special c (n % 10) ≡ is_special c (subframe_of c n m)
unfolding subframe_of
special_beyond c n m h = ap (is_special c) (rw (get_or-eq_default (window_of c n) 0 {n = m} h) (omega arith))

pub distance_at : (c d w : ℕ) → w ≡ distance_digits c → digit_at w (d % 10) ≡ distance_of c d
unfolding distance_digits
distance_at c d w row =
    rw row (digit_at_holds 10 (distance_of c) (λ d. omega (arith, distance_most c d)) (d % 10) (omega arith)) ∙ distance_frame c d

-- 1 where the special configuration allows no PDSCH with the prefix
abbrev shown : ℕ → ℕ → ℕ
shown p s = cond (no_pdsch p s) 1 0

shown_small : (p s : ℕ) → shown p s < 16
shown_small p s = go (no_pdsch p s)
  where
    go : (b : Bool) → cond b 1 0 < 16
    go true = omega arith
    go false = omega arith

none_shown : (p s : ℕ) → 9 < s → 0 ≡ shown p s
unfolding no_pdsch
none_shown p s h =
    rw (ne_eqb s 0 (λ e. omega arith), ne_eqb s 5 (λ e. omega arith), ne_eqb s 4 (λ e. omega arith)) (go (eqb p 0) (eqb p 1))
  where
    go : (a b : Bool) → ◌≡◌ {A = ℕ} 0 (cond ((a && (false || false)) || (b && (false || false))) 1 0)
    go true true = refl
    go true false = refl
    go false true = refl
    go false false = refl

shown_at : (p s : ℕ) → eqb (digit_at (digits 10 (shown p)) s) 1 ≡ no_pdsch p s
shown_at p s = rw (looked_up (shown p) (shown_small p) (none_shown p) s) (go (no_pdsch p s))
  where
    go : (b : Bool) → eqb (cond b 1 0) 1 ≡ b
    go true = refl
    go false = refl

-- A special configuration without PDSCH is looked up by its prefix; no other prefix has one.
pub no_pdsch_at : (p s w : ℕ) → w ≡ row_in (1048577 ∷ 65537 ∷ []) p → eqb (digit_at w s) 1 ≡ no_pdsch p s
unfolding row_in no_pdsch
no_pdsch_at zero s w read =
    let row : 1048577 ≡ digits 10 (shown 0) = refl in
    rw (read, row) (shown_at 0 s)
no_pdsch_at (suc zero) s w read =
    let row : 65537 ≡ digits 10 (shown 1) = refl in
    rw (read, row) (shown_at 1 s)
no_pdsch_at (suc (suc p)) s w read =
    rw (read, zero-div (2 ^ (4 * s)), zero-mod 16, ne_eqb (suc (suc p)) 0 (λ e. omega arith), ne_eqb (suc (suc p)) 1 (λ e. omega arith))
    refl
