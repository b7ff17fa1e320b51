-- Laws of the frame layouts: seven of ten letters, and nothing carries a grant outside them.
-- Assumes nothing.
use Prim.Native.Nat.{ℕ, ◌<◌, ◌≤◌}
use mathlib.Core.Bool.{true, false, not, false≢true}
use mathlib.Core.List.{[]}
use mathlib.Core.Path.{◌≡◌, refl}
use native.Mathlib.Decide.{dec_lt}
use native.Mathlib.Omega.{arith}
use lib.Dec.{T, eqb, eqb→eq}
use lib.ListN.{get_or, length, get_or-eq_default}
use Rattle.frame.specs.Coded.{letter_byte}
use Rattle.frame.specs.Layout.{Letter, D, S, U, layouts, letter_of, carries, downlink, is_s, is_special}
use Rattle.frame.proofs.Below.{below, below_at}

seven : length layouts ≡ 7
unfolding layouts
seven = refl

ten_tested : T (below 7 (λ (c : ℕ). eqb (length (get_or layouts c [])) 10))
unfolding layouts
ten_tested = tt

-- Every configuration has ten letters.
ten : (c : ℕ) → c < 7 → length (get_or layouts c []) ≡ 10
ten c h = eqb→eq _ 10 (below_at 7 (λ (c : ℕ). eqb (length (get_or layouts c [])) 10) ten_tested c h)

-- A configuration over 6 has none.
pub no_layout : (c : ℕ) → 6 < c → get_or layouts c [] ≡ []
no_layout c h = get_or-eq_default layouts [] (rw seven h)

at_most_ten : (c : ℕ) → length (get_or layouts c []) ≤ 10
at_most_ten c = elim (dec_lt c 7) [ yes h ↦ omega (arith, ten c h) | no h ↦ rw (no_layout c (omega arith)) (omega arith) ]

-- No subframe over 9 has a letter but U: none is downlink, and none special.
pub outside_letters : (c n : ℕ) → 9 < n → letter_of c n ≡ U
unfolding letter_of
outside_letters c n h = get_or-eq_default (get_or layouts c []) U {n = n} (omega (arith, at_most_ten c))

-- None of a configuration over 6 has.
pub no_letter : (c n : ℕ) → 6 < c → letter_of c n ≡ U
unfolding letter_of
no_letter c n h = rw (no_layout c h)

pub outside_frame : (c n : ℕ) → 9 < n → false ≡ downlink c n
unfolding downlink
outside_frame c n h = rw (outside_letters c n h)

-- Only U is not downlink, and only S is special.
pub downlink_byte : (c n : ℕ) → not (eqb (letter_byte (letter_of c n)) 85) ≡ downlink c n
unfolding downlink
downlink_byte c n = told (letter_of c n)
  where
    told : (l : Letter) → not (eqb (letter_byte l) 85) ≡ carries l
    told D = refl
    told S = refl
    told U = refl

pub special_byte : (c n : ℕ) → eqb (letter_byte (letter_of c n)) 83 ≡ is_special c n
unfolding is_special
special_byte c n = told (letter_of c n)
  where
    told : (l : Letter) → eqb (letter_byte l) 83 ≡ is_s l
    told D = refl
    told S = refl
    told U = refl

-- A special subframe is downlink: PDCCHs are sent there as in a D.
pub special_downlink : (c n : ℕ) → is_special c n ≡ true → downlink c n ≡ true
unfolding is_special downlink
special_downlink c n e = go (letter_of c n) e
  where
    go : (l : Letter) → is_s l ≡ true → carries l ≡ true
    go D e = refl
    go S e = refl
    go U e = absurd (false≢true e)
