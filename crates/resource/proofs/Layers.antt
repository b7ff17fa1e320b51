-- The arithmetic of one region. With lo = N_p, hi = N_(p+1) and w = hi − lo, the formula without N1 is
-- t = M × lo + (m × w + (c − lo)): position and CCE are the two digits, by w, of what t has above M × lo, and t / M lies in the region.
-- Assumes nothing.
use Prim.Native.Nat.{ℕ, ◌+◌, ◌-◌, ◌*◌, ◌/◌, ◌%◌, ◌<◌, ◌≤◌}
use mathlib.Core.Path.{◌≡◌, ap, ◌∙◌}
use native.Mathlib.Nat.{add-mul, mul-add, mul_comm, le-div_iff_mul-le, div-lt_iff_lt-mul, div-add-mod', mod-lt}
use native.Mathlib.Omega.{arith}
use lib.Arith.{digits_lt, digits_div, digits_mod}

-- 01's formula without N1
abbrev pub formula : ℕ → ℕ → ℕ → ℕ → ℕ → ℕ
formula size lo hi m c = (size - m - 1) * lo + m * hi + c

-- The formula in rows of w.
pub in_rows : (size lo hi m c : ℕ) → m < size → lo ≤ c → lo ≤ hi → formula size lo hi m c ≡ size * lo + (m * (hi - lo) + (c - lo))
in_rows size lo hi m c h low rise =
    let k : ℕ = size - m - 1 in
    let a : size ≡ k + m + 1 = omega arith in
    let b : hi ≡ lo + (hi - lo) = omega arith in
    omega
    (arith, ap (λ (x : ℕ). x * lo) a, add-mul (k + m) 1 lo, add-mul k m lo, ap (λ (x : ℕ). m * x) b, mul-add m lo (hi - lo))

-- All rows of a region.
all_rows : (size lo hi : ℕ) → lo ≤ hi → size * hi ≡ size * lo + size * (hi - lo)
all_rows size lo hi rise =
    let b : hi ≡ lo + (hi - lo) = omega arith in
    ap (λ (x : ℕ). size * x) b ∙ mul-add size lo (hi - lo)

-- What the number t of a pair of the region gives back.
pub record There (size lo hi m c t : ℕ) : Type 0 where
  pub below : t < size * hi
  pub quotient_low : lo ≤ t / size
  pub quotient_high : t / size < hi
  pub position : (t - size * lo) / (hi - lo) ≡ m
  pub cce : lo + (t - size * lo) % (hi - lo) ≡ c

pub there : (size lo hi m c : ℕ) → m < size → lo ≤ c → c < hi → There size lo hi m c (formula size lo hi m c)
there size lo hi m c h low high =
    let t : ℕ = formula size lo hi m c in
    let w : ℕ = hi - lo in
    let d : ℕ = c - lo in
    let small : d < w = omega arith in
    let e : t ≡ size * lo + (m * w + d) = in_rows size lo hi m c h low (omega arith) in
    let x : t - size * lo ≡ m * w + d = omega arith in
    let inside : t < size * hi = omega (arith, digits_lt {q = m} {m = size} {r = d} {c = w} h small, all_rows size lo hi (omega arith)) in
    record {
      below = inside;
      quotient_low = (le-div_iff_mul-le {k = size} {x = lo} {y = t} (omega arith)).1 (omega (arith, mul_comm lo size));
      quotient_high = (div-lt_iff_lt-mul {k = size} {x = t} {y = hi} (omega arith)).1 (omega (arith, mul_comm hi size));
      position = ap (λ (y : ℕ). y / w) x ∙ digits_div m small;
      cce = ap (λ (y : ℕ). lo + y % w) x ∙ ap (λ (y : ℕ). lo + y) (digits_mod m small) ∙ (omega arith);
    }

-- What a number t whose quotient by M lies in the region gives: a pair of the region whose number it is.
pub record Back (size lo hi t m c : ℕ) : Type 0 where
  pub rows : size * lo ≤ t
  pub width : lo < hi
  pub position : m < size
  pub cce_low : lo ≤ c
  pub cce_high : c < hi
  pub same : formula size lo hi m c ≡ t

pub back : (size lo hi t : ℕ) → 0 < size → lo ≤ t / size → t / size < hi
    → Back size lo hi t ((t - size * lo) / (hi - lo)) (lo + (t - size * lo) % (hi - lo))
back size lo hi t some low high =
    let w : ℕ = hi - lo in
    let x : ℕ = t - size * lo in
    let wide : 0 < w = omega arith in
    let from : size * lo ≤ t = omega (arith, (le-div_iff_mul-le {k = size} {x = lo} {y = t} some).0 low, mul_comm lo size) in
    let to : t < size * hi = omega (arith, (div-lt_iff_lt-mul {k = size} {x = t} {y = hi} some).0 high, mul_comm hi size) in
    let short : x < size * w = omega (arith, all_rows size lo hi (omega arith)) in
    let row : x / w < size = (div-lt_iff_lt-mul {k = w} {x = x} {y = size} wide).1 short in
    let rest : x % w < w = mod-lt x wide in
    let digits : x / w * w + x % w ≡ x = div-add-mod' x w in
    record {
      rows = from;
      width = omega arith;
      position = row;
      cce_low = omega arith;
      cce_high = omega arith;
      same = in_rows size lo hi (x / w) (lo + x % w) row (omega arith) (omega arith) ∙ omega arith;
    }
