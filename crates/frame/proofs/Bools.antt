-- Laws of truth values: of what a test chooses, and of a test as a number, 1 for true and 0 for false.
-- Assumes nothing.
use Prim.Native.Nat.{◌≤◌}
use mathlib.Core.Bool.{Bool, true, false, cond}
use mathlib.Core.Path.{◌≡◌, refl}
use native.Mathlib.Omega.{arith}
use mir.Val.{bool_byte}

-- What holds of two values holds of the one that a test chooses.
pub either : {A : Type 0} (P : A → Type 0) (b : Bool) (x y : A) → P x → P y → P (cond b x y)
either P true x y px py = px
either P false x y px py = py

-- A test as the code casts it.
pub cast_bit : (b : Bool) → bool_byte b ≡ cond b 1 0
cast_bit true = refl
cast_bit false = refl

pub bit_small : (b : Bool) → cond b 1 0 ≤ 1
bit_small true = omega arith
bit_small false = omega arith
