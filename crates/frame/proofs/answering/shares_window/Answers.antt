-- `frame::answering::shares_window` meets its contract. Assumes nothing.
use Prim.Native.Nat.{ℕ, ◌+◌, ◌<◌, ◌≤◌}
use mathlib.Core.Path.{◌≡◌}
use native.Mathlib.Omega.{arith}
use lib.Dec.{eqb}
use Rattle.frame.specs.Distance.{before, distance_of, shares}
use Rattle.frame.proofs.Distances.{distance_most}
use Rattle.frame.proofs.Shares.{shares_far}
use Rattle.frame.proofs.answering.shares_window.Goals as goal

shares-code : (config n a x y d : ℕ) → x ≡ distance_of config n → d ≡ before n a → y ≡ distance_of config d → eqb (x + a) y ≡ shares config n a
unfolding shares
shares-code config n a x y d later at earlier = rw (later, earlier, at)

small : (config n a x : ℕ) → x ≡ distance_of config n → a ≤ 13 → x + a < 65536
small config n a x e h = omega (arith, distance_most config n)

pub returns-then-a-gt13 : goal.returns-then-a-gt13
returns-then-a-gt13 c = shares_far _ _ _ c.if-a-gt13.true

pub overflow_add-result : goal.overflow_add-result
overflow_add-result c = omega (arith, small _ _ _ _ c.distance_of.ensures c.if-a-gt13.false)

pub returns : goal.returns
returns c = shares-code _ _ _ _ _ _ c.distance_of.ensures c.before-2.ensures c.distance_of-2.ensures
