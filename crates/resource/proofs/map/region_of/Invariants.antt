-- `resource::region_of` meets its contract. The loop's invariant: `high` is N_p, and t / size is not below it.
-- The measure is the regions left. Assumes nothing.
use Prim.Native.Nat.{◌*◌, ◌-◌, ◌≤◌}
use mathlib.Core.Path.{◌≡◌}
use Rattle.resource.specs.Formula.{edge}
use Rattle.resource.proofs.map.region_of.Given as goal

abbrev pub invariant-loop-p : goal.invariant-loop-p
invariant-loop-p l = (l.p ≤ 4) × (l.high ≡ edge l.nrb l.p) × (l.size * l.high ≤ l.t)

abbrev pub decreases-loop-p : goal.decreases-loop-p
decreases-loop-p l = 4 - l.p
