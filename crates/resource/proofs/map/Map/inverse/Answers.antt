-- `Map::inverse` meets its contract: 13, or the pair whose resource it is. Assumes nothing.
use native.Mathlib.Omega.{arith}
use Rattle.resource.proofs.Refused.{low_refused, high_refused, pair_given}
use Rattle.resource.proofs.Room.{inverse_computed}
use Rattle.resource.proofs.map.Map.inverse.Goals as goal

pub returns-then-r-self : goal.returns-then-r-self
returns-then-r-self c = low_refused _ _ _ _ c.if-r-self.true

pub returns-in_default : goal.returns-in_default
returns-in_default c = high_refused _ _ _ _ (omega arith) (c.region_of.ensures.above c.in_default.is)

pub overflow_sub-width : goal.overflow_sub-width
overflow_sub-width c = let all = inverse_computed _ _ _ c.args.self.bounds _ _ _ c.region_of.ensures c.in-Some.is in omega (arith, all.width)

pub overflow_mul-x : goal.overflow_mul-x
overflow_mul-x c = let all = inverse_computed _ _ _ c.args.self.bounds _ _ _ c.region_of.ensures c.in-Some.is in omega (arith, all.rows)

pub overflow_sub-x : goal.overflow_sub-x
overflow_sub-x c = let all = inverse_computed _ _ _ c.args.self.bounds _ _ _ c.region_of.ensures c.in-Some.is in all.rows

pub nonzero_div-result : goal.nonzero_div-result
nonzero_div-result c = let all = inverse_computed _ _ _ c.args.self.bounds _ _ _ c.region_of.ensures c.in-Some.is in omega (arith, all.width)

pub nonzero_rem-result : goal.nonzero_rem-result
nonzero_rem-result c = let all = inverse_computed _ _ _ c.args.self.bounds _ _ _ c.region_of.ensures c.in-Some.is in omega (arith, all.width)

pub overflow_add-result : goal.overflow_add-result
overflow_add-result c = let all = inverse_computed _ _ _ c.args.self.bounds _ _ _ c.region_of.ensures c.in-Some.is in omega (arith, all.most)

pub returns : goal.returns
returns c =
    let all = inverse_computed _ _ _ c.args.self.bounds _ _ _ c.region_of.ensures c.in-Some.is in
    let held = c.region_of.ensures.held _ c.in-Some.is in
    pair_given _ _ _ _ _ _ (omega arith) held.below all.position all.cce
