-- `Map::resource` meets its contract: 11, or the formula's number, which fits. Assumes nothing.
use native.Mathlib.Omega.{arith}
use Rattle.resource.proofs.Refused.{cce_refused, resource_given}
use Rattle.resource.proofs.Room.{resource_computed}
use Rattle.resource.proofs.map.Map.resource.Goals as goal

pub returns-in_default : goal.returns-in_default
returns-in_default c = cce_refused _ _ _ _ _ (omega arith) (omega (arith, c.region_of.ensures.above c.in_default.is))

pub overflow_mul-result : goal.overflow_mul-result
overflow_mul-result c = let all = resource_computed _ _ _ c.args.self.bounds _ c.args.m c.args.cce.0 _ c.region_of.ensures c.in-Some.is (omega arith) in omega (arith, all.most)

pub overflow_mul-result-2 : goal.overflow_mul-result-2
overflow_mul-result-2 c = let all = resource_computed _ _ _ c.args.self.bounds _ c.args.m c.args.cce.0 _ c.region_of.ensures c.in-Some.is (omega arith) in omega (arith, all.most)

pub overflow_add-result : goal.overflow_add-result
overflow_add-result c = let all = resource_computed _ _ _ c.args.self.bounds _ c.args.m c.args.cce.0 _ c.region_of.ensures c.in-Some.is (omega arith) in omega (arith, all.most)

pub overflow_add-result-2 : goal.overflow_add-result-2
overflow_add-result-2 c = let all = resource_computed _ _ _ c.args.self.bounds _ c.args.m c.args.cce.0 _ c.region_of.ensures c.in-Some.is (omega arith) in omega (arith, all.most)

pub overflow_add-result-3 : goal.overflow_add-result-3
overflow_add-result-3 c = let all = resource_computed _ _ _ c.args.self.bounds _ c.args.m c.args.cce.0 _ c.region_of.ensures c.in-Some.is (omega arith) in omega (arith, all.most)

pub returns : goal.returns
returns c =
    let all = resource_computed _ _ _ c.args.self.bounds _ c.args.m c.args.cce.0 _ c.region_of.ensures c.in-Some.is (omega arith) in
    let held = c.region_of.ensures.held _ c.in-Some.is in
    resource_given _ _ _ _ _ _ (omega arith) (omega (arith, held.below)) all.number
