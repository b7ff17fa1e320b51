-- `station::dynamic_place` meets its contract: the place that the inverse gives. Assumes nothing.
use mathlib.Core.Path.{sym}
use Rattle.frame.proofs.Refused.{passed_on}
use Rattle.station.proofs.Placed.{dynamic_refused, dynamic_placed, inverse_of_map}
use Rattle.station.proofs.dynamic_place.Goals as goal

pub returns-in_err-m : goal.returns-in_err-m
returns-in_err-m c =
    let w = c.args.window in
    passed_on _ c.in_err-m.field-0.0 _ c.from_residual.ensures.1
    (dynamic_refused _ _ _ _ w.accepted w.positions _ (inverse_of_map _ _ c.of.ensures.0 c.of.ensures.1 c.of.ensures.2 c.inverse.ensures) _ c.in_err-m.was)

pub returns : goal.returns
returns c =
    let w = c.args.window in
    sym (dynamic_placed _ _ _ _ w.accepted w.positions _ (inverse_of_map _ _ c.of.ensures.0 c.of.ensures.1 c.of.ensures.2 c.inverse.ensures) _ _ c.in_ok-m.was)
