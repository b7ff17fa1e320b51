-- `confirming::SentIn::confirmed_by` meets its contract: the loop goes through the positions one by one. Assumes nothing.
use native.Mathlib.Omega.{arith}
use Rattle.std.proofs.lemmas.Iterator.Consumers.{YieldsList-turn, YieldsList-end}
use Rattle.std.proofs.lemmas.List.{length_push}
use Rattle.confirming.proofs.Confirming.{shift_fits, sum_fits, below_more, below_all}
use Rattle.confirming.proofs.Pairs.{YieldsPlaced, placed_turn, placed_end}
use Rattle.confirming.proofs.SentIn.confirmed_by.Goals as goal

pub overflow_cast-first : goal.overflow_cast-first
overflow_cast-first c =
    let w = c.args.self in
    let turn = placed_turn w _ _ (YieldsList-turn (YieldsPlaced w {s = c.into_iter-m-iterator.result} (cc) (cc) (cc)) c.loop-m.yielded c.loop-m.m-iterator c.loop-m.yielded_by _ c.next.new.self _ c.in-Some.is c.next.ensures.steps) in
    omega (arith, shift_fits w c.args.acks 0 c.subframes.ensures.size _ _ _ _ _ c.loop-m.invariant.first turn.0 turn.1)

pub overflow_shl-first : goal.overflow_shl-first
overflow_shl-first c =
    let w = c.args.self in
    let turn = placed_turn w _ _ (YieldsList-turn (YieldsPlaced w {s = c.into_iter-m-iterator.result} (cc) (cc) (cc)) c.loop-m.yielded c.loop-m.m-iterator c.loop-m.yielded_by _ c.next.new.self _ c.in-Some.is c.next.ensures.steps) in
    shift_fits w c.args.acks 0 c.subframes.ensures.size _ _ _ _ _ c.loop-m.invariant.first turn.0 turn.1

pub overflow_add-first : goal.overflow_add-first
overflow_add-first c =
    let w = c.args.self in
    let turn = placed_turn w _ _ (YieldsList-turn (YieldsPlaced w {s = c.into_iter-m-iterator.result} (cc) (cc) (cc)) c.loop-m.yielded c.loop-m.m-iterator c.loop-m.yielded_by _ c.next.new.self _ c.in-Some.is c.next.ensures.steps) in
    omega (arith, sum_fits w c.args.acks 0 c.subframes.ensures.size _ _ _ _ _ c.loop-m.invariant.first turn.0 turn.1 c.confirms.result _ c.from.ensures)

pub overflow_cast-second : goal.overflow_cast-second
overflow_cast-second c =
    let w = c.args.self in
    let turn = placed_turn w _ _ (YieldsList-turn (YieldsPlaced w {s = c.into_iter-m-iterator.result} (cc) (cc) (cc)) c.loop-m.yielded c.loop-m.m-iterator c.loop-m.yielded_by _ c.next.new.self _ c.in-Some.is c.next.ensures.steps) in
    omega (arith, shift_fits w c.args.acks 1 c.subframes.ensures.size _ _ _ _ _ c.loop-m.invariant.second turn.0 turn.1)

pub overflow_shl-second : goal.overflow_shl-second
overflow_shl-second c =
    let w = c.args.self in
    let turn = placed_turn w _ _ (YieldsList-turn (YieldsPlaced w {s = c.into_iter-m-iterator.result} (cc) (cc) (cc)) c.loop-m.yielded c.loop-m.m-iterator c.loop-m.yielded_by _ c.next.new.self _ c.in-Some.is c.next.ensures.steps) in
    shift_fits w c.args.acks 1 c.subframes.ensures.size _ _ _ _ _ c.loop-m.invariant.second turn.0 turn.1

pub overflow_add-second : goal.overflow_add-second
overflow_add-second c =
    let w = c.args.self in
    let turn = placed_turn w _ _ (YieldsList-turn (YieldsPlaced w {s = c.into_iter-m-iterator.result} (cc) (cc) (cc)) c.loop-m.yielded c.loop-m.m-iterator c.loop-m.yielded_by _ c.next.new.self _ c.in-Some.is c.next.ensures.steps) in
    omega (arith, sum_fits w c.args.acks 1 c.subframes.ensures.size _ _ _ _ _ c.loop-m.invariant.second turn.0 turn.1 c.confirms-in-loop-m.result _ c.from-in-loop-m.ensures)

pub loop-m-preserved : goal.loop-m-preserved
loop-m-preserved c =
    let w = c.args.self in
    let turn = placed_turn w _ _ (YieldsList-turn (YieldsPlaced w {s = c.into_iter-m-iterator.result} (cc) (cc) (cc)) c.loop-m.yielded c.loop-m.m-iterator c.loop-m.yielded_by _ c.next.new.self _ c.in-Some.is c.next.ensures.steps) in
    record {
      first = below_more w c.args.acks 0 c.subframes.ensures.size _ _ _ _ _ c.loop-m.invariant.first turn.0 turn.1 _ (length_push c.loop-m.yielded _) c.confirms.result _ c.confirms.ensures c.from.ensures;
      second = below_more w c.args.acks 1 c.subframes.ensures.size _ _ _ _ _ c.loop-m.invariant.second turn.0 turn.1 _ (length_push c.loop-m.yielded _) c.confirms-in-loop-m.result _ c.confirms-in-loop-m.ensures c.from-in-loop-m.ensures;
    }

pub returns-clause-first : goal.returns-clause-first
returns-clause-first c =
    let w = c.args.self in
    let end = YieldsList-end (YieldsPlaced w {s = c.into_iter-m-iterator.result} (cc) (cc) (cc)) c.loop-m.yielded c.loop-m.m-iterator c.loop-m.yielded_by _ c.next.new.self c.in-None.is c.next.ensures.steps in
    below_all w c.args.acks 0 c.subframes.ensures.size _ _ c.loop-m.invariant.first (placed_end w c.subframes.ensures.size _ end.1)

pub returns-clause-second : goal.returns-clause-second
returns-clause-second c =
    let w = c.args.self in
    let end = YieldsList-end (YieldsPlaced w {s = c.into_iter-m-iterator.result} (cc) (cc) (cc)) c.loop-m.yielded c.loop-m.m-iterator c.loop-m.yielded_by _ c.next.new.self c.in-None.is c.next.ensures.steps in
    below_all w c.args.acks 1 c.subframes.ensures.size _ _ c.loop-m.invariant.second (placed_end w c.subframes.ensures.size _ end.1)
