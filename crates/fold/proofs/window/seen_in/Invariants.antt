-- `fold::window::seen_in` meets its contract. The loop's invariant: U is at most the number of positions gone through, and the fold over
-- the positions left, from what was found, gives what the fold over all of them gives.
-- Assumes nothing.
use Prim.Native.Nat.{◌≤◌}
use mathlib.Core.Path.{◌≡◌}
use lib.ListN.{drop}
use Rattle.frame.specs.Order.{order_of}
use Rattle.heard.specs.Memory.{ks_in, views_in}
use Rattle.fold.specs.Fold.{seen_from, seen_of}
use Rattle.fold.proofs.window.seen_in.Given as goal

abbrev pub invariant-loop-m : goal.invariant-loop-m
invariant-loop-m l =
    let ks = ks_in l.memory in
    record {
      counted : l.seen.u ≤ l.m-index;
      left : seen_from (views_in l.memory) ks (drop l.m-index (order_of ks)) l.seen ≡ seen_of (views_in l.memory) ks;
    }
