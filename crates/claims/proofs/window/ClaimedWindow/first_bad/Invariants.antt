-- `first_bad` meets its contract. Assumes nothing.
use Prim.Native.Nat.{◌≤◌}
use mathlib.Core.Path.{◌≡◌}
use lib.ListN.{length, drop}
use Rattle.std.specs.List.{position, position_from}
use Rattle.std.specs.Slice.Iter.{chunks_exact_rest}
use Rattle.claims.specs.Claims.{is_bad}
use Rattle.claims.proofs.window.ClaimedWindow.first_bad.Given as goal

-- The first bad claim is that of those that are left.
abbrev pub invariant-loop-piece : goal.invariant-loop-piece
invariant-loop-piece l =
    record {
      can_next : goal.iterator-loop-piece.can_next l.piece-iterator;
      is_finite : goal.iterator-loop-piece.is_finite l.piece-iterator;
      within : l.good ≤ length l.claims;
      left : drop l.good l.claims ≡ chunks_exact_rest l.piece-iterator;
      found : position (is_bad l.self.window.settings l.self.window.n) l.claims ≡ position_from (is_bad l.self.window.settings l.self.window.n) l.good (chunks_exact_rest l.piece-iterator);
    }
