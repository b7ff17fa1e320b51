-- `first_bad_in` meets its contract. Assumes nothing.
use Prim.Native.Nat.{ℕ, ◌<◌}
use mathlib.Core.Bool.{false}
use mathlib.Core.Path.{◌≡◌}
use lib.ListN.{get_or}
use Rattle.claims.specs.Claims.{is_bad}
use Rattle.claims.proofs.window.ClaimedWindow.first_bad_in.Given as goal

abbrev pub invariant-loop-claim : goal.invariant-loop-claim
invariant-loop-claim l =
    l.bad ≡ false → (k : ℕ) → k < l.claim-index → is_bad l.self.window.settings l.self.window.n (get_or l.claims k 0) ≡ false
