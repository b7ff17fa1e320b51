-- `handset::Handset::blocks_apart` meets its contract. The loop's invariant: of the slots gone through, from 13 - k on, it is known which
-- windows they take, and whether a block is a second one. Assumes nothing.
use Prim.Native.Nat.{ℕ, ◌-◌, ◌<◌}
use mathlib.Core.Bool.{false, not}
use mathlib.Core.Path.{◌≡◌}
use lib.ListN.{length, get_or, drop}
use Rattle.frame.specs.Distance.{before}
use Rattle.handset.specs.Checked.{blocks_apart}
use Rattle.handset.proofs.Apart.{taken_by}
use Rattle.handset.proofs.Handset.blocks_apart.Given as goal

abbrev pub invariant-loop-k : goal.invariant-loop-k
invariant-loop-k l =
    record {
      size : length l.taken ≡ 32;
      fed : l.n ≡ before l.self.next (13 - l.k);
      taken : (w : ℕ) → w < 32 → get_or l.taken w false ≡ taken_by l.self.settings.config l.self.next (13 - l.k) (drop (13 - l.k) l.self.past) w;
      apart : not l.second ≡ blocks_apart l.self.settings.config (before l.self.next (13 - l.k)) (drop (13 - l.k) l.self.past);
    }
