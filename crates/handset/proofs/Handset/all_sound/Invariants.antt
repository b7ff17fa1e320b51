-- `handset::Handset::all_sound` meets its contract. The loop's invariant: the slots before i are valid if `valid` says so, and one of them
-- is a scheduled block if `block` does. Assumes nothing.
use mathlib.Core.Bool.{◌&&◌, ◌||◌}
use mathlib.Core.Path.{◌≡◌}
use lib.ListN.{drop}
use Rattle.frame.specs.Distance.{before}
use Rattle.handset.specs.Checked.{all_valid, any_block}
use Rattle.handset.proofs.Handset.all_sound.Given as goal

abbrev pub invariant-loop-i : goal.invariant-loop-i
invariant-loop-i l =
    (all_valid l.self.settings l.self.next l.t-items ≡ (l.valid && all_valid l.self.settings (before l.self.next l.i) (drop l.i l.t-items)))
    × (any_block l.t-items ≡ (l.block || any_block (drop l.i l.t-items)))
