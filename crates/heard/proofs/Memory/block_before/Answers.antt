-- `heard::Memory::block_before` meets its contract: the chain tests the slots from the newest on. Assumes nothing.
use Prim.Native.Nat.{ℕ}
use mathlib.Core.Bool.{◌&&◌}
use mathlib.Core.Path.{refl, ◌∙◌}
use lib.Dec.{eqb}
use borrow.Author.Rules.{rules}
use borrow.Author.Tests.{tests}
use Rattle.std.proofs.lemmas.Iterator.{YieldsList-from_range, YieldsList-from_slice, YieldsList-from_zip}
use Rattle.std.proofs.lemmas.Iterator.Search.{any_from_yields_List}
use Rattle.frame.specs.Distance.{shares}
use Rattle.heard.specs.declared.Slot.{Slot}
use Rattle.heard.proofs.LookBack.{looked_back}
use Rattle.heard.proofs.Memory.block_before.Goals as goal

pub returns : goal.returns
returns c =
    any_from_yields_List (λ (p : ℕ × Slot). eqb p.1.kind 2 && shares c.args.self.settings.now.config c.args.self.n p.0) c.any.new.self _ c.any.result c.any.ensures.ran
    (YieldsList-from_zip (YieldsList-from_range 1 14 13 (cc) refl) (YieldsList-from_slice c.args.self.past.now (cc)))
    (λ x b q k. search (rules, tests))
    ∙ looked_back _ _ _
