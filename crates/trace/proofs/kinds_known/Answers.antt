-- `trace::kinds_known` meets its contract: what the closure answers at each number up to the middle. Assumes nothing.
use mathlib.Core.Path.{refl, ◌∙◌}
use borrow.Author.Rules.{rules}
use Rattle.std.specs.Int.{div_ceil}
use Rattle.std.proofs.Common.{tests}
use Rattle.std.proofs.lemmas.Iterator.{YieldsList-from_range}
use Rattle.std.proofs.lemmas.Iterator.Search.{all_from_yields_List}
use Rattle.trace.proofs.Known.{both, both_ends}
use Rattle.trace.proofs.kinds_known.Goals as goal

pub returns : goal.returns
returns c =
    all_from_yields_List (both c.args.trace.now c.args.header.first c.args.header.records) _ _ _ c.all.ensures.ran
    (YieldsList-from_range 0 _ (div_ceil c.args.header.records 2) refl (search (rules, tests))) (λ x b q k. search (rules, tests))
    ∙ both_ends _ _ _
