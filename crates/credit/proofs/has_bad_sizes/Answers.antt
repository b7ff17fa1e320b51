-- `credit::has_bad_sizes` meets its contract: the chain tests the records. Assumes nothing.
use mathlib.Core.Path.{◌∙◌}
use borrow.Author.Rules.{rules}
use borrow.Author.Tests.{tests}
use Rattle.std.proofs.lemmas.Iterator.{YieldsList-from_slice}
use Rattle.std.proofs.lemmas.Iterator.Search.{any_from_yields_List}
use Rattle.credit.specs.Credit.{bad_record}
use Rattle.credit.proofs.Refusing.{any_bad}
use Rattle.credit.proofs.has_bad_sizes.Goals as goal

pub returns : goal.returns
returns c =
    any_from_yields_List bad_record _ _ _ c.any.ensures.ran (YieldsList-from_slice c.records.result.now (cc)) (λ x b q k. search (rules, tests))
    ∙ any_bad _ _ c.records.ensures.value
