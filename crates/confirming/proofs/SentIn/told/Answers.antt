-- `confirming::SentIn::told` meets its contract: the chain finds the first record that says so. Assumes nothing.
use mathlib.Core.Path.{sym, ◌∙◌}
use borrow.Author.Rules.{rules}
use borrow.Author.Tests.{tests}
use Rattle.std.proofs.lemmas.Iterator.{YieldsList-from_slice}
use Rattle.std.proofs.lemmas.Iterator.Search.{position_from_yields_List}
use Rattle.confirmation.specs.Sent.{is_block}
use Rattle.confirming.specs.declared.Sent.{Sent}
use Rattle.confirming.specs.Records.{send_of}
use Rattle.confirming.proofs.Looking.{told_is}
use Rattle.confirming.proofs.SentIn.told.Goals as goal

pub returns-in_err-first : goal.returns-in_err-first
returns-in_err-first c =
    c.from_residual.ensures
    ∙ sym c.in_err-first.was
    ∙ told_is c.args.self _ _ c.records.ensures.value c.records.ensures.size
    (position_from_yields_List (λ (x : Sent). is_block (send_of x)) _ _ _ c.position.ensures.ran (YieldsList-from_slice c.records.result.now (cc)) (λ x b q k. search (rules, tests)))

pub returns : goal.returns
returns c =
    sym c.in_ok-first.was
    ∙ told_is c.args.self _ _ c.records.ensures.value c.records.ensures.size
    (position_from_yields_List (λ (x : Sent). is_block (send_of x)) _ _ _ c.position.ensures.ran (YieldsList-from_slice c.records.result.now (cc)) (λ x b q k. search (rules, tests)))
