-- `confirming::SentIn::all_valid` meets its contract: the chain tests each k and its record. Assumes nothing.
use borrow.Author.Rules.{rules}
use borrow.Author.Tests.{tests}
use Rattle.std.proofs.lemmas.Iterator.Search.{all_from_yields_List}
use Rattle.confirming.specs.Coded.{valid_ago}
use Rattle.confirming.proofs.Pairs.{YieldsPairs}
use Rattle.confirming.proofs.SentIn.all_valid.Goals as goal

pub returns-clause-value : goal.returns-clause-value
returns-clause-value c =
    let w = c.args.self in
    all_from_yields_List (valid_ago w.settings w.n) c.all.new.self _ _ c.all.ensures.ran (YieldsPairs w c.subframes.ensures.ks c.subframes.ensures.records) (λ x b q k. search (rules, tests))
