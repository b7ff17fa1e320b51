-- `confirming::SentIn::scheduled_blocks` meets its contract: the chain counts the records that say so. Assumes nothing.
use mathlib.Core.Path.{◌∙◌}
use borrow.Author.Rules.{rules}
use borrow.Author.Tests.{tests}
use native.Mathlib.Omega.{arith}
use Rattle.std.proofs.lemmas.Iterator.{YieldsList-from_slice, YieldsList-from_map}
use Rattle.std.proofs.lemmas.Iterator.Adapters.{at_most_from_yields_List, fits_from_length}
use Rattle.std.proofs.lemmas.Iterator.Consumers.{YieldsList-at, sum_by_from_yields_List}
use Rattle.frame.proofs.Windows.{window_size}
use Rattle.confirming.proofs.Looking.{one_block, blocks_counted}
use Rattle.confirming.proofs.Records.{sent_list}
use Rattle.confirming.proofs.SentIn.scheduled_blocks.Goals as goal

pub sum-requires-clause-fits : goal.sum-requires-clause-fits
sum-requires-clause-fits c =
    let w = c.args.self in
    fits_from_length _ _ 9 _
    (at_most_from_yields_List (YieldsList-at c.map.ensures.source (YieldsList-from_slice c.records.result.now (cc))) (omega (arith, c.records.ensures.size, window_size w.settings.config w.n)))
    c.map.ensures.closure (omega arith) (λ x r q k. search (rules, tests))

pub returns : goal.returns
returns c =
    sum_by_from_yields_List one_block c.records.result.now c.map.result c.sum.result c.sum.ensures.ran
    (YieldsList-from_map _ one_block (YieldsList-at c.map.ensures.source (YieldsList-from_slice c.records.result.now (cc))) c.map.ensures.closure (λ x r q k. search (rules, tests)))
    ∙ blocks_counted _ _ _ (sent_list c.args.self _ c.records.ensures.value c.records.ensures.size)
