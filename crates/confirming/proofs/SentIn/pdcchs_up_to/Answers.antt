-- `confirming::SentIn::pdcchs_up_to` meets its contract: the chain counts the pairs of a k and its record. Assumes nothing.
use mathlib.Core.Path.{◌∙◌}
use borrow.Author.Rules.{rules}
use borrow.Author.Tests.{tests}
use native.Mathlib.Omega.{arith}
use Rattle.std.proofs.lemmas.Iterator.{YieldsList-from_map}
use Rattle.std.proofs.lemmas.Iterator.Adapters.{at_most_from_yields_List, fits_from_length}
use Rattle.std.proofs.lemmas.Iterator.Consumers.{YieldsList-at, sum_by_from_yields_List}
use Rattle.frame.proofs.Windows.{window_size}
use Rattle.confirming.proofs.Counting.{counts, up_to_counted}
use Rattle.confirming.proofs.Pairs.{pairs_in, pairs_length, YieldsPairs}
use Rattle.confirming.proofs.SentIn.pdcchs_up_to.Goals as goal

pub sum-requires-clause-fits : goal.sum-requires-clause-fits
sum-requires-clause-fits c =
    let w = c.args.self in
    fits_from_length _ _ 9 _
    (at_most_from_yields_List (YieldsList-at c.map.ensures.source (YieldsPairs w {s = c.subframes.result} c.subframes.ensures.ks c.subframes.ensures.records)) (omega (arith, pairs_length w c.subframes.ensures.size, window_size w.settings.config w.n)))
    c.map.ensures.closure (omega arith) (λ x r q k. search (rules, tests))

pub returns : goal.returns
returns c =
    let w = c.args.self in
    sum_by_from_yields_List (counts c.args.k) (pairs_in w) c.map.result c.sum.result c.sum.ensures.ran
    (YieldsList-from_map _ (counts c.args.k) (YieldsList-at c.map.ensures.source (YieldsPairs w {s = c.subframes.result} c.subframes.ensures.ks c.subframes.ensures.records)) c.map.ensures.closure (λ x r q k. search (rules, tests)))
    ∙ up_to_counted w c.args.k c.subframes.ensures.size
