-- `credit::octets::octets_of` meets its contract: the chain adds what each record is worth. Assumes nothing.
use mathlib.Core.Path.{◌∙◌}
use borrow.Author.Rules.{rules}
use borrow.Author.Tests.{tests}
use native.Mathlib.Omega.{arith}
use Rattle.std.proofs.lemmas.Iterator.{YieldsList-from_map}
use Rattle.std.proofs.lemmas.Iterator.Adapters.{at_most_from_yields_List, fits_from_length}
use Rattle.std.proofs.lemmas.Iterator.Consumers.{YieldsList-at, sum_by_from_yields_List}
use Rattle.std.specs.List.{enumerate_from}
use Rattle.confirming.proofs.Pairs.{pairs_in, YieldsPlaced, placed_few}
use Rattle.credit.proofs.Sums.{octets_placed, octets_summed}
use Rattle.credit.proofs.octets.octets_of.Goals as goal

pub sum-requires-clause-fits : goal.sum-requires-clause-fits
sum-requires-clause-fits c =
    let w = c.args.window in
    fits_from_length _ _ 9 _
    (at_most_from_yields_List (YieldsList-at c.map.ensures.source (YieldsPlaced w {s = c.enumerate.result} (cc) (cc) (cc))) (placed_few w c.subframes.ensures.size))
    c.map.ensures.closure (omega arith) (λ x r q k. search (rules, tests))

pub returns : goal.returns
returns c =
    let w = c.args.window in
    sum_by_from_yields_List (octets_placed w c.args.blocks) (enumerate_from 0 (pairs_in w)) c.map.result c.sum.result c.sum.ensures.ran
    (YieldsList-from_map _ (octets_placed w c.args.blocks) (YieldsList-at c.map.ensures.source (YieldsPlaced w {s = c.enumerate.result} (cc) (cc) (cc))) c.map.ensures.closure (λ x r q k. search (rules, tests)))
    ∙ octets_summed w c.args.blocks c.subframes.ensures.size
