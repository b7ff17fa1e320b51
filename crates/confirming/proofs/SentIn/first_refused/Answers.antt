-- `confirming::SentIn::first_refused` meets its contract: the chain picks the refusal that comes first. Assumes nothing.
use Rattle.std.proofs.Common.{Result, Ok}
use mathlib.Core.Path.{refl, ap, ◌∙◌}
use borrow.Author.Rules.{rules}
use borrow.Author.Tests.{tests}
use Rattle.std.proofs.lemmas.Iterator.{YieldsList-from_map_by}
use Rattle.std.proofs.lemmas.Iterator.Consumers.{YieldsList-at}
use Rattle.frame.specs.declared.refusal.Refusal.{Refusal}
use Rattle.frame.specs.Refusals.{refusal_in}
use Rattle.confirming.specs.Refusals.{lowest}
use Rattle.confirming.proofs.Looking.{refusal_of_pair, records_refused}
use Rattle.confirming.proofs.Pairs.{YieldsPairs}
use Rattle.confirming.proofs.Picking.{lowest_picked}
use Rattle.confirming.proofs.SentIn.first_refused.Goals as goal

pub returns : goal.returns
returns c =
    let w = c.args.self in
    ap (λ (x : Result (Unit {0}) Refusal). refusal_in x) c.unwrap_or.ensures
    ∙ lowest_picked _ _ (λ (x : Result (Unit {0}) Refusal). refusal_in x) (λ x k q h. search (rules, tests))
    (YieldsList-from_map_by _ (λ (x : Result (Unit {0}) Refusal). refusal_in x) (refusal_of_pair w.settings w.n)
    (YieldsList-at c.map.ensures.source (YieldsPairs w c.subframes.ensures.ks c.subframes.ensures.records)) c.map.ensures.closure (λ x r q k. search (rules, tests)))
    _ (Ok tt) refl c.min_by_key.ensures.ran
    ∙ ap lowest (records_refused w c.subframes.ensures.size)
