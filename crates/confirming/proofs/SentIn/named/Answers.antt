-- `confirming::SentIn::named` meets its contract: a PDCCH or a scheduled block, that was sent or not. Assumes nothing.
use mathlib.Core.Path.{sym, ◌∙◌}
use Rattle.std.proofs.lemmas.Iterator.Consumers.{nth_from_yields_List}
use Rattle.confirming.proofs.Naming.{found, nowhere, named_pdcch, named_block, no_pdcch, no_block}
use Rattle.confirming.proofs.Pairs.{YieldsPairs}
use Rattle.confirming.proofs.SentIn.named.Goals as goal

pub returns-in_err-k : goal.returns-in_err-k
returns-in_err-k c =
    let w = c.args.self in
    let looked = nth_from_yields_List c.nth.result c.nth.new.self _ c.nth.ensures.ran (YieldsPairs w {s = c.subframes.result} c.subframes.ensures.ks c.subframes.ensures.records) in
    c.from_residual.ensures ∙ nowhere w c.subframes.ensures.size _ _ looked _ c.in_err-k.was (c.from-m.ensures ∙ c.position.ensures)

pub returns-in-Pdcch : goal.returns-in-Pdcch
returns-in-Pdcch c =
    let w = c.args.self in
    let looked = nth_from_yields_List c.nth.result c.nth.new.self _ c.nth.ensures.ran (YieldsPairs w {s = c.subframes.result} c.subframes.ensures.ks c.subframes.ensures.records) in
    named_pdcch w c.subframes.ensures.size _ _ (c.from-m.ensures ∙ c.position.ensures) _ _ (found w c.subframes.ensures.size _ _ looked c.in_ok-k.k c.in_ok-k.x c.in_ok-k.was)
    _ _ c.in-Pdcch.is _ (sym c.has_cce.ensures ∙ c.if-has_cce.true) c.pdcchs_up_to.ensures

pub returns-in-Block : goal.returns-in-Block
returns-in-Block c =
    let w = c.args.self in
    let looked = nth_from_yields_List c.nth.result c.nth.new.self _ c.nth.ensures.ran (YieldsPairs w {s = c.subframes.result} c.subframes.ensures.ks c.subframes.ensures.records) in
    named_block w c.subframes.ensures.size _ _ (c.from-m.ensures ∙ c.position.ensures) _ _ (found w c.subframes.ensures.size _ _ looked c.in_ok-k.k c.in_ok-k.x c.in_ok-k.was)
    _ c.in-Block.is (sym c.is_block.ensures ∙ c.if-is_block.true)

pub returns-in_default : goal.returns-in_default
returns-in_default c =
    let w = c.args.self in
    let looked = nth_from_yields_List c.nth.result c.nth.new.self _ c.nth.ensures.ran (YieldsPairs w {s = c.subframes.result} c.subframes.ensures.ks c.subframes.ensures.records) in
    no_pdcch w c.subframes.ensures.size _ _ (c.from-m.ensures ∙ c.position.ensures) _ _ (found w c.subframes.ensures.size _ _ looked c.in_ok-k.k c.in_ok-k.x c.in_ok-k.was)
    _ _ c.in-Pdcch.is (sym c.has_cce.ensures ∙ c.if-has_cce.false)

pub returns-in_default-2 : goal.returns-in_default-2
returns-in_default-2 c =
    let w = c.args.self in
    let looked = nth_from_yields_List c.nth.result c.nth.new.self _ c.nth.ensures.ran (YieldsPairs w {s = c.subframes.result} c.subframes.ensures.ks c.subframes.ensures.records) in
    no_block w c.subframes.ensures.size _ _ (c.from-m.ensures ∙ c.position.ensures) _ _ (found w c.subframes.ensures.size _ _ looked c.in_ok-k.k c.in_ok-k.x c.in_ok-k.was)
    _ c.in-Block.is (sym c.is_block.ensures ∙ c.if-is_block.false)
