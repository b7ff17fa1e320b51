-- `credit::credited_octets` meets its contract: a refused reading, and the octets of another. Assumes nothing.
use mathlib.Core.Path.{sym, ap, ◌∙◌}
use Rattle.std.proofs.Common.{Ok}
use Rattle.frame.proofs.Refused.{value_refused, value_accepted, passed_on}
use Rattle.confirming.proofs.Answering.{refusal_answered}
use Rattle.credit.proofs.Sums.{credited_is}
use Rattle.credit.proofs.credited_octets.Goals as goal

pub returns-in_err-confirmed : goal.returns-in_err-confirmed
returns-in_err-confirmed c =
    passed_on _ _ _ c.from_residual.ensures.1 (value_refused _ _ _ _ c.in_err-confirmed.was (refusal_answered _ _ _ _ c.confirmed.ensures))

pub returns : goal.returns
returns c =
    ap Ok (c.octets_of.ensures ∙ rw c.own_blocks.ensures (credited_is _ _ _ _ _ c.in_ok-confirmed.ensures))
    ∙ sym (value_accepted _ _ _ _ c.in_ok-confirmed.was (refusal_answered _ _ _ _ c.confirmed.ensures))
