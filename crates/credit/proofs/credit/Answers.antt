-- `credit::credit` meets its contract: what is refused in its order, and the credit. Assumes nothing.
use Rattle.credit.proofs.Crediting.{refused_as, sent_refused, charge_refused, reading_refused, sum_refused, sum_credited}
use Rattle.credit.proofs.credit.Goals as goal

pub returns-in_err-told : goal.returns-in_err-told
returns-in_err-told c =
    refused_as _ _ _ _ c.from_residual.ensures.1 (sent_refused _ _ _ _ _ _ _ _ c.check.ensures _ c.in_err-told.was)

pub returns-in_err-check_charge : goal.returns-in_err-check_charge
returns-in_err-check_charge c =
    refused_as _ _ _ _ c.from_residual-in_err-check_charge.ensures.1
    (charge_refused _ _ _ _ _ _ _ _ c.check.ensures _ c.in_ok-told.was _ c.check_charge.ensures _ c.in_err-check_charge.was)

pub returns-in_err-octets : goal.returns-in_err-octets
returns-in_err-octets c =
    refused_as _ _ _ _ c.from_residual-in_err-octets.ensures.1
    (reading_refused _ _ _ _ _ _ _ _ c.check.ensures _ c.in_ok-told.was _ c.check_charge.ensures _ c.in_ok-check_charge.was _ c.read-reading.ensures _ c.credited_octets.ensures _ c.in_err-octets.was)

pub returns-in_err-add : goal.returns-in_err-add
returns-in_err-add c =
    refused_as _ _ _ _ c.from_residual-in_err-add.ensures.1
    (sum_refused _ _ _ _ _ _ _ _ c.check.ensures _ c.in_ok-told.was _ c.check_charge.ensures _ c.in_ok-check_charge.was _ c.read-reading.ensures _ c.credited_octets.ensures _ c.in_ok-octets.was _ c.add.ensures.refusal _ c.in_err-add.was _ c.add.ensures.after)

pub returns : goal.returns
returns c =
    sum_credited _ _ _ _ _ _ _ _ c.check.ensures _ c.in_ok-told.was _ c.check_charge.ensures _ c.in_ok-check_charge.was _ c.read-reading.ensures _ c.credited_octets.ensures _ c.in_ok-octets.was _ c.add.ensures.refusal _ c.in_ok-add.was _ c.add.ensures.after
