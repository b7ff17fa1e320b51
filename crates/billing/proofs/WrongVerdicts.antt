-- What the statement of the verdict shuts out, field by field, by the bills of WorkedBills.antt.
--
--   accepted        every reply is refused, with 14                                  not_refuses
--   first           no first block is confirmed                                      not_no_first
--   second          no second block is confirmed                                     not_no_second
--   first_decoded    every first block of the window                                  not_every_first
--   second_decoded   every second block of the window                                 not_every_second
-- Assumes nothing.
use mathlib.Core.Bool.{false≢true}
use mathlib.Core.Path.{refl}
use native.Mathlib.Omega.{arith}
use Rattle.confirming.specs.Blocks.{Confirmed}
use Rattle.confirming.specs.Blocks.{confirmed_of}
use Rattle.agreement.specs.Demand3.{feedback_engine}
use Rattle.billing.specs.Verdict.{Confirming, Judged}
use Rattle.billing.proofs.WorkedBills.{crediting, both_heard, fifth_heard, first_grant}

-- The right call, with its answer changed.
abbrev answering : (Confirmed → Confirmed) → Confirming
answering change s n w r b0 b1 = change (confirmed_of s n w r b0 b1)

pub not_refuses : Judged feedback_engine (answering (λ c. record { refusal = 14; first = 0; second = 0 })) → ⊥
not_refuses j = omega (arith, (j both_heard).accepted)

pub not_no_first : Judged feedback_engine (answering (λ c. record { refusal = c.refusal; first = 0; second = c.second })) → ⊥
unfolding crediting both_heard
not_no_first j = omega (arith, ((j both_heard).first 0).1 (omega arith, refl))

pub not_no_second : Judged feedback_engine (answering (λ c. record { refusal = c.refusal; first = c.first; second = 0 })) → ⊥
unfolding crediting first_grant
not_no_second j = omega (arith, ((j first_grant).second 0).1 (omega arith, refl))

pub not_every_first : Judged feedback_engine (answering (λ c. record { refusal = c.refusal; first = 511; second = c.second })) → ⊥
unfolding crediting fifth_heard
not_every_first j = false≢true ((j fifth_heard).first_decoded 0 refl)

pub not_every_second : Judged feedback_engine (answering (λ c. record { refusal = c.refusal; first = c.first; second = 511 })) → ⊥
unfolding crediting fifth_heard
not_every_second j = false≢true ((j fifth_heard).second_decoded 0 refl)
