-- Over any list of credits from a new account: document 02, U10. Each call leaves the account or adds what it answers, and the law of the
-- account (account/specs/Credits.antt) does the rest.
-- Assumes nothing.
use Prim.Native.Nat.{ℕ, zero, suc}
use mathlib.Core.Path.{refl}
use native.Mathlib.Omega.{arith}
use borrow.Author.Tests.{eq-eqb}
use Rattle.frame.specs.Refusals.{number_in}
use Rattle.account.specs.declared.Account.{Account}
use Rattle.account.specs.Account.{add_of}
use Rattle.account.specs.Credits.{Booked}
use Rattle.account.proofs.Credits.{refused_booked, added_booked, over_any_list}
use Rattle.credit.specs.Credit.{credited_octets, added_of, refused_or, credit_by, credit_reading, credit_of}
use Rattle.credit.specs.Exactly.{Call, answer_of, CreditsCharged}

booked_or : (k octets : ℕ) (a : Account) → Booked a (refused_or k a (added_of a octets))
booked_or zero octets a = added_booked a octets (added_of a octets) refl refl (λ e. rw (eq-eqb (add_of a octets).refusal 0 e))
booked_or (suc k) octets a = refused_booked a (refused_or (suc k) a (added_of a octets)) (λ e. omega (arith, e)) refl

booked : (c : Call) (a : Account) → Booked a (answer_of c a)
unfolding credit_of credit_by
booked c a =
    let read = credit_reading c.settings c.n c.sent c.resource c.b0 c.b1 a in
    booked_or (number_in read) (credited_octets c.settings.config c.n c.sent read) a

pub credits_charged : CreditsCharged
credits_charged = over_any_list Call answer_of booked
