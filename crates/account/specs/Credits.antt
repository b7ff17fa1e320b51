-- Any list of credits from a new account: document 02, U10. It is said once for calls of any kind C and for any function that answers
-- them, so that what credits a reading (the crate `credit`) has to show what one call does to an account, and no more.
-- Assumes nothing.
use Rattle.std.specs.Prelude.{ℕ, ◌+◌, ◌*◌, ◌<◌, ◌≤◌, cond, List, [], ◌∷◌, ◌≡◌, eqb}
use Rattle.account.specs.declared.Account.{Account}
use Rattle.account.specs.Account.{open_of, add_of}

-- What a credit answers: the refusal, 0 for none, the octets that it credits, and the account afterwards.
pub record Credited : Type 0 where
  pub refusal : ℕ
  pub octets : ℕ
  pub account : Account

-- One call on the account `a`: a refusal leaves it as it was; else the octets that are answered are added to it.
pub record Booked (a : Account) (r : Credited) : Type 0 where
  pub leaves : (r.refusal ≡ 0 → ⊥) → r.account ≡ a
  pub adds : r.refusal ≡ 0 → ((add_of a r.octets).refusal ≡ 0) × (r.account ≡ (add_of a r.octets).account)

module _ {C : Type 0} (credit : C → Account → Credited) where
  -- The account after the calls, each on the account that the one before it left.
  abbrev pub after : Account → List C → Account
  after a [] = a
  after a (c ∷ cs) = after (credit c a).account cs

  -- The octets "of the list's credits not refused": the sum of the answers' own, not read off the account.
  abbrev pub credited_in : Account → List C → ℕ
  credited_in a [] = 0
  credited_in a (c ∷ cs) = cond (eqb (credit c a).refusal 0) (credit c a).octets 0 + credited_in (credit c a).account cs

  -- The account after the calls, from a new one.
  abbrev pub from_new : ℕ → List C → Account
  from_new price cs = after (open_of price).account cs

  -- "octets × price = 1,000,000 × charged + carry, the carry below 1,000,000 and the octets those of the list's credits not refused"; the
  -- total never passes 1,000,000,000,000 octets, and the price is fixed.
  pub record Charged (price : ℕ) (cs : List C) : Type 0 where
    pub equation : (from_new price cs).octets * price ≡ 1000000 * (from_new price cs).charged + (from_new price cs).carry
    pub carry : (from_new price cs).carry < 1000000
    pub octets : (from_new price cs).octets ≡ credited_in (open_of price).account cs
    pub most : (from_new price cs).octets ≤ 1000000000000
    pub fixed : (from_new price cs).price ≡ price

-- "Over any list of credits from a new account".
abbrev pub OverAnyList : Type 1
OverAnyList =
    (C : Type 0) (credit : C → Account → Credited)
    → ((c : C) (a : Account) → Booked a (credit c a))
    → (price : ℕ) → price ≤ 1000000
    → (cs : List C) → Charged credit price cs
