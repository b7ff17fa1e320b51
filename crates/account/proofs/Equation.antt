-- 25: which accounts are in order, and that octets and price leave one choice of the rest.
-- Assumes nothing.
use Prim.Native.Nat.{ℕ, ◌*◌, ◌<◌, ◌≤◌}
use mathlib.Core.Bool.{Bool, true, false, cond}
use mathlib.Core.Logic.{◌⊎◌, inl, inr, ⊎_elim}
use mathlib.Core.Path.{◌≡◌, refl, sym, ◌∙◌}
use native.Mathlib.Decide.{dec_lt}
use native.Mathlib.Nat.{zero-mul, div-add-mod, mod-lt}
use native.Mathlib.Omega.{arith}
use lib.Dec.{lit<}
use borrow.Author.Tests.{ltb-false, leb-false, eqb-true, not-false, lt-ltb, le-ltb, lt-leb, eq-eqb}
use Rattle.std.proofs.lemmas.Bool.{or_parts}
use Rattle.account.specs.declared.Account.{Account}
use Rattle.account.specs.Account.{balanced, out_of_order, account_refusal, open_of, account_at}
use Rattle.account.specs.Laws.{InOrder}
use Rattle.account.proofs.Products.{parts}

-- A test that chooses 25 where it passes did not pass.
not_chosen : (b : Bool) → ◌≡◌ {A = ℕ} (cond b 25 0) 0 → b ≡ false
not_chosen true e = absurd (omega arith)
not_chosen false e = refl

module _ (a : Account) where
  pub in_order : account_refusal a ≡ 0 → InOrder a
  unfolding account_refusal out_of_order balanced
  in_order e =
      let f = or_parts _ _ (not_chosen (out_of_order a) e) in
      let g = or_parts _ _ f.0 in
      record { price = ltb-false _ _ g.0; carry = leb-false _ _ g.1; equation = eqb-true _ _ (not-false _ f.1) }

  pub taken : InOrder a → account_refusal a ≡ 0
  unfolding account_refusal out_of_order balanced
  taken h = rw (le-ltb _ _ h.price, lt-leb _ _ h.carry, eq-eqb _ _ h.equation)

  -- 25 is the only refusal.
  pub one_or_none : (account_refusal a ≡ 0) ⊎ (account_refusal a ≡ 25)
  unfolding account_refusal
  one_or_none = go (out_of_order a)
    where
      go : (b : Bool) → (◌≡◌ {A = ℕ} (cond b 25 0) 0) ⊎ (◌≡◌ {A = ℕ} (cond b 25 0) 25)
      go true = inr refl
      go false = inl refl

  pub not_in_order : (InOrder a → ⊥) → account_refusal a ≡ 25
  not_in_order h = ⊎_elim (λ e. absurd (h (in_order e))) (λ e. e) one_or_none

  -- An account in order is the one at its price and octets.
  pub only : account_refusal a ≡ 0 → a ≡ account_at a.price a.octets
  unfolding account_at
  only e =
      let h = in_order e in
      let f = parts 1000000 (lit< tt) (a.octets * a.price) a.charged a.carry h.equation h.carry in
      rw (← f.0, ← f.1)

pub some : (price octets : ℕ) → price ≤ 1000000 → account_refusal (account_at price octets) ≡ 0
unfolding account_at
some price octets h =
    taken (account_at price octets)
    (record { price = h; carry = mod-lt (octets * price) (lit< tt); equation = sym (div-add-mod (octets * price) 1000000) })

pub opened : (price : ℕ) → price ≤ 1000000 → ((open_of price).refusal ≡ 0) × (account_refusal (open_of price).account ≡ 0)
unfolding open_of
opened price h = (
  rw (le-ltb 1000000 price h),
  taken (open_of price).account (record { price = h; carry = lit< tt; equation = zero-mul price }),
)

pub unopened : (price : ℕ) → 1000000 < price → ((open_of price).refusal ≡ 25) × (account_refusal (open_of price).account ≡ 25)
unfolding open_of
unopened price h = (rw (lt-ltb 1000000 price h), not_in_order (open_of price).account λ k. omega (arith, k.price))

-- A new account is refused exactly where its price is.
pub new_refused : (price : ℕ) → account_refusal (open_of price).account ≡ (open_of price).refusal
new_refused price = go (dec_lt 1000000 price)
  where
    go : Dec (1000000 < price) → account_refusal (open_of price).account ≡ (open_of price).refusal
    go (yes over) = let f = unopened price over in f.1 ∙ sym f.0
    go (no fits) = let f = opened price (omega arith) in f.1 ∙ sym f.0

-- What the code tests: the price, and the account against the one at its price and octets.
module _ (a : Account) where
  pub price_off : 1000000 < a.price → 25 ≡ account_refusal a
  price_off h = sym (not_in_order a λ k. omega (arith, k.price))

  module _ (right : Account) (made : right ≡ account_at a.price a.octets) where
    pub another : (a ≡ right → ⊥) → 25 ≡ account_refusal a
    another h = ⊎_elim (λ e. absurd (h (only a e ∙ sym made))) sym (one_or_none a)

    pub same : a ≡ right → a.price ≤ 1000000 → 0 ≡ account_refusal a
    same e h = sym (rw (e ∙ made) (some a.price a.octets h))
