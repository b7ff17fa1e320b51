-- 26 after 25, the account after octets are added, and all laws of one account together.
-- Assumes nothing.
use Prim.Native.Nat.{ℕ, ◌+◌, ◌<◌, ◌≤◌}
use mathlib.Core.Logic.{◌⊎◌, inl, inr, ⊎_elim}
use mathlib.Core.Path.{◌≡◌, refl, sym, ◌∙◌}
use native.Mathlib.Decide.{dec_lt}
use native.Mathlib.Omega.{arith}
use borrow.Author.Tests.{lt-ltb, le-ltb, eq-eqb, ne_eqb}
use Rattle.account.specs.declared.Account.{Account}
use Rattle.account.specs.Account.{account_refusal, account_at, add_refusal, add_of}
use Rattle.account.specs.Laws.{Grown, Accounts}
use Rattle.account.proofs.Equation.{in_order, taken, one_or_none, not_in_order, only, some, opened, unopened}

module _ (a : Account) (octets : ℕ) where
  -- 25 is met before 26 is looked at; else 26 is met exactly where the total passes the bound.
  pub off : account_refusal a ≡ 25 → add_refusal a octets ≡ 25
  unfolding add_refusal
  off e = rw e

  pub past : account_refusal a ≡ 0 → 1000000000000 < a.octets + octets → add_refusal a octets ≡ 26
  unfolding add_refusal
  past e h = rw (e, lt-ltb 1000000000000 (a.octets + octets) h)

  pub within : account_refusal a ≡ 0 → a.octets + octets ≤ 1000000000000 → add_refusal a octets ≡ 0
  unfolding add_refusal
  within e h = rw (e, le-ltb 1000000000000 (a.octets + octets) h)

  total : (k : ℕ) → add_refusal a octets ≡ k → account_refusal a ≡ 0
      → ((k ≡ 0) × (a.octets + octets ≤ 1000000000000)) ⊎ ((k ≡ 26) × (1000000000000 < a.octets + octets))
  total k e h = go (dec_lt 1000000000000 (a.octets + octets))
    where
      go : Dec (1000000000000 < a.octets + octets)
          → ((k ≡ 0) × (a.octets + octets ≤ 1000000000000)) ⊎ ((k ≡ 26) × (1000000000000 < a.octets + octets))
      go (yes lt) = inr (sym e ∙ past h lt, lt)
      go (no not-past) = let le : a.octets + octets ≤ 1000000000000 = omega arith in inl (sym e ∙ within h le, le)

  pub never25 : account_refusal a ≡ 0 → add_refusal a octets ≡ 25 → ⊥
  never25 h e = ⊎_elim (λ f. omega (arith, f.0)) (λ f. omega (arith, f.0)) (total 25 e h)

  -- What is not refused is an account in order and a total within the bound.
  pub accepted : add_refusal a octets ≡ 0 → (a.price ≤ 1000000) × (a.octets + octets ≤ 1000000000000)
  accepted e =
      ⊎_elim
      (λ h. ((in_order a h).price, ⊎_elim (λ f. f.1) (λ f. absurd (omega (arith, f.0))) (total 0 e h)))
      (λ h. absurd (omega (arith, off h)))
      (one_or_none a)

  pub nothing : (add_refusal a octets ≡ 0 → ⊥) → (add_of a octets).account ≡ a
  unfolding add_of
  nothing h = rw (ne_eqb (add_refusal a octets) 0 h)

  pub added : add_refusal a octets ≡ 0 → (add_of a octets).account ≡ account_at a.price (a.octets + octets)
  unfolding add_of
  added e = rw (eq-eqb (add_refusal a octets) 0 e)

  pub only_these : (add_refusal a octets ≡ 0 → ⊥) → (add_refusal a octets ≡ 25) ⊎ (add_refusal a octets ≡ 26)
  only_these not =
      ⊎_elim
      (λ h. ⊎_elim (λ f. absurd (not f.0)) (λ f. inr f.0) (total (add_refusal a octets) refl h))
      (λ h. inl (off h))
      (one_or_none a)

  pub grown : add_refusal a octets ≡ 0 → Grown a octets (add_of a octets).account
  unfolding account_at
  grown e =
      let f = accepted e in
      rw (added e) (record { accepted = some a.price (a.octets + octets) f.0; octets = refl; most = f.1; price = refl })

pub accounts : Accounts
unfolding add_of
accounts =
    record {
      accepted = λ a. (in_order a, taken a);
      refused = λ a. (λ e h. omega (arith, taken a h), not_in_order a);
      only = only;
      some = some;
      opened = opened;
      unopened = unopened;
      first = λ a o. (λ e. ⊎_elim (λ h. absurd (never25 a o h e)) (λ h. h) (one_or_none a), off a o);
      never25 = never25;
      over = λ a o h. (λ e. ⊎_elim (λ f. absurd (omega (arith, f.0))) (λ f. f.1) (total a o 26 e h), past a o h);
      only_these = only_these;
      nothing = nothing;
      grown = grown;
    }
