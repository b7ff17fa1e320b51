-- Any list of credits from a new account: each call leaves an account in order with the octets that it answers, so all of them do.
-- Assumes nothing.
use Prim.Native.Nat.{ℕ, ◌≤◌}
use mathlib.Core.Bool.{cond}
use mathlib.Core.List.{List, [], ◌∷◌}
use mathlib.Core.Path.{◌≡◌, refl, sym, ◌∙◌}
use native.Mathlib.Decide.{ℕ_discrete}
use native.Mathlib.Nat.{zero-add, add-zero}
use native.Mathlib.Omega.{arith}
use lib.Dec.{eqb, lit≤}
use borrow.Author.Tests.{eq-eqb, ne_eqb}
use Rattle.account.specs.declared.Account.{Account}
use Rattle.account.specs.Account.{account_refusal, open_of, add_of}
use Rattle.account.specs.Credits.{Credited, Booked, after, credited_in, OverAnyList}
use Rattle.account.specs.Laws.{Grown}
use Rattle.account.proofs.Totals.{accounts}

-- The two ways to answer a call: refused, with the account as it was; or with the octets added, unless that is refused.
pub refused_booked : (a : Account) (r : Credited) → (r.refusal ≡ 0 → ⊥) → r.account ≡ a → Booked a r
refused_booked a r h same = record { leaves = λ _. same; adds = λ e. absurd (h e) }

pub added_booked : (a : Account) (octets : ℕ) (r : Credited)
    → r.refusal ≡ (add_of a octets).refusal → r.account ≡ (add_of a octets).account → (r.refusal ≡ 0 → r.octets ≡ octets)
    → Booked a r
added_booked a octets r refusal account counted =
    record {
      leaves = λ h. account ∙ accounts.nothing a octets λ e. h (refusal ∙ e);
      adds = λ e. rw (counted e) (sym refusal ∙ e, account);
    }

-- No octets are added to an account that stays as it is.
still : (a : Account) → account_refusal a ≡ 0 → a.octets ≤ 1000000000000 → Grown a 0 a
still a h le = record { accepted = h; octets = sym (add-zero a.octets); most = le; price = refl }

module _ {C : Type 0} (credit : C → Account → Credited) (booked : (c : C) (a : Account) → Booked a (credit c a)) where
  one : (c : C) (a : Account) → account_refusal a ≡ 0 → a.octets ≤ 1000000000000
      → Grown a (cond (eqb (credit c a).refusal 0) (credit c a).octets 0) (credit c a).account
  one c a h le = go (ℕ_discrete (credit c a).refusal 0)
    where
      go : Dec ((credit c a).refusal ≡ 0) → Grown a (cond (eqb (credit c a).refusal 0) (credit c a).octets 0) (credit c a).account
      go (yes e) =
          let f = (booked c a).adds e in
          rw (eq-eqb (credit c a).refusal 0 e, f.1) (accounts.grown a (credit c a).octets f.0)
      go (no n) = rw (ne_eqb (credit c a).refusal 0 n, (booked c a).leaves n) (still a h le)

  all : (cs : List C) (a : Account) → account_refusal a ≡ 0 → a.octets ≤ 1000000000000
      → Grown a (credited_in credit a cs) (after credit a cs)
  all [] a h le = still a h le
  all (c ∷ cs) a h le =
      let f = one c a h le in
      let g = all cs (credit c a).account f.accepted f.most in
      record { accepted = g.accepted; octets = omega (arith, f.octets, g.octets); most = g.most; price = g.price ∙ f.price }

pub over_any_list : OverAnyList
unfolding open_of
over_any_list C credit booked price h cs =
    let g = all credit booked cs (open_of price).account (accounts.opened price h).1 (lit≤ tt) in
    let order = (accounts.accepted (after credit (open_of price).account cs)).0 g.accepted in
    record {
      equation = rw g.price at order.equation;
      carry = order.carry;
      octets = g.octets ∙ zero-add _;
      most = g.most;
      fixed = g.price;
    }
