-- When two claims clash: exactly when a resource of one is a resource of the other, over both ports. With one port those are equal claims,
-- with two they are claims whose first resources are at most 1 apart.
-- Assumes nothing.
use Rattle.std.proofs.Common.{Result, Ok, Err}
use Rattle.std.proofs.lemmas.Bool.{and_parts, or_cases}
use Rattle.resource.specs.declared.Resource.{Resource}
use Prim.Native.Nat.{ℕ, ◌+◌, ◌<◌, ◌≤◌}
use mathlib.Core.Bool.{true, false, not, ◌&&◌, or-true, or-false, not-not, false≢true}
use mathlib.Core.Logic.{inl, inr, ⊎_elim, ◌↔◌}
use mathlib.Core.Path.{◌≡◌, refl, sym, ap, subst, ◌∙◌}
use native.Mathlib.Decide.{ℕ_discrete}
use native.Mathlib.Omega.{arith}
use lib.Dec.{ltb, eqb}
use borrow.Author.Tests.{ltb-true, eqb-true, eq-eqb, ne_eqb}
use Rattle.frame.specs.declared.Settings.{Settings}
use Rattle.frame.specs.Settings.{has_second_port, window_refusal}
use Rattle.frame.proofs.Ports.{second_of_two, two_have_second}
use Rattle.resource.specs.Calls.{size_of}
use Rattle.resource.specs.Formula.{edge}
use Rattle.resource.proofs.OneToOne.{calls_one_to_one}
use Rattle.claims.specs.Claims.{claim_position, claim_cce, claimed, is_bad, takes, meets, clashes}
use Rattle.claims.specs.Clean.{HasOnPort}
use Rattle.claims.specs.Marking.{Has}

-- A claim that is not bad has its position below M and its CCE below N_4.
pub in_range : (s : Settings) (n claim : ℕ) → is_bad s n claim ≡ false → (claim_position claim < size_of s n) × (claim_cce claim < edge s.nrb 4)
unfolding is_bad
in_range s n claim e =
    let f = and_parts (ltb (claim_position claim) (size_of s n)) (ltb (claim_cce claim) (edge s.nrb 4)) (sym (not-not _) ∙ ap not e) in
    (ltb-true _ _ f.0, ltb-true _ _ f.1)

module _ (s : Settings) (n : ℕ) (accepted : window_refusal s n ≡ 0) where
  pub has_resource : (a : ℕ) → is_bad s n a ≡ false → (r : ℕ) × Has s n a r
  has_resource a e =
      let f = in_range s n a e in
      let g = (calls_one_to_one s n accepted).into (claim_position a) (claim_cce a) f.0 f.1 in
      (g.0, g.3.there)

  same_claim : (a b r : ℕ) → Has s n a r → Has s n b r → a ≡ b
  same_claim a b r p q =
      let f = (calls_one_to_one s n accepted).once (claim_position a) (claim_cce a) (claim_position b) (claim_cce b) r p q in
      omega (arith, f.0, f.1)

module _ (s : Settings) (n : ℕ) where
  -- A claim takes a resource exactly if it has it on one of the ports.
  pub takes_to : (claim r : ℕ) → takes s (claimed s n claim) r ≡ true → HasOnPort s n claim r
  takes_to claim r h = go (claimed s n claim) refl h
    where
      go : (a : Result Resource ℕ) → claimed s n claim ≡ a → takes s a r ≡ true → HasOnPort s n claim r
      go (Ok x) e h =
          ⊎_elim
          (λ same. inl (subst (λ (q : ℕ). claimed s n claim ≡ Ok (record { 0 = q })) (eqb-true x.0 r same) e))
          (λ next. let f = and_parts (has_second_port s) (eqb (x.0 + 1) r) next in inr (second_of_two s f.0, x.0, e, sym (eqb-true (x.0 + 1) r f.1)))
          (or_cases (eqb x.0 r) (has_second_port s && eqb (x.0 + 1) r) h)
      go (Err k) e h = absurd (false≢true h)

  pub takes_from : (claim r : ℕ) → HasOnPort s n claim r → takes s (claimed s n claim) r ≡ true
  takes_from claim r (inl has) = rw (has, eq-eqb r r refl)
  takes_from claim r (inr on) =
      rw (on.2, two_have_second s on.0, eq-eqb (on.1 + 1) r (sym on.3)) (or-true (eqb on.1 r))

  -- Two claims clash exactly if they share a resource.
  pub share_exactly : (a b : ℕ) → (clashes s n a b ≡ true) ↔ ((r : ℕ) × HasOnPort s n a r × HasOnPort s n b r)
  unfolding clashes
  share_exactly a b = (λ e. to (claimed s n b) refl e, from)
    where
      to : (y : Result Resource ℕ) → claimed s n b ≡ y → meets s (claimed s n a) y ≡ true → (r : ℕ) × HasOnPort s n a r × HasOnPort s n b r
      to (Ok y) e h =
          ⊎_elim
          (λ first. (y.0, takes_to a y.0 first, inl e))
          (λ next.
          let f = and_parts (has_second_port s) (takes s (claimed s n a) (y.0 + 1)) next in
          (y.0 + 1, takes_to a (y.0 + 1) f.1, inr (second_of_two s f.0, y.0, e, refl)))
          (or_cases (takes s (claimed s n a) y.0) (has_second_port s && takes s (claimed s n a) (y.0 + 1)) h)
      to (Err k) e h = absurd (false≢true h)

      on : (r : ℕ) → HasOnPort s n a r → HasOnPort s n b r → meets s (claimed s n a) (claimed s n b) ≡ true
      on r has (inl there) = rw (there, takes_from a r has)
      on r has (inr there) =
          rw (there.2, two_have_second s there.0, sym (ap (takes s (claimed s n a)) there.3) ∙ takes_from a r has)
          (or-true (takes s (claimed s n a) there.1))

      from : (r : ℕ) × HasOnPort s n a r × HasOnPort s n b r → meets s (claimed s n a) (claimed s n b) ≡ true
      from f = on f.0 f.1 f.2

  -- The resource call gives a claim one resource.
  pub one_resource : (a p q : ℕ) → Has s n a p → Has s n a q → p ≡ q
  one_resource a p q ha hb = ap number (sym ha ∙ hb)
    where
      number : Result Resource ℕ → ℕ
      number (Ok x) = x.0
      number (Err k) = 0

  -- With one port, and where neither is bad: exactly if they are equal.
  pub equal_exactly : has_second_port s ≡ false → window_refusal s n ≡ 0 → (a b : ℕ) → is_bad s n a ≡ false → is_bad s n b ≡ false → clashes s n a b ≡ eqb a b
  unfolding clashes
  equal_exactly one accepted a b ga gb =
      let p = has_resource s n accepted a ga in
      let q = has_resource s n accepted b gb in
      rw (p.1, q.1, one, or-false (eqb p.0 q.0), or-false (eqb p.0 q.0)) (go (ℕ_discrete a b) p.0 q.0 p.1 q.1)
    where
      go : Dec (a ≡ b) → (p q : ℕ) → Has s n a p → Has s n b q → eqb p q ≡ eqb a b
      go (yes same) p q ha hb = rw (eq-eqb a b same) (eq-eqb p q (one_resource b p q (rw same at ha) hb))
      go (no other) p q ha hb = rw (ne_eqb a b other) (ne_eqb p q λ e. other (same_claim s n accepted a b q (rw e at ha) hb))

  -- With two ports: exactly if their first resources are at most 1 apart.
  pub apart_exactly : s.ports ≡ 2 → (a b p q : ℕ) → Has s n a p → Has s n b q → (clashes s n a b ≡ true) ↔ ((p ≤ q + 1) × (q ≤ p + 1))
  apart_exactly two a b p q ha hb = (λ e. let f = (share_exactly a b).0 e in near f.0 f.1 f.2, λ h. (share_exactly a b).1 (shared h))
    where
      -- a resource on a port is the first one or the next
      port : (c x r : ℕ) → Has s n c x → HasOnPort s n c r → (x ≤ r) × (r ≤ x + 1)
      port c x r has (inl on) = let same = one_resource c x r has on in (omega arith, omega arith)
      port c x r has (inr on) = let same = one_resource c x on.1 has on.2 in (omega (arith, on.3), omega (arith, on.3))

      near : (r : ℕ) → HasOnPort s n a r → HasOnPort s n b r → (p ≤ q + 1) × (q ≤ p + 1)
      near r on there =
          let f = port a p r ha on in
          let g = port b q r hb there in
          (omega (arith, f.0, f.1, g.0, g.1), omega (arith, f.0, f.1, g.0, g.1))

      shared : (p ≤ q + 1) × (q ≤ p + 1) → (r : ℕ) × HasOnPort s n a r × HasOnPort s n b r
      shared h = go (ℕ_discrete p q) (ℕ_discrete p (q + 1))
        where
          go : Dec (p ≡ q) → Dec (p ≡ q + 1) → (r : ℕ) × HasOnPort s n a r × HasOnPort s n b r
          go (yes same) above = (q, inl (rw same at ha), inl hb)
          go (no other) (yes above) = (p, inl ha, inr (two, q, hb, above))
          go (no other) (no less) = (q, inr (two, p, ha, omega (arith, other, less, h.0, h.1)), inl hb)
