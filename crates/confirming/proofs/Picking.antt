-- The least by rank of what an iterator yields, as `min_by_key` picks it, is the refusal that comes first.
-- Assumes nothing.
use Rattle.std.proofs.Common.{Option, Some, None, subst}
use Prim.Native.Nat.{ℕ, ◌<◌}
use mathlib.Core.List.{List, [], ◌∷◌, map}
use mathlib.Core.Path.{◌≡◌, refl, sym, ap, ◌∙◌}
use native.Mathlib.Decide.{dec_lt}
use native.Mathlib.Omega.{arith}
use denote.Param.Members.{Mut}
use denote.Ref.{Bor}
use Rattle.std.specs.declared.cmp.Ordering.{Ordering}
use Rattle.std.specs.declared.cmp.Ordering.TheVariants.{Less, Equal, Greater}
use Rattle.std.specs.Iterator.{KeyTurn, PicksMinByKey}
use Rattle.std.specs.Cmp.{nat_cmp_is}
use Rattle.std.specs.Fn.{CalledAt}
use Rattle.std.specs.List.{FoldsTo}
use Rattle.std.specs.Option.{unwrap_or}
use Rattle.std.specs.Ordering.{nat_cmp, min_by_ordering}
use Rattle.std.proofs.lemmas.Iterator.{YieldsList, items_from_drains}
use Rattle.confirming.specs.Refusals.{rank_of, earlier, lowest}
use Rattle.confirming.proofs.Ranks.{earlier_less, earlier_more, earlier_none, earlier_assoc}

module _ {A : Type 0} (v : A → ℕ) where
  -- The first of a list comes before the others, or the first of these does.
  lowest_step : (x : A) (xs : List A) → earlier (v x) (lowest (map v xs)) ≡ lowest (map v (x ∷ xs))
  unfolding lowest
  lowest_step x xs = refl

  -- The lesser by rank, as the comparison of two ranks picks it.
  picked_key : (o : Ordering) (a b : A) → min_by_ordering o (rank_of (v a)) (rank_of (v b)) ≡ rank_of (v (min_by_ordering o a b))
  picked_key Less a b = refl
  picked_key Equal a b = refl
  picked_key Greater a b = refl

  picked : (o : Ordering) (a b : A) → nat_cmp (rank_of (v a)) (rank_of (v b)) ≡ o → v (min_by_ordering o a b) ≡ earlier (v a) (v b)
  picked o a b e = go (dec_lt (rank_of (v b)) (rank_of (v a))) (dec_lt (rank_of (v a)) (rank_of (v b)))
    where
      met : (p : Ordering) → p ≡ nat_cmp (rank_of (v a)) (rank_of (v b)) → v (min_by_ordering p a b) ≡ earlier (v a) (v b) → v (min_by_ordering o a b) ≡ earlier (v a) (v b)
      met p is k = rw (← e, ← is) k

      go : Dec (rank_of (v b) < rank_of (v a)) → Dec (rank_of (v a) < rank_of (v b)) → v (min_by_ordering o a b) ≡ earlier (v a) (v b)
      go (yes h) less = met Greater (nat_cmp_is (rank_of (v a)) (rank_of (v b)) Greater h) (sym (earlier_less (v a) (v b) h))
      go (no h) (yes l) = met Less (nat_cmp_is (rank_of (v a)) (rank_of (v b)) Less l) (sym (earlier_more (v a) (v b) (omega arith)))
      go (no h) (no l) = met Equal (nat_cmp_is (rank_of (v a)) (rank_of (v b)) Equal (omega arith)) (sym (earlier_more (v a) (v b) (omega arith)))

module _ {F A : Type 0} (g : Mut F (Bor A × Unit {0}) ℕ) (f : F) (v : A → ℕ)
    (ranked : (x : A) (k : ℕ) (q : F) → CalledAt g f x k q → (q ≡ f) × (k ≡ rank_of (v x))) where
  abbrev State : Type 0
  State = (F × ℕ) × A

  turns : (xs : List A) (p q : State) → p.0.0 ≡ f → p.0.1 ≡ rank_of (v p.1)
      → FoldsTo {P = State} (KeyTurn min_by_ordering min_by_ordering g nat_cmp) p xs q → v q.1 ≡ earlier (v p.1) (lowest (map v xs))
  unfolding lowest
  turns [] p q same key e = ap (λ (r : State). v r.1) (sym e) ∙ sym (earlier_none (v p.1))
  turns (x ∷ xs) p q same key e =
      let j : State = e.0 in
      let t = e.1 in
      let called : CalledAt g f x t.0 j.0.0 = subst (λ (h : F). CalledAt g h x t.0 j.0.0) same t.2 in
      let r = ranked x t.0 j.0.0 called in
      let compared : nat_cmp (rank_of (v p.1)) (rank_of (v x)) ≡ t.1 = rw (← key, ← r.1) t.3 in
      let item : v j.1 ≡ earlier (v p.1) (v x) = ap v t.5 ∙ picked v t.1 p.1 x compared in
      let next : j.0.1 ≡ rank_of (v j.1) = t.4 ∙ rw (key, r.1) (picked_key v t.1 p.1 x) ∙ ap (λ (y : A). rank_of (v y)) (sym t.5) in
      turns xs j q r.0 next e.2 ∙ ap (λ (y : ℕ). earlier y (lowest (map v xs))) item ∙ earlier_assoc (v p.1) (v x) (lowest (map v xs))

  -- Of all that is yielded; `none`, which is no refusal, where nothing is.
  pub lowest_picked : {S : Type 0} {steps : S → Option A → S → Type 0} {s : S} {all : List ℕ} → YieldsList steps v s all → (r : Option A) (none : A) → v none ≡ 0
      → PicksMinByKey steps g nat_cmp s f r → v (unwrap_or r none) ≡ lowest all
  unfolding lowest
  lowest_picked road None none zero d = zero ∙ ap lowest (items_from_drains [] (d.1.0, d.1.1, λ w. (d.0, d.1.2)) road)
  lowest_picked road (Some y) none zero d =
      let r = ranked d.0 d.2 d.3 d.6 in
      turns d.1 ((d.3, d.2), d.0) (d.4, y) r.0 r.1 d.7 ∙ lowest_step v d.0 d.1 ∙ ap lowest (items_from_drains (d.0 ∷ d.1) (d.5.1.0, d.5.1.1, λ w. (d.5.0, d.5.1.2)) road)
