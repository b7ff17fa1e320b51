-- The order of the refusals: of a list the first comes before every other, and each number that what was sent in a downlink subframe is
-- refused with has a place of its own in it, after that of 9.
-- Assumes nothing.
use Prim.Native.Nat.{ℕ, zero, suc, ◌<◌, ◌≤◌}
use mathlib.Core.Bool.{Bool, true, false, cond}
use mathlib.Core.List.{List, [], ◌∷◌, map}
use mathlib.Core.Logic.{◌⊎◌, inl, inr, ⊎_elim}
use mathlib.Core.Path.{◌≡◌, refl, sym, ap, ◌∙◌}
use native.Mathlib.Decide.{dec_lt}
use native.Mathlib.Nat.{le_of_suc-le-suc, not-suc-le-zero}
use native.Mathlib.Omega.{arith}
use lib.Dec.{eqb, ltb, lit<, lit≤}
use lib.ListN.{length, get_or}
use borrow.Author.Tests.{eqb-true, lt-ltb, le-ltb}
use Rattle.frame.specs.declared.Settings.{Settings}
use Rattle.frame.specs.Layout.{downlink}
use Rattle.frame.specs.Settings.{or_else, outside, has_scheduled}
use Rattle.frame.specs.Special.{too_short}
use Rattle.frame.proofs.Bools.{either}
use Rattle.resource.specs.Formula.{edge}
use Rattle.heard.specs.declared.Heard.{Heard}
use Rattle.heard.specs.declared.Heard.TheVariants.{Nothing, Granted, Scheduled, Released}
use Rattle.heard.specs.Heard.{uplink_refusal, short_refusal, data_refusal, carried_refusal, pdcch_refusal, unset_refusal, heard_refusal}
use Rattle.confirming.specs.Refusals.{rank_of, earlier, lowest}

-- The number at a place of the order.
abbrev number_of : ℕ → ℕ
number_of r = get_or (0 ∷ 9 ∷ 20 ∷ 10 ∷ 11 ∷ 12 ∷ 18 ∷ []) r 0

abbrev Placed : ℕ → ℕ → Type 0
Placed k r = (r ≡ 7) ⊎ (number_of r ≡ k)

placed : (k j r rest : ℕ) → number_of r ≡ j → Placed k rest → Placed k (cond (eqb k j) r rest)
placed k j r rest is more = go (eqb k j) refl
  where
    go : (b : Bool) → eqb k j ≡ b → Placed k (cond b r rest)
    go true e = inr (is ∙ sym (eqb-true k j e))
    go false e = more

rank_placed : (k : ℕ) → Placed k (rank_of k)
unfolding rank_of
rank_placed k =
    placed k 9 1 _ refl (placed k 20 2 _ refl (placed k 10 3 _ refl (placed k 11 4 _ refl (placed k 12 5 _ refl (placed k 18 6 _ refl (inl refl))))))

-- No two numbers have one place, but those that are no refusal of what was sent.
pub same_rank : (a b : ℕ) → rank_of a < 7 → rank_of a ≡ rank_of b → a ≡ b
same_rank a b h e =
    ⊎_elim (λ p. absurd (omega arith))
    (λ p. ⊎_elim (λ q. absurd (omega arith)) (λ q. sym p ∙ ap number_of e ∙ q) (rank_placed b))
    (rank_placed a)

earlier_is : (a b : ℕ) → ((earlier a b ≡ b) × (rank_of b < rank_of a)) ⊎ ((earlier a b ≡ a) × (rank_of a ≤ rank_of b))
unfolding earlier
earlier_is a b = go (dec_lt (rank_of b) (rank_of a))
  where
    go : Dec (rank_of b < rank_of a) → ((earlier a b ≡ b) × (rank_of b < rank_of a)) ⊎ ((earlier a b ≡ a) × (rank_of a ≤ rank_of b))
    go (yes h) = inl (rw (lt-ltb (rank_of b) (rank_of a) h), h)
    go (no h) = let le : rank_of a ≤ rank_of b = omega arith in inr (rw (le-ltb (rank_of b) (rank_of a) le), le)

pub earlier_less : (a b : ℕ) → rank_of b < rank_of a → earlier a b ≡ b
unfolding earlier
earlier_less a b h = rw (lt-ltb (rank_of b) (rank_of a) h) refl

pub earlier_more : (a b : ℕ) → rank_of a ≤ rank_of b → earlier a b ≡ a
unfolding earlier
earlier_more a b h = rw (le-ltb (rank_of b) (rank_of a) h) refl

rank_most : (k : ℕ) → rank_of k ≤ 7
unfolding rank_of
rank_most k =
    low (eqb k 9) 1 _ (lit≤ tt) (low (eqb k 20) 2 _ (lit≤ tt) (low (eqb k 10) 3 _ (lit≤ tt) (low (eqb k 11) 4 _ (lit≤ tt) (low (eqb k 12) 5 _ (lit≤ tt) (low (eqb k 18) 6 _ (lit≤ tt) (lit≤ tt))))))
  where
    low : (b : Bool) (r rest : ℕ) → r ≤ 7 → rest ≤ 7 → cond b r rest ≤ 7
    low true r rest h more = h
    low false r rest h more = more

last_rank : rank_of 0 ≡ 7
unfolding rank_of
last_rank = refl

-- No refusal comes last.
pub earlier_none : (a : ℕ) → earlier a 0 ≡ a
earlier_none a = earlier_more a 0 (rw last_rank (rank_most a))

pub earlier_assoc : (a b c : ℕ) → earlier (earlier a b) c ≡ earlier a (earlier b c)
earlier_assoc a b c =
    ⊎_elim
    (λ p. ap (λ (x : ℕ). earlier x c) p.0 ∙ sym (earlier_less a (earlier b c) (omega (arith, p.1, least))))
    (λ p. ap (λ (x : ℕ). earlier x c) p.0
    ∙ ⊎_elim
    (λ q. sym (ap (earlier a) q.0))
    (λ q. earlier_more a c (omega (arith, p.1, q.1)) ∙ sym (ap (earlier a) q.0 ∙ p.0))
    (earlier_is b c))
    (earlier_is a b)
  where
    least : rank_of (earlier b c) ≤ rank_of b
    least = ⊎_elim (λ q. rw q.0 (omega (arith, q.1))) (λ q. rw q.0 (omega arith)) (earlier_is b c)

module _ (f : ℕ → ℕ) where
  -- The first refusal comes before every other, or with it.
  pub lowest_first : (ks : List ℕ) (m : ℕ) → m < length ks → rank_of (lowest (map f ks)) ≤ rank_of (f (get_or ks m 0))
  unfolding lowest
  lowest_first [] m h = absurd (not-suc-le-zero h)
  lowest_first (k ∷ ks) zero h =
      ⊎_elim (λ p. rw p.0 (omega arith)) (λ p. rw p.0 (omega arith)) (earlier_is (f k) (lowest (map f ks)))
  lowest_first (k ∷ ks) (suc m) h =
      let rest = lowest_first ks m (le_of_suc-le-suc h) in
      ⊎_elim (λ p. rw p.0 rest) (λ p. rw p.0 (omega arith)) (earlier_is (f k) (lowest (map f ks)))

  -- It is one of them.
  pub lowest_met : (ks : List ℕ) → (lowest (map f ks) ≡ 0 → ⊥) → (m : ℕ) × (m < length ks) × (f (get_or ks m 0) ≡ lowest (map f ks))
  unfolding lowest
  lowest_met [] h = absurd (h refl)
  lowest_met (k ∷ ks) h =
      ⊎_elim
      (λ p. let r = lowest_met ks (λ z. h (p.0 ∙ z)) in (suc r.0, omega (arith, r.1), r.2 ∙ sym p.0))
      (λ p. (0, omega arith, sym p.0))
      (earlier_is (f k) (lowest (map f ks)))

-- A number that what was sent in a downlink subframe is refused with, or none.
abbrev pub Ranked : ℕ → Type 0
Ranked k = (k ≡ 0) ⊎ ((1 < rank_of k) × (rank_of k < 7))

-- What holds of two refusals holds of the one that is answered.
pub answered_of_holds : (P : ℕ → Type 0) {k next : ℕ} → P k → P next → P (or_else k next)
answered_of_holds P {k = zero} p q = q
answered_of_holds P {k = suc k} p q = p

module _ (s : Settings) (d : ℕ) (down : downlink s.config d ≡ true) where
  or_none : (b : Bool) (k : ℕ) → Ranked k → Ranked (cond b k 0)
  or_none b k r = either Ranked b k 0 r (inl refl)

  data_ranked : Ranked (data_refusal s d)
  unfolding data_refusal uplink_refusal short_refusal rank_of
  data_ranked = rw down (or_none (too_short s d) 20 (inr (lit< tt, lit< tt)))

  carried_ranked : (blocks : ℕ) → Ranked (carried_refusal s blocks)
  unfolding carried_refusal rank_of
  carried_ranked blocks = or_none (outside 1 s.blocks blocks) 10 (inr (lit< tt, lit< tt))

  pdcch_ranked : (cce dai : ℕ) → Ranked (pdcch_refusal s cce dai)
  unfolding pdcch_refusal rank_of
  pdcch_ranked cce dai =
      either Ranked (ltb cce (edge s.nrb 4)) _ 11 (or_none (outside 1 4 dai) 12 (inr (lit< tt, lit< tt))) (inr (lit< tt, lit< tt))

  unset_ranked : Ranked (unset_refusal s)
  unfolding unset_refusal rank_of
  unset_ranked = either Ranked (has_scheduled s) 0 18 (inl refl) (inr (lit< tt, lit< tt))

  pub heard_ranked : (x : Heard) → Ranked (heard_refusal s d x)
  unfolding heard_refusal uplink_refusal
  heard_ranked Nothing = inl refl
  heard_ranked (Granted g) =
      answered_of_holds Ranked data_ranked (answered_of_holds Ranked (carried_ranked g.blocks) (pdcch_ranked g.cce.0 g.dai))
  heard_ranked (Scheduled b) = answered_of_holds Ranked data_ranked (answered_of_holds Ranked (carried_ranked b.blocks) unset_ranked)
  heard_ranked (Released p) = rw down (pdcch_ranked p.cce.0 p.dai)
