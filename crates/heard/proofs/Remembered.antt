-- What a remembered subframe heard, kind by kind.
-- Assumes nothing.
use Prim.Native.Nat.{ℕ, ◌/◌, ◌%◌}
use mathlib.Core.Bool.{Bool, true, false, cond, not, ◌&&◌, ◌||◌}
use mathlib.Core.Path.{◌≡◌, refl, ap}
use native.Mathlib.Decide.{ℕ_discrete}
use lib.Dec.{eqb}
use borrow.Author.Tests.{ne_eqb}
use Rattle.resource.specs.declared.Cce.{Cce}
use Rattle.heard.specs.declared.Heard.TheVariants.{Nothing, Granted, Scheduled, Released}
use Rattle.heard.specs.declared.Slot.{Slot}
use Rattle.heard.specs.Heard.{is_block, is_data, view_of}
use Rattle.heard.specs.Memory.{blocks_in, first_in, second_in, heard_in, view_in, sees_pdcch, sees_block, first_failed, second_failed}

-- A CCE with this number.
pub cce_is : (cce : Cce) (number : ℕ) → cce.0 ≡ number → cce ≡ record { 0 = number }
cce_is cce number e = ap (λ (x : ℕ). record { 0 = x }) e

module _ (t : Slot) where
  pub in_granted : t.kind ≡ 1
      → heard_in t ≡ Granted (record { blocks = blocks_in t; first = first_in t; second = second_in t; cce = record { 0 = t.cce }; dai = t.dai })
  unfolding heard_in
  in_granted e = rw e

  pub in_scheduled : t.kind ≡ 2 → heard_in t ≡ Scheduled (record { blocks = blocks_in t; first = first_in t; second = second_in t })
  unfolding heard_in
  in_scheduled e = rw e

  pub in_released : t.kind ≡ 3 → heard_in t ≡ Released (record { cce = record { 0 = t.cce }; dai = t.dai })
  unfolding heard_in
  in_released e = rw e

  pub in_nothing : (t.kind ≡ 1 → ⊥) → (t.kind ≡ 2 → ⊥) → (t.kind ≡ 3 → ⊥) → heard_in t ≡ Nothing
  unfolding heard_in
  in_nothing a b c = rw (ne_eqb t.kind 1 a, ne_eqb t.kind 2 b, ne_eqb t.kind 3 c)

  -- Kind 2 is a scheduled block, and no other is.
  pub kind_block : is_block (heard_in t) ≡ eqb t.kind 2
  kind_block =
      elim (ℕ_discrete t.kind 1) [
        | yes a ↦ rw (in_granted a, a)
        | no a ↦ elim (ℕ_discrete t.kind 2) [
          | yes b ↦ rw (in_scheduled b, b)
          | no b ↦ elim (ℕ_discrete t.kind 3) [
            | yes c ↦ rw (in_released c, c)
            | no c ↦ rw (in_nothing a b c, ne_eqb t.kind 2 b)
          ]
        ]
      ]

  -- A PDCCH, a scheduled block, data and failed blocks, as the code's tests find them.
  tested :
      ((eqb t.kind 1 || eqb t.kind 3) ≡ sees_pdcch (view_in t))
      × (eqb t.kind 2 ≡ sees_block (view_in t))
      × ((eqb t.kind 1 || eqb t.kind 2) ≡ is_data (heard_in t))
      × ((is_data (heard_in t) && not (first_in t)) ≡ first_failed (view_in t))
      × ((is_data (heard_in t) && not (cond (eqb (blocks_in t) 2) (second_in t) (first_in t))) ≡ second_failed (view_in t))
  unfolding view_in view_of
  tested =
      elim (ℕ_discrete t.kind 1) [
        | yes a ↦ rw (in_granted a, a) (refl, refl, refl, refl, refl)
        | no a ↦ elim (ℕ_discrete t.kind 2) [
          | yes b ↦ rw (in_scheduled b, b) (refl, refl, refl, refl, refl)
          | no b ↦ elim (ℕ_discrete t.kind 3) [
            | yes c ↦ rw (in_released c, c) (refl, refl, refl, refl, refl)
            | no c ↦ rw (in_nothing a b c, ne_eqb t.kind 1 a, ne_eqb t.kind 2 b, ne_eqb t.kind 3 c) (refl, refl, refl, refl, refl)
          ]
        ]
      ]

  pub pdcch_seen : (eqb t.kind 1 || eqb t.kind 3) ≡ sees_pdcch (view_in t)
  pdcch_seen = tested.0

  pub block_seen : eqb t.kind 2 ≡ sees_block (view_in t)
  block_seen = tested.1

  pub data_heard : (eqb t.kind 1 || eqb t.kind 2) ≡ is_data (heard_in t)
  data_heard = tested.2

  pub first_fails : (is_data (heard_in t) && not (first_in t)) ≡ first_failed (view_in t)
  first_fails = tested.3

  pub second_fails : (x : Bool) → x ≡ cond (eqb (t.results / 4 % 2) 1) (second_in t) (first_in t) → (is_data (heard_in t) && not x) ≡ second_failed (view_in t)
  second_fails x e = rw (e, ← two (eqb (t.results / 4 % 2) 1)) tested.4
    where
      two : (b : Bool) → eqb (cond b 2 1) 2 ≡ b
      two true = refl
      two false = refl
