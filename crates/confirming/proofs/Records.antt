-- What a record says, test by test, and where what was sent k ago stands.
-- Assumes nothing.
use Prim.Native.Nat.{ℕ, ◌<◌}
use mathlib.Core.Bool.{Bool, true, false, cond, not, ◌&&◌}
use mathlib.Core.List.{List, map}
use mathlib.Core.Path.{◌≡◌, refl, sym, ◌∙◌}
use lib.Dec.{eqb}
use lib.ListN.{length, get_or, length-map}
use Rattle.std.proofs.lemmas.List.{get_or-map, ext_get_or}
use borrow.Author.Tests.{eqb-true}
use Rattle.frame.proofs.Windows.{window_position}
use Rattle.confirmation.specs.declared.Send.{Send}
use Rattle.confirmation.specs.declared.Send.TheVariants.{Nothing, Granted, Scheduled, Released}
use Rattle.confirmation.specs.Sent.{is_pdcch, is_block, blocks_of, has_cce}
use Rattle.confirming.specs.declared.Sent.{Sent}
use Rattle.confirming.specs.declared.SentIn.{SentIn}
use Rattle.confirming.specs.Coded.{k_in, records_in, send_in}
use Rattle.confirming.specs.Records.{nothing_sent, send_of}

-- What a record says, by whether it has no PDCCH and no blocks.
abbrev pub said : Sent → Bool → Bool → Send
said x p q =
    cond p (cond q Nothing (Scheduled (record { blocks = x.blocks })))
    (cond q (Released (record { cce = x.cce; dai = x.dai })) (Granted (record { blocks = x.blocks; cce = x.cce; dai = x.dai })))

module _ (x : Sent) where
  pub pdcch_of : is_pdcch (send_of x) ≡ not (eqb x.signalled 0)
  unfolding send_of
  pdcch_of = go (eqb x.signalled 0) (eqb x.blocks 0)
    where
      go : (p q : Bool) → is_pdcch (said x p q) ≡ not p
      go true true = refl
      go true false = refl
      go false true = refl
      go false false = refl

  pub block_of : is_block (send_of x) ≡ (eqb x.signalled 0 && not (eqb x.blocks 0))
  unfolding send_of
  block_of = go (eqb x.signalled 0) (eqb x.blocks 0)
    where
      go : (p q : Bool) → is_block (said x p q) ≡ (p && not q)
      go true true = refl
      go true false = refl
      go false true = refl
      go false false = refl

  pub cce_of : (c : ℕ) → has_cce (send_of x) c ≡ (not (eqb x.signalled 0) && eqb x.cce.0 c)
  unfolding send_of
  cce_of c = go (eqb x.signalled 0) (eqb x.blocks 0)
    where
      go : (p q : Bool) → has_cce (said x p q) c ≡ (not p && eqb x.cce.0 c)
      go true true = refl
      go true false = refl
      go false true = refl
      go false false = refl

  pub blocks_of_holds : blocks_of (send_of x) ≡ x.blocks
  unfolding send_of
  blocks_of_holds = go (eqb x.signalled 0) (eqb x.blocks 0) refl
    where
      go : (p q : Bool) → eqb x.blocks 0 ≡ q → blocks_of (said x p q) ≡ x.blocks
      go true true e = sym (eqb-true x.blocks 0 e)
      go true false e = refl
      go false true e = sym (eqb-true x.blocks 0 e)
      go false false e = refl

-- What was sent in a window, as its records say it.
module _ (w : SentIn) where
  -- at position m stands what was sent k_m ago
  pub sent_at : (m : ℕ) → m < length (k_in w) → send_in w (get_or (k_in w) m 0) ≡ send_of (get_or (records_in w) m nothing_sent)
  sent_at m h = rw (window_position w.settings.config w.n m h)

  -- position by position, in the records as the code has them
  pub sent_list : (xs : List Sent) → xs ≡ records_in w → length xs ≡ length (k_in w) → map (send_in w) (k_in w) ≡ map send_of xs
  sent_list xs is size =
      ext_get_or (send_of nothing_sent) (map (send_in w) (k_in w)) (map send_of xs)
      (length-map (k_in w) (send_in w) ∙ sym size ∙ sym (length-map xs send_of))
      (λ m h. let inside : m < length (k_in w) = rw length-map at h in
      get_or-map (send_in w) (k_in w) m 0 (send_of nothing_sent) inside
      ∙ sent_at m inside
      ∙ rw (← is) (sym (get_or-map send_of xs m nothing_sent (send_of nothing_sent) (rw size inside))))
