-- What a reading names, looked up among what was sent.
-- Assumes nothing.
use Rattle.std.proofs.Common.{Option, Some, None}
use Prim.Native.Nat.{ℕ, ◌<◌, ◌≤◌}
use mathlib.Core.Bool.{true, false, cond}
use mathlib.Core.Path.{◌≡◌, refl, sym, ap, ◌∙◌}
use native.Mathlib.Decide.{dec_le}
use native.Mathlib.Omega.{arith}
use denote.Ref.{Bor}
use lib.Dec.{leb}
use lib.ListN.{length, get_or}
use borrow.Author.Tests.{lt-ltb, le-ltb}
use Rattle.std.specs.List.{slice_get}
use Rattle.std.specs.Option.{option_map}
use Rattle.std.proofs.lemmas.Option.{slice_get-get_or}
use Rattle.frame.specs.Order.{times_of}
use Rattle.resource.specs.declared.Cce.{Cce}
use Rattle.station.specs.declared.Place.{Place}
use Rattle.station.specs.declared.Place.TheVariants as place
use Rattle.station.specs.Readings.{place_position}
use Rattle.confirmation.specs.Confirmed.{sent_up_to}
use Rattle.confirmation.specs.Sent.{is_block, has_cce}
use Rattle.confirming.specs.declared.Sent.{Sent}
use Rattle.confirming.specs.declared.SentIn.{SentIn}
use Rattle.confirming.specs.declared.blocks.Named.TheVariants as named
use Rattle.confirming.specs.Coded.{k_in, records_in, send_in, named_at, named_by}
use Rattle.confirming.specs.Records.{nothing_sent, send_of}
use Rattle.confirming.proofs.Pairs.{pairs_in, pairs_length, pair_inside, pair_k, pair_sent}

-- No such position was sent in.
pub named_outside : (w : SentIn) (place : Place) → length (k_in w) ≤ place_position place → None ≡ named_by (k_in w) (send_in w) place
unfolding named_by
named_outside w (place.Pdcch m c) h = rw (le-ltb m (length (k_in w)) h)
named_outside w (place.Block m) h = rw (le-ltb m (length (k_in w)) h)

-- What the code looks up at a position.
module _ (w : SentIn) (size : length (records_in w) ≡ length (k_in w)) (m : ℕ) (r : Option (Bor ℕ × Bor Sent))
    (looked : option_map (λ (p : Bor ℕ × Bor Sent). (p.0.now, p.1.now)) r ≡ slice_get (pairs_in w) m) where
  pub found : (k : Bor ℕ) (x : Bor Sent) → r ≡ Some (k, x) → slice_get (pairs_in w) m ≡ Some (k.now, x.now)
  found k x is = sym looked ∙ rw is refl

  pub nowhere : (p : Place) → r ≡ None → m ≡ place_position p → None ≡ named_by (k_in w) (send_in w) p
  nowhere p is at = named_outside w p (rw at at (go (dec_le (length (k_in w)) m)))
    where
      none : slice_get (pairs_in w) m ≡ None
      none = sym looked ∙ rw is refl

      go : Dec (length (k_in w) ≤ m) → length (k_in w) ≤ m
      go (yes h) = h
      go (no h) =
          let there = slice_get-get_or (pairs_in w) m (0, nothing_sent) (rw (pairs_length w size) (omega arith)) in
          absurd (cc)

-- At position m of the window, which the place names, the code finds k and the record x.
module _ (w : SentIn) (size : length (records_in w) ≡ length (k_in w)) (p : Place) (m : ℕ) (at : m ≡ place_position p)
    (k : ℕ) (x : Sent) (there : slice_get (pairs_in w) m ≡ Some (k, x)) where
  within : m < length (k_in w)
  within = pair_inside w size m k x there

  here : send_in w (get_or (k_in w) m 0) ≡ send_of x
  here = pair_sent w size m k x there

  -- What the place names, if x is that.
  module _ (i : ℕ) (c : Cce) (e : p ≡ place.Pdcch i c) where
    sent_as : named_by (k_in w) (send_in w) p ≡ cond (has_cce (send_of x) c.0) (Some (named_at (k_in w) (send_in w) (place.Pdcch m c))) None
    unfolding named_by
    sent_as = let same : m ≡ i = at ∙ ap place_position e in rw (e, ← same, lt-ltb m (length (k_in w)) within, here)

    pub named_pdcch : (count : ℕ) → has_cce (send_of x) c.0 ≡ true → count ≡ sent_up_to (send_in w) k (times_of (k_in w))
        → Some (named.Pdcch k (leb count 4)) ≡ named_by (k_in w) (send_in w) p
    named_pdcch count h counted = sym (sent_as ∙ rw (h, counted, pair_k w size m k x there))

    pub no_pdcch : has_cce (send_of x) c.0 ≡ false → None ≡ named_by (k_in w) (send_in w) p
    no_pdcch h = sym (sent_as ∙ rw h)

  module _ (i : ℕ) (e : p ≡ place.Block i) where
    block_as : named_by (k_in w) (send_in w) p ≡ cond (is_block (send_of x)) (Some (named.Block (get_or (k_in w) m 0))) None
    unfolding named_by
    block_as = let same : m ≡ i = at ∙ ap place_position e in rw (e, ← same, lt-ltb m (length (k_in w)) within, here)

    pub named_block : is_block (send_of x) ≡ true → Some (named.Block k) ≡ named_by (k_in w) (send_in w) p
    named_block h = sym (block_as ∙ rw (h, pair_k w size m k x there))

    pub no_block : is_block (send_of x) ≡ false → None ≡ named_by (k_in w) (send_in w) p
    no_block h = sym (block_as ∙ rw h)
