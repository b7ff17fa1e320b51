-- Each k of a window beside its record, as the list that the code goes through.
-- Assumes nothing.
use Rattle.std.proofs.Common.{Some}
use Prim.Native.Nat.{ℕ, ◌+◌, ◌<◌, ◌≤◌}
use mathlib.Core.List.{List}
use mathlib.Core.Path.{◌≡◌, refl, sym, ap, ◌∙◌}
use native.Mathlib.Omega.{arith}
use lib.ListN.{length, get_or, length-map}
use Rattle.std.specs.declared.iter.Zip.{Zip}
use Rattle.std.specs.declared.slice.Iter.{Iter}
use Rattle.std.specs.declared.iter.Enumerate.{Enumerate}
use Rattle.std.specs.Iterator.Adapters.{zip_first, zip_second, enumerate_source, enumerate_count, enumerate_steps}
use Rattle.std.specs.List.{zip, slice_get, enumerate_from}
use Rattle.std.specs.Slice.Iter.{iter_rest}
use Rattle.std.proofs.iter.Yields.{fronts}
use Rattle.std.proofs.lemmas.Iterator.{YieldsList, YieldsList-from_slice, YieldsList-from_zip, zips}
use Rattle.std.proofs.lemmas.Iterator.Consumers.{YieldsList-from_enumerate}
use Rattle.std.proofs.lemmas.List.FromFn.{length-enumerate_from, get_or-enumerate_from}
use Rattle.std.proofs.lemmas.Option.{get_or_from_slice_get, slice_get_within, slice_get_read}
use Rattle.std.proofs.lemmas.Slice.Zip.{firsts-zip, get_or-zip}
use Rattle.frame.proofs.Windows.{window_size}
use Rattle.confirming.specs.declared.Sent.{Sent}
use Rattle.confirming.specs.declared.SentIn.{SentIn}
use Rattle.confirming.specs.Coded.{k_in, records_in, send_in}
use Rattle.confirming.specs.Records.{nothing_sent, send_of}
use Rattle.confirming.proofs.Records.{sent_at}

-- The pairs of a window.
abbrev pub pairs_in : SentIn → List (ℕ × Sent)
pairs_in w = zip (k_in w) (records_in w)

module _ (w : SentIn) where
  -- The code goes through them.
  pub YieldsPairs : {s : Zip (Iter ℕ) (Iter Sent)} → iter_rest (zip_first s) ≡ k_in w → iter_rest (zip_second s) ≡ records_in w
      → YieldsList {B = ℕ × Sent} (zips fronts fronts) (λ p. (p.0.now, p.1.now)) s (pairs_in w)
  YieldsPairs ks records = YieldsList-from_zip (YieldsList-from_slice (k_in w) ks) (YieldsList-from_slice (records_in w) records)

  -- With their places.
  pub YieldsPlaced : {s : Enumerate (Zip (Iter ℕ) (Iter Sent))} → enumerate_count s ≡ 0
      → iter_rest (zip_first (enumerate_source s)) ≡ k_in w → iter_rest (zip_second (enumerate_source s)) ≡ records_in w
      → YieldsList {B = ℕ × (ℕ × Sent)} (enumerate_steps (zips fronts fronts)) (λ q. (q.0, (q.1.0.now, q.1.1.now))) s (enumerate_from 0 (pairs_in w))
  YieldsPlaced from ks records = YieldsList-from_enumerate (YieldsPairs ks records) from

  -- At each turn of a loop over these stands the pair of the place that the loop has come to.
  pub placed_turn : (i : ℕ) (q : ℕ × (ℕ × Sent)) → (i < length (enumerate_from 0 (pairs_in w))) × (q ≡ get_or (enumerate_from 0 (pairs_in w)) i q)
      → (q.0 ≡ i) × (slice_get (pairs_in w) q.0 ≡ Some q.1)
  placed_turn i q h =
      let inside : i < length (pairs_in w) = rw (length-enumerate_from 0 (pairs_in w)) at h.0 in
      let is : q ≡ (0 + i, get_or (pairs_in w) i q.1) = h.1 ∙ get_or-enumerate_from 0 (pairs_in w) i q inside in
      let zero : q.0 ≡ 0 + i = ap (λ (p : ℕ × (ℕ × Sent)). p.0) is in
      let at : q.0 ≡ i = omega (arith, zero) in
      (at, rw at (slice_get_read (pairs_in w) (length (pairs_in w)) i q.1 refl inside (ap (λ (p : ℕ × (ℕ × Sent)). p.1) is)))

  module _ (size : length (records_in w) ≡ length (k_in w)) where
    pub pairs_length : length (pairs_in w) ≡ length (k_in w)
    pairs_length = sym (length-map (pairs_in w) (λ (p : ℕ × Sent). p.0)) ∙ ap length (firsts-zip (k_in w) (records_in w) size)

    -- A loop over these ends behind the last of them.
    pub placed_end : (i : ℕ) → i ≡ length (enumerate_from 0 (pairs_in w)) → i ≡ length (k_in w)
    placed_end i e = e ∙ length-enumerate_from 0 (pairs_in w) ∙ pairs_length

    pub placed_few : length (enumerate_from 0 (pairs_in w)) ≤ 9
    placed_few = omega (arith, placed_end (length (enumerate_from 0 (pairs_in w))) refl, window_size w.settings.config w.n)

    -- At place m stands k_m, and a record that says what was sent k_m ago.
    module _ (m : ℕ) (k : ℕ) (x : Sent) (there : slice_get (pairs_in w) m ≡ Some (k, x)) where
      pub pair_inside : m < length (k_in w)
      pair_inside = rw pairs_length at (slice_get_within (pairs_in w) m (k, x) there)

      both : ◌≡◌ {A = ℕ × Sent} (get_or (k_in w) m 0, get_or (records_in w) m nothing_sent) (k, x)
      both = sym (get_or-zip (k_in w) (records_in w) m (0, nothing_sent) pair_inside (rw size pair_inside)) ∙ get_or_from_slice_get (pairs_in w) m (k, x) (0, nothing_sent) there

      pub pair_k : get_or (k_in w) m 0 ≡ k
      pair_k = ap (λ (p : ℕ × Sent). p.0) both

      pub pair_record : get_or (records_in w) m nothing_sent ≡ x
      pair_record = ap (λ (p : ℕ × Sent). p.1) both

      pub pair_sent : send_in w (get_or (k_in w) m 0) ≡ send_of x
      pair_sent = sent_at w m pair_inside ∙ ap send_of pair_record
