-- What is confirmed, exactly, whatever was heard: the definition's tests said in words (specs/Exactly.antt), both ways.
-- Assumes nothing.
use Rattle.std.proofs.Common.{Result, Ok, Err}
use Prim.Native.Nat.{ℕ, ◌/◌, ◌%◌, ◌^◌, ◌<◌, ◌≤◌}
use mathlib.Core.Bool.{Bool, true, false, ◌&&◌, ◌||◌, and-false, or-true, false≢true}
use mathlib.Core.List.{List}
use mathlib.Core.Logic.{◌⊎◌, inl, inr, ◌↔◌, ⊎_elim}
use mathlib.Core.Path.{◌≡◌}
use native.Mathlib.Decide.{ℕ_discrete}
use native.Mathlib.Omega.{arith}
use lib.Dec.{eqb, leb, ltb}
use lib.ListN.{length, get_or}
use borrow.Author.Tests.{ltb-true, lt-ltb, leb-true, le-leb, eqb-true, eq-eqb, ne_eqb}
use Rattle.std.proofs.lemmas.Bool.{and_parts, false_from_ne_true, or_cases}
use Rattle.frame.specs.Order.{times_of}
use Rattle.station.specs.declared.Place.{Place}
use Rattle.station.specs.declared.Place.TheVariants as place
use Rattle.station.specs.declared.Reading.{Reading}
use Rattle.station.specs.declared.Reading.TheVariants as reading
use Rattle.confirmation.specs.declared.Send.{Send}
use Rattle.confirmation.specs.declared.Send.TheVariants as send
use Rattle.confirmation.specs.declared.SentRelease.{SentRelease}
use Rattle.confirmation.specs.Confirmed.{named_sent, sent_up_to, speaks_for, holds_for, acknowledged, says_ack, confirmed}
use Rattle.confirmation.specs.Exactly.{WasSent, Acknowledges, BundledConfirmed, BlockConfirmed, MultiplexedConfirmed}
use Rattle.confirmation.specs.Sent.{is_pdcch, is_block, blocks_of, has_cce}

-- The bits acknowledge a block exactly as the words say.
pub acknowledged_says : (x : Send) (block b0 b1 : ℕ) → acknowledged x block b0 b1 ≡ true → Acknowledges x block b0 b1
acknowledged_says x block b0 b1 e = (
  λ two zero. eqb-true b0 1 (rw (eq-eqb (blocks_of x) 2 two, eq-eqb block 0 zero) at e),
  λ two other. eqb-true b1 1 (rw (eq-eqb (blocks_of x) 2 two, ne_eqb block 0 other) at e),
  λ one. ⊎_elim (λ p. inl (eqb-true b0 1 p)) (λ p. inr (eqb-true b1 1 p)) (or_cases (eqb b0 1) (eqb b1 1) (rw (ne_eqb (blocks_of x) 2 one) at e)),
)

says_acknowledged : (x : Send) (block b0 b1 : ℕ) → Acknowledges x block b0 b1 → acknowledged x block b0 b1 ≡ true
says_acknowledged x block b0 b1 a = go (ℕ_discrete (blocks_of x) 2) (ℕ_discrete block 0)
  where
    one_of : (b0 ≡ 1) ⊎ (b1 ≡ 1) → (eqb b0 1 || eqb b1 1) ≡ true
    one_of (inl e) = rw (eq-eqb b0 1 e)
    one_of (inr e) = rw (eq-eqb b1 1 e) (or-true (eqb b0 1))

    go : Dec (blocks_of x ≡ 2) → Dec (block ≡ 0) → acknowledged x block b0 b1 ≡ true
    go (yes two) (yes zero) = rw (eq-eqb (blocks_of x) 2 two, eq-eqb block 0 zero, eq-eqb b0 1 (a.0 two zero))
    go (yes two) (no other) = rw (eq-eqb (blocks_of x) 2 two, ne_eqb block 0 other, eq-eqb b1 1 (a.1 two other))
    go (no one) b = rw (ne_eqb (blocks_of x) 2 one) (one_of (a.2 one))

-- What was sent is not both.
apart : (x : Send) → is_pdcch x ≡ true → is_block x ≡ true → ⊥
apart send.Nothing p b = false≢true p
apart (send.Granted g) p b = false≢true b
apart (send.Scheduled s) p b = false≢true p
apart (send.Released r) p b = false≢true b

module _ (ks : List ℕ) (sent : ℕ → Send) where
  -- The PDCCHs for which a reply that names one of them speaks.
  speaks_says : (named k : ℕ) → speaks_for ks sent named k ≡ true
      → (is_pdcch (sent k) ≡ true) × ((k ≡ named) ⊎ ((sent_up_to sent named (times_of ks) ≤ 4) × (named ≤ k)))
  speaks_says named k e =
      let few : Bool = leb (sent_up_to sent named (times_of ks)) 4 in
      let p = and_parts (is_pdcch (sent k)) (eqb k named || (few && leb named k)) e in (
        p.0,
        ⊎_elim (λ q. inl (eqb-true k named q))
            (λ q. let r = and_parts few (leb named k) q in inr (leb-true (sent_up_to sent named (times_of ks)) 4 r.0, leb-true named k r.1))
            (or_cases (eqb k named) (few && leb named k) p.1),
      )

  pub says_speaks : (named k : ℕ) → is_pdcch (sent k) ≡ true → (k ≡ named) ⊎ ((sent_up_to sent named (times_of ks) ≤ 4) × (named ≤ k))
      → speaks_for ks sent named k ≡ true
  says_speaks named k pdcch (inl e) = rw (pdcch, eq-eqb k named e)
  says_speaks named k pdcch (inr e) =
      rw (pdcch, le-leb (sent_up_to sent named (times_of ks)) 4 e.0, le-leb named k e.1) (or-true (eqb k named))

  -- What is named was sent.
  named_says : (p : Place) → named_sent ks sent p ≡ true → WasSent ks sent p
  named_says (place.Pdcch m c) e =
      let p = and_parts (ltb m (length ks)) (has_cce (sent (get_or ks m 0)) c.0) e in
      (ltb-true m (length ks) p.0, p.1)
  named_says (place.Block m) e =
      let p = and_parts (ltb m (length ks)) (is_block (sent (get_or ks m 0))) e in
      (ltb-true m (length ks) p.0, p.1)

  says_named : (p : Place) → WasSent ks sent p → named_sent ks sent p ≡ true
  says_named (place.Pdcch m c) w = rw (lt-ltb m (length ks) w.0, w.1)
  says_named (place.Block m) w = rw (lt-ltb m (length ks) w.0, w.1)

  -- A confirmed block stands at a position of the window, what was sent there carries it, and the reading acknowledges it.
  pub carried : (read : Result Reading ℕ) (m block : ℕ) → confirmed ks sent read m block ≡ true
      → (m < length ks) × (block < blocks_of (sent (get_or ks m 0))) × (says_ack ks sent read m block ≡ true)
  unfolding confirmed
  carried read m block e =
      let a = and_parts (ltb m (length ks) && ltb block (blocks_of (sent (get_or ks m 0)))) (says_ack ks sent read m block) e in
      let b = and_parts (ltb m (length ks)) (ltb block (blocks_of (sent (get_or ks m 0)))) a.0 in
      (ltb-true m (length ks) b.0, ltb-true block (blocks_of (sent (get_or ks m 0))) b.1, a.1)

  carries_on : (read : Result Reading ℕ) (m block : ℕ) → m < length ks → block < blocks_of (sent (get_or ks m 0)) → says_ack ks sent read m block ≡ true
      → confirmed ks sent read m block ≡ true
  unfolding confirmed
  carries_on read m block inside carries says =
      rw (lt-ltb m (length ks) inside, lt-ltb block (blocks_of (sent (get_or ks m 0))) carries, says)

  -- A bundled reading, whatever it names.
  record Bundles (p : Place) (b0 b1 m block : ℕ) : Type 0 where
    pub there : WasSent ks sent p
    pub inside : m < length ks
    pub holds : holds_for ks sent p (get_or ks m 0) ≡ true
    pub carries : block < blocks_of (sent (get_or ks m 0))
    pub bits : Acknowledges (sent (get_or ks m 0)) block b0 b1

  bundled_says : (p : Place) (b0 b1 m block : ℕ) → confirmed ks sent (Ok (reading.Bundled p b0 b1)) m block ≡ true → Bundles p b0 b1 m block
  bundled_says p b0 b1 m block e =
      let c = carried (Ok (reading.Bundled p b0 b1)) m block e in
      let a = and_parts (named_sent ks sent p && holds_for ks sent p (get_or ks m 0)) (acknowledged (sent (get_or ks m 0)) block b0 b1) c.2 in
      let n = and_parts (named_sent ks sent p) (holds_for ks sent p (get_or ks m 0)) a.0 in
      record {
        there = named_says p n.0;
        inside = c.0;
        holds = n.1;
        carries = c.1;
        bits = acknowledged_says (sent (get_or ks m 0)) block b0 b1 a.1;
      }

  says_bundled : (p : Place) (b0 b1 m block : ℕ) → Bundles p b0 b1 m block → confirmed ks sent (Ok (reading.Bundled p b0 b1)) m block ≡ true
  says_bundled p b0 b1 m block b =
      carries_on (Ok (reading.Bundled p b0 b1)) m block b.inside b.carries
      (rw (says_named p b.there, b.holds, says_acknowledged (sent (get_or ks m 0)) block b0 b1 b.bits))

  -- Exactly these blocks are confirmed: no other, above all none where what the reading names was not sent there with that first CCE.
  pub bundled_exactly : (named c b0 b1 m block : ℕ)
      → (confirmed ks sent (Ok (reading.Bundled (place.Pdcch named (record { 0 = c })) b0 b1)) m block ≡ true) ↔ BundledConfirmed ks sent named c b0 b1 m block
  bundled_exactly named c b0 b1 m block = (to, from)
    where
      to : confirmed ks sent (Ok (reading.Bundled (place.Pdcch named (record { 0 = c })) b0 b1)) m block ≡ true → BundledConfirmed ks sent named c b0 b1 m block
      to e =
          let b = bundled_says (place.Pdcch named (record { 0 = c })) b0 b1 m block e in
          let s = speaks_says (get_or ks named 0) (get_or ks m 0) b.holds in
          record { there = b.there; inside = b.inside; pdcch = s.0; carries = b.carries; up_to = s.1; bits = b.bits }

      from : BundledConfirmed ks sent named c b0 b1 m block → confirmed ks sent (Ok (reading.Bundled (place.Pdcch named (record { 0 = c })) b0 b1)) m block ≡ true
      from b =
          says_bundled (place.Pdcch named (record { 0 = c })) b0 b1 m block
          (record { there = b.there; inside = b.inside; holds = says_speaks (get_or ks named 0) (get_or ks m 0) b.pdcch b.up_to; carries = b.carries; bits = b.bits })

  -- Read as the scheduled block: the blocks that it carries, and nothing else.
  pub block_exactly : (named b0 b1 m block : ℕ)
      → (confirmed ks sent (Ok (reading.Bundled (place.Block named) b0 b1)) m block ≡ true) ↔ BlockConfirmed ks sent named b0 b1 m block
  block_exactly named b0 b1 m block = (to, from)
    where
      to : confirmed ks sent (Ok (reading.Bundled (place.Block named) b0 b1)) m block ≡ true → BlockConfirmed ks sent named b0 b1 m block
      to e =
          let b = bundled_says (place.Block named) b0 b1 m block e in
          record { there = b.there; inside = b.inside; same = eqb-true (get_or ks m 0) (get_or ks named 0) b.holds; carries = b.carries; bits = b.bits }

      from : BlockConfirmed ks sent named b0 b1 m block → confirmed ks sent (Ok (reading.Bundled (place.Block named) b0 b1)) m block ≡ true
      from b =
          says_bundled (place.Block named) b0 b1 m block
          (record { there = b.there; inside = b.inside; holds = eq-eqb (get_or ks m 0) (get_or ks named 0) b.same; carries = b.carries; bits = b.bits })

  pub multiplexed_exactly : (named : Place) (positions m block : ℕ)
      → (confirmed ks sent (Ok (reading.Multiplexed named positions)) m block ≡ true) ↔ MultiplexedConfirmed ks sent named positions m block
  multiplexed_exactly named positions m block = (to, from)
    where
      to : confirmed ks sent (Ok (reading.Multiplexed named positions)) m block ≡ true → MultiplexedConfirmed ks sent named positions m block
      to e =
          let c = carried (Ok (reading.Multiplexed named positions)) m block e in
          let n = and_parts (named_sent ks sent named) (eqb (positions / 2 ^ m % 2) 1) c.2 in
          record { there = named_says named n.0; inside = c.0; carries = c.1; delivered = eqb-true (positions / 2 ^ m % 2) 1 n.1 }

      from : MultiplexedConfirmed ks sent named positions m block → confirmed ks sent (Ok (reading.Multiplexed named positions)) m block ≡ true
      from b =
          carries_on (Ok (reading.Multiplexed named positions)) m block b.inside b.carries
          (rw (says_named named b.there, eq-eqb (positions / 2 ^ m % 2) 1 b.delivered))

  -- A refused reading confirms nothing.
  pub refused_none : (k m block : ℕ) → confirmed ks sent (Err k) m block ≡ false
  unfolding confirmed
  refused_none k m block = and-false (ltb m (length ks) && ltb block (blocks_of (sent (get_or ks m 0))))

  -- Of a release nothing is confirmed: it carries no block.
  pub release_none : (m : ℕ) (p : SentRelease) → sent (get_or ks m 0) ≡ send.Released p → (read : Result Reading ℕ) (block : ℕ)
      → confirmed ks sent read m block ≡ false
  release_none m p is read block =
      false_from_ne_true (confirmed ks sent read m block) (λ e. let none : block < 0 = rw is at (carried read m block e).1 in omega arith)

  -- The ACK of a PDCCH confirms no scheduled block, and that of a scheduled block nothing that a PDCCH granted.
  pub pdcch_no_block : (named c b0 b1 m block : ℕ) → is_block (sent (get_or ks m 0)) ≡ true
      → confirmed ks sent (Ok (reading.Bundled (place.Pdcch named (record { 0 = c })) b0 b1)) m block ≡ false
  pdcch_no_block named c b0 b1 m block is =
      false_from_ne_true (confirmed ks sent (Ok (reading.Bundled (place.Pdcch named (record { 0 = c })) b0 b1)) m block)
      (λ e. apart (sent (get_or ks m 0)) ((bundled_exactly named c b0 b1 m block).0 e).pdcch is)

  pub block_no_pdcch : (named b0 b1 m block : ℕ) → is_pdcch (sent (get_or ks m 0)) ≡ true
      → confirmed ks sent (Ok (reading.Bundled (place.Block named) b0 b1)) m block ≡ false
  block_no_pdcch named b0 b1 m block is =
      false_from_ne_true (confirmed ks sent (Ok (reading.Bundled (place.Block named) b0 b1)) m block)
      (λ e.
      let b = (block_exactly named b0 b1 m block).0 e in
      apart (sent (get_or ks m 0)) is (rw b.same b.there.1))
