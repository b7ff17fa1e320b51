-- A reply speaks only for PDCCHs that were received, whatever the radio lost: where 0, 4 or 8 of the PDCCHs sent before the one that
-- it names were lost. `received k` says whether what was sent k ago was received.
-- Assumes nothing.
use Prim.Native.Nat.{ℕ, ◌+◌, ◌≤◌}
use mathlib.Core.Bool.{Bool, true, false, cond, not, ◌&&◌, ◌||◌, false≢true, or-true}
use mathlib.Core.List.{List, [], ◌∷◌}
use mathlib.Core.Logic.{◌⊎◌, inl, inr}
use mathlib.Core.Path.{◌≡◌, refl}
use native.Mathlib.Decide.{dec_le}
use native.Mathlib.Omega.{arith}
use lib.Dec.{eqb, leb, ltb}
use borrow.Author.Tests.{eqb-true, eqb-false, eq-eqb, leb-true, le-leb, lt-leb, lt-ltb, le-ltb}
use Rattle.std.proofs.lemmas.Bool.{and_parts}
use Rattle.frame.specs.Order.{member, times_of}
use Rattle.frame.proofs.Bools.{bit_small}
use Rattle.confirmation.specs.declared.Send.{Send}
use Rattle.confirmation.specs.Confirmed.{sent_up_to, speaks_for}
use Rattle.confirmation.specs.Sent.{is_pdcch}

module _ (sent : ℕ → Send) (received : ℕ → Bool) (named : ℕ) where
  -- Of the k of a list, the PDCCHs sent before the named one and lost.
  abbrev pub lost_up_to : List ℕ → ℕ
  lost_up_to [] = 0
  lost_up_to (k ∷ ks) = cond (ltb named k && is_pdcch (sent k) && not (received k)) 1 0 + lost_up_to ks

  -- In a list with none before the named one there is none.
  pub none_before : (ks : List ℕ) → ((k : ℕ) → member k ks ≡ true → k ≤ named) → lost_up_to ks ≡ 0
  none_before [] h = refl
  none_before (k ∷ ks) h =
      let rest = none_before ks (λ j m. h j (rw m (or-true (eqb k j)))) in
      rw (le-ltb named k (h k (rw (eq-eqb k k refl)))) (omega arith)

  module _ (is-sent : is_pdcch (sent named) ≡ true) (is-received : received named ≡ true) where
    -- More were sent up to and with the named one than were lost before it.
    lost_fewer : (ks : List ℕ) → lost_up_to ks + cond (member named ks) 1 0 ≤ sent_up_to sent named ks
    lost_fewer [] = omega arith
    lost_fewer (k ∷ ks) = go (eqb k named) refl (lost_fewer ks)
      where
        -- one that was sent before the named one counts as sent, and as lost if it was not received
        counts : (s r m : Bool) (lost sent : ℕ) → lost + cond m 1 0 ≤ sent → cond (true && s && not r) 1 0 + lost + cond m 1 0 ≤ cond (true && s) 1 0 + sent
        counts true true m lost sent h = omega arith
        counts true false m lost sent h = omega arith
        counts false r m lost sent h = omega arith

        go : (b : Bool) → eqb k named ≡ b → lost_up_to ks + cond (member named ks) 1 0 ≤ sent_up_to sent named ks
            → lost_up_to (k ∷ ks) + cond (b || member named ks) 1 0 ≤ sent_up_to sent named (k ∷ ks)
        go true b rest =
            rw (eqb-true k named b, is-sent, is-received, le-ltb named named (omega arith), le-leb named named (omega arith)) (omega (arith, bit_small (member named ks)))
        go false b rest = side (dec_le named k)
          where
            side : Dec (named ≤ k) → lost_up_to (k ∷ ks) + cond (member named ks) 1 0 ≤ sent_up_to sent named (k ∷ ks)
            side (yes h) =
                let other = eqb-false k named b in
                rw (le-leb named k h, lt-ltb named k (omega arith)) (counts (is_pdcch (sent k)) (received k) (member named ks) (lost_up_to ks) (sent_up_to sent named ks) rest)
            side (no h) = rw (lt-leb named k (omega arith), le-ltb named k (omega arith)) (omega arith)

    -- Where none was lost before the named one, each PDCCH sent up to it was received.
    none_lost : (ks : List ℕ) → lost_up_to ks ≡ 0 → (k : ℕ) → member k ks ≡ true → named ≤ k → is_pdcch (sent k) ≡ true → received k ≡ true
    none_lost [] none k m h s = absurd (false≢true m)
    none_lost (j ∷ ks) none k m h s = go (eqb j k) refl m (none_lost ks (omega arith) k)
      where
        kept : (r : Bool) (rest : ℕ) → cond (true && true && not r) 1 0 + rest ≡ 0 → r ≡ true
        kept true rest e = refl
        kept false rest e = absurd (omega arith)

        here : Dec (k ≤ named) → lost_up_to (k ∷ ks) ≡ 0 → received k ≡ true
        here (yes e) none = let same : k ≡ named = omega arith in rw same is-received
        here (no e) none = kept (received k) (lost_up_to ks) (rw (lt-ltb named k (omega arith), s) at none)

        go : (b : Bool) → eqb j k ≡ b → (b || member k ks) ≡ true → (member k ks ≡ true → named ≤ k → is_pdcch (sent k) ≡ true → received k ≡ true)
            → received k ≡ true
        go true b m rest = here (dec_le k named) (rw (eqb-true j k b) at none)
        go false b m rest = rest m h s

    pub speaks_received : (ks : List ℕ) → member named (times_of ks) ≡ true
        → (lost_up_to (times_of ks) ≡ 0) ⊎ (lost_up_to (times_of ks) ≡ 4) ⊎ (lost_up_to (times_of ks) ≡ 8)
        → (k : ℕ) → member k (times_of ks) ≡ true → speaks_for ks sent named k ≡ true → received k ≡ true
    speaks_received ks inside lost k m speaks =
        let q = and_parts (is_pdcch (sent k)) (eqb k named || (leb (sent_up_to sent named (times_of ks)) 4 && leb named k)) speaks in
        go q.0 (eqb k named) refl q.1
      where
        fewer : lost_up_to (times_of ks) + 1 ≤ sent_up_to sent named (times_of ks)
        fewer = rw inside at (lost_fewer (times_of ks))

        none : (lost_up_to (times_of ks) ≡ 0) ⊎ (lost_up_to (times_of ks) ≡ 4) ⊎ (lost_up_to (times_of ks) ≡ 8)
            → sent_up_to sent named (times_of ks) ≤ 4 → lost_up_to (times_of ks) ≡ 0
        none (inl z) few = z
        none (inr (inl z)) few = absurd (omega (arith, fewer))
        none (inr (inr z)) few = absurd (omega (arith, fewer))

        go : is_pdcch (sent k) ≡ true → (b : Bool) → eqb k named ≡ b → (b || (leb (sent_up_to sent named (times_of ks)) 4 && leb named k)) ≡ true → received k ≡ true
        go s true b holds = rw (eqb-true k named b) is-received
        go s false b holds =
            let p = and_parts (leb (sent_up_to sent named (times_of ks)) 4) (leb named k) holds in
            none_lost (times_of ks) (none lost (leb-true (sent_up_to sent named (times_of ks)) 4 p.0)) k m (leb-true named k p.1) s
