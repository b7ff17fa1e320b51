-- One window that was answered, from what demand 3 says of it: which of its PDCCHs were heard, and that what the reading confirms was
-- decoded. A bundled reply to heard PDCCHs is sent where 0, 4 or 8 before the last heard one were lost, and is read as that one; so it
-- speaks only for PDCCHs that were received (confirmation/proofs/Received.antt), and an ACK says that each decoded its block. A reply
-- to a lone scheduled block is read as that block, which was heard.
-- Assumes nothing.
use Rattle.std.proofs.Common.{Result, Ok}
use Rattle.std.proofs.lemmas.Bool.{and_parts}
use Rattle.resource.specs.declared.Resource.{Resource}
use Prim.Native.Nat.{ℕ, suc, ◌-◌, ◌/◌, ◌%◌, ◌^◌, ◌<◌, ◌≤◌, suc-le-suc}
use mathlib.Core.Bool.{Bool, true, false, cond, ◌&&◌, ◌||◌, false≢true}
use mathlib.Core.List.{List, [], ◌∷◌, map}
use mathlib.Core.Logic.{◌⊎◌, inl, inr, ⊎_elim}
use mathlib.Core.Path.{◌≡◌, refl, sym, ap, ◌∙◌}
use native.Mathlib.Decide.{ℕ_discrete}
use native.Mathlib.Nat.{not-suc-le-zero}
use native.Mathlib.Omega.{arith}
use lib.Dec.{eqb, leb, ltb}
use lib.ListN.{length, get_or, length-map}
use borrow.Author.Tests.{eqb-true, eqb-false, eq-eqb, ne_eqb, lt-ltb, le-ltb}
use Rattle.frame.specs.declared.Settings.{Settings}
use Rattle.frame.specs.Order.{member, times_of}
use Rattle.frame.specs.Settings.{settings_refusal}
use Rattle.frame.proofs.Accepted.{accepted}
use Rattle.frame.proofs.Lists as lists
use Rattle.frame.proofs.Times.{in_time_order}
use Rattle.symbols.specs.declared.State.{State}
use Rattle.symbols.specs.declared.State.TheVariants.{Ack, Nack, Dtx}
use Rattle.station.specs.declared.Place.{Place}
use Rattle.station.specs.declared.Place.TheVariants as place
use Rattle.station.specs.declared.Reading.{Reading}
use Rattle.station.specs.declared.Reading.TheVariants as reading
use Rattle.confirmation.specs.declared.Send.{Send}
use Rattle.confirmation.specs.declared.Send.TheVariants as send
use Rattle.confirmation.specs.Confirmed.{named_sent, speaks_for, holds_for, acknowledged, says_ack, confirmed}
use Rattle.confirmation.specs.Sent.{is_pdcch as is_sent_pdcch, blocks_of, as_heard}
use Rattle.confirmation.proofs.Confirmed.{acknowledged_says, carried}
use Rattle.confirmation.proofs.Received.{lost_up_to, none_before, speaks_received}
use Rattle.heard.specs.declared.Heard.{Heard}
use Rattle.heard.specs.declared.Heard.TheVariants.{Nothing, Granted, Scheduled, Released}
use Rattle.heard.specs.Heard.{is_block, heard_refusal}
use Rattle.heard.proofs.Valid.{valid}
use Rattle.reply.specs.declared.Answer.{Answer}
use Rattle.reply.specs.declared.Answer.TheVariants as answer
use Rattle.reply.specs.declared.Reply.{Reply}
use Rattle.agreement.specs.Confirmation.{decoded_block}
use Rattle.agreement.specs.Run.{sent_of, sent_ago, window_at, Schedule, Brings}
use Rattle.agreement.specs.Window.{is_heard, is_pdcch, any_of, BlockAt, lost_before, heard_at, as_last, later, last_heard, decoded_first, decoded_second, EveryHeard, state_in, Bundled, Multiplexed}
use Rattle.agreement.proofs.Entries.{AllOf, of_all, entry, member_at, in_window, own_k, last_of, some_last, none_last, block_at, none_of}
use Rattle.agreement.proofs.Folded.{sent_heard}

-- Each number of a list is smaller than the ones before it.
abbrev Falls : List ℕ → Type 0
Falls ts = (i j : ℕ) → i < j → j < length ts → get_or ts j 0 < get_or ts i 0

falls_tail : (t : ℕ) (ts : List ℕ) → Falls (t ∷ ts) → Falls ts
falls_tail t ts f i j l h = f (suc i) (suc j) (suc-le-suc l) (suc-le-suc h)

-- So the head is over every other member.
falls_head : (t : ℕ) (ts : List ℕ) → Falls (t ∷ ts) → (k : ℕ) → member k ts ≡ true → k < t
falls_head t [] f k e = absurd (false≢true e)
falls_head t (u ∷ ts) f k e = go (eqb u k) refl (falls_head u ts (falls_tail t (u ∷ ts) f) k) e
  where
    below : u < t
    below = f 0 1 (omega arith) (suc-le-suc (suc-le-suc (omega arith)))

    go : (b : Bool) → eqb u k ≡ b → (member k ts ≡ true → k < u) → (b || member k ts) ≡ true → k < t
    go true b rest e = rw (← eqb-true u k b) below
    go false b rest e = omega (arith, rest e, below)

same_last : (k c k' c' : ℕ) → heard_at k c ≡ heard_at k' c' → k ≡ k'
same_last k c k' c' e = cc

-- A PDCCH or a scheduled block that was heard was heard.
pdcch_heard : (x : Heard) → is_pdcch x ≡ true → is_heard x ≡ true
pdcch_heard Nothing e = absurd (false≢true e)
pdcch_heard (Granted g) e = refl
pdcch_heard (Scheduled b) e = refl
pdcch_heard (Released p) e = refl

block_heard_holds : (x : Heard) → is_block x ≡ true → is_heard x ≡ true
block_heard_holds Nothing e = absurd (false≢true e)
block_heard_holds (Granted g) e = refl
block_heard_holds (Scheduled b) e = refl
block_heard_holds (Released p) e = refl

-- A PDCCH that was heard is a PDCCH that was sent.
pdcch_sent : (x : Heard) → is_pdcch x ≡ true → is_sent_pdcch (sent_of x) ≡ true
pdcch_sent Nothing e = absurd (false≢true e)
pdcch_sent (Granted g) e = refl
pdcch_sent (Scheduled b) e = absurd (false≢true e)
pdcch_sent (Released p) e = refl

module _ (S : ℕ → Send) (H : ℕ → Heard) (brings : (k : ℕ) → Brings (S k) (H k)) where
  -- The last heard one of a list that starts with j is a later one, or j where none later was heard.
  last_later : (j : ℕ) (ts : List ℕ) (k c : ℕ) → any_of is_pdcch (map (entry S H) ts) ≡ true
      → last_heard (map (entry S H) (j ∷ ts)) ≡ heard_at k c → last_heard (map (entry S H) ts) ≡ heard_at k c
  last_later j ts k c some e =
      let l = some_last S H ts some in
      l.2 ∙ sym (ap (later (as_last j (H j))) l.2) ∙ e

  last_here : (j : ℕ) (ts : List ℕ) (k c : ℕ) → any_of is_pdcch (map (entry S H) ts) ≡ false
      → last_heard (map (entry S H) (j ∷ ts)) ≡ heard_at k c → k ≡ j
  last_here j ts k c none e = sym (own_k S H j k c (H j) (sym (ap (later (as_last j (H j))) (none_last S H ts none)) ∙ e))

  -- The lost PDCCHs before the last heard one are those that were sent before it and not received.
  lost_same : (ts : List ℕ) → Falls ts → (k c : ℕ) → last_heard (map (entry S H) ts) ≡ heard_at k c
      → lost_before (map (entry S H) ts) ≡ lost_up_to S (λ (j : ℕ). is_heard (H j)) k ts
  lost_same [] f k c e = refl
  lost_same (j ∷ ts) f k c e = go (any_of is_pdcch (map (entry S H) ts)) refl (lost_same ts (falls_tail j ts f) k c)
    where
      go : (t : Bool) → any_of is_pdcch (map (entry S H) ts) ≡ t
          → (last_heard (map (entry S H) ts) ≡ heard_at k c → lost_before (map (entry S H) ts) ≡ lost_up_to S (λ (j : ℕ). is_heard (H j)) k ts)
          → lost_before (map (entry S H) (j ∷ ts)) ≡ lost_up_to S (λ (j : ℕ). is_heard (H j)) k (j ∷ ts)
      go true t rest =
          let l = last_later j ts k c t e in
          rw (t, lt-ltb k j (falls_head j ts f k (last_of S H ts k c l).inside), rest l)
      go false t rest =
          let here = last_here j ts k c t e in
          rw (t, le-ltb k j (omega arith), none_before S (λ (j : ℕ). is_heard (H j)) k ts (λ i m. let before = falls_head j ts f i m in omega arith))

  -- After the last heard PDCCH none was heard.
  none_after : (ts : List ℕ) → Falls ts → (k c : ℕ) → last_heard (map (entry S H) ts) ≡ heard_at k c
      → (j : ℕ) → member j ts ≡ true → j < k → is_pdcch (H j) ≡ false
  none_after [] f k c e j m h = absurd (false≢true m)
  none_after (t ∷ ts) f k c e j m h = go (any_of is_pdcch (map (entry S H) ts)) refl (eqb t j) refl m (none_after ts (falls_tail t ts f) k c)
    where
      go : (a : Bool) → any_of is_pdcch (map (entry S H) ts) ≡ a → (b : Bool) → eqb t j ≡ b → (b || member j ts) ≡ true
          → (last_heard (map (entry S H) ts) ≡ heard_at k c → (j : ℕ) → member j ts ≡ true → j < k → is_pdcch (H j) ≡ false) → is_pdcch (H j) ≡ false
      go true a true b m rest =
          let before = falls_head t ts f k (last_of S H ts k c (last_later t ts k c a e)).inside in
          absurd (omega (arith, eqb-true t j b))
      go true a false b m rest = rest (last_later t ts k c a e) j m h
      go false a true b m rest = absurd (omega (arith, eqb-true t j b, last_here t ts k c a e))
      go false a false b m rest = none_of S H is_pdcch ts a j m

  -- All that was heard in a list decoded the block, so what was heard j ago did.
  decoded_at : (decoded : Heard → Bool) (ts : List ℕ) → EveryHeard decoded (map (entry S H) ts) → (j : ℕ) → member j ts ≡ true → decoded (H j) ≡ true
  decoded_at decoded ts every j m = of_all (λ (k : ℕ). decoded (H k) ≡ true) ts (all ts every) j m
    where
      all : (ts : List ℕ) → EveryHeard decoded (map (entry S H) ts) → AllOf (λ (k : ℕ). decoded (H k) ≡ true) ts
      all [] e = tt
      all (t ∷ ts) e = (e.0, all ts e.1)

-- What is the last heard PDCCH is one.
last_pdcch : (k c : ℕ) (x : Heard) → as_last k x ≡ heard_at k c → is_pdcch x ≡ true
last_pdcch k c Nothing e = let z : ◌≡◌ {A = ℕ} 0 1 = cc in absurd (omega arith)
last_pdcch k c (Granted g) e = refl
last_pdcch k c (Scheduled b) e = let z : ◌≡◌ {A = ℕ} 0 1 = cc in absurd (omega arith)
last_pdcch k c (Released p) e = refl

-- A block that is carried was decoded where the results that its bits speak of are: of two blocks its own, of a sole one either.
carried_decoded : (blocks block : ℕ) (first second : Bool) → block < blocks → blocks ≤ 2
    → (blocks ≡ 2 → block ≡ 0 → first ≡ true)
    → (blocks ≡ 2 → (block ≡ 0 → ⊥) → cond (eqb blocks 2) second first ≡ true)
    → ((blocks ≡ 2 → ⊥) → (first ≡ true) ⊎ (cond (eqb blocks 2) second first ≡ true))
    → (ltb block blocks && cond (eqb block 0) first second) ≡ true
carried_decoded blocks block first second inside most one other sole =
    rw (lt-ltb block blocks inside) (go (ℕ_discrete blocks 2) (eqb block 0) refl)
  where
    go : Dec (blocks ≡ 2) → (b : Bool) → eqb block 0 ≡ b → cond b first second ≡ true
    go (yes two) true b = one two (eqb-true block 0 b)
    go (yes two) false b = rw (eq-eqb blocks 2 two) at (other two (eqb-false block 0 b))
    go (no two) true b = ⊎_elim (λ p. p) (λ p. rw (ne_eqb blocks 2 two) at p) (sole two)
    go (no two) false b = let some = eqb-false block 0 b in absurd (omega arith)

decoded_block_holds : (x : Heard) (block : ℕ) → block < blocks_of (sent_of x) → blocks_of (sent_of x) ≤ 2
    → (blocks_of (sent_of x) ≡ 2 → block ≡ 0 → decoded_first x ≡ true)
    → (blocks_of (sent_of x) ≡ 2 → (block ≡ 0 → ⊥) → decoded_second x ≡ true)
    → ((blocks_of (sent_of x) ≡ 2 → ⊥) → (decoded_first x ≡ true) ⊎ (decoded_second x ≡ true)) → decoded_block x block ≡ true
decoded_block_holds Nothing block inside most one other sole = absurd (not-suc-le-zero inside)
decoded_block_holds (Granted g) block inside most one other sole = carried_decoded g.blocks block g.first g.second inside most one other sole
decoded_block_holds (Scheduled b) block inside most one other sole = carried_decoded b.blocks block b.first b.second inside most one other sole
decoded_block_holds (Released p) block inside most one other sole = absurd (not-suc-le-zero inside)

-- A position that is A was heard, and decoded both.
decoded_ack : (x : Heard) → state_in x ≡ Ack → (is_heard x ≡ true) × (decoded_first x ≡ true) × (decoded_second x ≡ true)
decoded_ack x e = go (is_heard x) (decoded_first x) (decoded_second x) e
  where
    go : (h a b : Bool) → cond h (cond (a && b) Ack Nack) Dtx ≡ Ack → (h ≡ true) × (a ≡ true) × (b ≡ true)
    go true true true e = (refl, refl, refl)
    go true true false e = let z : ◌≡◌ {A = ℕ} 0 1 = cc in absurd (omega arith)
    go true false b e = let z : ◌≡◌ {A = ℕ} 0 1 = cc in absurd (omega arith)
    go false a b e = let z : ◌≡◌ {A = ℕ} 0 1 = cc in absurd (omega arith)

-- A heard scheduled block stands somewhere.
some_block : (S : ℕ → Send) (H : ℕ → Heard) (ts : List ℕ) → any_of is_block (map (entry S H) ts) ≡ true → (k : ℕ) × BlockAt k (map (entry S H) ts)
some_block S H [] e = absurd (false≢true e)
some_block S H (t ∷ ts) e = go (is_block (H t)) refl (some_block S H ts) e
  where
    go : (b : Bool) → is_block (H t) ≡ b → (any_of is_block (map (entry S H) ts) ≡ true → (k : ℕ) × BlockAt k (map (entry S H) ts))
        → (b || any_of is_block (map (entry S H) ts)) ≡ true → (k : ℕ) × BlockAt k (map (entry S H) (t ∷ ts))
    go true b rest e = (t, inl (refl, b))
    go false b rest e = let r = rest e in (r.0, inr r.1)

module _ (set : Settings) (good : settings_refusal set ≡ 0) (sent : ℕ → Send) (schedule : Schedule set sent) (s : ℕ) where
  -- What was sent carries at most two blocks.
  two_blocks_holds : (x : Send) (n : ℕ) → heard_refusal set n (as_heard x) ≡ 0 → blocks_of x ≤ 2
  two_blocks_holds send.Nothing n e = omega arith
  two_blocks_holds (send.Granted g) n e = omega (arith, (valid set n _ e).1.most, (accepted set good).blocks_most)
  two_blocks_holds (send.Scheduled b) n e = omega (arith, (valid set n _ e).1.most, (accepted set good).blocks_most)
  two_blocks_holds (send.Released p) n e = omega arith

  sent_blocks : (k : ℕ) → blocks_of (sent_ago sent s k) ≤ 2
  sent_blocks k = go (leb k s)
    where
      go : (b : Bool) → blocks_of (cond b (sent (s - k)) send.Nothing) ≤ 2
      go true = two_blocks_holds (sent (s - k)) ((s - k) % 10) (schedule.valid (s - k))
      go false = omega arith

  module _ (H : ℕ → Heard) (brings : (k : ℕ) → Brings (sent_ago sent s k) (H k)) (r : Reply) where
    abbrev S : ℕ → Send
    S = sent_ago sent s

    abbrev ts : List ℕ
    ts = times_of (window_at set s)

    falls : Falls (times_of (window_at set s))
    falls = (in_time_order set.config (s % 10)).falls

    pub inside : (m : ℕ) → m < length (window_at set s) → member (get_or (window_at set s) m 0) (times_of (window_at set s)) ≡ true
    inside m h = in_window set.config (s % 10) (get_or (window_at set s) m 0) (member_at set.config (s % 10) m h)

    -- A bundled window that was answered, PDCCHs heard: the last of them, which the reading names, and which were heard.
    pub record LastRead (read : ℕ → ℕ → ℕ → Result Reading ℕ) : Type 0 where
      pub named : ℕ
      pub k : ℕ
      pub c : ℕ
      pub is_at : get_or (window_at set s) named 0 ≡ k
      pub is_read : read r.resource.0 r.b0 r.b1 ≡ Ok (reading.Bundled (place.Pdcch named (record { 0 = c })) r.b0 r.b1)
      pub heard : (j : ℕ) → member j ts ≡ true → speaks_for (window_at set s) S k j ≡ true → is_heard (H j) ≡ true
      pub lost : (j : ℕ) → member j ts ≡ true → j < k → is_pdcch (H j) ≡ false

    -- One in which a scheduled block alone was heard: the reading names it.
    pub record BlockRead (read : ℕ → ℕ → ℕ → Result Reading ℕ) : Type 0 where
      pub named : ℕ
      pub is_read : read r.resource.0 r.b0 r.b1 ≡ Ok (reading.Bundled (place.Block named) r.b0 r.b1)
      pub heard : is_block (H (get_or (window_at set s) named 0)) ≡ true
      pub none : (j : ℕ) → member j ts ≡ true → is_pdcch (H j) ≡ false

    pub last_read : (resource : ℕ → ℕ → Result Resource ℕ) (read : ℕ → ℕ → ℕ → Result Reading ℕ) (a : Result Answer ℕ)
        → Bundled set resource read (window_at set s) (map (entry S H) ts) a → a ≡ Ok (answer.Sent r) → LastRead read ⊎ BlockRead read
    last_read resource read a window is = go (window.0.0 (r, is))
      where
        by_last : (any_of is_pdcch (map (entry S H) ts) ≡ true) × ((lost_before (map (entry S H) ts) ≡ 0) ⊎ (lost_before (map (entry S H) ts) ≡ 4) ⊎ (lost_before (map (entry S H) ts) ≡ 8))
            → LastRead read
        by_last due =
            let l = some_last S H ts due.0 in
            let named = (window.1 r is).is_read l.0 l.1 l.2 in
            let last = last_of S H ts l.0 l.1 l.2 in
            let pdcch : is_pdcch (H l.0) ≡ true = last_pdcch l.0 l.1 (H l.0) last.heard in
            let heard : is_heard (H l.0) ≡ true = pdcch_heard (H l.0) pdcch in
            let was : is_sent_pdcch (S l.0) ≡ true = rw (← sent_heard (S l.0) (H l.0) heard (brings l.0)) (pdcch_sent (H l.0) pdcch) in
            record {
              named = named.0;
              k = l.0;
              c = l.1;
              is_at = named.2;
              is_read = named.4;
              heard = speaks_received S (λ (j : ℕ). is_heard (H j)) l.0 was heard (window_at set s)
                  last.inside (rw (lost_same S H brings ts falls l.0 l.1 l.2) at due.1);
              lost = none_after S H brings ts falls l.0 l.1 l.2;
            }

        by_block : (any_of is_pdcch (map (entry S H) ts) ≡ false) × (any_of is_block (map (entry S H) ts) ≡ true) → BlockRead read
        by_block due =
            let b = some_block S H ts due.1 in
            let named = (window.1 r is).alone b.0 due.0 b.1 in
            record {
              named = named.0;
              is_read = named.4;
              heard = rw named.2 (block_at S H ts b.0 b.1).1;
              none = none_of S H is_pdcch ts due.0;
            }

        go : ((any_of is_pdcch (map (entry S H) ts) ≡ true) × ((lost_before (map (entry S H) ts) ≡ 0) ⊎ (lost_before (map (entry S H) ts) ≡ 4) ⊎ (lost_before (map (entry S H) ts) ≡ 8)))
            ⊎ ((any_of is_pdcch (map (entry S H) ts) ≡ false) × (any_of is_block (map (entry S H) ts) ≡ true)) → LastRead read ⊎ BlockRead read
        go (inl due) = inl (by_last due)
        go (inr due) = inr (by_block due)

    -- what a reading that names a place acknowledges there is acknowledged by its bits
    acked : (named : Place) (m block : ℕ) → says_ack (window_at set s) S (Ok (reading.Bundled named r.b0 r.b1)) m block ≡ true
        → (holds_for (window_at set s) S named (get_or (window_at set s) m 0) ≡ true) × (acknowledged (S (get_or (window_at set s) m 0)) block r.b0 r.b1 ≡ true)
    acked named m block e =
        let k : ℕ = get_or (window_at set s) m 0 in
        let p = and_parts (named_sent (window_at set s) S named && holds_for (window_at set s) S named k) (acknowledged (S k) block r.b0 r.b1) e in
        ((and_parts (named_sent (window_at set s) S named) (holds_for (window_at set s) S named k) p.0).1, p.1)

    pub bundled_confirmed : (m block : ℕ) (resource : ℕ → ℕ → Result Resource ℕ) (read : ℕ → ℕ → ℕ → Result Reading ℕ) (a : Result Answer ℕ)
        → Bundled set resource read (window_at set s) (map (entry S H) ts) a → a ≡ Ok (answer.Sent r)
        → confirmed (window_at set s) S (read r.resource.0 r.b0 r.b1) m block ≡ true
        → decoded_block (H (get_or (window_at set s) m 0)) block ≡ true
    bundled_confirmed m block resource read a window is e =
        let p = carried (window_at set s) S (read r.resource.0 r.b0 r.b1) m block e in
        go p.0 p.1 p.2 (last_read resource read a window is)
      where
        -- the second bit is set only in a cell of two blocks
        two_bits : r.b1 ≡ 1 → set.blocks ≡ 2
        two_bits b = side (ℕ_discrete set.blocks 1)
          where
            side : Dec (set.blocks ≡ 1) → set.blocks ≡ 2
            side (yes one) = absurd (omega (arith, (window.1 r is).bits.2 one))
            side (no one) = omega (arith, (accepted set good).blocks_least, (accepted set good).blocks_most)

        -- what was heard there and is acknowledged was decoded
        there : m < length (window_at set s) → block < blocks_of (S (get_or (window_at set s) m 0)) → is_heard (H (get_or (window_at set s) m 0)) ≡ true
            → acknowledged (S (get_or (window_at set s) m 0)) block r.b0 r.b1 ≡ true → decoded_block (H (get_or (window_at set s) m 0)) block ≡ true
        there in_window carries heard ack =
            let same = sent_heard (S (get_or (window_at set s) m 0)) (H (get_or (window_at set s) m 0)) heard (brings (get_or (window_at set s) m 0)) in
            let says = acknowledged_says (S (get_or (window_at set s) m 0)) block r.b0 r.b1 ack in
            let first : r.b0 ≡ 1 → decoded_first (H (get_or (window_at set s) m 0)) ≡ true = λ b.
            decoded_at S H brings decoded_first ts ((window.1 r is).first.0 b) (get_or (window_at set s) m 0) (inside m in_window) in
            let second : r.b1 ≡ 1 → decoded_second (H (get_or (window_at set s) m 0)) ≡ true = λ b.
            decoded_at S H brings decoded_second ts (((window.1 r is).second (two_bits b)).0 b) (get_or (window_at set s) m 0) (inside m in_window) in
            decoded_block_holds (H (get_or (window_at set s) m 0)) block (rw same carries) (rw same (sent_blocks (get_or (window_at set s) m 0)))
            (λ two zero. first (says.0 (rw same at two) zero))
            (λ two other. second (says.1 (rw same at two) other))
            (λ one. ⊎_elim (λ b. inl (first b)) (λ b. inr (second b)) (says.2 (rw same at one)))

        go : m < length (window_at set s) → block < blocks_of (S (get_or (window_at set s) m 0))
            → says_ack (window_at set s) S (read r.resource.0 r.b0 r.b1) m block ≡ true → LastRead read ⊎ BlockRead read
            → decoded_block (H (get_or (window_at set s) m 0)) block ≡ true
        go in_window carries says (inl l) =
            let q = acked (place.Pdcch l.named (record { 0 = l.c })) m block (rw l.is_read at says) in
            there in_window carries (l.heard (get_or (window_at set s) m 0) (inside m in_window) (rw l.is_at at q.0)) q.1
        go in_window carries says (inr l) =
            let q = acked (place.Block l.named) m block (rw l.is_read at says) in
            let same : get_or (window_at set s) m 0 ≡ get_or (window_at set s) l.named 0 = eqb-true (get_or (window_at set s) m 0) (get_or (window_at set s) l.named 0) q.0 in
            there in_window carries (rw same (block_heard_holds (H (get_or (window_at set s) l.named 0)) l.heard)) q.1

    -- a delivered position of a multiplexed window is A
    pub delivered_ack : (m : ℕ) (resource : ℕ → ℕ → Result Resource ℕ) (read : ℕ → ℕ → ℕ → Result Reading ℕ) (a : Result Answer ℕ)
        → (window : Multiplexed set resource read (window_at set s) H (map (entry S H) ts) a) → (is : a ≡ Ok (answer.Sent r))
        → m < length (window_at set s) → (window.1 r is).delivered / 2 ^ m % 2 ≡ 1
        → (is_heard (H (get_or (window_at set s) m 0)) ≡ true) × (decoded_first (H (get_or (window_at set s) m 0)) ≡ true) × (decoded_second (H (get_or (window_at set s) m 0)) ≡ true)
    delivered_ack m resource read a window is inside bit =
        let reply = window.1 r is in
        let k : ℕ = get_or (window_at set s) m 0 in
        let states : List State = map (λ (k : ℕ). state_in (H k)) (window_at set s) in
        let ack : get_or states m Dtx ≡ Ack = (reply.exactly m inside).0 bit states (length-map (window_at set s) (λ (k : ℕ). state_in (H k))) reply.is_symbol in
        decoded_ack (H k) (sym (lists.entry (λ (k : ℕ). state_in (H k)) (window_at set s) m Dtx 0 inside) ∙ ack)

    pub multiplexed_confirmed : (m block : ℕ) (resource : ℕ → ℕ → Result Resource ℕ) (read : ℕ → ℕ → ℕ → Result Reading ℕ) (a : Result Answer ℕ)
        → Multiplexed set resource read (window_at set s) H (map (entry S H) ts) a → a ≡ Ok (answer.Sent r)
        → confirmed (window_at set s) S (read r.resource.0 r.b0 r.b1) m block ≡ true
        → decoded_block (H (get_or (window_at set s) m 0)) block ≡ true
    multiplexed_confirmed m block resource read a window is e =
        let reply = window.1 r is in
        let k : ℕ = get_or (window_at set s) m 0 in
        let p = carried (window_at set s) S (read r.resource.0 r.b0 r.b1) m block e in
        let says : says_ack (window_at set s) S (Ok (reading.Multiplexed reply.named reply.delivered)) m block ≡ true = rw reply.is_read at p.2 in
        let bit = eqb-true (reply.delivered / 2 ^ m % 2) 1 (and_parts (named_sent (window_at set s) S reply.named) (eqb (reply.delivered / 2 ^ m % 2) 1) says).1 in
        let d = delivered_ack m resource read a window is p.0 bit in
        let same = sent_heard (S k) (H k) d.0 (brings k) in
        decoded_block_holds (H k) block (rw same p.1) (rw same (sent_blocks k)) (λ two zero. d.1) (λ two other. d.2) (λ one. inl d.1)
