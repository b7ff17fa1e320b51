-- One bundled window, from what was sent and heard in it alone: demand 3's sentences on a window that 01 bundles.
-- Assumes nothing.
use Rattle.std.proofs.Common.{Some, Result, Ok}
use Prim.Native.Nat.{ℕ, ◌+◌, ◌-◌, ◌%◌, ◌<◌, ◌≤◌}
use mathlib.Core.Bool.{Bool, true, false, cond, not, ◌&&◌, and-true, false≢true}
use mathlib.Core.List.{List, map}
use mathlib.Core.Logic.{◌⊎◌, inl, inr, ◌↔◌, ⊎_elim}
use mathlib.Core.Path.{◌≡◌, refl, sym, ap, ◌∙◌}
use native.Mathlib.Decide.{ℕ_discrete}
use native.Mathlib.Omega.{arith}
use lib.Dec.{eqb}
use lib.ListN.{get_or}
use borrow.Author.Tests.{eq-eqb, ne_eqb, le-ltb}
use Rattle.frame.specs.declared.Settings.{Settings}
use Rattle.frame.specs.Order.{member, position_of, times_of}
use Rattle.frame.specs.Settings.{has_scheduled, bundles, window_refusal}
use Rattle.frame.specs.Table.{window_of}
use Rattle.frame.proofs.Accepted.{Accepted}
use Rattle.frame.proofs.Bools.{bit_small}
use Rattle.frame.proofs.Ports.{two_have_second}
use Rattle.frame.proofs.Windows.{window_size, zero_windows}
use Rattle.resource.specs.Calls.{size_of, resource_of}
use Rattle.resource.specs.Formula.{edge}
use Rattle.resource.specs.Ports.{second_port}
use Rattle.resource.proofs.OneToOne.{calls_one_to_one}
use Rattle.resource.proofs.SecondPort.{port_above, port_none, call_most}
use Rattle.confirmation.specs.declared.Send.{Send}
use Rattle.reply.specs.declared.Answer.TheVariants as answer
use Rattle.heard.specs.declared.Heard.{Heard}
use Rattle.heard.specs.declared.Heard.TheVariants.{Nothing, Granted, Scheduled, Released}
use Rattle.reply.specs.declared.Reply.{Reply}
use Rattle.reply.specs.Kinds.{kind_bundled}
use Rattle.fold.specs.declared.Seen.{Seen}
use Rattle.heard.specs.declared.View.{View}
use Rattle.fold.specs.Fold.{expected, unseen, step_of, seen_of}
use Rattle.heard.specs.Heard.{is_block, view_of}
use Rattle.heard.specs.Memory.{bit}
use Rattle.reply.specs.Replies.{reply_on, miss_shown, second_bit, lone_answer, bundled_answer}
use Rattle.reply.proofs.Answered.{second_small}
use Rattle.station.specs.declared.Place.{Place}
use Rattle.station.specs.declared.Place.TheVariants as place
use Rattle.station.specs.declared.Reading.{Reading}
use Rattle.station.specs.declared.Reading.TheVariants as reading
use Rattle.station.specs.Readings.{bad_bits, bundled_reading, read_at}
use Rattle.agreement.specs.Run.{RuleFrom, Brings}
use Rattle.agreement.specs.Window.{Entry, is_pdcch, any_of, BlockAt, lost_before, heard_pdcchs, unheard, heard_at, as_last, last_heard, decoded_first, decoded_second, EveryHeard, BundledReply, Bundled}
use Rattle.agreement.proofs.Counted.{seen_folded, u_counted, v_numbered, entries_few, block_heard_holds}
use Rattle.agreement.proofs.Entries.{OfWindow, of_window, in_time_holds, entry, last_of, some_last, none_last, block_at, some_of}
use Rattle.agreement.proofs.Exactly.{sent_exactly}
use Rattle.agreement.proofs.Folded.{fold_in, last_kept, all_decoded, some_counted, none_counted, none_lost}

same_last : (k c k' c' : ℕ) → heard_at k c ≡ heard_at k' c' → (k ≡ k') × (c ≡ c')
same_last k c k' c' e = (cc, cc)

bit_true : (b : Bool) → (bit b ≡ 1) ↔ (b ≡ true)
bit_true true = (λ e. refl, λ e. refl)
bit_true false = (λ e. absurd (omega arith), λ e. absurd (false≢true e))

-- 0, 4 or 8 of up to 8 PDCCHs.
abbrev Fours : ℕ → Type 0
Fours lost = (lost ≡ 0) ⊎ (lost ≡ 4) ⊎ (lost ≡ 8)

fours : (lost : ℕ) → Fours lost ⊎ (Fours lost → ⊥)
fours lost = go (ℕ_discrete lost 0) (ℕ_discrete lost 4) (ℕ_discrete lost 8)
  where
    go : Dec (lost ≡ 0) → Dec (lost ≡ 4) → Dec (lost ≡ 8) → Fours lost ⊎ (Fours lost → ⊥)
    go (yes a) b c = inl (inl a)
    go (no a) (yes b) c = inl (inr (inl b))
    go (no a) (no b) (yes c) = inl (inr (inr c))
    go (no a) (no b) (no c) = inr (⊎_elim a (⊎_elim b c))

-- V fits U exactly where 0, 4 or 8 PDCCHs before the last heard one were lost.
fits : (u lost : ℕ) → 1 ≤ u → Fours lost → (0 + u + lost - 1) % 4 + 1 ≡ (u - 1) % 4 + 1
fits u lost h (inl e) = omega arith
fits u lost h (inr (inl e)) = omega arith
fits u lost h (inr (inr e)) = omega arith

fits_only : (u lost : ℕ) → 1 ≤ u → u + lost ≤ 9 → (0 + u + lost - 1) % 4 + 1 ≡ (u - 1) % 4 + 1 → Fours lost
fits_only u lost h few e = go (ℕ_discrete lost 0) (ℕ_discrete lost 4)
  where
    go : Dec (lost ≡ 0) → Dec (lost ≡ 4) → Fours lost
    go (yes a) b = inl a
    go (no a) (yes b) = inr (inl b)
    go (no a) (no b) = inr (inr (omega arith))

-- A subframe more joins each block's AND.
first_joined : (s : Seen) (m : ℕ) (x : Heard) → (step_of s m (view_of x)).first ≡ (s.first && decoded_first x)
unfolding step_of view_of
first_joined s m Nothing = sym (and-true s.first)
first_joined s m (Granted g) = refl
first_joined s m (Scheduled b) = refl
first_joined s m (Released p) = refl

second_joined : (s : Seen) (m : ℕ) (x : Heard) → (step_of s m (view_of x)).second ≡ (s.second && decoded_second x)
unfolding step_of view_of
second_joined s m Nothing = sym (and-true s.second)
second_joined s m (Granted g) = refl
second_joined s m (Scheduled b) = refl
second_joined s m (Released p) = refl

-- What was heard fits the settings: a PDCCH's first CCE is below N_4.
abbrev pub LowCce : Settings → Heard → Type 0
LowCce set x = (k c : ℕ) → as_last k x ≡ heard_at k c → c < edge set.nrb 4

-- On a PDCCH's resource the station's reading, `read`, reads that PDCCH.
abbrev pub ReadsPdcch : Settings → ℕ → (ℕ → ℕ → ℕ → Result Reading ℕ) → Type 0
ReadsPdcch set n read =
    (m c r b0 b1 : ℕ) → resource_of set n m c ≡ Ok (record { 0 = r })
    → read r b0 b1 ≡ read_at set (size_of set n) (place.Pdcch m (record { 0 = c })) b0 b1

-- On the configured resource it reads a scheduled block that was heard, which has its resource set.
abbrev pub ReadsBlock : Settings → ℕ → (ℕ → Heard) → (ℕ → ℕ → ℕ → Result Reading ℕ) → Type 0
ReadsBlock set n H read =
    (k : ℕ) → member k (window_of set.config n) ≡ true → is_block (H k) ≡ true
    → (m : ℕ) × (m < size_of set n) × (get_or (window_of set.config n) m 0 ≡ k)
    × ((b0 b1 : ℕ) → read set.scheduled b0 b1 ≡ read_at set (size_of set n) (place.Block m) b0 b1)
    × (has_scheduled set ≡ true)

module _ (set : Settings) (n : ℕ) (good : window_refusal set n ≡ 0) (ok : Accepted set) (mode : bundles set (size_of set n) ≡ true)
    (S : ℕ → Send) (H : ℕ → Heard) (F : ℕ → View) (read : ℕ → ℕ → ℕ → Result Reading ℕ)
    (rule : RuleFrom 0 (map S (times_of (window_of set.config n))))
    (brings : (k : ℕ) → 1 ≤ k → k ≤ 13 → Brings (S k) (H k))
    (low : (k : ℕ) → 1 ≤ k → k ≤ 13 → LowCce set (H k))
    (view : (k : ℕ) → 1 ≤ k → k ≤ 13 → F k ≡ view_of (H k))
    (reads_pdcch : ReadsPdcch set n read) (reads_block : ReadsBlock set n H read) where
  ks : List ℕ
  ks = window_of set.config n

  ts : List ℕ
  ts = times_of (window_of set.config n)

  es : List Entry
  es = map (entry S H) (times_of (window_of set.config n))

  seen : Seen
  seen = fold_in (window_of set.config n) unseen (map (entry S H) (times_of (window_of set.config n)))

  folded : seen_of F (window_of set.config n) ≡ seen
  unfolding seen
  folded = seen_folded set.config n S H F view

  u_is : seen.u ≡ heard_pdcchs es
  unfolding seen es
  u_is = u_counted set.config n S H

  v_is : any_of is_pdcch es ≡ true → seen.v ≡ (0 + heard_pdcchs es + lost_before es - 1) % 4 + 1
  unfolding seen es
  v_is = v_numbered set.config n S H rule brings

  es_few : heard_pdcchs es + lost_before es ≤ size_of set n
  unfolding es
  es_few = entries_few set.config n S H

  block_is : seen.scheduled ≡ any_of is_block es
  unfolding seen es
  block_is = block_heard_holds set.config n S H

  -- the last heard PDCCH has a position, a first CCE and so a resource
  record Found (k c : ℕ) : Type 0 where
    at_position : seen.position ≡ position_of k (window_of set.config n)
    at_cce : seen.cce.0 ≡ c
    of : OfWindow set.config n k
    below : c < edge set.nrb 4

  found : (k c : ℕ) → last_heard es ≡ heard_at k c → Found k c
  unfolding seen es
  found k c e =
      let p = last_kept (window_of set.config n) (map (entry S H) (times_of (window_of set.config n))) unseen k c e in
      let l = last_of S H (times_of (window_of set.config n)) k c e in
      let w = of_window set.config n k (in_time_holds set.config n k l.inside) in
      record { at_position = p.0; at_cce = p.1; of = w; below = low k w.least w.most k c l.heard }

  -- configuration 0, which does not read the DAI, has windows of one subframe
  one_subframe : set.config ≡ 0 → lost_before es ≡ 0
  one_subframe e =
      let most : size_of set n ≤ 1 = rw e (zero_windows n) in
      go (any_of is_pdcch es) refl most
    where
      go : (t : Bool) → any_of is_pdcch es ≡ t → size_of set n ≤ 1 → lost_before es ≡ 0
      go true t most = omega (arith, es_few, some_counted es t)
      go false t most = none_lost es t

  -- the answer to heard PDCCHs with a reply due
  due : any_of is_pdcch es ≡ true → Fours (lost_before es) → bundled_answer set n seen ≡ reply_on set kind_bundled (resource_of set n seen.position seen.cce.0) (bit seen.first) (second_bit set seen)
  unfolding bundled_answer miss_shown expected
  due some lost =
      let least : 1 ≤ heard_pdcchs es = some_counted es some in
      let match : seen.v ≡ (seen.u - 1) % 4 + 1 = v_is some ∙ rw u_is (fits (heard_pdcchs es) (lost_before es) least lost) in
      rw (ne_eqb seen.u 0 (λ z. omega (arith, u_is)), eq-eqb seen.v ((seen.u - 1) % 4 + 1) match) (never (not (eqb set.config 0)))
    where
      never : (b : Bool) → cond (b && false) answer.Silent (reply_on set kind_bundled (resource_of set n seen.position seen.cce.0) (bit seen.first) (second_bit set seen))
          ≡ reply_on set kind_bundled (resource_of set n seen.position seen.cce.0) (bit seen.first) (second_bit set seen)
      never true = refl
      never false = refl

  -- the answer to a lone scheduled block
  lone : any_of is_pdcch es ≡ false → any_of is_block es ≡ true
      → bundled_answer set n seen
      ≡ answer.Sent (record { kind = kind_bundled; resource = record { 0 = set.scheduled }; b0 = bit seen.first; b1 = second_bit set seen; second = second_port set set.scheduled })
  unfolding bundled_answer lone_answer reply_on
  lone none some = rw (eq-eqb seen.u 0 (u_is ∙ none_counted es none), block_is ∙ some)

  -- a reply is due
  Due : Type 0
  Due = ((any_of is_pdcch es ≡ true) × Fours (lost_before es)) ⊎ ((any_of is_pdcch es ≡ false) × (any_of is_block es ≡ true))

  -- and the answer without one
  undue : (Due → ⊥) → bundled_answer set n seen ≡ answer.Silent
  unfolding Due bundled_answer lone_answer miss_shown expected
  undue none = go (any_of is_pdcch es) refl (any_of is_block es) refl
    where
      go : (t : Bool) → any_of is_pdcch es ≡ t → (b : Bool) → any_of is_block es ≡ b → bundled_answer set n seen ≡ answer.Silent
      go false t true b = absurd (none (inr (t, b)))
      go false t false b = rw (eq-eqb seen.u 0 (u_is ∙ none_counted es t), block_is ∙ b)
      go true t b e =
          let least : 1 ≤ heard_pdcchs es = some_counted es t in
          let other : seen.v ≡ (seen.u - 1) % 4 + 1 → ⊥ = λ e.
          none (inl (t, fits_only (heard_pdcchs es) (lost_before es) least (omega (arith, es_few, window_size set.config n)) (sym (v_is t) ∙ rw u_is at e))) in
          let some : set.config ≡ 0 → ⊥ = λ e. none (inl (t, inl (one_subframe e))) in
          rw (ne_eqb seen.u 0 (λ z. omega (arith, u_is)), ne_eqb set.config 0 some, ne_eqb seen.v ((seen.u - 1) % 4 + 1) other)

  -- each block's AND
  first_all : (seen.first ≡ true) ↔ EveryHeard decoded_first es
  unfolding seen es step_of view_of
  first_all =
      let a = all_decoded (window_of set.config n) (λ (s : Seen). s.first) decoded_first first_joined
      (map (entry S H) (times_of (window_of set.config n))) unseen in
      (λ e. (a.0 e).1, λ h. a.1 (refl, h))

  second_all : (seen.second ≡ true) ↔ EveryHeard decoded_second es
  unfolding seen es step_of view_of
  second_all =
      let a = all_decoded (window_of set.config n) (λ (s : Seen). s.second) decoded_second second_joined
      (map (entry S H) (times_of (window_of set.config n))) unseen in
      (λ e. (a.0 e).1, λ h. a.1 (refl, h))

  second_bit_holds : set.blocks ≡ 2 → second_bit set seen ≡ bit seen.second
  unfolding second_bit
  second_bit_holds e = rw (eq-eqb set.blocks 2 e)

  one_bit : set.blocks ≡ 1 → second_bit set seen ≡ 0
  unfolding second_bit
  one_bit e = rw (ne_eqb set.blocks 2 (λ z. omega arith))

  -- the bits are such as the reading takes
  good_bits : bad_bits set (bit seen.first) (second_bit set seen) ≡ false
  unfolding bad_bits
  good_bits =
      rw
      (le-ltb 1 (bit seen.first) (bit_small seen.first), le-ltb 1 (second_bit set seen) (second_small set seen))
      (go (ℕ_discrete set.blocks 1))
    where
      go : Dec (set.blocks ≡ 1) → (eqb set.blocks 1 && eqb (second_bit set seen) 1) ≡ false
      go (yes e) = rw (eq-eqb set.blocks 1 e, one_bit e)
      go (no e) = rw (ne_eqb set.blocks 1 e)

  some_heard : any_of is_pdcch es ≡ true → (k c : ℕ) × (last_heard es ≡ heard_at k c)
  unfolding es
  some_heard e = some_last S H (times_of (window_of set.config n)) e

  none_heard_holds : any_of is_pdcch es ≡ false → last_heard es ≡ unheard
  unfolding es
  none_heard_holds e = none_last S H (times_of (window_of set.config n)) e

  heard_block_holds : (k : ℕ) → BlockAt k es → (member k (window_of set.config n) ≡ true) × (is_block (H k) ≡ true)
  unfolding es
  heard_block_holds k h = let p = block_at S H (times_of (window_of set.config n)) k h in (in_time_holds set.config n k p.0, p.1)

  -- a block that was heard has its resource set, and so the handset has one port
  block_set : any_of is_block es ≡ true → has_scheduled set ≡ true
  unfolding es
  block_set e = let b = some_of S H is_block (times_of (window_of set.config n)) e in (reads_block b.0 (in_time_holds set.config n b.0 b.1) b.2).4

  -- it goes on the resource of the last heard PDCCH
  goes_on : (m c r : ℕ) → seen.position ≡ m → seen.cce.0 ≡ c → resource_of set n m c ≡ Ok (record { 0 = r })
      → reply_on set kind_bundled (resource_of set n seen.position seen.cce.0) (bit seen.first) (second_bit set seen)
      ≡ answer.Sent (record { kind = kind_bundled; resource = record { 0 = r }; b0 = bit seen.first; b1 = second_bit set seen; second = second_port set r })
  unfolding reply_on
  goes_on m c r em ec there = rw (em, ec, there)

  -- a reading with these bits is bundled, at whatever place it is
  reads : (p : Place) → read_at set (size_of set n) p (bit seen.first) (second_bit set seen) ≡ Ok (reading.Bundled p (bit seen.first) (second_bit set seen))
  unfolding read_at bundled_reading
  reads p = rw (mode, good_bits)

  -- the reply that is due, on a resource: what it says beside what it is read as
  module _ (r : ℕ) where
    sent : Reply
    sent = record { kind = kind_bundled; resource = record { 0 = r }; b0 = bit seen.first; b1 = second_bit set seen; second = second_port set r }

    abbrev Right : Type 0
    Right = BundledReply set (resource_of set n) read (window_of set.config n) es sent

    says : ((k c : ℕ) → last_heard es ≡ heard_at k c
        → (m : ℕ) × (m < size_of set n) × (get_or (window_of set.config n) m 0 ≡ k)
        × (resource_of set n m c ≡ Ok (record { 0 = r }))
        × (read r (bit seen.first) (second_bit set seen) ≡ Ok (reading.Bundled (place.Pdcch m (record { 0 = c })) (bit seen.first) (second_bit set seen))))
        → ((k : ℕ) → any_of is_pdcch es ≡ false → BlockAt k es
        → (m : ℕ) × (m < size_of set n) × (get_or (window_of set.config n) m 0 ≡ k)
        × (r ≡ set.scheduled)
        × (read r (bit seen.first) (second_bit set seen) ≡ Ok (reading.Bundled (place.Block m) (bit seen.first) (second_bit set seen))))
        → (set.ports ≡ 2 → second_port set r ≡ Some (record { 0 = r + 1 }))
        → Right
    unfolding sent
    says is_read alone above =
        record {
          kind = refl;
          is_read = is_read;
          alone = alone;
          first = (λ e. first_all.0 ((bit_true seen.first).0 e), λ h. (bit_true seen.first).1 (first_all.1 h));
          second = λ two. (
            λ e. second_all.0 ((bit_true seen.second).0 (sym (second_bit_holds two) ∙ e)),
            λ h. second_bit_holds two ∙ (bit_true seen.second).1 (second_all.1 h),
          );
          bits = (bit_small seen.first, second_small set seen, one_bit);
          ports = (above, port_none set r);
        }

  -- the reply to heard PDCCHs
  reply : any_of is_pdcch es ≡ true → Fours (lost_before es)
      → (r : Reply) × (bundled_answer set n seen ≡ answer.Sent r) × BundledReply set (resource_of set n) read (window_of set.config n) es r
  unfolding sent
  reply some lost =
      let l = some_heard some in
      let f = found l.0 l.1 l.2 in
      let m : ℕ = position_of l.0 (window_of set.config n) in
      let p = (calls_one_to_one set n good).into m l.1 f.of.position f.below in (
        sent p.0,
        due some lost ∙ goes_on m l.1 p.0 f.at_position f.at_cce p.3.there,
        says p.0
            (λ k c e.
            let q = same_last l.0 l.1 k c (sym l.2 ∙ e) in (
              m,
              f.of.position,
              f.of.back ∙ q.0,
              ap (resource_of set n m) (sym q.1) ∙ p.3.there,
              reads_pdcch m l.1 p.0 (bit seen.first) (second_bit set seen) p.3.there ∙ reads (place.Pdcch m (record { 0 = l.1 }))
                  ∙ ap (λ (x : ℕ). Ok (reading.Bundled (place.Pdcch m (record { 0 = x })) (bit seen.first) (second_bit set seen))) q.1,
            ))
            (λ k none h. absurd (false≢true (sym none ∙ some)))
            (λ two. port_above set p.0 two (omega (arith, call_most set n m l.1 p.0 p.3.there))),
      )

  -- and to a lone scheduled block
  block_reply : any_of is_pdcch es ≡ false → any_of is_block es ≡ true
      → (r : Reply) × (bundled_answer set n seen ≡ answer.Sent r) × BundledReply set (resource_of set n) read (window_of set.config n) es r
  unfolding sent
  block_reply none some = (
    sent set.scheduled,
    lone none some,
    says set.scheduled
        (λ k c e. let z : ◌≡◌ {A = ℕ} 0 1 = cc (e, none_heard_holds none) in absurd (omega arith))
        (λ k none' h.
        let w = heard_block_holds k h in
        let b = reads_block k w.0 w.1 in
        (b.0, b.1, b.2, refl, b.3 (bit seen.first) (second_bit set seen) ∙ reads (place.Block b.0)))
        (λ two. absurd (false≢true (sym (ok.two_ports (two_have_second set two)).1 ∙ block_set some))),
  )

  pub bundled_window : Bundled set (resource_of set n) read (window_of set.config n) (map (entry S H) (times_of (window_of set.config n))) (Ok (bundled_answer set n (seen_of F (window_of set.config n))))
  unfolding es Due
  bundled_window = rw folded (sent_exactly _ _ _ (decided (any_of is_pdcch es) refl (fours (lost_before es)) (any_of is_block es) refl) answered undue)
    where
      answered : Due → (r : Reply) × (bundled_answer set n seen ≡ answer.Sent r) × BundledReply set (resource_of set n) read (window_of set.config n) es r
      answered (inl d) = reply d.0 d.1
      answered (inr d) = block_reply d.0 d.1

      decided : (t : Bool) → any_of is_pdcch es ≡ t → Fours (lost_before es) ⊎ (Fours (lost_before es) → ⊥) → (b : Bool) → any_of is_block es ≡ b → Due ⊎ (Due → ⊥)
      decided true t (inl f) b e = inl (inl (t, f))
      decided true t (inr f) b e = inr (⊎_elim (λ d. f d.1) (λ d. false≢true (sym d.0 ∙ t)))
      decided false t f true e = inl (inr (t, e))
      decided false t f false e = inr (⊎_elim (λ d. false≢true (sym t ∙ d.0)) (λ d. false≢true (sym e ∙ d.1)))
