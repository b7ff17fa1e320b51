-- One multiplexed window, from what was heard in it alone: demand 3's sentences on a window that 01 multiplexes.
-- Assumes nothing.
use Rattle.std.proofs.Common.{Result, Ok, Option, Some, None}
use Rattle.std.proofs.lemmas.Bool.{false_from_ne_true, or_parts}
use Rattle.resource.specs.declared.Resource.{Resource}
use Prim.Native.Nat.{ℕ, ◌/◌, ◌%◌, ◌^◌, ◌<◌, ◌≤◌}
use mathlib.Core.Bool.{Bool, true, false, cond, ◌&&◌, false≢true}
use mathlib.Core.List.{List, [], ◌∷◌, map}
use mathlib.Core.Logic.{◌⊎◌, inl, inr, ◌↔◌}
use mathlib.Core.Path.{◌≡◌, refl, sym, ap, ◌∙◌}
use native.Mathlib.Omega.{arith}
use lib.Dec.{eqb}
use lib.ListN.{length, get_or, length-map}
use borrow.Author.Tests.{eqb-false}
use Rattle.frame.specs.declared.Settings.{Settings}
use Rattle.frame.specs.Order.{times_of}
use Rattle.frame.specs.Settings.{has_second_port, bundles, window_refusal}
use Rattle.frame.specs.Table.{window_of}
use Rattle.frame.proofs.Accepted.{answered as accepted-window}
use Rattle.frame.proofs.Lists as lists
use Rattle.frame.proofs.Windows.{window_k}
use Rattle.resource.specs.Calls.{size_of, resource_of}
use Rattle.resource.specs.Formula.{edge}
use Rattle.resource.specs.Ports.{second_port}
use Rattle.resource.proofs.OneToOne.{calls_one_to_one}
use Rattle.resource.proofs.SecondPort.{one_port_holds}
use Rattle.symbols.specs.declared.State.{State}
use Rattle.symbols.specs.declared.State.TheVariants.{Ack, Nack, Dtx}
use Rattle.symbols.specs.declared.Symbol.{Symbol}
use Rattle.symbols.specs.Delivered.{delivered_at, delivered_set}
use Rattle.symbols.specs.Selection.{symbol_of, AllDtx, symbol}
use Rattle.symbols.proofs.Reading.{delivered_exactly, set_below, set_bit}
use Rattle.symbols.proofs.Rows.{silent_exactly, index_heard}
use Rattle.reply.specs.declared.Answer.TheVariants as answer
use Rattle.confirmation.specs.declared.Send.{Send}
use Rattle.resource.specs.declared.Cce.{Cce}
use Rattle.heard.specs.declared.Heard.{Heard}
use Rattle.heard.specs.declared.Heard.TheVariants.{Nothing, Granted, Scheduled, Released}
use Rattle.reply.specs.declared.Reply.{Reply}
use Rattle.reply.specs.Kinds.{kind_multiplexed}
use Rattle.heard.specs.declared.View.{View}
use Rattle.heard.specs.Heard.{is_block, view_of}
use Rattle.reply.specs.Replies.{reply_on, state_of, carrier_of, window_state, symbol_answer, multiplexed_answer}
use Rattle.station.specs.declared.Place.{Place}
use Rattle.station.specs.declared.Place.TheVariants as place
use Rattle.station.specs.declared.Reading.{Reading}
use Rattle.station.specs.Readings.{place_position, read_at}
use Rattle.station.proofs.Back.{read_symbol}
use Rattle.agreement.specs.Window.{Entry, is_heard, any_of, decoded_first, decoded_second, state_in, ReadAs, Carries, MultiplexedReply, Multiplexed}
use Rattle.agreement.proofs.BundledWindow.{LowCce, ReadsPdcch, ReadsBlock}
use Rattle.agreement.proofs.Entries.{AllOf, all_of, of_all, of_window, member_at, same_position, in_time_holds, in_window, entry, none_of, all_none}
use Rattle.agreement.proofs.Exactly.{sent_exactly}

-- The state that a reply sees is the state of what was heard.
state_seen : (x : Heard) → state_of (view_of x) ≡ state_in x
unfolding state_of view_of
state_seen Nothing = refl
state_seen (Granted g) = refl
state_seen (Scheduled b) = refl
state_seen (Released p) = refl

-- A position is D exactly if it was not heard.
dtx_unheard : (x : Heard) → state_in x ≡ Dtx → is_heard x ≡ false
dtx_unheard x e = go (is_heard x) (decoded_first x && decoded_second x) e
  where
    go : (h b : Bool) → cond h (cond b Ack Nack) Dtx ≡ Dtx → h ≡ false
    go true true e = let z : ◌≡◌ {A = ℕ} 0 1 = cc in absurd (omega arith)
    go true false e = let z : ◌≡◌ {A = ℕ} 0 1 = cc in absurd (omega arith)
    go false b e = refl

unheard_dtx : (x : Heard) → is_heard x ≡ false → state_in x ≡ Dtx
unheard_dtx x e = rw e

module _ (H : ℕ → Heard) where
  same_states : (F : ℕ → View) (ks : List ℕ) → AllOf (λ (k : ℕ). F k ≡ view_of (H k)) ks
      → map (λ (k : ℕ). state_of (F k)) ks ≡ map (λ (k : ℕ). state_in (H k)) ks
  same_states F [] h = refl
  same_states F (k ∷ ks) h = rw (h.0, state_seen (H k), same_states F ks h.1)

  all_dtx_holds : (ks : List ℕ) → AllOf (λ (k : ℕ). is_heard (H k) ≡ false) ks → AllDtx (map (λ (k : ℕ). state_in (H k)) ks)
  all_dtx_holds [] h = tt
  all_dtx_holds (k ∷ ks) h = (unheard_dtx (H k) h.0, all_dtx_holds ks h.1)

  dtx_all : (ks : List ℕ) → AllDtx (map (λ (k : ℕ). state_in (H k)) ks) → AllOf (λ (k : ℕ). is_heard (H k) ≡ false) ks
  dtx_all [] h = tt
  dtx_all (k ∷ ks) h = (dtx_unheard (H k) h.0, dtx_all ks h.1)

-- The index of a multiplexed reply is a position of the window, whatever the engine: no row of the tables has another.
pub index_inside : {set : Settings} {resource : ℕ → ℕ → Result Resource ℕ} {read : ℕ → ℕ → ℕ → Result Reading ℕ} {ks : List ℕ} {heard : ℕ → Heard} {r : Reply}
    → (reply : MultiplexedReply set resource read ks heard (map (λ (k : ℕ). state_in (heard k)) ks) r) → reply.index < length ks
index_inside {ks = ks} {heard = heard} reply =
    rw (length-map ks (λ (k : ℕ). state_in (heard k))) at (index_heard _ _ _ _ reply.is_symbol).0

module _ (set : Settings) (n : ℕ) (good : window_refusal set n ≡ 0) (mode : bundles set (size_of set n) ≡ false)
    (least : 2 ≤ size_of set n) (most : size_of set n ≤ 4)
    (S : ℕ → Send) (H : ℕ → Heard) (F : ℕ → View) (read : ℕ → ℕ → ℕ → Result Reading ℕ)
    (low : (k : ℕ) → 1 ≤ k → k ≤ 13 → LowCce set (H k))
    (view : (k : ℕ) → 1 ≤ k → k ≤ 13 → F k ≡ view_of (H k))
    (reads_pdcch : ReadsPdcch set n read) (reads_block : ReadsBlock set n H read) where
  states : List State
  states = map (λ (k : ℕ). state_in (H k)) (window_of set.config n)

  es : List Entry
  es = map (entry S H) (times_of (window_of set.config n))

  states_size : length states ≡ size_of set n
  unfolding states
  states_size = length-map (window_of set.config n) (λ (k : ℕ). state_in (H k))

  state_at_holds : (i : ℕ) → i < size_of set n → get_or states i Dtx ≡ state_in (H (get_or (window_of set.config n) i 0))
  unfolding states
  state_at_holds i h = lists.entry (λ (k : ℕ). state_in (H k)) (window_of set.config n) i Dtx 0 h

  window_state_holds : window_state F (window_of set.config n) ≡ states
  unfolding states window_state
  window_state_holds =
      same_states H F (window_of set.config n)
      (all_of _ (window_of set.config n) (λ k e. let w = of_window set.config n k e in view k w.least w.most))

  -- silent exactly where nothing was heard
  nothing_silent : any_of is_heard es ≡ false → symbol_of states ≡ None
  unfolding states es
  nothing_silent e =
      (silent_exactly states (omega (arith, states_size)) (omega (arith, states_size))).1
      (all_dtx_holds H (window_of set.config n)
      (all_of _ (window_of set.config n) (λ k m. none_of S H is_heard (times_of (window_of set.config n)) e k (in_window set.config n k m))))

  silent_nothing : symbol_of states ≡ None → any_of is_heard es ≡ false
  unfolding states es
  silent_nothing e =
      let none = dtx_all H (window_of set.config n) ((silent_exactly states (omega (arith, states_size)) (omega (arith, states_size))).0 e) in
      all_none S H is_heard (times_of (window_of set.config n))
      (all_of _ (times_of (window_of set.config n)) (λ k m. of_all _ (window_of set.config n) none k (in_time_holds set.config n k m)))

  -- what carries a reply at index i, where x was heard: its resource, what it is read as, and how
  record Carried (i : ℕ) (x : Heard) : Type 0 where
    resource : ℕ
    named : Place
    read_as : ReadAs i x named
    carries : Carries set (resource_of set n) named resource
    seen_on : carrier_of set n i (view_of x) ≡ Ok (record { 0 = resource })
    position : place_position named ≡ i
    is_read : (b0 b1 : ℕ) → read resource b0 b1 ≡ read_at set (size_of set n) named b0 b1

  by_pdcch : (i : ℕ) (c : Cce) → i < size_of set n → c.0 < edge set.nrb 4
      → (r : ℕ) × (resource_of set n i c.0 ≡ Ok (record { 0 = r }))
  by_pdcch i c inside below = let p = (calls_one_to_one set n good).into i c.0 inside below in (p.0, p.3.there)

  carried : (i : ℕ) → i < size_of set n → (x : Heard) → H (get_or (window_of set.config n) i 0) ≡ x → is_heard x ≡ true → Carried i x
  unfolding carrier_of view_of
  carried i inside Nothing e h = absurd (false≢true h)
  carried i inside (Granted g) e h =
      let b = window_k set.config n i inside in
      let k : ℕ = get_or (window_of set.config n) i 0 in
      let p = by_pdcch i g.cce inside (rw e at (low k (omega arith) (omega arith)) k g.cce.0 refl) in
      record {
        resource = p.0;
        named = place.Pdcch i g.cce;
        read_as = refl;
        carries = p.1;
        seen_on = p.1;
        position = refl;
        is_read = λ b0 b1. reads_pdcch i g.cce.0 p.0 b0 b1 p.1;
      }
  carried i inside (Scheduled x) e h =
      let b = reads_block (get_or (window_of set.config n) i 0) (member_at set.config n i inside) (ap is_block e) in
      let same : b.0 ≡ i = same_position set.config n b.0 i b.1 inside b.2 in
      record {
        resource = set.scheduled;
        named = place.Block i;
        read_as = refl;
        carries = refl;
        seen_on = refl;
        position = refl;
        is_read = λ b0 b1. rw (← same) (b.3 b0 b1);
      }
  carried i inside (Released p) e h =
      let b = window_k set.config n i inside in
      let k : ℕ = get_or (window_of set.config n) i 0 in
      let q = by_pdcch i p.cce inside (rw e at (low k (omega arith) (omega arith)) k p.cce.0 refl) in
      record {
        resource = q.0;
        named = place.Pdcch i p.cce;
        read_as = refl;
        carries = q.1;
        seen_on = q.1;
        position = refl;
        is_read = λ b0 b1. reads_pdcch i p.cce.0 q.0 b0 b1 q.1;
      }

  goes_on : (i b0 b1 r : ℕ) (x : Heard) → F (get_or (window_of set.config n) i 0) ≡ view_of x
      → carrier_of set n i (view_of x) ≡ Ok (record { 0 = r })
      → symbol_answer set n F (window_of set.config n) (symbol i b0 b1)
      ≡ answer.Sent (record { kind = kind_multiplexed; resource = record { 0 = r }; b0 = b0; b1 = b1; second = second_port set r })
  unfolding symbol_answer reply_on
  goes_on i b0 b1 r x seen there = rw (seen, there)

  -- the delivered positions are those that are A in every state sending the symbol
  exact : (i b0 b1 p : ℕ) → p < size_of set n
      → (delivered_set (size_of set n) i b0 b1 / 2 ^ p % 2 ≡ 1)
      ↔ ((ss : List State) → length ss ≡ size_of set n → symbol_of ss ≡ symbol i b0 b1 → get_or ss p Dtx ≡ Ack)
  unfolding delivered_set
  exact i b0 b1 p h =
      let a = set_bit (size_of set n) (delivered_at (size_of set n) i b0 b1) p h in
      let b = delivered_exactly (size_of set n) i b0 b1 p in
      (λ e. b.0 (a.0 e), λ f. a.1 (b.1 f))

  within : (i b0 b1 : ℕ) → delivered_set (size_of set n) i b0 b1 < 2 ^ size_of set n
  unfolding delivered_set
  within i b0 b1 = set_below (size_of set n) (delivered_at (size_of set n) i b0 b1)

  -- mode 1 leaves one port
  no_second : has_second_port set ≡ false
  unfolding bundles
  no_second =
      let ok = (accepted-window set n good).0 in
      let other = eqb-false set.mode 0 (or_parts (eqb set.mode 0) (eqb (size_of set n) 1) mode).0 in
      false_from_ne_true (has_second_port set) (λ two. (ok.two_ports two).0 (omega (arith, other, ok.mode)))

  -- the reply of a symbol
  sent : (i b0 b1 : ℕ) → symbol_of states ≡ symbol i b0 b1
      → (r : Reply) × (symbol_answer set n F (window_of set.config n) (symbol i b0 b1) ≡ answer.Sent r)
      × MultiplexedReply set (resource_of set n) read (window_of set.config n) H states r
  sent i b0 b1 e =
      let h = index_heard states i b0 b1 e in
      let inside : i < size_of set n = rw states_size at h.0 in
      let k : ℕ = get_or (window_of set.config n) i 0 in
      let b = window_k set.config n i inside in
      let heard : is_heard (H k) ≡ true = was_heard (is_heard (H k)) refl (λ u. h.1 (state_at_holds i inside ∙ unheard_dtx (H k) u)) in
      let c : Carried i (H k) = carried i inside (H k) refl heard in (
        record { kind = kind_multiplexed; resource = record { 0 = c.resource }; b0 = b0; b1 = b1; second = second_port set c.resource },
        goes_on i b0 b1 c.resource (H k) (view k (omega arith) (omega arith)) c.seen_on,
        record {
          kind = refl;
          index = i;
          is_symbol = e;
          named = c.named;
          is_heard = c.read_as;
          on_resource = c.carries;
          delivered = delivered_set (size_of set n) i b0 b1;
          is_read = c.is_read b0 b1 ∙ read_symbol set (size_of set n) c.named states i b0 b1 c.position mode states_size e;
          exactly = exact i b0 b1;
          no_other = within i b0 b1;
          one_port = one_port_holds set c.resource no_second;
        },
      )
    where
      was_heard : (t : Bool) → is_heard (H (get_or (window_of set.config n) i 0)) ≡ t
          → (is_heard (H (get_or (window_of set.config n) i 0)) ≡ false → ⊥) → is_heard (H (get_or (window_of set.config n) i 0)) ≡ true
      was_heard true t none = t
      was_heard false t none = absurd (none t)

  answered : (y : Option Symbol) → symbol_of states ≡ y
      → ((any_of is_heard es ≡ true) ⊎ (any_of is_heard es ≡ true → ⊥))
      × (any_of is_heard es ≡ true → (r : Reply) × (symbol_answer set n F (window_of set.config n) y ≡ answer.Sent r) × MultiplexedReply set (resource_of set n) read (window_of set.config n) H states r)
      × ((any_of is_heard es ≡ true → ⊥) → symbol_answer set n F (window_of set.config n) y ≡ answer.Silent)
  unfolding symbol_answer
  answered (Some y) e = (inl (heard (any_of is_heard es) refl), λ some. sent y.index y.b0 y.b1 e, λ none. absurd (none (heard (any_of is_heard es) refl)))
    where
      heard : (t : Bool) → any_of is_heard es ≡ t → any_of is_heard es ≡ true
      heard true t = t
      heard false t = let z : ◌≡◌ {A = ℕ} 0 1 = cc (e, nothing_silent t) in absurd (omega arith)
  answered None e = (
    inr (λ some. false≢true (sym (silent_nothing e) ∙ some)),
    λ some. absurd (false≢true (sym (silent_nothing e) ∙ some)),
    λ none. refl,
  )

  pub multiplexed_window : Multiplexed set (resource_of set n) read (window_of set.config n) H
      (map (entry S H) (times_of (window_of set.config n))) (Ok (multiplexed_answer set n F (window_of set.config n)))
  unfolding multiplexed_answer states es
  multiplexed_window =
      let a = answered (symbol_of states) refl in
      rw window_state_holds (sent_exactly _ _ _ a.0 a.1 a.2)
