-- A window in which every heard PDCCH has a resource is silent exactly for the causes that 01 and U1 have.
-- Assumes nothing.
use Rattle.std.proofs.Common.{Result, Ok, Err, Option, Some, None}
use Prim.Native.Nat.{ℕ, suc, ◌<◌, ◌≤◌, suc-le-suc}
use mathlib.Core.Bool.{Bool, true, false, false≢true}
use mathlib.Core.List.{List, [], ◌∷◌}
use mathlib.Core.Logic.{◌⊎◌, inl, inr, ◌↔◌}
use mathlib.Core.Path.{◌≡◌, refl, sym, ◌∙◌}
use native.Mathlib.Omega.{arith}
use lib.Dec.{eqb}
use lib.ListN.{length, get_or}
use borrow.Author.Tests.{eqb-true, eqb-false, ne_eqb}
use Rattle.frame.specs.declared.Settings.{Settings}
use Rattle.frame.specs.Order.{order_of}
use Rattle.frame.specs.Settings.{bundles}
use Rattle.frame.specs.Table.{window_of}
use Rattle.frame.proofs.Accepted.{Accepted}
use Rattle.frame.proofs.Lists.{entry}
use Rattle.frame.proofs.Times.{order_size, order_below}
use Rattle.frame.proofs.Windows.{multiplexed_size}
use Rattle.resource.specs.declared.Resource.{Resource}
use Rattle.resource.specs.Calls.{size_of, resource_of}
use Rattle.symbols.specs.declared.State.TheVariants.{Dtx}
use Rattle.symbols.specs.declared.Symbol.{Symbol}
use Rattle.symbols.specs.Selection.{symbol_of, AllDtx, symbol}
use Rattle.symbols.proofs.Rows.{silent_exactly, index_heard}
use Rattle.reply.specs.declared.Answer.TheVariants as answer
use Rattle.reply.specs.declared.ReplyKind.{ReplyKind}
use Rattle.reply.specs.Kinds.{kind_bundled, kind_multiplexed}
use Rattle.heard.specs.declared.Control.{Control}
use Rattle.fold.specs.declared.Seen.{Seen}
use Rattle.heard.specs.declared.View.{View}
use Rattle.heard.specs.declared.View.TheVariants.{Unheard, Pdcch, Block}
use Rattle.fold.specs.Fold.{unseen, step_of, seen_from, seen_of}
use Rattle.heard.specs.Memory.{bit}
use Rattle.reply.specs.Replies.{reply_on, miss_shown, second_bit, lone_answer, bundled_answer, state_of, carrier_of, window_state, symbol_answer, multiplexed_answer, window_answer}
use Rattle.reply.specs.Silence.{HeardMapped, NoneOrMissed, SilentCause}
use Rattle.reply.proofs.Multiplexing.{state_length}

-- A reply that has a resource is sent.
mapped_not_silent : (s : Settings) (kind : ReplyKind) (x : Result Resource ℕ) (r : Resource) (b0 b1 : ℕ) → x ≡ Ok r → reply_on s kind x b0 b1 ≡ answer.Silent → ⊥
unfolding reply_on
mapped_not_silent s kind (Ok q) r b0 b1 e f = let z : ◌≡◌ {A = ℕ} 0 1 = cc in omega arith
mapped_not_silent s kind (Err k) r b0 b1 e f = let z : ◌≡◌ {A = ℕ} 0 1 = cc in omega arith

-- Position, first CCE and V of the fold are those of a heard PDCCH.
module _ (view : ℕ → View) (ks : List ℕ) where
  pub record Latest (seen : Seen) : Type 0 where
    pub control : Control
    pub inside : seen.position < length ks
    pub heard : view (get_or ks seen.position 0) ≡ Pdcch control
    pub cce : seen.cce ≡ control.cce
    pub dai : seen.v ≡ control.dai

  latest_step : (seen : Seen) (m : ℕ) (x : View) → m < length ks → view (get_or ks m 0) ≡ x
      → (seen.u ≡ 0) ⊎ Latest seen → ((step_of seen m x).u ≡ 0) ⊎ Latest (step_of seen m x)
  unfolding step_of
  latest_step seen m Unheard h e l = l
  latest_step seen m (Pdcch g) h e l = inr (record { control = g; inside = h; heard = e; cce = refl; dai = refl })
  latest_step seen m (Block b) h e (inl none) = inl none
  latest_step seen m (Block b) h e (inr l) = inr (record { control = l.control; inside = l.inside; heard = l.heard; cce = l.cce; dai = l.dai })

  latest_from : (ms : List ℕ) → ((j : ℕ) → j < length ms → get_or ms j 0 < length ks) → (seen : Seen)
      → (seen.u ≡ 0) ⊎ Latest seen → ((seen_from view ks ms seen).u ≡ 0) ⊎ Latest (seen_from view ks ms seen)
  unfolding seen_from
  latest_from [] inside seen l = l
  latest_from (m ∷ ms) inside seen l =
      latest_from ms (λ j h. inside (suc j) (suc-le-suc h)) (step_of seen m (view (get_or ks m 0)))
      (latest_step seen m (view (get_or ks m 0)) (inside 0 (omega arith)) refl l)

pub latest : (view : ℕ → View) (c n : ℕ) → ((seen_of view (window_of c n)).u ≡ 0) ⊎ Latest view (window_of c n) (seen_of view (window_of c n))
unfolding seen_of
latest view c n =
    latest_from view (window_of c n) (order_of (window_of c n)) (λ j h. order_below c n j (rw (order_size c n) at h)) unseen (inl refl)

module _ (s : Settings) (n : ℕ) (view : ℕ → View) (all-mapped : HeardMapped s n view) where
  -- The bundled reply that is due goes out.
  bundled_sent : (seen : Seen) → (seen.u ≡ 0) ⊎ Latest view (window_of s.config n) seen → (seen.u ≡ 0 → ⊥)
      → reply_on s kind_bundled (resource_of s n seen.position seen.cce.0) (bit seen.first) (second_bit s seen) ≡ answer.Silent → ⊥
  bundled_sent seen (inl none) some e = some none
  bundled_sent seen (inr l) some e =
      let p = all-mapped seen.position l.control l.inside l.heard in
      mapped_not_silent s kind_bundled _ p.0 _ _ (rw l.cce p.1) e

  -- So does the reply of a lone scheduled block: without one there is nothing to send.
  lone_silent : (seen : Seen) → seen.u ≡ 0 → (lone_answer s seen ≡ answer.Silent) ↔ NoneOrMissed s seen
  unfolding lone_answer reply_on
  lone_silent seen none = go seen.scheduled refl
    where
      go : (b : Bool) → seen.scheduled ≡ b → (lone_answer s seen ≡ answer.Silent) ↔ NoneOrMissed s seen
      go true e = (
        λ a. let z : ◌≡◌ {A = ℕ} 0 1 = cc (rw e at a) in absurd (omega arith),
        λ c. absurd (alone c),
      )
        where
          alone : NoneOrMissed s seen → ⊥
          alone (inl z) = false≢true (sym z.1 ∙ e)
          alone (inr z) = omega (arith, z.0)
      go false e = (λ a. inl (none, e), λ c. rw e)

  bundled_silent : (seen : Seen) → (seen.u ≡ 0) ⊎ Latest view (window_of s.config n) seen
      → (bundled_answer s n seen ≡ answer.Silent) ↔ NoneOrMissed s seen
  unfolding bundled_answer
  bundled_silent seen l = go (eqb seen.u 0) refl (miss_shown s seen) refl
    where
      go : (none : Bool) → eqb seen.u 0 ≡ none → (missed : Bool) → miss_shown s seen ≡ missed
          → (bundled_answer s n seen ≡ answer.Silent) ↔ NoneOrMissed s seen
      go true e missed f = rw e (lone_silent seen (eqb-true seen.u 0 e))
      go false e true f = (λ a. inr (omega (arith, eqb-false seen.u 0 e), f), λ c. rw (e, f))
      go false e false f = (
        λ a. absurd (bundled_sent seen l (eqb-false seen.u 0 e) (rw (e, f) at a)),
        λ c. absurd (neither c),
      )
        where
          neither : NoneOrMissed s seen → ⊥
          neither (inl z) = eqb-false seen.u 0 e z.0
          neither (inr z) = false≢true (sym f ∙ z.1)

  -- The resource of a position that is not D.
  carrier_mapped : (m : ℕ) (x : View) → m < size_of s n → view (get_or (window_of s.config n) m 0) ≡ x → (state_of x ≡ Dtx → ⊥)
      → (r : Resource) × (carrier_of s n m x ≡ Ok r)
  unfolding state_of carrier_of
  carrier_mapped m Unheard inside e heard = absurd (heard refl)
  carrier_mapped m (Pdcch g) inside e heard = all-mapped m g inside e
  carrier_mapped m (Block b) inside e heard = (record { 0 = s.scheduled }, refl)

  -- The symbol of a state that is not all D goes out.
  symbol_sent : (i b0 b1 : ℕ) → symbol_of (window_state view (window_of s.config n)) ≡ symbol i b0 b1
      → symbol_answer s n view (window_of s.config n) (symbol i b0 b1) ≡ answer.Silent → ⊥
  unfolding symbol_answer window_state
  symbol_sent i b0 b1 e a =
      let ks : List ℕ = window_of s.config n in
      let h = index_heard (window_state view ks) i b0 b1 e in
      let inside : i < length ks = rw (state_length view ks) at h.0 in
      let p = carrier_mapped i (view (get_or ks i 0)) inside refl (λ d. h.1 (entry (λ (k : ℕ). state_of (view k)) ks i Dtx 0 inside ∙ d)) in
      mapped_not_silent s kind_multiplexed _ p.0 b0 b1 p.1 a

  multiplexed_silent : 2 ≤ size_of s n → size_of s n ≤ 4
      → (multiplexed_answer s n view (window_of s.config n) ≡ answer.Silent) ↔ AllDtx (window_state view (window_of s.config n))
  unfolding multiplexed_answer symbol_answer
  multiplexed_silent least most = go (symbol_of (window_state view (window_of s.config n))) refl
    where
      exactly : (symbol_of (window_state view (window_of s.config n)) ≡ None) ↔ AllDtx (window_state view (window_of s.config n))
      exactly =
          let size = state_length view (window_of s.config n) in
          silent_exactly (window_state view (window_of s.config n)) (omega arith) (omega arith)

      go : (y : Option Symbol) → symbol_of (window_state view (window_of s.config n)) ≡ y
          → (multiplexed_answer s n view (window_of s.config n) ≡ answer.Silent) ↔ AllDtx (window_state view (window_of s.config n))
      go None e = (λ a. exactly.0 e, λ d. rw e)
      go (Some y) e = (
        λ a. absurd (symbol_sent y.index y.b0 y.b1 e (rw e at a)),
        λ d. let z : ◌≡◌ {A = ℕ} 0 1 = cc (e, exactly.1 d) in absurd (omega arith),
      )

  -- Silence has these causes and no other.
  pub silent_cause : Accepted s → 0 < size_of s n → (window_answer s n view ≡ answer.Silent) ↔ SilentCause s n view
  unfolding window_answer
  silent_cause ok some = go (bundles s (size_of s n)) refl
    where
      window : eqb (size_of s n) 0 ≡ false
      window = ne_eqb (size_of s n) 0 (λ z. omega arith)

      go : (b : Bool) → bundles s (size_of s n) ≡ b → (window_answer s n view ≡ answer.Silent) ↔ SilentCause s n view
      go true e =
          let exactly = bundled_silent (seen_of view (window_of s.config n)) (latest view s.config n) in (
            λ a. record { bundled = λ b. exactly.0 (rw (window, e) at a); multiplexed = λ f. absurd (false≢true (sym f ∙ e)) },
            λ c. rw (window, e) (exactly.1 (c.bundled e)),
          )
      go false e =
          let size = multiplexed_size s n ok some e in
          let exactly = multiplexed_silent size.0 size.1 in (
            λ a. record { bundled = λ f. absurd (false≢true (sym e ∙ f)); multiplexed = λ b. exactly.0 (rw (window, e) at a) },
            λ c. rw (window, e) (exactly.1 (c.multiplexed e)),
          )
