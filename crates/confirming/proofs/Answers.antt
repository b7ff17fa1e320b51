-- What the call answers: which refusals are left when it looks at the reply, which blocks its sets say, and what it does not look at.
-- Assumes nothing.
use Rattle.std.proofs.Common.{Result, Ok, Err, Option, Some, None}
use Prim.Native.Nat.{ℕ, zero, suc, ◌+◌, ◌*◌, ◌<◌}
use mathlib.Core.Bool.{Bool, true, false, cond, ◌&&◌}
use mathlib.Core.List.{List}
use mathlib.Core.Logic.{◌⊎◌, inl, inr}
use mathlib.Core.Path.{◌≡◌, refl, sym, ap, ◌∙◌, fun_ext}
use native.Mathlib.Decide.{ℕ_discrete, dec_lt}
use native.Mathlib.Omega.{arith}
use lib.Dec.{eqb, leb, ltb}
use lib.ListN.{length, take, length-take, get_or-eq_default}
use Rattle.frame.specs.declared.Settings.{Settings}
use Rattle.frame.specs.Order.{position_of}
use Rattle.frame.specs.Refusals.{unless_refused, refused_or, number_in}
use Rattle.frame.specs.Settings.{window_refusal, bundles}
use Rattle.frame.specs.Table.{window_of}
use Rattle.frame.proofs.Accepted.{neither}
use Rattle.frame.proofs.Bools.{either}
use Rattle.resource.specs.declared.Cce.{Cce}
use Rattle.resource.specs.Calls.{range_refusal, size_of, inverse_in}
use Rattle.resource.specs.Formula.{edge}
use Rattle.resource.proofs.OneToOne.{inverse_call}
use Rattle.symbols.specs.Delivered.{delivery_of}
use Rattle.symbols.proofs.Reading.{set_below}
use Rattle.station.specs.declared.Place.{Place}
use Rattle.station.specs.declared.Place.TheVariants.{Pdcch, Block}
use Rattle.station.specs.declared.Reading.{Reading}
use Rattle.station.specs.declared.Reading.TheVariants.{Bundled, Multiplexed}
use Rattle.station.specs.Readings.{place_position, bad_bits, bundled_reading, multiplexed_reading, read_at, read_inverted, dynamic_reading, told_refusal, read_on, read_of}
use Rattle.confirmation.specs.declared.Send.{Send}
use Rattle.confirmation.specs.Confirmed.{confirmed}
use Rattle.confirmation.specs.Sent.{told_of}
use Rattle.confirming.specs.Blocks.{Confirmed}
use Rattle.confirming.specs.declared.SentWindow.{SentWindow}
use Rattle.confirming.specs.Blocks.{confirmed_by, read_sent, confirmed_of}
use Rattle.confirming.specs.Exactly.{send_at, reply_read, BlocksConfirmed}
use Rattle.confirming.specs.Records.{nothing_sent, send_of, record_at, sent_in}
use Rattle.confirming.specs.Refusals.{sent_refusal, call_refusal}
use Rattle.confirming.proofs.Confirming.{refused_blocks}
use Rattle.confirming.proofs.Exactly.{call_refused}
use Rattle.confirming.proofs.Sets.{set_exactly}

-- 13 and 14 are all that the reading of a reply refuses where settings, subframe and the told position are not refused.
abbrev Left : Result Reading ℕ → Type 0
Left x = (number_in x ≡ 0) ⊎ ((number_in x ≡ 13) ⊎ (number_in x ≡ 14))

symbol_left : (p : Place) (d : Option ℕ) → Left (multiplexed_reading p d)
unfolding multiplexed_reading
symbol_left p (Some positions) = inl refl
symbol_left p None = inr (inr refl)

module _ (s : Settings) where
  at_left : (size : ℕ) (p : Place) (b0 b1 : ℕ) → Left (read_at s size p b0 b1)
  unfolding read_at bundled_reading
  at_left size p b0 b1 =
      either Left (bundles s size) _ _ (either Left (bad_bits s b0 b1) (Err 14) (Ok (Bundled p b0 b1)) (inr (inr refl)) (inl refl))
      (symbol_left p (delivery_of size (place_position p) b0 b1))

  module _ (n : ℕ) (accepted : window_refusal s n ≡ 0) (r b0 b1 : ℕ) where
    dynamic_left : Left (dynamic_reading s n r b0 b1)
    unfolding dynamic_reading inverse_in range_refusal
    dynamic_left = rw (inverse_call s n accepted r) (go _ _ (leb s.n1 r && ltb r (s.n1 + size_of s n * edge s.nrb 4)))
      where
        go : (m c : ℕ) (b : Bool) → Left (read_inverted s (size_of s n) (unless_refused {T = ℕ × Cce} (cond b 0 13) (m, record { 0 = c })) b0 b1)
        go m c true = at_left (size_of s n) (Pdcch m (record { 0 = c })) b0 b1
        go m c false = inr (inl refl)

    on_left : (t : Option ℕ) → Left (read_on s n t r b0 b1)
    unfolding read_on
    on_left None = dynamic_left
    on_left (Some m) = either Left (eqb r s.scheduled) _ _ (at_left (size_of s n) (Block m) b0 b1) dynamic_left

    read_left : (t : Option ℕ) → told_refusal s n t ≡ 0 → Left (read_of s n t r b0 b1)
    unfolding read_of
    read_left t fine = rw (accepted, fine) (on_left t)

-- A refused reading is its refusal.
as_refused : (x : Result Reading ℕ) → (number_in x ≡ 0 → ⊥) → x ≡ Err (number_in x)
as_refused (Ok (Bundled p b0 b1)) h = absurd (h refl)
as_refused (Ok (Multiplexed p positions)) h = absurd (h refl)
as_refused (Err k) h = refl

-- What a record says k ago, whatever k, is what the records of the window's positions say.
pub sent_same : (ks : List ℕ) (w v : SentWindow)
    → ((m : ℕ) → m < length ks → send_of (record_at (length ks) w m) ≡ send_of (record_at (length ks) v m)) → sent_in ks w ≡ sent_in ks v
sent_same ks w v same = fun_ext (λ k. go k (dec_lt (position_of k ks) (length ks)))
  where
    beyond : (w : SentWindow) (k : ℕ) → (position_of k ks < length ks → ⊥) → sent_in ks w k ≡ send_of nothing_sent
    beyond w k h =
        ap send_of (get_or-eq_default (take (length ks) w.at) nothing_sent {n = position_of k ks} (omega (arith, length-take (length ks) w.at)))

    go : (k : ℕ) → Dec (position_of k ks < length ks) → sent_in ks w k ≡ sent_in ks v k
    go k (yes h) = same (position_of k ks) h
    go k (no h) = beyond w k h ∙ sym (beyond v k h)

module _ (s : Settings) (n : ℕ) (w : SentWindow) (r b0 b1 : ℕ) where
  abbrev K : List ℕ
  K = window_of s.config n

  abbrev S : ℕ → Send
  S = sent_in K w

  abbrev answer : Confirmed
  answer = confirmed_of s n w r b0 b1

  answer_refusal : answer.refusal ≡ number_in (read_sent s n w r b0 b1)
  unfolding confirmed_of confirmed_by
  answer_refusal = refl

  -- Where nothing is refused before the reply is looked at, it is read; else the refusal is answered.
  read_reply : call_refusal s n w ≡ 0 → read_sent s n w r b0 b1 ≡ reply_read s n w r b0 b1
  unfolding read_sent
  read_reply e = rw e

  refused_before : (call_refusal s n w ≡ 0 → ⊥) → answer.refusal ≡ call_refusal s n w
  unfolding read_sent
  refused_before h = answer_refusal ∙ go (call_refusal s n w) h
    where
      go : (k : ℕ) → (k ≡ 0 → ⊥) → number_in (refused_or k (reply_read s n w r b0 b1)) ≡ k
      go zero h = absurd (h refl)
      go (suc k) h = refl

  reply_left : call_refusal s n w ≡ 0 → Left (reply_read s n w r b0 b1)
  unfolding call_refusal
  reply_left e =
      read_left s n (neither (window_refusal s n) (sent_refusal s n K S) e).0 r b0 b1 (told_of K S) ((call_refused s n w).told e)

  not_before : answer.refusal ≡ 0 → call_refusal s n w ≡ 0
  not_before e = elim (ℕ_discrete (call_refusal s n w) 0) [ yes z ↦ z | no h ↦ sym (refused_before h) ∙ e ]

  same_answer : (v : SentWindow) → ((m : ℕ) → m < size_of s n → send_at s n w m ≡ send_at s n v m) → answer ≡ confirmed_of s n v r b0 b1
  unfolding confirmed_of read_sent call_refusal
  same_answer v same = rw (sent_same K w v same)

  pub blocks_confirmed : BlocksConfirmed s n w r b0 b1 answer
  unfolding confirmed_of confirmed_by
  blocks_confirmed =
      record {
        refused = refused_before;
        reading = λ e. ap number_in (read_reply e);
        left = λ e. rw (read_reply e) (reply_left e);
        first_blocks = λ e m. rw (read_reply (not_before e)) (set_exactly (length K) (λ (m : ℕ). confirmed K S (reply_read s n w r b0 b1) m 0) m);
        second_blocks = λ e m. rw (read_reply (not_before e)) (set_exactly (length K) (λ (m : ℕ). confirmed K S (reply_read s n w r b0 b1) m 1) m);
        first_below = set_below (length K) (λ (m : ℕ). confirmed K S (read_sent s n w r b0 b1) m 0);
        second_below = set_below (length K) (λ (m : ℕ). confirmed K S (read_sent s n w r b0 b1) m 1);
        nothing = λ h.
            let none = refused_blocks K S (read_sent s n w r b0 b1) _ (as_refused (read_sent s n w r b0 b1) h) in
            (sym (ap (λ (c : Confirmed). c.first) none), sym (ap (λ (c : Confirmed). c.second) none));
        same = same_answer;
      }
