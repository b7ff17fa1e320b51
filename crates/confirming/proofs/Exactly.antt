-- The call refuses what was sent for the causes that the words say, and for no other.
-- Assumes nothing.
use Rattle.std.proofs.Common.{Option, Some, None}
use Prim.Native.Nat.{ℕ, ◌+◌, ◌-◌, ◌<◌, ◌≤◌, ◌%◌}
use mathlib.Core.Bool.{Bool, true, false, cond, not, ◌&&◌, ◌||◌, false≢true}
use mathlib.Core.List.{List, map}
use mathlib.Core.Logic.{◌⊎◌, inl, inr, ⊎_elim}
use mathlib.Core.Path.{◌≡◌, refl, sym, ap, ◌∙◌}
use native.Mathlib.Decide.{ℕ_discrete, dec_lt}
use native.Mathlib.Omega.{arith}
use lib.Dec.{eqb, ltb}
use lib.ListN.{length, get_or}
use borrow.Author.Tests.{eqb-false, lt-ltb, le-ltb}
use Rattle.frame.specs.declared.Settings.{Settings}
use Rattle.frame.specs.Distance.{before, subframe_of}
use Rattle.frame.specs.Settings.{or_else, outside, cell_refusal, mode_refusal, blocks_refusal, has_scheduled, scheduled_refusal, has_second_port, ports_mode_refusal, ports_refusal, later_refusal, settings_refusal, no_window_refusal, window_refusal}
use Rattle.frame.specs.Special.{last_special, special_refusal, too_short}
use Rattle.frame.specs.Table.{window_of}
use Rattle.frame.proofs.Accepted.{neither}
use Rattle.frame.proofs.Bools.{either}
use Rattle.frame.proofs.Causes.{refused_first}
use Rattle.frame.proofs.Windows.{window_k, window_position, window_downlink}
use Rattle.heard.specs.Heard.{heard_refusal}
use Rattle.heard.proofs.Short.{twenty_exactly}
use Rattle.heard.proofs.Valid.{valid}
use Rattle.resource.specs.Calls.{size_of}
use Rattle.station.specs.Readings.{told_refusal}
use Rattle.station.proofs.Back.{told_fine}
use Rattle.confirmation.specs.declared.Send.{Send}
use Rattle.confirmation.specs.declared.Send.TheVariants.{Nothing, Granted, Scheduled, Released}
use Rattle.confirmation.specs.Sent.{is_block, as_heard, told_of}
use Rattle.confirmation.proofs.Told.{told_position_holds}
use Rattle.confirming.specs.declared.SentWindow.{SentWindow}
use Rattle.confirming.specs.Exactly.{send_at, refusal_at, SomeRefused, FirstRefused, DataTooShort, SecondBlock, CallRefused}
use Rattle.confirming.specs.Records.{sent_in}
use Rattle.confirming.specs.Refusals.{rank_of, lowest, refusal_ago, blocks_sent, sent_refusal, call_refusal}
use Rattle.confirming.proofs.Ranks.{same_rank, lowest_first, lowest_met, Ranked, answered_of_holds, heard_ranked}
use Rattle.confirming.proofs.Second.{two_of, of_two}

rank_none : rank_of 0 ≡ 7
unfolding rank_of
rank_none = refl

rank_last : rank_of 18 ≡ 6
unfolding rank_of
rank_last = refl

rank_short : rank_of 20 ≡ 2
unfolding rank_of
rank_short = refl

rank_uplink : rank_of 9 ≡ 1
unfolding rank_of
rank_uplink = refl

-- A valid scheduled block has a resource, and a subframe that is long enough.
block_valid : (s : Settings) (d : ℕ) (x : Send) → is_block x ≡ true → heard_refusal s d (as_heard x) ≡ 0
    → (has_scheduled s ≡ true) × (too_short s d ≡ false)
block_valid s d Nothing b e = absurd (false≢true b)
block_valid s d (Granted g) b e = absurd (false≢true b)
block_valid s d (Scheduled x) b e = let v = valid s d (as_heard (Scheduled x)) e in (v.2, v.0.long_enough)
block_valid s d (Released p) b e = absurd (false≢true b)

-- 9 is no number of settings or subframe.
abbrev Other : ℕ → Type 0
Other k = k ≡ 9 → ⊥

or : (b : Bool) (k : ℕ) {next : ℕ} → eqb k 9 ≡ false → Other next → Other (cond b k next)
or b k e q = either Other b k _ (eqb-false k 9 e) q

window_never_nine : (s : Settings) (n : ℕ) → window_refusal s n ≡ 9 → ⊥
unfolding window_refusal no_window_refusal settings_refusal cell_refusal mode_refusal blocks_refusal later_refusal scheduled_refusal special_refusal ports_mode_refusal ports_refusal
window_never_nine s n =
    let none : Other 0 = eqb-false 0 9 refl in
    let cell = or (ltb 6 s.config) 1 refl (or (outside 6 110 s.nrb) 2 refl (or (ltb 2047 s.n1) 3 refl none)) in
    let mode = or (ltb 1 s.mode) 4 refl (or (eqb s.mode 1 && eqb s.config 5) 5 refl none) in
    let blocks = or (outside 1 2 s.blocks) 6 refl none in
    let scheduled = or (has_scheduled s && not (ltb s.scheduled s.n1)) 17 refl none in
    let special = or (ltb 1 s.prefix || ltb (last_special s.prefix) s.special) 19 refl none in
    let ports = or (outside 1 2 s.ports || (has_second_port s && has_scheduled s)) 24 refl (or (eqb s.mode 1 && has_second_port s) 24 refl none) in
    let later = answered_of_holds Other scheduled (answered_of_holds Other special ports) in
    let window = or (eqb (length (window_of s.config n)) 0) 7 refl none in
    answered_of_holds Other (answered_of_holds Other cell (answered_of_holds Other mode (answered_of_holds Other blocks later))) window

module _ (s : Settings) (n : ℕ) (w : SentWindow) where
  abbrev K : List ℕ
  K = window_of s.config n

  abbrev S : ℕ → Send
  S = sent_in K w

  -- The first refusal over the window, as the definition lists them.
  abbrev low : ℕ
  low = lowest (map (refusal_ago s n S) K)

  at : (m : ℕ) → m < size_of s n → S (get_or K m 0) ≡ send_at s n w m
  at m h = rw (window_position s.config n m h)

  ago : (m : ℕ) → m < size_of s n → refusal_ago s n S (get_or K m 0) ≡ refusal_at s n w m
  unfolding subframe_of
  ago m h = rw (at m h)

  ranked : (m : ℕ) → m < size_of s n → Ranked (refusal_at s n w m)
  unfolding subframe_of
  ranked m h =
      let same : (n + 20 - get_or K m 0) % 10 ≡ before n (get_or K m 0) = omega (arith, window_k s.config n m h) in
      heard_ranked s (before n (get_or K m 0)) (rw same at (window_downlink s.config n m h)) (as_heard (send_at s n w m))

  low_first : (m : ℕ) → m < size_of s n → rank_of low ≤ rank_of (refusal_at s n w m)
  low_first m h = rw (ago m h) at (lowest_first (refusal_ago s n S) K m h)

  low_met : (low ≡ 0 → ⊥) → SomeRefused s n w low
  low_met h =
      let r = lowest_met (refusal_ago s n S) K h in
      record { position = r.0; inside = r.1; refused = sym (ago r.0 r.1) ∙ r.2 }

  -- What is refused and comes first is the first refusal.
  low_is : (k : ℕ) → (k ≡ 0 → ⊥) → FirstRefused s n w k → low ≡ k
  low_is k some f =
      let here = f.some in
      let placed : rank_of k < 7 = ⊎_elim (λ z. absurd (some z)) (λ p. p.1) (rw here.refused at (ranked here.position here.inside)) in
      let most : rank_of low ≤ rank_of k = rw here.refused at (low_first here.position here.inside) in
      let there = low_met (λ z. let none : rank_of low ≡ 7 = ap rank_of z ∙ rank_none in omega arith) in
      let least : rank_of k ≤ rank_of low = rw there.refused at (f.first there.position there.inside) in
      sym (same_rank k low placed (omega arith))

  all_valid : low ≡ 0 → (m : ℕ) → m < size_of s n → refusal_at s n w m ≡ 0
  all_valid z m h =
      let none : rank_of low ≡ 7 = ap rank_of z ∙ rank_none in
      let first = low_first m h in
      ⊎_elim (λ e. e) (λ p. absurd (omega arith)) (ranked m h)

  second_of : 1 < blocks_sent S K → SecondBlock s n w
  second_of h =
      let r = two_of S K h in
      record {
        one = r.0;
        other = r.1;
        apart = r.2;
        inside = r.3;
        one_block = rw (at r.0 (omega (arith, r.2, r.3))) at r.4;
        other_block = rw (at r.1 r.3) at r.5;
      }

  of_second : SecondBlock s n w → 1 < blocks_sent S K
  of_second b =
      of_two S K b.one b.other b.apart b.inside (rw (at b.one (omega arith)) b.one_block) (rw (at b.other b.inside) b.other_block)

  -- The three ways out, where settings and subframe are not refused.
  data Outcome : Type 0 where
    record_refused_holds : (low ≡ 0 → ⊥) → call_refusal s n w ≡ low → Outcome
    second_refused : low ≡ 0 → SecondBlock s n w → call_refusal s n w ≡ 18 → Outcome
    nothing_refused : low ≡ 0 → (SecondBlock s n w → ⊥) → call_refusal s n w ≡ 0 → Outcome

  module _ (accepted : window_refusal s n ≡ 0) where
    call_is : call_refusal s n w ≡ or_else low (cond (ltb 1 (blocks_sent S K)) 18 0)
    unfolding call_refusal sent_refusal
    call_is = rw accepted

    outcome : Outcome
    outcome = go (ℕ_discrete low 0) (dec_lt 1 (blocks_sent S K))
      where
        go : Dec (low ≡ 0) → Dec (1 < blocks_sent S K) → Outcome
        go (no h) d = record_refused_holds h (call_is ∙ sym (refused_first low low _ refl h))
        go (yes z) (yes h) = second_refused z (second_of h) (call_is ∙ rw (z, lt-ltb 1 (blocks_sent S K) h))
        go (yes z) (no h) = nothing_refused z (λ b. h (of_second b)) (call_is ∙ rw (z, le-ltb 1 (blocks_sent S K) (omega arith)))

    -- 0.
    none_to : Outcome → call_refusal s n w ≡ 0 → ((m : ℕ) → m < size_of s n → refusal_at s n w m ≡ 0) × (SecondBlock s n w → ⊥)
    none_to (record_refused_holds h is) e = absurd (h (sym is ∙ e))
    none_to (second_refused z b is) e = absurd (omega arith)
    none_to (nothing_refused z b is) e = (all_valid z, b)

    none_from : Outcome → ((m : ℕ) → m < size_of s n → refusal_at s n w m ≡ 0) → (SecondBlock s n w → ⊥) → call_refusal s n w ≡ 0
    none_from (record_refused_holds h is) all one = let r = low_met h in absurd (h (sym r.refused ∙ all r.position r.inside))
    none_from (second_refused z b is) all one = absurd (one b)
    none_from (nothing_refused z b is) all one = is

    -- Any number that some position is refused with.
    first_to : Outcome → (k : ℕ) → (k ≡ 0 → ⊥) → (k ≡ 18 → ⊥) → call_refusal s n w ≡ k → FirstRefused s n w k
    first_to (record_refused_holds h is) k some other e =
        let first : FirstRefused s n w low = record { some = low_met h; first = low_first } in
        rw (sym is ∙ e) at first
    first_to (second_refused z b is) k some other e = absurd (other (sym e ∙ is))
    first_to (nothing_refused z b is) k some other e = absurd (some (sym e ∙ is))

    first_from : Outcome → (k : ℕ) → (k ≡ 0 → ⊥) → FirstRefused s n w k → call_refusal s n w ≡ k
    first_from (record_refused_holds h is) k some f = is ∙ low_is k some f
    first_from (second_refused z b is) k some f = absurd (some (sym (low_is k some f) ∙ z))
    first_from (nothing_refused z b is) k some f = absurd (some (sym (low_is k some f) ∙ z))

    -- 18.
    abbrev LastOnly : Type 0
    LastOnly = (m : ℕ) → m < size_of s n → (refusal_at s n w m ≡ 0) ⊎ (refusal_at s n w m ≡ 18)

    last_to : Outcome → call_refusal s n w ≡ 18 → LastOnly × (SomeRefused s n w 18 ⊎ SecondBlock s n w)
    last_to (record_refused_holds h is) e =
        let same : low ≡ 18 = sym is ∙ e in (
          λ m inside.
              let first : 6 ≤ rank_of (refusal_at s n w m) = rw (same, rank_last) at (low_first m inside) in
              ⊎_elim inl (λ p. inr (same_rank (refusal_at s n w m) 18 p.1 (omega (arith, rank_last, p.1)))) (ranked m inside),
          inl (rw same at (low_met h)),
        )
    last_to (second_refused z b is) e = (λ m inside. inl (all_valid z m inside), inr b)
    last_to (nothing_refused z b is) e = absurd (omega arith)

    some_last : LastOnly → SomeRefused s n w 18 → FirstRefused s n w 18
    some_last all some =
        record {
          some = some;
          first = λ m inside. ⊎_elim (λ e. omega (arith, ap rank_of e, rank_none, rank_last)) (λ e. omega (arith, ap rank_of e)) (all m inside);
        }

    second_last : Outcome → LastOnly → SecondBlock s n w → call_refusal s n w ≡ 18
    second_last (record_refused_holds h is) all b =
        let r = low_met h in
        ⊎_elim (λ e. absurd (h (sym r.refused ∙ e))) (λ e. is ∙ sym r.refused ∙ e) (all r.position r.inside)
    second_last (second_refused z b is) all two = is
    second_last (nothing_refused z b is) all two = absurd (b two)

    -- 20.
    short_first : DataTooShort s n w → FirstRefused s n w 20
    short_first d =
        let exactly = twenty_exactly s (subframe_of s.config n d.position) (as_heard (send_at s n w d.position)) in
        record {
          some = record { position = d.position; inside = d.inside; refused = exactly.1 (d.carries, d.short) };
          first = λ m inside. ⊎_elim (λ e. omega (arith, ap rank_of e, rank_none, rank_short)) (λ p. omega (arith, rank_short, p.0)) (ranked m inside);
        }

    first_short : FirstRefused s n w 20 → DataTooShort s n w
    first_short f =
        let here = f.some in
        let r = (twenty_exactly s (subframe_of s.config n here.position) (as_heard (send_at s n w here.position))).0 here.refused in
        record { position = here.position; inside = here.inside; carries = r.0; short = r.1 }

    -- 9.
    never_nine : call_refusal s n w ≡ 9 → ⊥
    never_nine e =
        let here = (first_to outcome 9 (λ z. omega (arith, z)) (λ z. omega (arith, z)) e).some in
        ⊎_elim (λ z. omega (arith, z, here.refused)) (λ p. omega (arith, p.0, ap rank_of here.refused, rank_uplink))
        (ranked here.position here.inside)

  -- The position that the reading is told.
  told_accepted : call_refusal s n w ≡ 0 → told_refusal s n (told_of K S) ≡ 0
  unfolding told_refusal call_refusal
  told_accepted e = go (told_of K S) refl
    where
      accepted : window_refusal s n ≡ 0
      accepted = (neither (window_refusal s n) (sent_refusal s n K S) e).0

      go : (t : Option ℕ) → told_of K S ≡ t → told_refusal s n t ≡ 0
      go None is = refl
      go (Some m) is =
          let there = told_position_holds S K m is in
          let right = (none_to accepted (outcome accepted) e).0 m there.0 in
          let fine = block_valid s (subframe_of s.config n m) (send_at s n w m) (rw (at m there.0) at there.1) right in
          told_fine s n m there.0 fine.0 fine.1

  pub call_refused : CallRefused s n w
  unfolding call_refusal
  call_refused =
      record {
        settings = λ h. sym (refused_first (window_refusal s n) (window_refusal s n) _ refl h);
        none = λ e. (none_to e (outcome e), λ p. none_from e (outcome e) p.0 p.1);
        first = λ e k some other. (first_to e (outcome e) k some other, first_from e (outcome e) k some);
        eighteen = λ e. (
          last_to e (outcome e),
          λ p. ⊎_elim (λ some. first_from e (outcome e) 18 (λ z. omega (arith, z)) (some_last e p.0 some)) (second_last e (outcome e) p.0) p.1,
        );
        twenty = λ e. (
          λ t. first_short e (first_to e (outcome e) 20 (λ z. omega (arith, z)) (λ z. omega (arith, z)) t),
          λ d. first_from e (outcome e) 20 (λ z. omega (arith, z)) (short_first e d),
        );
        nine = λ e. elim (ℕ_discrete (window_refusal s n) 0) [
          | yes z ↦ never_nine z e
          | no h ↦ window_never_nine s n (refused_first (window_refusal s n) (window_refusal s n) _ refl h ∙ e)
        ];
        told = told_accepted;
      }
