-- explain_of is what U11 asks for, and nothing else is. That a silence has the two causes alone is handset/proofs/Silences.antt; here
-- U, V and the scheduled block of the window tell which of them it is, in a multiplexed window too.
-- Assumes nothing.
use Rattle.std.proofs.Common.{Some, None, Result, Ok, Err}
use Prim.Native.Nat.{ℕ, zero, suc, ◌-◌, ◌<◌, ◌≤◌, suc-le-suc}
use mathlib.Core.Bool.{Bool, true, false, cond, not, ◌&&◌, false≢true}
use mathlib.Core.List.{List, [], ◌∷◌}
use mathlib.Core.Logic.{◌⊎◌, inl, inr, ◌↔◌}
use mathlib.Core.Path.{◌≡◌, refl, sym, ap, ◌∙◌}
use native.Mathlib.Omega.{arith}
use lib.Dec.{eqb}
use lib.ListN.{length, get_or}
use borrow.Author.Tests.{eq-eqb, ne_eqb, eqb-false}
use Rattle.std.proofs.lemmas.Bool.{and_parts}
use Rattle.frame.specs.declared.Settings.{Settings}
use Rattle.frame.specs.Distance.{before}
use Rattle.frame.specs.Layout.{downlink}
use Rattle.frame.specs.Order.{order_of}
use Rattle.frame.specs.Settings.{bundles}
use Rattle.frame.specs.Table.{window_of}
use Rattle.frame.proofs.Accepted.{neither}
use Rattle.frame.proofs.Lists.{entry}
use Rattle.frame.proofs.Times.{order_size, order_below}
use Rattle.symbols.specs.declared.State.{State}
use Rattle.symbols.specs.declared.State.TheVariants.{Ack, Nack, Dtx}
use Rattle.symbols.specs.Selection.{AllDtx}
use Rattle.heard.specs.declared.Heard.{Heard}
use Rattle.heard.specs.declared.Heard.TheVariants.{Nothing, Granted, Scheduled, Released}
use Rattle.heard.specs.declared.View.{View}
use Rattle.heard.specs.declared.View.TheVariants.{Unheard, Pdcch, Block}
use Rattle.heard.specs.Heard.{heard_refusal}
use Rattle.heard.specs.Memory.{none, heard_in, view_in, view_ago}
use Rattle.heard.proofs.Valid.{valid}
use Rattle.fold.specs.declared.Seen.{Seen}
use Rattle.fold.specs.Fold.{expected, unseen, step_of, seen_from, seen_of}
use Rattle.reply.specs.declared.Answer.{Answer}
use Rattle.reply.specs.declared.Answer.TheVariants.{Taken, NoWindow, Silent, Sent}
use Rattle.reply.specs.Replies.{miss_shown, state_of, window_state, window_answer}
use Rattle.reply.specs.Silence.{NoneOrMissed}
use Rattle.reply.proofs.Silences.{Latest, latest}
use Rattle.handset.specs.declared.Handset.{Handset}
use Rattle.handset.specs.Feed.{answer_of, window_settings, next_answer, feed_refusal, fed_as, feed_of}
use Rattle.handset.specs.Sound.{state_refusal}
use Rattle.handset.proofs.Passing.{passed, remembered_valid}
use Rattle.handset.proofs.Silences.{seen_valid, answer_silent}
use Rattle.silence.specs.declared.Cause.TheVariants.{NothingHeard, MissShown}
use Rattle.silence.specs.Cause.{Explained}
use Rattle.silence.specs.Cause.{window_seen, silence_cause, cause_beside, explain_of}
use Rattle.silence.specs.Exactly.{Explaining, Differ, IsDai, Explains, OnlyNothingSilent}

-- A window whose positions are all D, which is over K as printed, saw nothing, which is over time order.
heard_state : (b : Bool) → cond b Ack Nack ≡ Dtx → ⊥
heard_state true e = let z : ◌≡◌ {A = ℕ} 0 1 = cc in omega arith
heard_state false e = let z : ◌≡◌ {A = ℕ} 0 1 = cc in omega arith

dtx_unheard : (x : View) → state_of x ≡ Dtx → x ≡ Unheard
unfolding state_of
dtx_unheard Unheard e = refl
dtx_unheard (Pdcch g) e = absurd (heard_state (g.first && g.second) e)
dtx_unheard (Block b) e = absurd (heard_state (b.first && b.second) e)

dtx_at : (ss : List State) → AllDtx ss → (i : ℕ) → get_or ss i Dtx ≡ Dtx
dtx_at [] d i = refl
dtx_at (s ∷ ss) d zero = d.0
dtx_at (s ∷ ss) d (suc i) = dtx_at ss d.1 i

unheard_from : (view : ℕ → View) (ks ms : List ℕ) (seen : Seen)
    → ((j : ℕ) → j < length ms → view (get_or ks (get_or ms j 0) 0) ≡ Unheard) → seen_from view ks ms seen ≡ seen
unfolding seen_from step_of
unheard_from view ks [] seen h = refl
unheard_from view ks (m ∷ ms) seen h =
    rw (h 0 (omega arith)) (unheard_from view ks ms seen (λ j i. h (suc j) (suc-le-suc i)))

unheard_window : (view : ℕ → View) (c n : ℕ) → AllDtx (window_state view (window_of c n)) → seen_of view (window_of c n) ≡ unseen
unfolding seen_of window_state
unheard_window view c n d =
    let ks : List ℕ = window_of c n in
    unheard_from view ks (order_of ks) unseen
    (λ j h.
    let inside = order_below c n j (rw (order_size c n) at h) in
    let m : ℕ = get_or (order_of ks) j 0 in
    dtx_unheard _ (sym (entry (λ (k : ℕ). state_of (view k)) ks m Dtx 0 inside) ∙ dtx_at (window_state view ks) d m))

-- What shows a miss: a configuration that reads the DAI, and values that differ.
miss_apart : (s : Settings) (seen : Seen) → miss_shown s seen ≡ true → (1 ≤ s.config) × (seen.v ≡ expected seen.u → ⊥)
unfolding miss_shown
miss_apart s seen e =
    let p = and_parts (not (eqb s.config 0)) (not (eqb seen.v (expected seen.u))) e in
    let other = differ s.config 0 p.0 in
    (omega (arith, other), differ seen.v (expected seen.u) p.1)
  where
    differ : (a b : ℕ) → not (eqb a b) ≡ true → a ≡ b → ⊥
    differ a b e same = false≢true (rw (eq-eqb a b same) at e)

-- V is a DAI where U is above 0: that of a PDCCH which the handset remembers.
window_ranged : (h : Handset) → state_refusal h ≡ 0 → ((window_seen h).u ≡ 0) ⊎ IsDai (window_seen h).v
unfolding view_ago view_in
window_ranged h accepted = go (latest (view_ago h.past) h.settings.config h.next)
  where
    go : ((window_seen h).u ≡ 0) ⊎ Latest (view_ago h.past) (window_of h.settings.config h.next) (window_seen h)
        → ((window_seen h).u ≡ 0) ⊎ IsDai (window_seen h).v
    go (inl none) = inl none
    go (inr l) =
        let i : ℕ = get_or (window_of h.settings.config h.next) (window_seen h).position 0 - 1 in
        let v =
        seen_valid h.settings (before h.next (suc i)) (heard_in (get_or h.past i none)) (remembered_valid h accepted i) l.control l.heard in
        inr (rw l.dai (v.dai_least, v.dai_most))

-- A silent feed was not refused, and its subframe has a window.
silent_accepted : (k : ℕ) (h : Handset) (x : Heard) → (fed_as k h x).answer ≡ (Ok Silent) → (k ≡ 0) × (next_answer h ≡ Silent)
silent_accepted zero h x e = (refl, cc)
silent_accepted (suc k) h x e = let z : ◌≡◌ {A = ℕ} 0 1 = cc in absurd (omega arith)

silent_window : (s : Settings) (n : ℕ) (view : ℕ → View) → answer_of s n view ≡ Silent → 0 < length (window_of s.config n)
unfolding answer_of window_answer
silent_window s n view e = go (downlink s.config n) (eqb (length (window_of s.config n)) 0) refl _ e
  where
    go : (d w : Bool) → eqb (length (window_of s.config n)) 0 ≡ w → (a : Answer) → cond d Taken (cond w NoWindow a) ≡ Silent
        → 0 < length (window_of s.config n)
    go true w f a e = let z : ◌≡◌ {A = ℕ} 0 1 = cc in absurd (omega arith)
    go false true f a e = let z : ◌≡◌ {A = ℕ} 0 1 = cc in absurd (omega arith)
    go false false f a e = omega (arith, eqb-false (length (window_of s.config n)) 0 f)

-- What a silence is, in the window's own mode.
record Missed (h : Handset) : Type 0 where
  counted : 1 ≤ (window_seen h).u
  differ : Differ h
  bundled : bundles (window_settings h) (length (window_of h.settings.config h.next)) ≡ true
  reads : 1 ≤ h.settings.config

abbrev Unseen : Handset → Type 0
Unseen h = ((window_seen h).u ≡ 0) × ((window_seen h).scheduled ≡ false)

module _ (h : Handset) (x : Heard) (silent : (feed_of h x).answer ≡ (Ok Silent)) where
  two_causes : Unseen h ⊎ Missed h
  unfolding feed_of feed_refusal next_answer window_settings
  two_causes =
      let a = silent_accepted (feed_refusal h x) h x silent in
      let state = (neither (state_refusal h) _ a.0).0 in
      let window = silent_window (window_settings h) h.next (view_ago h.past) a.1 in
      let cause = (answer_silent h state window).0 a.1 in
      go (bundles (window_settings h) (length (window_of h.settings.config h.next))) refl cause.bundled cause.multiplexed
    where
      told : bundles (window_settings h) (length (window_of h.settings.config h.next)) ≡ true → NoneOrMissed (window_settings h) (window_seen h) → Unseen h ⊎ Missed h
      told b (inl none) = inl none
      told b (inr miss) =
          let p = miss_apart (window_settings h) (window_seen h) miss.1 in
          inr (record { counted = miss.0; differ = p.1; bundled = b; reads = p.0 })

      go : (b : Bool) → bundles (window_settings h) (length (window_of h.settings.config h.next)) ≡ b
          → (bundles (window_settings h) (length (window_of h.settings.config h.next)) ≡ true → NoneOrMissed (window_settings h) (window_seen h))
          → (bundles (window_settings h) (length (window_of h.settings.config h.next)) ≡ false → AllDtx (window_state (view_ago h.past) (window_of h.settings.config h.next)))
          → Unseen h ⊎ Missed h
      go true b bundled multiplexed = told b (bundled b)
      go false b bundled multiplexed =
          let none = unheard_window (view_ago h.past) h.settings.config h.next (multiplexed b) in
          inl (ap (λ (s : Seen). s.u) none, ap (λ (s : Seen). s.scheduled) none)

  -- The cause beside it is the window's.
  silent_beside : (explain_of h x).cause ≡ Some (silence_cause (window_seen h))
  unfolding explain_of cause_beside
  silent_beside = rw silent

unseen_cause : (seen : Seen) → seen.u ≡ 0 → Some (silence_cause seen) ≡ Some NothingHeard
unfolding silence_cause
unseen_cause seen e = rw (eq-eqb seen.u 0 e)

counted_cause : (seen : Seen) → 1 ≤ seen.u → Some (silence_cause seen) ≡ Some (MissShown seen.v (expected seen.u))
unfolding silence_cause
counted_cause seen e = rw (ne_eqb seen.u 0 (λ z. omega (arith, z, e)))

-- The three cases are apart.
nothing_not_missed : (v e : ℕ) → (Some NothingHeard) ≡ Some (MissShown v e) → ⊥
nothing_not_missed v e p = let z : ◌≡◌ {A = ℕ} 0 1 = cc in omega arith

none_not_missed : (v e : ℕ) → None ≡ Some (MissShown v e) → ⊥
none_not_missed v e p = let z : ◌≡◌ {A = ℕ} 0 1 = cc in omega arith

same_values : (v e v' e' : ℕ) → Some (MissShown v e) ≡ Some (MissShown v' e') → (v ≡ v') × (e ≡ e')
same_values v e v' e' p = (cc, cc)

-- A silence has a cause, and nothing else has one.
cause_told : (seen : Seen) → Some (silence_cause seen) ≡ None → ⊥
cause_told seen e = let z : ◌≡◌ {A = ℕ} 0 1 = cc in omega arith

beside_none : (a : Result Answer ℕ) (seen : Seen) → (a ≡ (Ok Silent) → ⊥) → cause_beside a seen ≡ None
unfolding cause_beside
beside_none (Ok Taken) seen f = refl
beside_none (Ok NoWindow) seen f = refl
beside_none (Ok Silent) seen f = absurd (f refl)
beside_none (Ok (Sent r)) seen f = refl
beside_none (Err k) seen f = refl

beside_silent : (a : Result Answer ℕ) (seen : Seen) (v e : ℕ) → cause_beside a seen ≡ Some (MissShown v e) → a ≡ Ok Silent
unfolding cause_beside
beside_silent (Ok Taken) seen v e p = absurd (none_not_missed v e p)
beside_silent (Ok NoWindow) seen v e p = absurd (none_not_missed v e p)
beside_silent (Ok Silent) seen v e p = refl
beside_silent (Ok (Sent r)) seen v e p = absurd (none_not_missed v e p)
beside_silent (Err k) seen v e p = absurd (none_not_missed v e p)

module _ (h : Handset) (x : Heard) where
  not_silent_holds : ((explain_of h x).cause ≡ None) ↔ ((feed_of h x).answer ≡ (Ok Silent) → ⊥)
  unfolding explain_of
  not_silent_holds = (
    λ e s. cause_told (window_seen h) (sym (silent_beside h x s) ∙ e),
    beside_none (feed_of h x).answer (window_seen h),
  )

  module _ (silent : (feed_of h x).answer ≡ (Ok Silent)) where
    nothing_heard_holds : ((explain_of h x).cause ≡ (Some NothingHeard)) ↔ Unseen h
    nothing_heard_holds = (
      λ e. go (two_causes h x silent) e,
      λ u. silent_beside h x silent ∙ unseen_cause (window_seen h) u.0,
    )
      where
        go : Unseen h ⊎ Missed h → (explain_of h x).cause ≡ (Some NothingHeard) → Unseen h
        go (inl u) e = u
        go (inr m) e =
            absurd (nothing_not_missed _ _ (sym e ∙ silent_beside h x silent ∙ counted_cause (window_seen h) m.counted))

    miss_shown_holds : ((v e : ℕ) × ((explain_of h x).cause ≡ Some (MissShown v e))) ↔ ((1 ≤ (window_seen h).u) × Differ h)
    miss_shown_holds = (
      λ p. go (two_causes h x silent) p.0 p.1 p.2,
      λ u. ((window_seen h).v, expected (window_seen h).u, silent_beside h x silent ∙ counted_cause (window_seen h) u.0),
    )
      where
        go : Unseen h ⊎ Missed h → (v e : ℕ) → (explain_of h x).cause ≡ Some (MissShown v e) → (1 ≤ (window_seen h).u) × Differ h
        go (inl u) v e p = absurd (nothing_not_missed v e (sym (silent_beside h x silent ∙ unseen_cause (window_seen h) u.0) ∙ p))
        go (inr m) v e p = (m.counted, m.differ)

  module _ (v e : ℕ) (shown : (explain_of h x).cause ≡ Some (MissShown v e)) where
    -- a cause is told of a silence alone
    pub was_silent : (feed_of h x).answer ≡ Ok Silent
    unfolding explain_of
    was_silent = beside_silent (feed_of h x).answer (window_seen h) v e shown

    was_missed : Missed h
    was_missed = go (two_causes h x was_silent)
      where
        go : Unseen h ⊎ Missed h → Missed h
        go (inl u) = absurd (nothing_not_missed v e (sym (silent_beside h x was_silent ∙ unseen_cause (window_seen h) u.0) ∙ shown))
        go (inr m) = m

    was_sound : state_refusal h ≡ 0
    unfolding feed_of feed_refusal
    was_sound = (neither (state_refusal h) _ (silent_accepted (feed_refusal h x) h x was_silent).0).0

    values_told : (v ≡ (window_seen h).v) × (e ≡ expected (window_seen h).u)
    values_told =
        same_values v e (window_seen h).v (expected (window_seen h).u)
        (sym shown ∙ silent_beside h x was_silent ∙ counted_cause (window_seen h) was_missed.counted)

    ranges_told : IsDai v × IsDai e
    unfolding expected
    ranges_told =
        let e-is = values_told.1 in
        (rw values_told.0 (go (window_ranged h was_sound)), (omega (arith, e-is), omega (arith, e-is)))
      where
        go : ((window_seen h).u ≡ 0) ⊎ IsDai (window_seen h).v → IsDai (window_seen h).v
        go (inl none) = absurd (omega (arith, none, was_missed.counted))
        go (inr dai) = dai

-- The theorem of U11.
pub explains : Explains explain_of
unfolding explain_of
explains =
    record {
      fed = λ h x. refl;
      not_silent = not_silent_holds;
      nothing_heard = nothing_heard_holds;
      miss_shown = miss_shown_holds;
      values = values_told;
      ranges = ranges_told;
      bundled_only = λ h x v e shown. let m = was_missed h x v e shown in (m.bundled, m.reads);
    }

-- What else than nothing is accepted is taken, in a downlink subframe.
taken_silent : {A : Type 0} (h : Handset) → downlink h.settings.config h.next ≡ true → next_answer h ≡ Silent → A
unfolding next_answer answer_of window_settings
taken_silent h d e = let z : ◌≡◌ {A = ℕ} 0 1 = cc (rw d at e) in absurd (omega arith)

only_nothing_of : (h : Handset) (x : Heard) → heard_refusal h.settings h.next x ≡ 0 → next_answer h ≡ Silent → x ≡ Nothing
only_nothing_of h Nothing e a = refl
only_nothing_of h (Granted g) e a = taken_silent h (valid h.settings h.next (Granted g) e).0.is_downlink a
only_nothing_of h (Scheduled b) e a = taken_silent h (valid h.settings h.next (Scheduled b) e).0.is_downlink a
only_nothing_of h (Released p) e a = taken_silent h (valid h.settings h.next (Released p) e).0 a

pub only_nothing_silent : OnlyNothingSilent
unfolding feed_of
only_nothing_silent h x silent =
    let a = silent_accepted (feed_refusal h x) h x silent in
    only_nothing_of h x (passed h x a.0).heard a.1

-- It leaves no choice: a call that explains is this one.
same_explained : (a b : Explained) → a.fed ≡ b.fed → a.cause ≡ b.cause → a ≡ b
same_explained a b e f = rw (e, f)

is_silent : (a : Result Answer ℕ) → (a ≡ (Ok Silent)) ⊎ (a ≡ (Ok Silent) → ⊥)
is_silent (Ok Taken) = inr (λ e. let z : ◌≡◌ {A = ℕ} 0 1 = cc in omega arith)
is_silent (Ok NoWindow) = inr (λ e. let z : ◌≡◌ {A = ℕ} 0 1 = cc in omega arith)
is_silent (Ok Silent) = inl refl
is_silent (Ok (Sent r)) = inr (λ e. let z : ◌≡◌ {A = ℕ} 0 1 = cc in omega arith)
is_silent (Err k) = inr (λ e. let z : ◌≡◌ {A = ℕ} 0 1 = cc in omega arith)

pub only_explanation : (explain : Explaining) → Explains explain → (h : Handset) (x : Heard) → explain h x ≡ explain_of h x
only_explanation explain other h x =
    same_explained (explain h x) (explain_of h x) (other.fed h x ∙ sym (explains.fed h x)) (go (is_silent (feed_of h x).answer))
  where
    shown : (feed_of h x).answer ≡ (Ok Silent) → Missed h → (explain h x).cause ≡ (explain_of h x).cause
    shown silent m =
        let p = (other.miss_shown h x silent).1 (m.counted, m.differ) in
        let q = other.values h x p.0 p.1 p.2 in
        p.2 ∙ rw (q.0, q.1) (sym (silent_beside h x silent ∙ counted_cause (window_seen h) m.counted))

    told : (feed_of h x).answer ≡ (Ok Silent) → Unseen h ⊎ Missed h → (explain h x).cause ≡ (explain_of h x).cause
    told silent (inl u) = (other.nothing_heard h x silent).1 u ∙ sym ((nothing_heard_holds h x silent).1 u)
    told silent (inr m) = shown silent m

    go : ((feed_of h x).answer ≡ (Ok Silent)) ⊎ ((feed_of h x).answer ≡ (Ok Silent) → ⊥) → (explain h x).cause ≡ (explain_of h x).cause
    go (inl silent) = told silent (two_causes h x silent)
    go (inr none) = (other.not_silent h x).1 none ∙ sym ((not_silent_holds h x).1 none)
