-- One item of a run: the handset after a history is fed, or its mode is changed, and its answer is what demand 3 says.
-- Assumes nothing.
use Rattle.std.proofs.Common.{Result, Ok, Err, Option, Some, None}
use Prim.Native.Nat.{ℕ, zero, suc, ◌+◌, ◌-◌, ◌*◌, ◌%◌, ◌<◌, ◌≤◌}
use mathlib.Core.Bool.{Bool, true, false, cond, or-true, false≢true}
use mathlib.Core.List.{List, [], ◌∷◌, map}
use mathlib.Core.Logic.{◌⊎◌, inl, inr, ◌↔◌}
use mathlib.Core.Path.{◌≡◌, refl, sym, ap, ◌∙◌}
use native.Mathlib.Decide.{dec_le, dec_lt}
use native.Mathlib.Omega.{arith}
use lib.Dec.{eqb}
use lib.ListN.{length, get_or, get_or-eq_default}
use borrow.Author.Tests.{eq-eqb, ne_eqb, le-leb, lt-leb}
use Rattle.frame.specs.declared.Settings.{Settings}
use Rattle.frame.specs.Distance.{before, subframe_of}
use Rattle.frame.specs.Earliest.{earliest_k}
use Rattle.frame.specs.Layout.{downlink}
use Rattle.frame.specs.Settings.{new_mode_refusal, has_scheduled, bundles, settings_refusal, in_mode}
use Rattle.frame.specs.Special.{too_short}
use Rattle.frame.specs.Table.{window_of}
use Rattle.frame.proofs.Accepted.{Accepted, accepted, accepted_in}
use Rattle.frame.proofs.Causes.{window_accepted}
use Rattle.frame.proofs.Earliest.{earliest_most, earliest_least}
use Rattle.frame.proofs.Windows.{window_uplink, multiplexed_size}
use Rattle.confirmation.specs.declared.Send.{Send}
use Rattle.confirmation.specs.declared.Send.TheVariants as send
use Rattle.confirmation.specs.Sent.{is_block as is_sent_block, as_heard, told_of}
use Rattle.resource.specs.Calls.{resource_of}
use Rattle.reply.specs.declared.Answer.{Answer}
use Rattle.reply.specs.declared.Answer.TheVariants as answer
use Rattle.heard.specs.declared.Heard.{Heard}
use Rattle.heard.specs.declared.Heard.TheVariants.{Nothing, Granted, Scheduled, Released}
use Rattle.heard.specs.declared.View.{View}
use Rattle.fold.specs.Fold.{seen_of}
use Rattle.heard.specs.Heard.{is_block, heard_refusal, cause_of, view_of}
use Rattle.heard.specs.Memory.{slot_of, view_ago}
use Rattle.heard.proofs.Before.{cause_same}
use Rattle.heard.proofs.Valid as kinds
use Rattle.reply.specs.Replies.{bundled_answer, multiplexed_answer, window_answer}
use Rattle.handset.specs.Change.{Changed}
use Rattle.handset.specs.Feed.{Fed}
use Rattle.handset.specs.declared.Handset.{Handset}
use Rattle.handset.specs.Change.{change_of}
use Rattle.handset.specs.Feed.{answer_of, window_settings, next_answer, feed_of}
use Rattle.handset.specs.Make.{memory}
use Rattle.handset.specs.Modes.{mode_ago}
use Rattle.station.specs.declared.Reading.{Reading}
use Rattle.station.specs.Readings.{told_refusal, read_of}
use Rattle.station.proofs.Back.{told_fine, read_there, read_block}
use Rattle.agreement.specs.Run.{sent_ago, ago_in, heard_ago, cause_after, stood_ago, largest, Schedule, Brings, window_at}
use Rattle.agreement.specs.Window.{in_time, Bundled, Multiplexed}
use Rattle.agreement.proofs.BundledWindow.{LowCce, ReadsPdcch, ReadsBlock, bundled_window}
use Rattle.agreement.proofs.Entries.{member_at}
use Rattle.agreement.proofs.Memory.{ValidPast, valid_in, after, view_after, low_after, accepted_after, refused_after, changed_after}
use Rattle.agreement.proofs.Modes.{schedule_in, earliest_largest, Allowed, modes_after, allowed_at, modes_at}
use Rattle.agreement.proofs.MultiplexedWindow.{multiplexed_window}
use Rattle.confirmation.proofs.Told.{told_position_holds, told_of_block}

-- The station's reading in the window of s, told the position of the block that was sent there.
abbrev pub read_in : Settings → (ℕ → Send) → ℕ → ℕ → ℕ → ℕ → Result Reading ℕ
read_in set sent s = read_of set (s % 10) (told_of (window_at set s) (sent_ago sent s))

-- The refusal of x at the run's subframe s.
abbrev pub cause_in : Settings → List Heard → ℕ → Heard → ℕ
cause_in set heard s x = cause_of set (s % 10) (λ (a : ℕ). is_block (heard_ago heard s a)) x

-- What demand 3 says of the answer at the run's subframe s, which was fed and not refused; the settings are those of its window.
pub record Answered (set : Settings) (sent : ℕ → Send) (heard : List Heard) (s : ℕ) (a : Result Answer ℕ) : Type 0 where
  pub taken : downlink set.config (s % 10) ≡ true → a ≡ Ok answer.Taken
  pub no_window : downlink set.config (s % 10) ≡ false → window_at set s ≡ [] → a ≡ Ok answer.NoWindow
  pub bundled : 0 < length (window_at set s) → (set.mode ≡ 0) ⊎ (length (window_at set s) ≡ 1)
      → Bundled set (resource_of set (s % 10)) (read_in set sent s) (window_at set s) (in_time (sent_ago sent s) (heard_ago heard s) (window_at set s)) a
  pub multiplexed : 0 < length (window_at set s) → set.mode ≡ 1 → (length (window_at set s) ≡ 1 → ⊥)
      → Multiplexed set (resource_of set (s % 10)) (read_in set sent s) (window_at set s) (heard_ago heard s) (in_time (sent_ago sent s) (heard_ago heard s) (window_at set s)) a

-- What the handset h remembers at the run's next subframe s: that subframe, and k ago what the run heard there.
pub record Remembers (set : Settings) (heard : List Heard) (s : ℕ) (h : Handset) : Type 0 where
  pub config : h.settings.config ≡ set.config
  pub next : h.next ≡ s % 10
  pub views : (k : ℕ) → 1 ≤ k → k ≤ 13 → view_ago h.past k ≡ view_of (heard_ago heard s k)

-- What it says of a feed that brings x to the handset h at the run's next subframe s.
pub record FeedHolds (set : Settings) (sent : ℕ → Send) (heard : List Heard) (modes : List ℕ) (s : ℕ) (h : Handset) (x : Heard) : Type 0 where
  pub refused_exactly : ((k : ℕ) × ((feed_of h x).answer ≡ Err k)) ↔ (cause_in set heard s x ≡ 0 → ⊥)
  pub refused : (cause_in set heard s x ≡ 0 → ⊥) → feed_of h x ≡ record { answer = Err (cause_in set heard s x); handset = h }
  pub accepted : cause_in set heard s x ≡ 0
      → Answered (in_mode set (stood_ago set modes s (largest (window_at set s)))) sent heard s (feed_of h x).answer
  pub remembers : Remembers set heard s h

-- What it says of a change of the handset h to mode m.
pub record ChangeHolds (set : Settings) (h : Handset) (m : ℕ) : Type 0 where
  pub changed_exactly : (change_of h m).refusal ≡ new_mode_refusal (in_mode set m)
  pub change_leaves : (new_mode_refusal (in_mode set m) ≡ 0 → ⊥) → (change_of h m).handset ≡ h

-- The run's list has the history, newest first, at its subframes; before the start it has `none`.
abbrev pub Past : {A : Type 0} → A → List A → List A → Type 0
Past none all [] = Unit {0}
Past none all (x ∷ l) = (get_or all (length l) none ≡ x) × Past none all l

-- k before the next subframe stands what the history has there.
pub ago_past : {A : Type 0} (none : A) (all l : List A) → Past none all l → (k : ℕ) → 1 ≤ k → ago_in none all (length l) k ≡ get_or l (k - 1) none
ago_past none all [] p k h = rw (lt-leb k 0 h)
ago_past none all (x ∷ l) p k h = go k h (ago_past none all l p.1)
  where
    go : (k : ℕ) → 1 ≤ k → ((j : ℕ) → 1 ≤ j → ago_in none all (length l) j ≡ get_or l (j - 1) none)
        → ago_in none all (suc (length l)) k ≡ get_or (x ∷ l) (k - 1) none
    go zero h rest = absurd (omega arith)
    go (suc zero) h rest =
        let e : suc (length l) - 1 ≡ length l = omega arith in
        rw (le-leb 1 (suc (length l)) (omega arith), e) p.0
    go (suc (suc j)) h rest =
        let e : suc (length l) - suc (suc j) ≡ length l - suc j = omega arith in
        let f : suc (suc j) - 1 ≡ suc j = omega arith in
        let g : suc j - 1 ≡ j = omega arith in
        shift (dec_le (suc j) (length l)) e ∙ rest (suc j) (omega arith) ∙ rw (f, g)
      where
        shift : Dec (suc j ≤ length l) → suc (length l) - suc (suc j) ≡ length l - suc j
            → ago_in none all (suc (length l)) (suc (suc j)) ≡ ago_in none all (length l) (suc j)
        shift (yes h) e = rw (le-leb (suc (suc j)) (suc (length l)) (omega arith), le-leb (suc j) (length l) h, e)
        shift (no h) e = rw (lt-leb (suc (suc j)) (suc (length l)) (omega arith), lt-leb (suc j) (length l) (omega arith))

-- k before any subframe s the run brought nothing or what was sent.
pub ago_brings : (sent : ℕ → Send) (heard : List Heard) → ((s : ℕ) → s < length heard → Brings (sent s) (get_or heard s Nothing))
    → (s k : ℕ) → Brings (sent_ago sent s k) (heard_ago heard s k)
ago_brings sent heard brings s k = go (dec_le k s)
  where
    inside : Dec (s - k < length heard) → Brings (sent (s - k)) (get_or heard (s - k) Nothing)
    inside (yes h) = brings (s - k) h
    inside (no h) = inl (get_or-eq_default heard Nothing {n = s - k} (omega arith))

    go : Dec (k ≤ s) → Brings (sent_ago sent s k) (heard_ago heard s k)
    go (yes h) = rw (le-leb k s h) (inside (dec_lt (s - k) (length heard)))
    go (no h) = rw (lt-leb k s (omega arith)) (inl refl)

-- The run's cause is the history's.
pub cause_past : (set : Settings) (heard l : List Heard) → Past Nothing heard l → (x : Heard) → cause_in set heard (length l) x ≡ cause_after set l x
cause_past set heard l past x =
    cause_same set (length l % 10) (λ (a : ℕ). is_block (heard_ago heard (length l) a)) (λ (a : ℕ). is_block (get_or l (a - 1) Nothing)) x
    (λ a least most. ap is_block (ago_past Nothing heard l past a least))

-- A subframe without a window is answered alike in every mode.
taken_answer : (set : Settings) (n : ℕ) (view : ℕ → View) → downlink set.config n ≡ true → answer_of set n view ≡ answer.Taken
unfolding answer_of
taken_answer set n view e = rw e

no_window_answer : (set : Settings) (n : ℕ) (view : ℕ → View) → downlink set.config n ≡ false → window_of set.config n ≡ []
    → answer_of set n view ≡ answer.NoWindow
unfolding answer_of window_answer
no_window_answer set n view e f = rw (e, f)

-- What a window answers, in its own settings.
module _ (set : Settings) (good : settings_refusal set ≡ 0) (sent : ℕ → Send) (schedule : Schedule set sent) (heard : List Heard)
    (brings : (s : ℕ) → s < length heard → Brings (sent s) (get_or heard s Nothing))
    (l : List Heard) (valid : ValidPast set l) (past : Past Nothing heard l) where
  ok : Accepted set
  ok = accepted set good

  abbrev n : ℕ
  n = length l % 10

  abbrev F : ℕ → View
  F = view_ago (memory (map slot_of l))

  seen : (k : ℕ) → 1 ≤ k → k ≤ 13 → F k ≡ view_of (heard_ago heard (length l) k)
  seen k least most = view_after set ok l valid k least most ∙ ap view_of (sym (ago_past Nothing heard l past k least))

  low : (k : ℕ) → 1 ≤ k → k ≤ 13 → LowCce set (heard_ago heard (length l) k)
  low k least most = rw (ago_past Nothing heard l past k least) (low_after set l valid (k - 1))

  -- a scheduled block that was heard was sent, and has a resource set
  block_sent : (s : Send) (x : Heard) → Brings s x → is_block x ≡ true → is_sent_block s ≡ true
  block_sent s Nothing b e = absurd (false≢true e)
  block_sent s (Granted g) b e = absurd (false≢true e)
  block_sent s (Scheduled x) (inl p) e = absurd (false≢true (sym (ap is_block p) ∙ e))
  block_sent s (Scheduled x) (inr p) e = ap is_sent_block (sym p)
  block_sent s (Released p) b e = absurd (false≢true e)

  -- one that was sent has one too, and its subframe is long enough for data
  block_sound : (n : ℕ) (s : Send) → heard_refusal set n (as_heard s) ≡ 0 → is_sent_block s ≡ true → (has_scheduled set ≡ true) × (too_short set n ≡ false)
  block_sound n send.Nothing e b = absurd (false≢true b)
  block_sound n (send.Granted g) e b = absurd (false≢true b)
  block_sound n (send.Scheduled x) e b = let v = kinds.valid set n (as_heard (send.Scheduled x)) e in (v.2, v.0.long_enough)
  block_sound n (send.Released p) e b = absurd (false≢true b)

  ago_sound : (k : ℕ) → is_sent_block (sent_ago sent (length l) k) ≡ true → (has_scheduled set ≡ true) × (too_short set (before n k) ≡ false)
  ago_sound k e = go (dec_le k (length l)) e
    where
      go : Dec (k ≤ length l) → is_sent_block (sent_ago sent (length l) k) ≡ true → (has_scheduled set ≡ true) × (too_short set (before n k) ≡ false)
      go (yes h) e =
          let same : (length l % 10 + 9 * k) % 10 ≡ (length l - k) % 10 = omega arith in
          rw same
          (block_sound ((length l - k) % 10) (sent (length l - k)) (schedule.valid (length l - k)) (rw (le-leb k (length l) h) at e))
      go (no h) e = absurd (false≢true (rw (lt-leb k (length l) (omega arith)) at e))

  -- what the reading is told, and that it may be
  told_there : Option ℕ
  told_there = told_of (window_of set.config n) (sent_ago sent (length l))

  told_at : (m : ℕ) → told_of (window_of set.config n) (sent_ago sent (length l)) ≡ Some m → told_refusal set n (Some m) ≡ 0
  unfolding subframe_of
  told_at m e =
      let p = told_position_holds (sent_ago sent (length l)) (window_of set.config n) m e in
      let q = ago_sound (get_or (window_of set.config n) m 0) p.1 in
      told_fine set n m p.0 q.0 q.1

  told_right : told_refusal set n told_there ≡ 0
  unfolding told_there told_refusal
  told_right = go (told_of (window_of set.config n) (sent_ago sent (length l))) refl
    where
      go : (t : Option ℕ) → told_of (window_of set.config n) (sent_ago sent (length l)) ≡ t → told_refusal set n t ≡ 0
      go None e = refl
      go (Some m) e = told_at m e

  reads_pdcch : ReadsPdcch set n (read_in set sent (length l))
  unfolding told_there
  reads_pdcch m c r b0 b1 there = read_there set n m c r there told_there told_right b0 b1

  reads_block : 0 < length (window_of set.config n) → ReadsBlock set n (heard_ago heard (length l)) (read_in set sent (length l))
  reads_block some k inside h =
      let S : ℕ → Send = sent_ago sent (length l) in
      let was = block_sent (S k) (heard_ago heard (length l) k) (ago_brings sent heard brings (length l) k) h in
      let t = told_of_block S (window_of set.config n) k inside was in
      let p = told_position_holds S (window_of set.config n) t.0 t.1 in
      let same = schedule.one (length l) (get_or (window_of set.config n) t.0 0) k (member_at set.config n t.0 p.0) inside p.1 was in (
        t.0,
        p.0,
        same,
        λ b0 b1. rw t.1 (read_block set n t.0 (window_accepted set n good some) (told_at t.0 t.1) b0 b1),
        (ago_sound k was).0,
      )

  bundled_mode : (set.mode ≡ 0) ⊎ (length (window_of set.config n) ≡ 1) → bundles set (length (window_of set.config n)) ≡ true
  unfolding bundles
  bundled_mode (inl e) = rw (eq-eqb set.mode 0 e)
  bundled_mode (inr e) = rw (eq-eqb (length (window_of set.config n)) 1 e) (or-true (eqb set.mode 0))

  multiplexed_mode : set.mode ≡ 1 → (length (window_of set.config n) ≡ 1 → ⊥) → bundles set (length (window_of set.config n)) ≡ false
  unfolding bundles
  multiplexed_mode e h = rw (ne_eqb set.mode 0 (λ z. omega arith), ne_eqb (length (window_of set.config n)) 1 h)

  -- the answer in each case
  bundled_answer_holds : 0 < length (window_of set.config n) → bundles set (length (window_of set.config n)) ≡ true
      → bundled_answer set n (seen_of F (window_of set.config n)) ≡ answer_of set n F
  unfolding answer_of window_answer
  bundled_answer_holds some mode = rw (window_uplink set.config n some, ne_eqb (length (window_of set.config n)) 0 (λ z. omega arith), mode)

  multiplexed_answer_holds : 0 < length (window_of set.config n) → bundles set (length (window_of set.config n)) ≡ false
      → multiplexed_answer set n F (window_of set.config n) ≡ answer_of set n F
  unfolding answer_of window_answer
  multiplexed_answer_holds some mode = rw (window_uplink set.config n some, ne_eqb (length (window_of set.config n)) 0 (λ z. omega arith), mode)

  answered : Answered set sent heard (length l) (Ok (answer_of set n F))
  answered =
      record {
        taken = λ e. ap Ok (taken_answer set n F e);
        no_window = λ e f. ap Ok (no_window_answer set n F e f);
        bundled = λ some mode.
            rw (bundled_answer_holds some (bundled_mode mode)) at
            (bundled_window set n (window_accepted set n good some) ok (bundled_mode mode) (sent_ago sent (length l)) (heard_ago heard (length l)) F
            (read_in set sent (length l)) (schedule.rule (length l)) (λ k least most. ago_brings sent heard brings (length l) k) low seen
            reads_pdcch (reads_block some));
        multiplexed = λ some mode many.
            let size = multiplexed_size set n ok some (multiplexed_mode mode many) in
            rw (multiplexed_answer_holds some (multiplexed_mode mode many)) at
            (multiplexed_window set n (window_accepted set n good some) (multiplexed_mode mode many) size.0 size.1
            (sent_ago sent (length l)) (heard_ago heard (length l)) F (read_in set sent (length l)) low seen reads_pdcch (reads_block some));
      }

-- The history of a run, newest first: the mode that stands, the modes that stood, and what was heard.
pub record History (set : Settings) (heard : List Heard) (modes : List ℕ) (m : ℕ) (ms : List ℕ) (l : List Heard) : Type 0 where
  pub allowed : Allowed set (m ∷ ms)
  pub valid : ValidPast set l
  pub past : Past Nothing heard l
  pub stood : Past set.mode modes ms
  pub same : length ms ≡ length l

module _ (set : Settings) (good : settings_refusal set ≡ 0) (sent : ℕ → Send) (schedule : Schedule set sent) (heard : List Heard) (modes : List ℕ)
    (brings : (s : ℕ) → s < length heard → Brings (sent s) (get_or heard s Nothing))
    (m : ℕ) (ms : List ℕ) (l : List Heard) (history : History set heard modes m ms l) where
  abbrev now : ℕ
  now = length l % 10

  abbrev handset : Handset
  handset = after set m ms l

  abbrev earliest : ℕ
  earliest = largest (window_of set.config now)

  abbrev mode_of_window : ℕ
  mode_of_window = stood_ago set modes (length l) earliest

  -- The mode that the handset remembers of the window's earliest subframe is the one that stood then.
  module _ (some : 0 < length (window_of set.config now)) where
    least : 1 ≤ earliest
    least = rw (earliest_largest set.config now) at (earliest_least set.config now some)

    most : earliest ≤ 13
    most = rw (earliest_largest set.config now) at (earliest_most set.config now)

    stood_then : mode_of_window ≡ get_or ms (earliest - 1) set.mode
    stood_then = rw history.same at (ago_past set.mode modes ms history.stood earliest least)

    remembered : mode_ago (modes_after set.mode ms) (earliest_k set.config now) ≡ mode_of_window
    remembered =
        ap (mode_ago (modes_after set.mode ms)) (earliest_largest set.config now)
        ∙ modes_at set good ms history.allowed.1 earliest least most ∙ sym stood_then

    in_window : Answered (in_mode set mode_of_window) sent heard (length l) (Ok (next_answer handset))
    unfolding next_answer window_settings
    in_window =
        rw remembered
        (answered (in_mode set mode_of_window)
        (accepted_in set mode_of_window good (rw stood_then (allowed_at set good ms history.allowed.1 (earliest - 1))))
        sent (schedule_in set mode_of_window sent schedule) heard brings l (valid_in set mode_of_window l history.valid) history.past)

  answer_holds : Answered (in_mode set mode_of_window) sent heard (length l) (Ok (next_answer handset))
  unfolding next_answer window_settings
  answer_holds =
      record {
        taken = λ e. ap Ok (taken_answer (window_settings handset) now (view_ago (memory (map slot_of l))) e);
        no_window = λ e f. ap Ok (no_window_answer (window_settings handset) now (view_ago (memory (map slot_of l))) e f);
        bundled = λ some. (in_window some).bundled some;
        multiplexed = λ some. (in_window some).multiplexed some;
      }

  -- no answer of an accepted feed is a refusal
  not_refused : (k : ℕ) → ◌≡◌ {A = Result Answer ℕ} (Ok (next_answer handset)) (Err k) → ⊥
  not_refused k e = let z : ◌≡◌ {A = ℕ} 0 1 = cc in omega arith

  pub feed_holds : (x : Heard) → FeedHolds set sent heard modes (length l) handset x
  feed_holds x =
      let cause = cause_past set heard l history.past x in
      let taken = accepted_after set good m ms history.allowed l history.valid x in
      let refused = refused_after set good m ms history.allowed l history.valid x in
      record {
        refused_exactly = (
          λ p e. not_refused p.0 (sym (ap (λ (f : Fed). f.answer) (taken (sym cause ∙ e))) ∙ p.1),
          λ h. (cause_after set l x, ap (λ (f : Fed). f.answer) (refused (λ e. h (cause ∙ e)))),
        );
        refused = λ h. refused (λ e. h (cause ∙ e)) ∙ ap (λ (k : ℕ). record { answer = Err k; handset = handset }) (sym cause);
        accepted = λ e. rw (← ap (λ (f : Fed). f.answer) (taken (sym cause ∙ e))) at answer_holds;
        remembers = record {
          config = refl;
          next = refl;
          views = seen set good sent schedule heard brings l history.valid history.past;
        };
      }

  pub change_holds : (new : ℕ) → ChangeHolds set handset new
  change_holds new =
      let is = changed_after set good m ms history.allowed l history.valid new in
      record {
        changed_exactly = ap (λ (c : Changed). c.refusal) is;
        change_leaves = λ refused.
            ap (λ (c : Changed). c.handset) is
            ∙ ap (λ (b : Bool). after set (cond b new m) ms l) (ne_eqb (new_mode_refusal (in_mode set new)) 0 refused);
      }
