-- The feeds of a replay are a run of demand 3: specs/Run.antt, proved.
-- Assumes nothing.
use Rattle.std.proofs.Common.{Result}
use Prim.Native.Nat.{ℕ, zero, suc, ◌+◌, ◌-◌, ◌*◌, ◌%◌, ◌<◌, ◌≤◌, suc-le-suc}
use mathlib.Core.Bool.{Bool, true, false, cond}
use mathlib.Core.List.{List, [], ◌∷◌}
use mathlib.Core.Logic.{◌⊎◌, inl, inr}
use mathlib.Core.Path.{◌≡◌, refl, sym, ap, ◌∙◌}
use native.Mathlib.Nat.{add-zero, zero-add, add-suc, suc-add, le_of_suc-le-suc, not-suc-le-zero}
use native.Mathlib.Omega.{arith}
use lib.Dec.{eqb}
use lib.ListN.{length, get_or, take, drop}
use lib.Seq.{take_at, drop-append-add}
use borrow.Author.Tests.{eq-eqb, ne_eqb}
use Rattle.frame.specs.Refusals.{number_in}
use Rattle.frame.specs.declared.Settings.{Settings}
use Rattle.frame.specs.Settings.{ports_refusal, settings_refusal}
use Rattle.frame.proofs.OnePort.{ports_fine}
use Rattle.counting.specs.Windows.{has_window, windows_before}
use Rattle.counting.proofs.Frames.{windows_rise}
use Rattle.heard.specs.declared.Heard.{Heard}
use Rattle.heard.specs.declared.Heard.TheVariants.{Nothing}
use Rattle.reply.specs.declared.Answer.{Answer}
use Rattle.handset.specs.Feed.{Fed}
use Rattle.handset.specs.declared.Handset.{Handset}
use Rattle.handset.specs.Feed.{feed_of}
use Rattle.handset.specs.Change.{change_of}
use Rattle.handset.specs.Make.{make_of}
use Rattle.reader.specs.Record.{brought_at}
use Rattle.trace.specs.Trace.{header_of, settings_at, settings_of}
use Rattle.replaying.specs.Replay.{brought_in, Played, after as behind, stop_or, played, played_in, start_refusal, ended_as, replay_of, written, output_of}
use Rattle.replaying.specs.Written.{bytes_of}
use Rattle.replaying.proofs.Feeds.{taken_up, grows}
use Rattle.replaying.proofs.Brought.{brought_length, brought_at_holds}
use Rattle.agreement.specs.Demand3.{cause_at}
use Rattle.agreement.specs.Run.{Item, feed, item_at, handset_after, cause_after, heard_from, heard_in_run, settings_in}
use Rattle.agreement.proofs.Demand3.{GoesOn, here, further, demand3}
use Rattle.agreement.proofs.Feeds.{cause_in, Past, cause_past}
use Rattle.agreement.proofs.Memory.{ValidPast, unchanged, accepted_unchanged, refused_unchanged, refusal_unchanged, made_fresh}
use Rattle.agreement.proofs.SameModes.{AllFeeds, made_settings}
use Rattle.recorded.specs.Run.{unless_refused, feeds_from, run_of, answer_to, bytes_from, IsRun}

module _ (set : Settings) (good : settings_refusal set ≡ 0) where
  -- A record after a history: taken up, it is remembered and the next one comes; refused, it is the last.
  module _ (x : Heard) (xs l : List Heard) (valid : ValidPast set l) where
    module _ (none : cause_after set l x ≡ 0) where
      feeds_on : feeds_from (unchanged set l) (x ∷ xs) ≡ feed x ∷ feeds_from (unchanged set (x ∷ l)) xs
      unfolding feeds_from
      feeds_on = rw (refusal_unchanged set good l valid x, none, accepted_unchanged set good l valid x none)

      plays_on : played (unchanged set l) (length l) (x ∷ xs)
          ≡ behind (bytes_of (length l % 10) (feed_of (unchanged set l) x).answer) (played (unchanged set (x ∷ l)) (suc (length l)) xs)
      unfolding played
      plays_on = rw (refusal_unchanged set good l valid x, none, ap (λ (f : Fed). f.handset) (accepted_unchanged set good l valid x none))

    module _ (k : ℕ) (some : cause_after set l x ≡ suc k) where
      feeds_last : feeds_from (unchanged set l) (x ∷ xs) ≡ feed x ∷ []
      unfolding feeds_from
      feeds_last = rw (refusal_unchanged set good l valid x, some)

      plays_last : played (unchanged set l) (length l) (x ∷ xs) ≡ record { refusal = suc k; number = length l; bytes = [] }
      unfolding played
      plays_last = rw (refusal_unchanged set good l valid x, some)

  feeds_none : (h : Handset) → feeds_from h [] ≡ []
  unfolding feeds_from
  feeds_none h = refl

  plays_none : (h : Handset) (i : ℕ) → played h i [] ≡ record { refusal = 0; number = 0; bytes = [] }
  unfolding played
  plays_none h i = refl

  -- How many feeds are made.
  feeds_most : (xs l : List Heard) → ValidPast set l → length (feeds_from (unchanged set l) xs) ≤ length xs
  feeds_most [] l valid = rw (feeds_none (unchanged set l)) (omega arith)
  feeds_most (x ∷ xs) l valid = go (cause_after set l x) refl (feeds_most xs (x ∷ l))
    where
      go : (k : ℕ) → cause_after set l x ≡ k → (ValidPast set (x ∷ l) → length (feeds_from (unchanged set (x ∷ l)) xs) ≤ length xs)
          → length (feeds_from (unchanged set l) (x ∷ xs)) ≤ suc (length xs)
      go zero e next = rw (feeds_on x xs l valid e) (omega (arith, next (e, valid)))
      go (suc k) e next = rw (feeds_last x xs l valid k e) (omega arith)

  -- Without a refusal all are made; with one, those up to it.
  feeds_whole : (xs l : List Heard) → ValidPast set l → (played (unchanged set l) (length l) xs).refusal ≡ 0
      → length (feeds_from (unchanged set l) xs) ≡ length xs
  feeds_whole [] l valid none = rw (feeds_none (unchanged set l))
  feeds_whole (x ∷ xs) l valid none = go (cause_after set l x) refl none (feeds_whole xs (x ∷ l))
    where
      go : (k : ℕ) → cause_after set l x ≡ k → (played (unchanged set l) (length l) (x ∷ xs)).refusal ≡ 0
          → (ValidPast set (x ∷ l) → (played (unchanged set (x ∷ l)) (suc (length l)) xs).refusal ≡ 0 → length (feeds_from (unchanged set (x ∷ l)) xs) ≡ length xs)
          → length (feeds_from (unchanged set l) (x ∷ xs)) ≡ suc (length xs)
      go zero e none next = rw (feeds_on x xs l valid e) (ap suc (next (e, valid) (rw (plays_on x xs l valid e) at none)))
      go (suc k) e none next =
          let is : suc k ≡ 0 = rw (plays_last x xs l valid k e) at none in
          absurd (omega arith)

  feeds_stopped : (xs l : List Heard) → ValidPast set l → ((played (unchanged set l) (length l) xs).refusal ≡ 0 → ⊥)
      → length l + length (feeds_from (unchanged set l) xs) ≡ suc (played (unchanged set l) (length l) xs).number
  feeds_stopped [] l valid some = absurd (some (rw (plays_none (unchanged set l) (length l))))
  feeds_stopped (x ∷ xs) l valid some = go (cause_after set l x) refl some (feeds_stopped xs (x ∷ l))
    where
      go : (k : ℕ) → cause_after set l x ≡ k → ((played (unchanged set l) (length l) (x ∷ xs)).refusal ≡ 0 → ⊥)
          → (ValidPast set (x ∷ l) → ((played (unchanged set (x ∷ l)) (suc (length l)) xs).refusal ≡ 0 → ⊥)
          → suc (length l) + length (feeds_from (unchanged set (x ∷ l)) xs) ≡ suc (played (unchanged set (x ∷ l)) (suc (length l)) xs).number)
          → length l + length (feeds_from (unchanged set l) (x ∷ xs)) ≡ suc (played (unchanged set l) (length l) (x ∷ xs)).number
      go zero e some next =
          rw (feeds_on x xs l valid e, plays_on x xs l valid e)
          (omega (arith, next (e, valid) (λ z. some (rw (plays_on x xs l valid e) z))))
      go (suc k) e some next = rw (feeds_last x xs l valid k e, plays_last x xs l valid k e) (omega arith)

  -- A refusal has the number of its record, which is not before the first one.
  number_later : (h : Handset) (i : ℕ) (xs : List Heard) → ((played h i xs).refusal ≡ 0) ⊎ (i ≤ (played h i xs).number)
  unfolding played
  number_later h i [] = inl refl
  number_later h i (x ∷ xs) = go (number_in (feed_of h x).answer) (number_later (feed_of h x).handset (suc i) xs)
    where
      go : (k : ℕ) → ((played (feed_of h x).handset (suc i) xs).refusal ≡ 0) ⊎ (suc i ≤ (played (feed_of h x).handset (suc i) xs).number)
          → ((stop_or k i (behind (bytes_of h.next (feed_of h x).answer) (played (feed_of h x).handset (suc i) xs))).refusal ≡ 0)
          ⊎ (i ≤ (stop_or k i (behind (bytes_of h.next (feed_of h x).answer) (played (feed_of h x).handset (suc i) xs))).number)
      go zero (inl none) = inl none
      go zero (inr later) = inr (omega arith)
      go (suc k) next = inr (omega arith)

  -- What is printed is what the feeds answer, one after the other.
  bytes_along : (xs l : List Heard) → ValidPast set l → (answers : ℕ → Result Answer ℕ)
      → ((i : ℕ) → i < length (feeds_from (unchanged set l) xs)
      → answers (length l + i) ≡ (feed_of (handset_after feed_of change_of (unchanged set l) (take i (feeds_from (unchanged set l) xs))) (get_or xs i Nothing)).answer)
      → (played (unchanged set l) (length l) xs).bytes ≡ bytes_from answers (length l) (length (feeds_from (unchanged set l) xs))
  bytes_along [] l valid answers each = rw (plays_none (unchanged set l) (length l), feeds_none (unchanged set l))
  bytes_along (x ∷ xs) l valid answers each = go (cause_after set l x) refl (bytes_along xs (x ∷ l))
    where
      go : (k : ℕ) → cause_after set l x ≡ k
          → (ValidPast set (x ∷ l) → (answers : ℕ → Result Answer ℕ)
          → ((i : ℕ) → i < length (feeds_from (unchanged set (x ∷ l)) xs)
          → answers (suc (length l) + i) ≡ (feed_of (handset_after feed_of change_of (unchanged set (x ∷ l)) (take i (feeds_from (unchanged set (x ∷ l)) xs))) (get_or xs i Nothing)).answer)
          → (played (unchanged set (x ∷ l)) (suc (length l)) xs).bytes ≡ bytes_from answers (suc (length l)) (length (feeds_from (unchanged set (x ∷ l)) xs)))
          → (played (unchanged set l) (length l) (x ∷ xs)).bytes ≡ bytes_from answers (length l) (length (feeds_from (unchanged set l) (x ∷ xs)))
      go zero e next =
          let each' = rw (feeds_on x xs l valid e) at each in
          let here : answers (length l) ≡ (feed_of (unchanged set l) x).answer = ap answers (sym (add-zero (length l))) ∙ each' 0 (omega arith) in
          let later = next (e, valid) answers
          (λ i h. ap answers (suc-add (length l) i ∙ sym (add-suc (length l) i))
          ∙ each' (suc i) (suc-le-suc h)
          ∙ ap (λ (f : Fed). (feed_of (handset_after feed_of change_of f.handset (take i (feeds_from (unchanged set (x ∷ l)) xs))) (get_or xs i Nothing)).answer) (accepted_unchanged set good l valid x e)) in
          rw (plays_on x xs l valid e, feeds_on x xs l valid e, here, later)
      go (suc k) e next =
          let each' = rw (feeds_last x xs l valid k e) at each in
          let here : answers (length l) ≡ (feed_of (unchanged set l) x).answer = ap answers (sym (add-zero (length l))) ∙ each' 0 (omega arith) in
          rw (plays_last x xs l valid k e, feeds_last x xs l valid k e, here, refused_unchanged set good l valid x (λ z. omega arith))

  -- The window of a subframe that is taken up stands behind those of the subframes before it.
  window_at_holds : (xs l : List Heard) → ValidPast set l → (answers : ℕ → Result Answer ℕ)
      → ((i : ℕ) → i < length (feeds_from (unchanged set l) xs)
      → answers (length l + i) ≡ (feed_of (handset_after feed_of change_of (unchanged set l) (take i (feeds_from (unchanged set l) xs))) (get_or xs i Nothing)).answer)
      → (j : ℕ) → j < length (feeds_from (unchanged set l) xs) → number_in (answers (length l + j)) ≡ 0 → has_window set.config ((length l + j) % 10) ≡ true
      → (take 8 (drop (8 * windows_before set.config (length l + j) - 8 * windows_before set.config (length l)) (played (unchanged set l) (length l) xs).bytes)
      ≡ bytes_of ((length l + j) % 10) (answers (length l + j)))
      × (length (bytes_of ((length l + j) % 10) (answers (length l + j))) ≡ 8)
  window_at_holds [] l valid answers each j h none has = absurd (not-suc-le-zero (rw (feeds_none (unchanged set l)) at h))
  window_at_holds (x ∷ xs) l valid answers each j h none has = go (cause_after set l x) refl j h none has (window_at_holds xs (x ∷ l))
    where
      go : (k : ℕ) → cause_after set l x ≡ k → (j : ℕ) → j < length (feeds_from (unchanged set l) (x ∷ xs)) → number_in (answers (length l + j)) ≡ 0
          → has_window set.config ((length l + j) % 10) ≡ true
          → (ValidPast set (x ∷ l) → (answers : ℕ → Result Answer ℕ)
          → ((i : ℕ) → i < length (feeds_from (unchanged set (x ∷ l)) xs)
          → answers (suc (length l) + i) ≡ (feed_of (handset_after feed_of change_of (unchanged set (x ∷ l)) (take i (feeds_from (unchanged set (x ∷ l)) xs))) (get_or xs i Nothing)).answer)
          → (j : ℕ) → j < length (feeds_from (unchanged set (x ∷ l)) xs) → number_in (answers (suc (length l) + j)) ≡ 0 → has_window set.config ((suc (length l) + j) % 10) ≡ true
          → (take 8 (drop (8 * windows_before set.config (suc (length l) + j) - 8 * windows_before set.config (suc (length l))) (played (unchanged set (x ∷ l)) (suc (length l)) xs).bytes)
          ≡ bytes_of ((suc (length l) + j) % 10) (answers (suc (length l) + j)))
          × (length (bytes_of ((suc (length l) + j) % 10) (answers (suc (length l) + j))) ≡ 8))
          → (take 8 (drop (8 * windows_before set.config (length l + j) - 8 * windows_before set.config (length l)) (played (unchanged set l) (length l) (x ∷ xs)).bytes)
          ≡ bytes_of ((length l + j) % 10) (answers (length l + j)))
          × (length (bytes_of ((length l + j) % 10) (answers (length l + j))) ≡ 8)
      go zero e zero h none has next =
          let each' = rw (feeds_on x xs l valid e) at each in
          let here : answers (length l) ≡ (feed_of (unchanged set l) x).answer = ap answers (sym (add-zero (length l))) ∙ each' 0 (omega arith) in
          let has' : has_window set.config (length l % 10) ≡ true = rw (add-zero (length l)) at has in
          let t = taken_up (unchanged set l) x (refusal_unchanged set good l valid x ∙ e) in
          let new : List ℕ = bytes_of (length l % 10) (feed_of (unchanged set l) x).answer in
          let size : length new ≡ 8 = rw has' at t.gives.size in
          let none' : 8 * windows_before set.config (length l) - 8 * windows_before set.config (length l) ≡ 0 = omega arith in
          rw (add-zero (length l), none', plays_on x xs l valid e, here) (take_at new _ 8 size, size)
      go zero e (suc j) h none has next =
          let each' = rw (feeds_on x xs l valid e) at each in
          let s : length l + suc j ≡ suc (length l) + j = omega arith in
          let q = next (e, valid) answers
          (λ i h. ap answers (suc-add (length l) i ∙ sym (add-suc (length l) i))
          ∙ each' (suc i) (suc-le-suc h)
          ∙ ap (λ (f : Fed). (feed_of (handset_after feed_of change_of f.handset (take i (feeds_from (unchanged set (x ∷ l)) xs))) (get_or xs i Nothing)).answer) (accepted_unchanged set good l valid x e))
          j (le_of_suc-le-suc (rw (feeds_on x xs l valid e) at h)) (rw s at none) (rw s at has) in
          let new : List ℕ = bytes_of (length l % 10) (feed_of (unchanged set l) x).answer in
          let size = grows (unchanged set l) x (taken_up (unchanged set l) x (refusal_unchanged set good l valid x ∙ e)) (length l) refl in
          let rise = windows_rise set.config (suc (length l)) j in
          let d : 8 * windows_before set.config (suc (length l) + j) - 8 * windows_before set.config (length l)
          ≡ length new + (8 * windows_before set.config (suc (length l) + j) - 8 * windows_before set.config (suc (length l))) = omega (arith, size, rise) in
          rw (s, plays_on x xs l valid e, d, drop-append-add new (played (unchanged set (x ∷ l)) (suc (length l)) xs).bytes _) q
      go (suc k) e zero h none has next =
          let z : suc k ≡ 0 = sym e ∙ sym (refusal_unchanged set good l valid x) ∙ sym (ap number_in (each 0 h)) ∙ none in
          absurd (omega arith)
      go (suc k) e (suc j) h none has next = absurd (omega (arith, rw (feeds_last x xs l valid k e) at h))

  -- Each feed: what it brings, the subframe that it comes to, and its cause.
  module _ (heard : List Heard) where
    -- The run's list of heard things goes on, after the history l, with what the feeds still to come bring.
    abbrev Rest : List Heard → List Item → Type 0
    Rest l items = GoesOn Nothing heard (length l) (heard_from set l items)

    record At (l xs : List Heard) (items : List Item) (p : Played) (i : ℕ) : Type 0 where
      item : item_at items i ≡ feed (get_or xs i Nothing)
      count : length (heard_from set l (take i items)) ≡ i
      cause : cause_in set heard (length l + i) (get_or xs i Nothing) ≡ cond (eqb (length l + i) p.number) p.refusal 0
      refused : number_in (feed_of (handset_after feed_of change_of (unchanged set l) (take i items)) (get_or xs i Nothing)).answer ≡ cause_in set heard (length l + i) (get_or xs i Nothing)

    each : (xs l : List Heard) → ValidPast set l → Past Nothing heard l → Rest l (feeds_from (unchanged set l) xs)
        → (i : ℕ) → i < length (feeds_from (unchanged set l) xs)
        → At l xs (feeds_from (unchanged set l) xs) (played (unchanged set l) (length l) xs) i
    each [] l valid past rest i h = absurd (not-suc-le-zero (rw (feeds_none (unchanged set l)) at h))
    each (x ∷ xs) l valid past rest i h = go (cause_after set l x) refl i h (each xs (x ∷ l))
      where
        cause_here : cause_in set heard (length l + 0) x ≡ cause_after set l x
        cause_here = rw (add-zero (length l)) (cause_past set heard l past x)

        -- no record after this one was refused at it
        later : (p : Played) → (p.refusal ≡ 0) ⊎ (suc (length l) ≤ p.number) → ◌≡◌ {A = ℕ} (cond (eqb (length l + 0) p.number) p.refusal 0) 0
        later p (inl none) = rw none (same (eqb (length l + 0) p.number))
          where
            same : (b : Bool) → ◌≡◌ {A = ℕ} (cond b 0 0) 0
            same true = refl
            same false = refl
        later p (inr more) = rw (ne_eqb (length l + 0) p.number (λ z. omega arith))

        go : (k : ℕ) → cause_after set l x ≡ k → (i : ℕ) → i < length (feeds_from (unchanged set l) (x ∷ xs))
            → (ValidPast set (x ∷ l) → Past Nothing heard (x ∷ l) → Rest (x ∷ l) (feeds_from (unchanged set (x ∷ l)) xs)
            → (i : ℕ) → i < length (feeds_from (unchanged set (x ∷ l)) xs)
            → At (x ∷ l) xs (feeds_from (unchanged set (x ∷ l)) xs) (played (unchanged set (x ∷ l)) (suc (length l)) xs) i)
            → At l (x ∷ xs) (feeds_from (unchanged set l) (x ∷ xs)) (played (unchanged set l) (length l) (x ∷ xs)) i
        go zero e zero h next =
            let none = later (played (unchanged set (x ∷ l)) (suc (length l)) xs) (number_later (unchanged set (x ∷ l)) (suc (length l)) xs) in
            rw (feeds_on x xs l valid e, plays_on x xs l valid e) (record { item = refl; count = refl; cause = cause_here ∙ e ∙ sym none; refused = refusal_unchanged set good l valid x ∙ sym cause_here })
        go zero e (suc i) h next =
            let rest' = rw (feeds_on x xs l valid e, eq-eqb (cause_after set l x) 0 e) at rest in
            let now = here Nothing heard (length l) x (heard_from set (x ∷ l) (feeds_from (unchanged set (x ∷ l)) xs)) rest' in
            let more = further Nothing heard (length l) x (heard_from set (x ∷ l) (feeds_from (unchanged set (x ∷ l)) xs)) rest' in
            let q = next (e, valid) (now, past) more i (le_of_suc-le-suc (rw (feeds_on x xs l valid e) at h)) in
            let s : length l + suc i ≡ suc (length l) + i = omega arith in
            rw (feeds_on x xs l valid e, plays_on x xs l valid e)
            (record {
              item = q.item;
              count = rw (eq-eqb (cause_after set l x) 0 e) (ap suc q.count);
              cause = rw s q.cause;
              refused = rw s
                  (ap (λ (f : Fed). number_in (feed_of (handset_after feed_of change_of f.handset (take i (feeds_from (unchanged set (x ∷ l)) xs))) (get_or xs i Nothing)).answer) (accepted_unchanged set good l valid x e)
                  ∙ q.refused);
            })
        go (suc k) e zero h next =
            rw (feeds_last x xs l valid k e, plays_last x xs l valid k e)
            (record { item = refl; count = refl; cause = cause_here ∙ e ∙ rw (eq-eqb (length l + 0) (length l) (add-zero (length l))); refused = refusal_unchanged set good l valid x ∙ sym cause_here })
        go (suc k) e (suc i) h next = absurd (omega (arith, rw (feeds_last x xs l valid k e) at h))

-- They are feeds, and no changes of mode.
all_feeds : (h : Handset) (xs : List Heard) → AllFeeds (feeds_from h xs)
unfolding feeds_from
all_feeds h [] = tt
all_feeds h (x ∷ xs) = go (number_in (feed_of h x).answer) (all_feeds (feed_of h x).handset xs)
  where
    go : (k : ℕ) → AllFeeds (feeds_from (feed_of h x).handset xs) → AllFeeds (unless_refused k (feeds_from (feed_of h x).handset xs))
    go zero rest = rest
    go (suc k) rest = tt

answer_with : (h h' : Handset) (items items' : List Item) (x x' : Heard) (i : ℕ) → h ≡ h' → items ≡ items' → x ≡ x'
    → (feed_of (handset_after feed_of change_of h (take i items)) x).answer ≡ (feed_of (handset_after feed_of change_of h' (take i items')) x').answer
answer_with h h' items items' x x' i e f g = cc

-- The feeds of a replay are a run of demand 3, for any bytes whose settings are accepted.
module _ (l : List ℕ) (good : settings_refusal (settings_of l) ≡ 0) where
  abbrev set : Settings
  set = settings_of l

  fresh_start : (make_of set).handset ≡ unchanged set []
  fresh_start = made_fresh set good

  run_is : run_of l ≡ feeds_from (unchanged set []) (brought_in l)
  unfolding run_of
  run_is = rw fresh_start

  play_is : played_in l ≡ played (unchanged set []) 0 (brought_in l)
  unfolding played_in
  play_is = rw fresh_start

  records_fed : (i : ℕ) → i < length (run_of l) → get_or (brought_in l) i Nothing ≡ brought_at l i
  unfolding brought_in
  records_fed i h =
      let most = feeds_most set good (brought_in l) [] tt in
      brought_at_holds l 0 (header_of l).records i
      (omega (arith, h, ap length run_is, most, brought_length l 0 (header_of l).records)) ∙ ap (brought_at l) (zero-add i)

  at : (i : ℕ) → i < length (run_of l) → At set good (heard_in_run set (run_of l)) [] (brought_in l) (run_of l) (played_in l) i
  at i h =
      rw (← play_is, ← run_is) at
      (each set good (heard_in_run set (run_of l)) (brought_in l) [] tt tt
      (λ j. ap (λ (s : ℕ). get_or (heard_in_run set (run_of l)) s Nothing) (zero-add j) ∙ ap (λ (items : List Item). get_or (heard_from set [] items) j Nothing) run_is)
      i (rw run_is at h))

  answered : (i : ℕ) → i < length (run_of l)
      → answer_to l (0 + i) ≡ (feed_of (handset_after feed_of change_of (unchanged set []) (take i (feeds_from (unchanged set []) (brought_in l)))) (get_or (brought_in l) i Nothing)).answer
  answered i h = ap (answer_to l) (zero-add i) ∙ answer_with _ _ _ _ _ _ i fresh_start run_is (sym (records_fed i h))

  printed : (played_in l).bytes ≡ bytes_from (answer_to l) 0 (length (run_of l))
  printed =
      ap (λ (p : Played). p.bytes) play_is ∙ bytes_along set good (brought_in l) [] tt (answer_to l) (λ i h. answered i (rw (← run_is) at h))
      ∙ ap (λ (items : List Item). bytes_from (answer_to l) 0 (length items)) (sym run_is)

  outputs : (old : List ℕ) → start_refusal l (length old) ≡ 0 → output_of l old ≡ written (played_in l).bytes old
  unfolding output_of
  outputs old e = rw e

  tells : (room : ℕ) → start_refusal l room ≡ 0 → replay_of l room ≡ ended_as (played_in l)
  unfolding replay_of
  tells room e = rw e

  windows : (i : ℕ) → i < length (run_of l) → cause_at set (run_of l) i (brought_at l i) ≡ 0 → has_window set.config (i % 10) ≡ true
      → (take 8 (drop (8 * windows_before set.config i) (played_in l).bytes) ≡ bytes_of (i % 10) (answer_to l i)) × (length (bytes_of (i % 10) (answer_to l i)) ≡ 8)
  unfolding windows_before
  windows i h none has =
      let cause : cause_in set (heard_in_run set (run_of l)) (0 + i) (get_or (brought_in l) i Nothing) ≡ 0 = rw (zero-add i, records_fed i h) (rw (at i h).count at none) in
      let taken : number_in (answer_to l (0 + i)) ≡ 0 =
      ap number_in (answered i h)
      ∙ ap (λ (items : List Item). number_in (feed_of (handset_after feed_of change_of (unchanged set []) (take i items)) (get_or (brought_in l) i Nothing)).answer) (sym run_is)
      ∙ (at i h).refused ∙ cause in
      let q = window_at_holds set good (brought_in l) [] tt (answer_to l) (λ i h. answered i (rw (← run_is) at h)) i (rw run_is at h) taken (rw (zero-add i) has) in
      let z : 8 * windows_before set.config i - 0 ≡ 8 * windows_before set.config i = omega arith in
      rw (zero-add i, z, ← play_is) at q

  one_mode : (s : ℕ) → settings_in set (run_of l) s ≡ set
  unfolding run_of
  one_mode s = made_settings set (run_of l) (all_feeds (make_of set).handset (brought_in l)) s

  one_port_holds : ((settings_of l).ports ≡ 1) × (ports_refusal (settings_of l) ≡ 0)
  unfolding settings_at settings_of
  one_port_holds = (refl, ports_fine (settings_of l) refl)

  pub is_run : IsRun l
  unfolding brought_in
  is_run =
      record {
        feeds = λ i h. record { inside = h; brings = (at i h).item ∙ ap feed (records_fed i h) };
        counted = λ i h. (at i h).count;
        causes = λ i h. rw (at i h).count (rw (zero-add i, records_fed i h) at (at i h).cause);
        whole = λ none. ap length run_is ∙ feeds_whole set good (brought_in l) [] tt (rw play_is at none) ∙ brought_length l 0 (header_of l).records;
        stopped = λ some. rw (run_is, play_is) (sym (zero-add _) ∙ feeds_stopped set good (brought_in l) [] tt (λ z. some (rw play_is z)));
        prints = printed;
        window = windows;
        output = λ old e. outputs old e ∙ ap (λ (b : List ℕ). written b old) printed;
        told = tells;
        mode = one_mode;
        ports = one_port_holds;
        holds = λ sent schedule brings. demand3.run set good sent schedule (run_of l) brings;
      }
