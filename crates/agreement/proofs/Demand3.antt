-- Demand 3 of the engine of this repository: specs/Demand3.antt, proved.
-- Assumes nothing.
use Rattle.std.proofs.Common.{Result, Err, Option, Some, None}
use Prim.Native.Nat.{ℕ, zero, suc, ◌+◌, ◌%◌, ◌<◌}
use mathlib.Core.Bool.{Bool, true, false, cond}
use mathlib.Core.List.{List, [], ◌∷◌}
use mathlib.Core.Logic.{◌↔◌}
use mathlib.Core.Path.{◌≡◌, refl, sym, ap, ◌∙◌, subst}
use native.Mathlib.Nat.{add-zero, zero-add, add-suc, suc-add, le_of_suc-le-suc, not-suc-le-zero}
use native.Mathlib.Omega.{arith}
use lib.Dec.{eqb}
use lib.ListN.{length, get_or, take}
use borrow.Author.Tests.{eqb-true, eqb-false}
use Rattle.frame.specs.declared.Settings.{Settings}
use Rattle.frame.specs.Settings.{settings_refusal}
use Rattle.frame.proofs.Windows.{exactly_one_holds}
use Rattle.resource.proofs.OneToOne.{calls_one_to_one, resource_call, paired}
use Rattle.resource.specs.Calls.{size_of}
use Rattle.confirmation.specs.declared.Send.{Send}
use Rattle.heard.specs.declared.Heard.{Heard}
use Rattle.heard.specs.declared.Heard.TheVariants.{Nothing, Scheduled}
use Rattle.heard.specs.declared.ScheduledBlock.{ScheduledBlock}
use Rattle.heard.specs.Heard.{heard_refusal}
use Rattle.reply.specs.declared.Answer.{Answer}
use Rattle.handset.specs.Change.{Changed}
use Rattle.handset.specs.Feed.{Fed}
use Rattle.handset.specs.declared.Handset.{Handset}
use Rattle.handset.specs.Change.{change_of}
use Rattle.handset.specs.Feed.{feed_of}
use Rattle.handset.specs.Make.{make_of}
use Rattle.station.proofs.Back.{told_fine, read_back}
use Rattle.station.specs.Readings.{told_refusal}
use Rattle.agreement.specs.Demand3.{feedback_engine, MayTell, handset_at, fed_at, IsFeed, IsChange, SecondIn, IsSubframe, Demand3}
use Rattle.agreement.specs.Run.{Item, feed, change, item_at, handset_after, cause_after, heard_from, heard_in_run, standing, modes_from, modes_in_run, settings_in, Schedule, Brings, subframe_at, BringsSent}
use Rattle.agreement.proofs.Memory.{after, accepted_after, refused_after, changed_after, made_fresh}
use Rattle.agreement.proofs.Modes.{made_allowed, standing_allowed}
use Rattle.agreement.proofs.Second.{second_exactly}
use Rattle.agreement.proofs.Feeds.{History, feed_holds, change_holds, Answered, Remembers, FeedHolds, ChangeHolds}

-- What demand 3 says of an item that comes to the handset h at the run's next subframe s.
abbrev ItemHolds : Settings → (ℕ → Send) → List Heard → List ℕ → ℕ → Handset → Item → Type 0
ItemHolds set sent heard modes s h (feed x) = FeedHolds set sent heard modes s h x
ItemHolds set sent heard modes s h (change m) = ChangeHolds set h m

-- After l a list goes on, from subframe `at` on, as `rest` does.
abbrev pub GoesOn : {A : Type 0} → A → List A → ℕ → List A → Type 0
GoesOn none all at rest = (j : ℕ) → get_or all (at + j) none ≡ get_or rest j none

pub here : {A : Type 0} (none : A) (all : List A) (at : ℕ) (x : A) (rest : List A) → GoesOn none all at (x ∷ rest) → get_or all at none ≡ x
here none all at x rest on = ap (λ (s : ℕ). get_or all s none) (sym (add-zero at)) ∙ on 0

pub further : {A : Type 0} (none : A) (all : List A) (at : ℕ) (x : A) (rest : List A) → GoesOn none all at (x ∷ rest) → GoesOn none all (suc at) rest
further none all at x rest on j = ap (λ (s : ℕ). get_or all s none) (suc-add at j ∙ sym (add-suc at j)) ∙ on (suc j)

module _ (set : Settings) (good : settings_refusal set ≡ 0) (sent : ℕ → Send) (schedule : Schedule set sent) (heard : List Heard) (modes : List ℕ)
    (brings : (s : ℕ) → s < length heard → Brings (sent s) (get_or heard s Nothing)) where
  -- After a history the run's lists go on with what the items still to come bring, and the modes that stand at them.
  record RunsOn (m : ℕ) (ms : List ℕ) (l : List Heard) (items : List Item) : Type 0 where
    history : History set heard modes m ms l
    hears : GoesOn Nothing heard (length l) (heard_from set l items)
    stands : GoesOn set.mode modes (length l) (modes_from set l m items)

  -- Every item of a list is as demanded, from the handset after any history.
  every_item : (items : List Item) (m : ℕ) (ms : List ℕ) (l : List Heard) → RunsOn m ms l items → (i : ℕ) → i < length items
      → ItemHolds set sent heard modes (length l + length (heard_from set l (take i items))) (handset_after feed_of change_of (after set m ms l) (take i items)) (item_at items i)
  every_item [] m ms l runs i h = absurd (not-suc-le-zero h)
  every_item (feed y ∷ items) m ms l runs zero h =
      rw (add-zero (length l)) (feed_holds set good sent schedule heard modes brings m ms l runs.history y)
  every_item (feed y ∷ items) m ms l runs (suc i) h =
      go (eqb (cause_after set l y) 0) refl runs.hears runs.stands (λ ms' l' runs'. every_item items m ms' l' runs' i (le_of_suc-le-suc h))
    where
      go : (b : Bool) → eqb (cause_after set l y) 0 ≡ b
          → GoesOn Nothing heard (length l) (cond b (y ∷ heard_from set (y ∷ l) items) (heard_from set l items))
          → GoesOn set.mode modes (length l) (cond b (m ∷ modes_from set (y ∷ l) m items) (modes_from set l m items))
          → ((ms' : List ℕ) (l' : List Heard) → RunsOn m ms' l' items
          → ItemHolds set sent heard modes (length l' + length (heard_from set l' (take i items))) (handset_after feed_of change_of (after set m ms' l') (take i items)) (item_at items i))
          → ItemHolds set sent heard modes (length l + length (cond b (y ∷ heard_from set (y ∷ l) (take i items)) (heard_from set l (take i items))))
          (handset_after feed_of change_of (feed_of (after set m ms l) y).handset (take i items)) (item_at items i)
      go true b hears stands next =
          let past = runs.history in
          let ok : cause_after set l y ≡ 0 = eqb-true (cause_after set l y) 0 b in
          let mode : get_or modes (length ms) set.mode ≡ m = rw past.same (here set.mode modes (length l) m (modes_from set (y ∷ l) m items) stands) in
          let count : length l + suc (length (heard_from set (y ∷ l) (take i items))) ≡ suc (length l) + length (heard_from set (y ∷ l) (take i items)) = omega arith in
          rw (count, ap (λ (f : Fed). f.handset) (accepted_after set good m ms past.allowed l past.valid y ok))
          (next (m ∷ ms) (y ∷ l)
          (record {
            history = record {
              allowed = (past.allowed.0, past.allowed);
              valid = (ok, past.valid);
              past = (here Nothing heard (length l) y (heard_from set (y ∷ l) items) hears, past.past);
              stood = (mode, past.stood);
              same = ap suc past.same;
            };
            hears = further Nothing heard (length l) y (heard_from set (y ∷ l) items) hears;
            stands = further set.mode modes (length l) m (modes_from set (y ∷ l) m items) stands;
          }))
      go false b hears stands next =
          let past = runs.history in
          rw (ap (λ (f : Fed). f.handset) (refused_after set good m ms past.allowed l past.valid y (eqb-false (cause_after set l y) 0 b)))
          (next ms l (record { history = past; hears = hears; stands = stands }))
  every_item (change new ∷ items) m ms l runs zero h = change_holds set good sent schedule heard modes brings m ms l runs.history new
  every_item (change new ∷ items) m ms l runs (suc i) h =
      let past = runs.history in
      subst
      (λ (g : Handset). ItemHolds set sent heard modes (length l + length (heard_from set l (take i items))) (handset_after feed_of change_of g (take i items)) (item_at items i))
      (sym (ap (λ (c : Changed). c.handset) (changed_after set good m ms past.allowed l past.valid new)))
      (every_item items (standing set m new) ms l
      (record {
        history = record {
          allowed = (standing_allowed set good m new past.allowed.0, past.allowed.1);
          valid = past.valid;
          past = past.past;
          stood = past.stood;
          same = past.same;
        };
        hears = runs.hears;
        stands = runs.stands;
      })
      i (le_of_suc-le-suc h))

made_accepted : (set : Settings) → settings_refusal set ≡ 0 → (make_of set).refusal ≡ 0
unfolding make_of
made_accepted set good = good

-- Every item of a run is as demanded.
module _ (set : Settings) (good : settings_refusal set ≡ 0) (sent : ℕ → Send) (schedule : Schedule set sent) (items : List Item) (brings : BringsSent set sent items) where
  run_item : (i : ℕ) → i < length items
      → ItemHolds set sent (heard_in_run set items) (modes_in_run set items) (subframe_at set items i) (handset_at feedback_engine set items i) (item_at items i)
  run_item i h =
      rw (made_fresh set good, ← zero-add (length (heard_from set [] (take i items))))
      (every_item set good sent schedule (heard_in_run set items) (modes_in_run set items) brings items set.mode [] []
      (record {
        history = record { allowed = (made_allowed set good, tt); valid = tt; past = tt; stood = tt; same = refl };
        hears = λ j. ap (λ (s : ℕ). get_or (heard_in_run set items) s Nothing) (zero-add j);
        stands = λ j. ap (λ (s : ℕ). get_or (modes_in_run set items) s set.mode) (zero-add j);
      })
      i h)

  run_feed : (i : ℕ) (x : Heard) → IsFeed items i x
      → FeedHolds set sent (heard_in_run set items) (modes_in_run set items) (subframe_at set items i) (handset_at feedback_engine set items i) x
  run_feed i x f = rw f.brings at (run_item i f.inside)

  run_change : (i m : ℕ) → IsChange items i m → ChangeHolds set (handset_at feedback_engine set items i) m
  run_change i m c = rw c.changes at (run_item i c.inside)

  -- At every feed the handset remembers what the run heard.
  pub run_remembers : (i : ℕ) (x : Heard) → IsFeed items i x
      → Remembers set (heard_in_run set items) (subframe_at set items i) (handset_at feedback_engine set items i)
  run_remembers i x f = (run_feed i x f).remembers

  -- So is every subframe of the run.
  run_subframe : (i s : ℕ) (x : Heard) → IsSubframe set items i s x
      → Answered (settings_in set items s) sent (heard_in_run set items) s (fed_at feedback_engine set items i x).answer
  run_subframe i s x at = rw at.counted at ((run_feed i x at.is_feed).accepted at.accepted)

-- A feed that is refused 18 brings a second scheduled block in one window.
same_refusal : (k j : ℕ) → ◌≡◌ {A = Result Answer ℕ} (Err k) (Err j) → k ≡ j
same_refusal k j e = cc

run_second : (set : Settings) → settings_refusal set ≡ 0 → (sent : ℕ → Send) → Schedule set sent → (items : List Item) → BringsSent set sent items
    → (i : ℕ) (b : ScheduledBlock) → IsFeed items i (Scheduled b) → heard_refusal set (subframe_at set items i % 10) (Scheduled b) ≡ 0
    → ((fed_at feedback_engine set items i (Scheduled b)).answer ≡ Err 18) ↔ SecondIn set.config (heard_in_run set items) (subframe_at set items i)
run_second set good sent schedule items brings i b f alone =
    let holds = run_feed set good sent schedule items brings i (Scheduled b) f in
    let exactly = second_exactly set (heard_in_run set items) (subframe_at set items i) b alone in (
      λ e.
          let met = holds.refused_exactly.0 (18, e) in
          exactly.0 (same_refusal _ 18 (sym (ap (λ (f : Fed). f.answer) (holds.refused met)) ∙ e)),
      λ e.
          let is = exactly.1 e in
          ap (λ (f : Fed). f.answer) (holds.refused (λ none. omega (arith, is, none))) ∙ ap Err is,
    )

-- What may be told is not refused.
may_tell : (set : Settings) (n : ℕ) (t : Option ℕ) → MayTell set n t → told_refusal set n t ≡ 0
unfolding told_refusal
may_tell set n None h = refl
may_tell set n (Some m) h = told_fine set n m h.0 h.1 h.2

-- The theorem of the third demand: it holds of the engine of this repository.
pub demand3 : Demand3 feedback_engine
demand3 =
    record {
      by_formula = λ set n m c good h top. resource_call set n good m c ∙ (paired set.nrb set.n1 (size_of set n) m c h top).there;
      one_to_one = calls_one_to_one;
      gives_back = λ set n m c r b0 b1 t may there. read_back set n m c r there t (may_tell set n t may) b0 b1;
      exactly_one = exactly_one_holds;
      made = made_accepted;
      run = λ set good sent schedule items brings.
          record {
            refused_exactly = λ i x f. (run_feed set good sent schedule items brings i x f).refused_exactly;
            leaves = λ i x f. (run_feed set good sent schedule items brings i x f).refused;
            second = run_second set good sent schedule items brings;
            taken = λ i s x at. (run_subframe set good sent schedule items brings i s x at).taken;
            no_window = λ i s x at. (run_subframe set good sent schedule items brings i s x at).no_window;
            bundled = λ i s x at. (run_subframe set good sent schedule items brings i s x at).bundled;
            multiplexed = λ i s x at. (run_subframe set good sent schedule items brings i s x at).multiplexed;
            changed_exactly = λ i m c. (run_change set good sent schedule items brings i m c).changed_exactly;
            change_leaves = λ i m c. (run_change set good sent schedule items brings i m c).change_leaves;
          };
    }
