-- The causes that explain_of tells in a run are true: specs/Diagnosis.antt, proved. A handset of a run remembers what the run heard, so U,
-- V and the scheduled block of its window are the run's (agreement/proofs/Counted.antt), and the DAI rule says how many were lost.
-- Assumes nothing.
use Rattle.std.proofs.Common.{Some, Ok}
use Prim.Native.Nat.{ℕ, ◌+◌, ◌-◌, ◌%◌, ◌≤◌}
use mathlib.Core.Bool.{Bool, true, false, cond, ◌||◌, false≢true}
use mathlib.Core.List.{List, [], ◌∷◌}
use mathlib.Core.Logic.{◌↔◌}
use mathlib.Core.Path.{◌≡◌, refl, sym, ap, ◌∙◌}
use native.Mathlib.Omega.{arith}
use lib.ListN.{length}
use Rattle.frame.specs.declared.Settings.{Settings}
use Rattle.frame.specs.Order.{position_of}
use Rattle.frame.specs.Settings.{settings_refusal}
use Rattle.confirmation.specs.declared.Send.{Send}
use Rattle.heard.specs.declared.Heard.{Heard}
use Rattle.heard.specs.declared.Heard.TheVariants.{Nothing, Granted, Scheduled, Released}
use Rattle.heard.specs.Heard.{is_block, view_of}
use Rattle.fold.specs.declared.Seen.{Seen}
use Rattle.fold.specs.Fold.{expected, unseen, step_of}
use Rattle.reply.specs.declared.Answer.TheVariants.{Silent}
use Rattle.handset.specs.declared.Handset.{Handset}
use Rattle.handset.specs.Feed.{feed_of}
use Rattle.silence.specs.declared.Cause.TheVariants.{NothingHeard, MissShown}
use Rattle.silence.specs.Cause.{window_seen, explain_of}
use Rattle.silence.proofs.Exactly.{explains, was_silent}
use Rattle.agreement.specs.Demand3.{feedback_engine, handset_at, IsSubframe}
use Rattle.agreement.specs.Run.{Item, heard_in_run, sent_ago, heard_ago, window_at, Schedule, BringsSent}
use Rattle.agreement.specs.Window.{Entry, at, is_heard, is_pdcch, any_of, lost_before, heard_pdcchs}
use Rattle.agreement.proofs.Counted.{seen_in, seen_folded, u_counted, v_numbered, entries_few, block_heard_holds}
use Rattle.agreement.proofs.Demand3.{run_remembers}
use Rattle.agreement.proofs.Feeds.{ago_brings}
use Rattle.agreement.proofs.Folded.{fold_in, none_counted, some_counted, none_lost}
use Rattle.diagnosis.specs.Diagnosis.{entries_at, heard_dai, last_dai, Diagnosed}

-- Nothing heard is no PDCCH and no scheduled block heard.
none_heard_holds : (es : List Entry) → (any_of is_heard es ≡ false) ↔ ((any_of is_pdcch es ≡ false) × (any_of is_block es ≡ false))
none_heard_holds [] = (λ e. (refl, refl), λ p. refl)
none_heard_holds (at k sent Nothing ∷ es) = none_heard_holds es
none_heard_holds (at k sent (Granted g) ∷ es) = (λ e. absurd (false≢true (sym e)), λ p. absurd (false≢true (sym p.0)))
none_heard_holds (at k sent (Scheduled b) ∷ es) = (λ e. absurd (false≢true (sym e)), λ p. absurd (false≢true (sym p.1)))
none_heard_holds (at k sent (Released p) ∷ es) = (λ e. absurd (false≢true (sym e)), λ p. absurd (false≢true (sym p.0)))

-- V is the DAI of the last heard PDCCH.
pub last_dai_holds : (ks : List ℕ) (es : List Entry) (seen : Seen) → (fold_in ks seen es).v ≡ cond (any_of is_pdcch es) (last_dai es) seen.v
unfolding fold_in step_of view_of
last_dai_holds ks [] seen = refl
last_dai_holds ks (at k sent x ∷ es) seen = last_dai_holds ks es (step_of seen (position_of k ks) (view_of x)) ∙ go x (any_of is_pdcch es)
  where
    go : (x : Heard) (b : Bool)
        → cond b (last_dai es) (step_of seen (position_of k ks) (view_of x)).v ≡ cond (is_pdcch x || b) (cond b (last_dai es) (heard_dai x)) seen.v
    go Nothing true = refl
    go Nothing false = refl
    go (Granted g) true = refl
    go (Granted g) false = refl
    go (Scheduled b) true = refl
    go (Scheduled b) false = refl
    go (Released p) true = refl
    go (Released p) false = refl

-- With u heard and `lost` lost before the last of them, its DAI is the value expected exactly if a multiple of four were lost,
fits : (u lost : ℕ) → 1 ≤ u → ((0 + u + lost - 1) % 4 + 1 ≡ (u - 1) % 4 + 1) ↔ (lost % 4 ≡ 0)
fits u lost some = (λ e. omega arith, λ e. omega arith)

-- and they differ by the lost ones, modulo four.
apart_by : (u lost : ℕ) → 1 ≤ u → lost % 4 ≡ ((0 + u + lost - 1) % 4 + 1 + 4 - ((u - 1) % 4 + 1)) % 4
apart_by u lost some = omega arith

module _ (set : Settings) (good : settings_refusal set ≡ 0) (sent : ℕ → Send) (schedule : Schedule set sent) (items : List Item)
    (brings : BringsSent set sent items) (i s : ℕ) (x : Heard) (at-s : IsSubframe set items i s x) where
  abbrev h : Handset
  h = handset_at feedback_engine set items i

  abbrev es : List Entry
  es = entries_at set sent items s

  -- What the handset saw in its window is the fold over what was heard there.
  seen_there : window_seen h ≡ seen_in set.config (s % 10) (sent_ago sent s) (heard_ago (heard_in_run set items) s)
  seen_there =
      let r = run_remembers set good sent schedule items brings i x at-s.is_feed in
      rw (r.config, r.next, at-s.counted)
      (seen_folded set.config (s % 10) (sent_ago sent s) (heard_ago (heard_in_run set items) s) _ (rw at-s.counted at r.views))

  u_there : (window_seen h).u ≡ heard_pdcchs es
  u_there = ap (λ (seen : Seen). seen.u) seen_there ∙ u_counted set.config (s % 10) (sent_ago sent s) (heard_ago (heard_in_run set items) s)

  block_there : (window_seen h).scheduled ≡ any_of is_block es
  block_there =
      ap (λ (seen : Seen). seen.scheduled) seen_there ∙ block_heard_holds set.config (s % 10) (sent_ago sent s) (heard_ago (heard_in_run set items) s)

  v_there : any_of is_pdcch es ≡ true → (window_seen h).v ≡ (0 + heard_pdcchs es + lost_before es - 1) % 4 + 1
  v_there some =
      ap (λ (seen : Seen). seen.v) seen_there
      ∙ v_numbered set.config (s % 10) (sent_ago sent s) (heard_ago (heard_in_run set items) s) (schedule.rule s)
      (λ k least most. ago_brings sent (heard_in_run set items) brings s k) some

  -- A PDCCH was heard exactly if U is above 0.
  some_there : 1 ≤ (window_seen h).u → any_of is_pdcch es ≡ true
  some_there some = go (any_of is_pdcch es) refl
    where
      go : (b : Bool) → any_of is_pdcch es ≡ b → any_of is_pdcch es ≡ true
      go true e = e
      go false e = absurd (omega (arith, some, u_there, none_counted es e))

  nothing_heard_holds : (feed_of h x).answer ≡ (Ok Silent) → ((explain_of h x).cause ≡ (Some NothingHeard)) ↔ (any_of is_heard es ≡ false)
  nothing_heard_holds silent =
      let exactly = explains.nothing_heard h x silent in (
        λ e.
            let u = exactly.0 e in
            (none_heard_holds es).1 (none (any_of is_pdcch es) refl u.0, sym block_there ∙ u.1),
        λ e.
            let p = (none_heard_holds es).0 e in
            exactly.1 (u_there ∙ none_counted es p.0, block_there ∙ p.1),
      )
    where
      none : (b : Bool) → any_of is_pdcch es ≡ b → (window_seen h).u ≡ 0 → any_of is_pdcch es ≡ false
      none true e u = absurd (omega (arith, u, u_there, some_counted es e))
      none false e u = e

  -- V is the value expected exactly if a multiple of four were lost.
  same_there : 1 ≤ (window_seen h).u → ((window_seen h).v ≡ expected (window_seen h).u) ↔ (lost_before es % 4 ≡ 0)
  unfolding expected
  same_there some =
      let least : 1 ≤ heard_pdcchs es = rw u_there at some in
      rw (v_there (some_there some), u_there) (fits (heard_pdcchs es) (lost_before es) least)

  miss_shown_holds : (feed_of h x).answer ≡ (Ok Silent) → ((v w : ℕ) × ((explain_of h x).cause ≡ Some (MissShown v w))) ↔ (lost_before es % 4 ≡ 0 → ⊥)
  miss_shown_holds silent =
      let exactly = explains.miss_shown h x silent in (
        λ p e. let q = exactly.0 p in q.1 ((same_there q.0).1 e),
        λ lost.
            let some = heard (any_of is_pdcch es) refl lost in
            exactly.1 (some, λ e. lost ((same_there some).0 e)),
      )
    where
      heard : (b : Bool) → any_of is_pdcch es ≡ b → (lost_before es % 4 ≡ 0 → ⊥) → 1 ≤ (window_seen h).u
      heard true e lost = omega (arith, u_there, some_counted es e)
      heard false e lost = absurd (lost (omega (arith, none_lost es e)))

  -- The values that are told, and by what they differ.
  module _ (v w : ℕ) (shown : (explain_of h x).cause ≡ Some (MissShown v w)) where
    some : 1 ≤ (window_seen h).u
    some = ((explains.miss_shown h x (was_silent h x v w shown)).0 (v, w, shown)).0

    values : (v ≡ last_dai es) × (w ≡ (heard_pdcchs es - 1) % 4 + 1)
    unfolding expected
    values =
        let told = explains.values h x v w shown in
        let last : (seen_in set.config (s % 10) (sent_ago sent s) (heard_ago (heard_in_run set items) s)).v ≡ last_dai es =
        last_dai_holds (window_at set s) es unseen ∙ ap (λ (b : Bool). cond b (last_dai es) 0) (some_there some) in
        (told.0 ∙ ap (λ (seen : Seen). seen.v) seen_there ∙ last, told.1 ∙ ap (λ (u : ℕ). (u - 1) % 4 + 1) u_there)

    how_many_holds : lost_before es % 4 ≡ (v + 4 - w) % 4
    unfolding expected
    how_many_holds =
        let told = explains.values h x v w shown in
        let least : 1 ≤ heard_pdcchs es = rw u_there at some in
        let v_is : v ≡ (0 + heard_pdcchs es + lost_before es - 1) % 4 + 1 = told.0 ∙ v_there (some_there some) in
        let w-is : w ≡ (heard_pdcchs es - 1) % 4 + 1 = told.1 ∙ ap (λ (u : ℕ). (u - 1) % 4 + 1) u_there in
        rw (v_is, w-is) (apart_by (heard_pdcchs es) (lost_before es) least)

    exactly_many : length (window_at set s) ≤ 4 → lost_before es ≡ (v + 4 - w) % 4
    exactly_many few =
        let least : 1 ≤ heard_pdcchs es = rw u_there at some in
        omega (arith, how_many_holds, least, few, entries_few set.config (s % 10) (sent_ago sent s) (heard_ago (heard_in_run set items) s))

-- The theorem: in every run the causes told are true.
pub diagnosed : Diagnosed feedback_engine explain_of
diagnosed set good sent schedule items brings =
    record {
      fed = λ i x f. explains.fed (handset_at feedback_engine set items i) x;
      not_silent = λ i x f. explains.not_silent (handset_at feedback_engine set items i) x;
      nothing_heard = nothing_heard_holds set good sent schedule items brings;
      miss_shown = miss_shown_holds set good sent schedule items brings;
      values = values set good sent schedule items brings;
      how_many = how_many_holds set good sent schedule items brings;
      exactly = λ i s x at-s few v w shown. exactly_many set good sent schedule items brings i s x at-s v w shown few;
    }
