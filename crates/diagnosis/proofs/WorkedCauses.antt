-- Causes on numbers: what is told beside every answer of runs that meet the hypotheses of demand 3, so that the theorem is about
-- something, and of lent states, two of which no run comes to. The runs that are not here are those of engines/proofs, whose cells these are:
-- N_RB 50, N1 10, the scheduled resource 7 where one is set.
-- Assumes nothing.
use Rattle.std.proofs.Common.{Option, Some, None, Result, Ok, Err}
use Prim.Native.Nat.{ℕ, ◌≤◌}
use mathlib.Core.Bool.{true, false}
use mathlib.Core.List.{List, [], ◌∷◌}
use mathlib.Core.Logic.{◌↔◌}
use mathlib.Core.Path.{◌≡◌, refl}
use native.Mathlib.Omega.{arith}
use Rattle.heard.specs.declared.Heard.TheVariants.{Nothing}
use Rattle.heard.specs.Memory.{none, slot_of}
use Rattle.reply.specs.declared.Answer.{Answer}
use Rattle.reply.specs.declared.Answer.TheVariants as answer
use Rattle.handset.specs.declared.Handset.{Handset}
use Rattle.handset.specs.Change.{change_of}
use Rattle.handset.specs.Feed.{feed_of}
use Rattle.handset.specs.Make.{make_of}
use Rattle.silence.specs.declared.Cause.{Cause}
use Rattle.silence.specs.declared.Cause.TheVariants.{NothingHeard, MissShown}
use Rattle.silence.specs.Cause.{window_seen, silence_cause, cause_beside, explain_of}
use Rattle.silence.specs.Exactly.{Differ}
use Rattle.agreement.specs.Run.{Item, feed, change}
use Rattle.agreement.specs.Window.{lost_before}
use Rattle.engines.proofs.Computing.{handsets, stations}
use Rattle.engines.proofs.Finite.{sending}
use Rattle.engines.proofs.Worked.{Run, Worked, worked, worked_changed, cell, scheduled_cell, times, nothing, grant, block, hears_nothing, hears, hears_block, heard_grant, reply, multiplexed_read, missed, later_only, lone_block, missed_with_block, refused_feeds}
use Rattle.diagnosis.specs.Diagnosis.{entries_at}

-- What an explained feed computes with, for an `unfolding` line.
unfoldable pub explaining : Unit {0}
unfolding handsets silence_cause cause_beside explain_of
explaining = tt

-- the causes told beside the answers to the feeds of a list
abbrev pub causes_of : Handset → List Item → List (Option Cause)
causes_of h [] = []
causes_of h (feed x ∷ items) = (explain_of h x).cause ∷ causes_of (feed_of h x).handset items
causes_of h (change m ∷ items) = causes_of (change_of h m).handset items

abbrev pub Tells : Run → List (Option Cause) → Type 0
Tells r causes = causes_of (make_of r.set).handset r.items ≡ causes

-- Configuration 1, mode 0, the first of two grants lost: the windows of subframes 2 and 3 reach before the start and heard nothing; that
-- of 7, which is 0 and 1, heard DAI 2 alone.
pub missed_tells : Tells missed (times 2 None (times 2 (Some NothingHeard) (times 3 None (Some (MissShown 2 1) ∷ []))))
unfolding explaining
missed_tells = refl

-- The case of 01: configuration 2, mode 0. The window of subframe 17 is 9, 10, 13 and 11; the grants in 9 (DAI 1) and 13 (DAI 3) are
-- heard, the one in 10 is lost.
abbrev pub second_missed : Run
second_missed =
    record {
      set = cell 2 0;
      sends = times 9 nothing (grant 1 0 1 ∷ grant 1 0 2 ∷ times 2 nothing (grant 1 0 3 ∷ []));
      items = times 9 hears_nothing (hears 0 1 true ∷ times 3 hears_nothing (hears 0 3 true ∷ times 4 hears_nothing []));
      answers =
          times 2 (Ok answer.Taken) ((Ok answer.Silent) ∷ times 4 (Ok answer.Taken) ((Ok answer.Silent) ∷ times 4 (Ok answer.Taken) ((Ok answer.Silent)
          ∷ times 4 (Ok answer.Taken) ((Ok answer.Silent) ∷ []))));
      readings = [];
    }

pub second_missed_holds : Worked second_missed
unfolding handsets stations
second_missed_holds = worked second_missed refl tt tt refl tt refl

pub second_tells : Tells second_missed
    (times 2 None ((Some NothingHeard) ∷ times 4 None ((Some NothingHeard) ∷ times 4 None ((Some NothingHeard) ∷ times 4 None (Some (MissShown 3 2) ∷ [])))))
unfolding explaining
second_tells = refl

-- Configuration 2: the window of subframe 12 is 4, 5, 8 and 6. The grant in 4 is lost, those in 6 (DAI 2) and 8 (DAI 3) are heard: V is
-- that of 8, the latest, though 6 has the last position.
abbrev pub latest_heard : Run
latest_heard =
    record {
      set = cell 2 0;
      sends = times 4 nothing (grant 1 0 1 ∷ nothing ∷ grant 1 0 2 ∷ nothing ∷ grant 1 0 3 ∷ []);
      items = times 6 hears_nothing (hears 0 2 true ∷ hears_nothing ∷ hears 0 3 true ∷ times 4 hears_nothing []);
      answers = times 2 (Ok answer.Taken) ((Ok answer.Silent) ∷ times 4 (Ok answer.Taken) ((Ok answer.Silent) ∷ times 4 (Ok answer.Taken) ((Ok answer.Silent) ∷ [])));
      readings = [];
    }

pub latest_heard_holds : Worked latest_heard
unfolding handsets stations
latest_heard_holds = worked latest_heard refl tt tt refl tt refl

pub latest_tells : Tells latest_heard (times 2 None ((Some NothingHeard) ∷ times 4 None ((Some NothingHeard) ∷ times 4 None (Some (MissShown 3 2) ∷ []))))
unfolding explaining
latest_tells = refl

-- Configuration 5: of six grants in the window of subframe 12, in 0, 1 and 3 to 6, the first is lost and five are heard: the value
-- expected of the fifth comes round to 1.
abbrev pub five_heard : Run
five_heard =
    record {
      set = cell 5 0;
      sends = grant 1 0 1 ∷ grant 1 0 2 ∷ nothing ∷ grant 1 0 3 ∷ grant 1 0 4 ∷ grant 1 0 1 ∷ grant 1 0 2 ∷ [];
      items =
          hears_nothing ∷ hears 0 2 true ∷ hears_nothing ∷ hears 0 3 true ∷ hears 0 4 true ∷ hears 0 1 true ∷ hears 0 2 true
          ∷ times 6 hears_nothing [];
      answers = times 2 (Ok answer.Taken) ((Ok answer.Silent) ∷ times 9 (Ok answer.Taken) ((Ok answer.Silent) ∷ []));
      readings = [];
    }

pub five_heard_holds : Worked five_heard
unfolding handsets stations
five_heard_holds = worked five_heard refl tt tt refl tt refl

pub five_tells : Tells five_heard (times 2 None ((Some NothingHeard) ∷ times 9 None (Some (MissShown 2 1) ∷ [])))
unfolding explaining
five_tells = refl

-- The same grants with the first five lost and the sixth alone heard: the two values differ by 1, which is 5 up to a multiple of four.
abbrev pub five_lost : Run
five_lost =
    record {
      set = cell 5 0;
      sends = grant 1 0 1 ∷ grant 1 0 2 ∷ nothing ∷ grant 1 0 3 ∷ grant 1 0 4 ∷ grant 1 0 1 ∷ grant 1 0 2 ∷ [];
      items = times 6 hears_nothing (hears 0 2 true ∷ times 6 hears_nothing []);
      answers = times 2 (Ok answer.Taken) ((Ok answer.Silent) ∷ times 9 (Ok answer.Taken) ((Ok answer.Silent) ∷ []));
      readings = [];
    }

pub five_lost_holds : Worked five_lost
unfolding handsets stations
five_lost_holds = worked five_lost refl tt tt refl tt refl

pub lost_tells : Tells five_lost (times 2 None ((Some NothingHeard) ∷ times 9 None (Some (MissShown 2 1) ∷ [])))
unfolding explaining
lost_tells = refl

-- Five were lost before the last heard one, and the two values differ by one.
pub five_lost_before : lost_before (entries_at five_lost.set (sending five_lost.sends) five_lost.items 12) ≡ 5
unfolding explaining
five_lost_before = refl

-- Scheduled blocks: a lone one is answered; where a miss is shown one that was heard counts neither in U nor in V, before the last PDCCH or
-- after it.
pub lone_tells : Tells lone_block (times 2 None ((Some NothingHeard) ∷ times 4 None ((Some NothingHeard) ∷ times 5 None [])))
unfolding explaining
lone_tells = refl

pub block_tells : Tells missed_with_block (times 2 None ((Some NothingHeard) ∷ times 4 None ((Some NothingHeard) ∷ times 4 None (Some (MissShown 2 1) ∷ []))))
unfolding explaining
block_tells = refl

-- Configuration 2, the window of subframe 12: the grant in 4 is lost, the one in 5 (DAI 2) and the scheduled block in 8 are heard.
abbrev pub missed_block_last : Run
missed_block_last =
    record {
      set = scheduled_cell 2 0;
      sends = times 4 nothing (grant 1 0 1 ∷ grant 1 0 2 ∷ times 2 nothing (block 1 ∷ []));
      items = times 5 hears_nothing (hears 0 2 true ∷ times 2 hears_nothing (hears_block true ∷ times 4 hears_nothing []));
      answers = times 2 (Ok answer.Taken) ((Ok answer.Silent) ∷ times 4 (Ok answer.Taken) ((Ok answer.Silent) ∷ times 4 (Ok answer.Taken) ((Ok answer.Silent) ∷ [])));
      readings = [];
    }

pub missed_block_last_holds : Worked missed_block_last
unfolding handsets stations
missed_block_last_holds = worked missed_block_last refl tt tt refl tt refl

pub block_last_tells : Tells missed_block_last (times 2 None ((Some NothingHeard) ∷ times 4 None ((Some NothingHeard) ∷ times 4 None (Some (MissShown 2 1) ∷ []))))
unfolding explaining
block_last_tells = refl

-- Multiplexed, the state D,A: V is 2 and the value expected 1, and a reply is sent all the same.
pub later_tells : Tells later_only (times 2 None (times 2 (Some NothingHeard) (times 4 None [])))
unfolding explaining
later_tells = refl

-- Refused feeds have no cause.
pub refused_tells : Tells refused_feeds (times 6 None (times 2 (Some NothingHeard) (times 4 None [])))
unfolding explaining
refused_tells = refl

-- Configuration 1, made in mode 0. Of the window of subframe 7, which is 0 and 1, the first grant is lost, and the mode is changed to 1
-- while it is open: it is bundled by its own mode, and the miss is shown, though mode 1 stands. That of 12, which is 5 and 6, begins in
-- mode 1, and after 7 the mode is changed back: the same loss is answered, in multiplexing, though mode 0 stands.
abbrev pub missed_in_mode : Run
missed_in_mode =
    record {
      set = cell 1 0;
      sends = grant 1 3 1 ∷ grant 1 10 2 ∷ times 3 nothing (grant 1 3 1 ∷ grant 1 10 2 ∷ []);
      items = hears_nothing ∷ hears 10 2 true ∷ change 1 ∷ times 4 hears_nothing (hears 10 2 true ∷ hears_nothing ∷ change 0 ∷ times 5 hears_nothing []);
      answers =
          times 2 (Ok answer.Taken) (times 2 (Ok answer.Silent) (times 3 (Ok answer.Taken) (times 2 (Ok answer.Silent) (times 3 (Ok answer.Taken) (reply 2 31 0 0 ∷ [])))));
      readings = multiplexed_read 1 10 2 ∷ [];
    }

pub missed_in_mode_holds : Worked missed_in_mode
unfolding handsets stations
missed_in_mode_holds = worked_changed missed_in_mode refl tt tt refl refl

pub mode_tells : Tells missed_in_mode (times 2 None (times 2 (Some NothingHeard) (times 3 None (Some (MissShown 2 1) ∷ (Some NothingHeard) ∷ times 4 None []))))
unfolding explaining
mode_tells = refl

-- Lent states, and why the two sentences of U11 speak of silent answers alone: of each, what it saw and what it answers.
pub record Replies (h : Handset) (u v : ℕ) (a : Result Answer ℕ) : Type 0 where
  pub counted : (window_seen h).u ≡ u
  pub last : (window_seen h).v ≡ v
  pub answered : (explain_of h Nothing).fed.answer ≡ a
  pub no_cause : (explain_of h Nothing).cause ≡ None

-- Configuration 0, expecting subframe 4: a grant of DAI 3 was heard in 0, which by the rule has DAI 1. Configuration 0 does not read it: V
-- is 3 and the value expected 1, and a reply is sent.
abbrev pub three_at_zero : ℕ → Handset
three_at_zero next =
    record { settings = cell 0 0; next = next; modes = 0; past = times 3 none (slot_of (heard_grant 1 0 3 true false) ∷ times 9 none []) }

pub configuration_zero : Replies (three_at_zero 4) 1 3 (reply 1 10 1 0)
unfolding explaining
configuration_zero = record { counted = refl; last = refl; answered = refl; no_cause = refl }

-- Configuration 1, mode 1, expecting subframe 7: a grant of DAI 2 was heard in 1, the state is D,A. V is 2 and the value expected 1, and a
-- multiplexed reply is sent.
abbrev pub later_heard : Handset
later_heard =
    record { settings = cell 1 1; next = 7; modes = 8191; past = times 5 none (slot_of (heard_grant 1 10 2 true false) ∷ times 7 none []) }

pub multiplexed_later : Replies later_heard 1 2 (reply 2 31 0 0)
unfolding explaining
multiplexed_later = record { counted = refl; last = refl; answered = refl; no_cause = refl }

-- So the second sentence without "silent" is false.
abbrev pub Unconditioned : Type 0
Unconditioned = (h : Handset) → ((v e : ℕ) × ((explain_of h Nothing).cause ≡ Some (MissShown v e))) ↔ ((1 ≤ (window_seen h).u) × Differ h)

pub not_unconditioned : Unconditioned → ⊥
unfolding explaining
not_unconditioned all =
    let p = (all (three_at_zero 4)).1 (omega arith, λ e. omega (arith, e)) in
    let e : None ≡ Some (MissShown p.0 p.1) = p.2 in
    let z : ◌≡◌ {A = ℕ} 0 1 = cc in
    omega arith

-- The bytes of the first expecting subframe 10 are refused 8, and have no cause.
pub refused_state : ((explain_of (three_at_zero 10) Nothing).cause ≡ None) × ((explain_of (three_at_zero 10) Nothing).fed.answer ≡ Err 8)
unfolding explaining
refused_state = (refl, refl)
