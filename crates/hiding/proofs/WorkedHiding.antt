-- Plays of windows on numbers, of runs that meet the hypotheses of demand 3, so that the theorem is about something. The runs are those of
-- engines/proofs/Worked.antt, where their answers are, but for the last five, with each number of grants, which are made here.
-- Assumes nothing.
use Prim.Native.Nat.{ℕ, ◌-◌}
use mathlib.Core.Bool.{true, false}
use mathlib.Core.List.{List, [], ◌∷◌, ◌++◌}
use mathlib.Core.Logic.{inl}
use native.Mathlib.Decide.{ℕ_discrete}
use native.Mathlib.Omega.{arith}
use lib.Dec.{T}
use lib.ListN.{take}
use mathlib.Core.Path.{◌≡◌, refl}
use Rattle.fold.specs.Fold.{expected, step_of}
use Rattle.playing.specs.Game.{Turn, held, passed, lost, replied, won}
use Rattle.engines.proofs.Computing.{handsets}
use Rattle.heard.specs.declared.Heard.TheVariants.{Nothing}
use Rattle.agreement.specs.Demand3.{IsSubframe}
use Rattle.playing.specs.Decided.{Legal}
use Rattle.engines.proofs.Worked.{Run, fed_nothing, cell, times, nothing, grant, hears_nothing, hears, missed, four_lost, eight_lost, four_heard, last_two_lost, four_lost_release, missed_with_block}
use Rattle.engines.proofs.Finite.{sending, schedule_test, scheduled, feeds_test, brought}
use Rattle.hiding.specs.Hiding.{play_at, IsBundled, Hidden, Happens}

-- The play of the window of s in a worked run; the newest turn comes first.
abbrev pub play_in : Run → ℕ → List Turn
play_in r s = play_at r.set (sending r.sends) r.items s

-- Configuration 5, subframe 12: of nine subframes the first, −1, lies before the start; then four grants are lost and a fifth is heard. A
-- reply is sent, and the radio has won.
four_lost_play : play_in four_lost 12 ≡ held ∷ held ∷ held ∷ passed ∷ lost ∷ lost ∷ lost ∷ lost ∷ held ∷ []
unfolding handsets
four_lost_play = refl

pub four_lost_won : won (play_in four_lost 12) ≡ true
unfolding handsets expected step_of
four_lost_won = refl

-- The same with a release for the fifth.
release_won : won (play_in four_lost_release 12) ≡ true
unfolding handsets expected step_of
release_won = refl

-- Subframe 22: nine grants, eight of them lost, the last heard.
eight_lost_play : play_in eight_lost 22 ≡ passed ∷ lost ∷ lost ∷ lost ∷ lost ∷ lost ∷ lost ∷ lost ∷ lost ∷ []
unfolding handsets
eight_lost_play = refl

eight_lost_won : won (play_in eight_lost 22) ≡ true
unfolding handsets expected step_of
eight_lost_won = refl

-- Four grants heard, and six of which the last two are lost: a reply is sent and hides nothing.
four_heard_not : (replied (play_in four_heard 12) ≡ true) × (won (play_in four_heard 12) ≡ false)
unfolding handsets expected step_of
four_heard_not = (refl, refl)

last_two_not : (replied (play_in last_two_lost 12) ≡ true) × (won (play_in last_two_lost 12) ≡ false)
unfolding handsets expected step_of
last_two_not = (refl, refl)

-- Configuration 1, subframe 7: the first of two grants is lost, and the miss is shown.
missed_play : play_in missed 7 ≡ passed ∷ lost ∷ []
unfolding handsets
missed_play = refl

missed_not : (replied (play_in missed 7) ≡ false) × (won (play_in missed 7) ≡ false)
unfolding handsets expected step_of
missed_not = (refl, refl)

-- Configuration 2, subframe 12: a scheduled block is no grant. The grant before it is lost, the one after it heard.
block_play : play_in missed_with_block 12 ≡ passed ∷ held ∷ held ∷ lost ∷ []
unfolding handsets
block_play = refl

-- That it happens with each number of grants: configuration 5, subframe 22, whose window is 9, 10, 11 and 13 to 18. The first four are lost,
-- in 9, 10, 11 and 13, and the others heard. (Answers and readings are not written out here.)
abbrev first_four_lost : ℕ → Run
first_four_lost grants =
    record {
      set = cell 5 0;
      sends =
          times 9 nothing (grant 1 0 1 ∷ grant 1 0 2 ∷ grant 1 0 3 ∷ nothing ∷ grant 1 0 4
          ∷ take (grants - 4) (grant 1 0 1 ∷ grant 1 0 2 ∷ grant 1 0 3 ∷ grant 1 0 4 ∷ grant 1 0 1 ∷ []));
      items =
          times 14 hears_nothing
          (take (grants - 4) (hears 0 1 true ∷ hears 0 2 true ∷ hears 0 3 true ∷ hears 0 4 true ∷ hears 0 1 true ∷ [])
          ++ times (13 - grants) hears_nothing []);
      answers = [];
      readings = [];
    }

-- It hides four of them, where what the definitions compute of it is as it must be.
hidden_where : (grants : ℕ) → T (schedule_test (first_four_lost grants).set (first_four_lost grants).sends)
    → T (feeds_test (first_four_lost grants).set (first_four_lost grants).sends (first_four_lost grants).items)
    → IsSubframe (first_four_lost grants).set (first_four_lost grants).items 22 22 Nothing
    → IsBundled (first_four_lost grants).set (first_four_lost grants).items 22
    → Legal 9 grants 4 (play_in (first_four_lost grants) 22) → won (play_in (first_four_lost grants) 22) ≡ true → Hidden grants
unfolding handsets
hidden_where grants schedules feeds subframe bundled play is_won =
    let r : Run = first_four_lost grants in
    record {
      set = r.set;
      five = refl;
      accepted = refl;
      sent = sending r.sends;
      schedule = scheduled r.set r.sends schedules;
      items = r.items;
      brings = brought r.set r.sends r.items feeds;
      i = 22;
      s = 22;
      x = Nothing;
      is_subframe = subframe;
      is_bundled = bundled;
      play = play;
      is_won = is_won;
    }

hidden_5 : Hidden 5
unfolding handsets expected step_of
hidden_5 =
    hidden_where 5 tt tt (fed_nothing (first_four_lost 5) 22 (omega arith) refl refl) (omega arith, inl refl)
    (record { subframes = refl; granted = refl; few_lost = omega arith }) refl

hidden_6 : Hidden 6
unfolding handsets expected step_of
hidden_6 =
    hidden_where 6 tt tt (fed_nothing (first_four_lost 6) 22 (omega arith) refl refl) (omega arith, inl refl)
    (record { subframes = refl; granted = refl; few_lost = omega arith }) refl

hidden_7 : Hidden 7
unfolding handsets expected step_of
hidden_7 =
    hidden_where 7 tt tt (fed_nothing (first_four_lost 7) 22 (omega arith) refl refl) (omega arith, inl refl)
    (record { subframes = refl; granted = refl; few_lost = omega arith }) refl

hidden_8 : Hidden 8
unfolding handsets expected step_of
hidden_8 =
    hidden_where 8 tt tt (fed_nothing (first_four_lost 8) 22 (omega arith) refl refl) (omega arith, inl refl)
    (record { subframes = refl; granted = refl; few_lost = omega arith }) refl

hidden_9 : Hidden 9
unfolding handsets expected step_of
hidden_9 =
    hidden_where 9 tt tt (fed_nothing (first_four_lost 9) 22 (omega arith) refl refl) (omega arith, inl refl)
    (record { subframes = refl; granted = refl; few_lost = omega arith }) refl

pub happens : Happens
happens grants least most = go (ℕ_discrete grants 5) (ℕ_discrete grants 6) (ℕ_discrete grants 7) (ℕ_discrete grants 8) (ℕ_discrete grants 9)
  where
    go : Dec (grants ≡ 5) → Dec (grants ≡ 6) → Dec (grants ≡ 7) → Dec (grants ≡ 8) → Dec (grants ≡ 9) → Hidden grants
    go (yes e) b c d f = rw e hidden_5
    go (no a) (yes e) c d f = rw e hidden_6
    go (no a) (no b) (yes e) d f = rw e hidden_7
    go (no a) (no b) (no c) (yes e) f = rw e hidden_8
    go (no a) (no b) (no c) (no d) (yes e) = rw e hidden_9
    go (no a) (no b) (no c) (no d) (no f) = absurd (omega (arith, least, most, a, b, c, d, f))
