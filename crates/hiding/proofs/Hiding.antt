-- What losses can hide: specs/Hiding.antt, proved of every engine that meets demand 3. Its sentence on a bundled window says when a reply
-- is sent, and the game's own laws when a play has one.
-- Assumes nothing.
use Prim.Native.Nat.{ℕ, ◌+◌, ◌%◌, ◌<◌, ◌≤◌}
use mathlib.Core.Bool.{Bool, true, false, cond, not, ◌||◌, false≢true}
use mathlib.Core.List.{List, [], ◌∷◌}
use mathlib.Core.Logic.{◌⊎◌, inl, inr, ◌↔◌}
use mathlib.Core.Path.{◌≡◌, refl, sym, ap, ◌∙◌}
use native.Mathlib.Decide.{ℕ_discrete, dec_le}
use native.Mathlib.Omega.{arith}
use lib.Dec.{T, eqb}
use lib.ListN.{length}
use borrow.Author.Tests.{eqb-true}
use Rattle.frame.specs.declared.Settings.{Settings}
use Rattle.frame.specs.Order.{times_of}
use Rattle.frame.specs.Settings.{settings_refusal}
use Rattle.frame.specs.Table.{table, window_of}
use Rattle.frame.proofs.Accepted.{accepted}
use Rattle.frame.proofs.Windows.{every_row, window_passes, window_size, small_windows}
use Rattle.frame.proofs.Times.{in_time_order}
use Rattle.confirmation.specs.declared.Send.{Send}
use Rattle.confirmation.specs.declared.Send.TheVariants as send
use Rattle.heard.specs.declared.Heard.{Heard}
use Rattle.heard.specs.declared.Heard.TheVariants.{Nothing, Granted, Scheduled, Released}
use Rattle.heard.specs.Heard.{is_block}
use Rattle.agreement.specs.Demand3.{Engine, fed_at, IsSubframe, Demand3}
use Rattle.agreement.specs.Run.{Item, sent_of, heard_in_run, sent_ago, heard_ago, window_at, window_mode, settings_in, Schedule, Brings, BringsSent}
use Rattle.agreement.specs.Window.{Entry, at, is_pdcch, any_of, is_lost, lost_before, heard_pdcchs}
use Rattle.fold.specs.Fold.{unseen}
use Rattle.agreement.proofs.Counted.{seen_in, v_numbered, entries_few}
use Rattle.agreement.proofs.Entries.{all_of, brought, entries_length}
use Rattle.agreement.proofs.Feeds.{ago_brings}
use Rattle.agreement.proofs.Folded.{Brought, none_counted, some_counted, none_lost}
use Rattle.agreement.proofs.Modes.{window_good}
use Rattle.diagnosis.specs.Diagnosis.{entries_at, last_dai}
use Rattle.diagnosis.proofs.True.{last_dai_holds}
use Rattle.std.proofs.lemmas.Bool.{and_parts}
use Rattle.playing.specs.Game.{Turn, held, passed, lost, grants_in, losses_in, seen_after, replied, hidden, won}
use Rattle.playing.proofs.Plays.{u_is, v_is, heard_in, is_passed, lost_before as lost_in_play, grants_most, hidden_is, replied_is, won_needs}
use Rattle.hiding.specs.Hiding.{turn_of, play_after, play_at, IsBundled, IsSent, Hides}

-- What the turn of a subframe is, what was heard and whether a PDCCH was lost are one choice of three.
data Kind : Turn → Bool → Bool → Type 0 where
  no_pdcch : Kind held false false
  heard_one : Kind passed true false
  lost_one : Kind lost false true

absent : (sent : Send) → Kind (turn_of sent Nothing) false (is_lost sent Nothing)
absent send.Nothing = no_pdcch
absent (send.Granted g) = lost_one
absent (send.Scheduled b) = no_pdcch
absent (send.Released p) = lost_one

present : (x : Heard) → Kind (turn_of (sent_of x) x) (is_pdcch x) (is_lost (sent_of x) x)
present Nothing = no_pdcch
present (Granted g) = heard_one
present (Scheduled b) = no_pdcch
present (Released p) = heard_one

kind_of : (sent : Send) (x : Heard) → Brings sent x → Kind (turn_of sent x) (is_pdcch x) (is_lost sent x)
kind_of sent x (inl e) = rw e (absent sent)
kind_of sent x (inr e) = rw (← e) (present x)

-- A play has as many turns, and as many heard grants, as its window subframes and heard PDCCHs, and what was lost before the last of them.
turns : (es : List Entry) (earlier : List Turn) → length (play_after earlier es) ≡ length earlier + length es
turns [] earlier = omega arith
turns (at k sent x ∷ es) earlier = omega (arith, turns es (turn_of sent x ∷ earlier))

heard_there : (es : List Entry) (earlier : List Turn) → Brought es → heard_in (play_after earlier es) ≡ heard_in earlier + heard_pdcchs es
unfolding heard_in is_passed
heard_there [] earlier b = omega arith
heard_there (at k sent x ∷ es) earlier b = go (kind_of sent x b.0) (heard_there es (turn_of sent x ∷ earlier) b.1)
  where
    go : {t : Turn} {p l : Bool} → Kind t p l
        → heard_in (play_after (t ∷ earlier) es) ≡ heard_in (t ∷ earlier) + heard_pdcchs es
        → heard_in (play_after (t ∷ earlier) es) ≡ heard_in earlier + (cond p 1 0 + heard_pdcchs es)
    go no_pdcch h = omega (arith, h)
    go heard_one h = omega (arith, h)
    go lost_one h = omega (arith, h)

lost_there : (es : List Entry) (earlier : List Turn) → Brought es
    → lost_in_play (play_after earlier es) ≡ cond (any_of is_pdcch es) (losses_in earlier + lost_before es) (lost_in_play earlier)
unfolding lost_in_play
lost_there [] earlier b = refl
lost_there (at k sent x ∷ es) earlier b = go (kind_of sent x b.0) (any_of is_pdcch es) refl (lost_there es (turn_of sent x ∷ earlier) b.1)
  where
    go : {t : Turn} {p l : Bool} → Kind t p l → (some : Bool) → any_of is_pdcch es ≡ some
        → lost_in_play (play_after (t ∷ earlier) es) ≡ cond (any_of is_pdcch es) (losses_in (t ∷ earlier) + lost_before es) (lost_in_play (t ∷ earlier))
        → lost_in_play (play_after (t ∷ earlier) es)
        ≡ cond (p || any_of is_pdcch es) (losses_in earlier + cond (any_of is_pdcch es) (cond l 1 0 + lost_before es) 0) (lost_in_play earlier)
    go no_pdcch true e h = rw e (rw e at h ∙ omega arith)
    go no_pdcch false e h = rw e (rw e at h)
    go heard_one true e h = rw e (rw e at h ∙ omega arith)
    go heard_one false e h = rw e (rw e at h ∙ omega arith)
    go lost_one true e h = rw e (rw e at h ∙ omega arith)
    go lost_one false e h = rw e (rw e at h)

-- Configuration 5 has windows of nine subframes.
nine_tested : T (every_row (λ (c n : ℕ) (ks : List ℕ). not (eqb c 5) || eqb (length ks) 0 || eqb (length ks) 9) table)
unfolding table
nine_tested = tt

nine_windows : (n : ℕ) → 0 < length (window_of 5 n) → length (window_of 5 n) ≡ 9
nine_windows n some =
    go (eqb (length (window_of 5 n)) 0) refl (eqb (length (window_of 5 n)) 9) refl (window_passes _ nine_tested 5 n tt)
  where
    go : (a : Bool) → eqb (length (window_of 5 n)) 0 ≡ a → (b : Bool) → eqb (length (window_of 5 n)) 9 ≡ b → T (a || b) → length (window_of 5 n) ≡ 9
    go true e b f t = absurd (omega (arith, some, eqb-true _ _ e))
    go false e true f t = eqb-true _ _ f
    go false e false f t = absurd t

module _ (e : Engine) (demand : Demand3 e) (set : Settings) (good : settings_refusal set ≡ 0) (sent : ℕ → Send) (schedule : Schedule set sent)
    (items : List Item) (brings : BringsSent set sent items) where
  -- What was lost before the last heard PDCCH of a window, and the PDCCHs heard.
  module _ (s : ℕ) where
    abbrev es : List Entry
    es = entries_at set sent items s

    abbrev play : List Turn
    play = play_at set sent items s

    were_brought : Brought es
    were_brought =
        brought (sent_ago sent s) (heard_ago (heard_in_run set items) s) (times_of (window_at set s))
        (all_of _ (times_of (window_at set s))
        (λ k m. ago_brings sent (heard_in_run set items) brings s k))

    heard_is : heard_in play ≡ heard_pdcchs es
    unfolding heard_in
    heard_is = omega (arith, heard_there es [] were_brought)

    lost_is : lost_in_play play ≡ lost_before es
    unfolding lost_in_play
    lost_is = lost_there es [] were_brought ∙ go (any_of is_pdcch es) refl
      where
        go : (b : Bool) → any_of is_pdcch es ≡ b → cond (any_of is_pdcch es) (0 + lost_before es) 0 ≡ lost_before es
        go true e = rw e (omega arith)
        go false e = rw (e, none_lost es e)

    size_is : length play ≡ length (window_at set s)
    size_is =
        omega (arith, turns es [], entries_length (sent_ago sent s) (heard_ago (heard_in_run set items) s) (times_of (window_at set s)), (in_time_order set.config (s % 10)).size)

    -- U and V of the play are the window's
    values_are : ((seen_after play).u ≡ heard_pdcchs es) × (any_of is_pdcch es ≡ true → (seen_after play).v ≡ last_dai es)
    values_are = (u_is play ∙ heard_is, v_there)
      where
        v_there : any_of is_pdcch es ≡ true → (seen_after play).v ≡ last_dai es
        v_there some =
            let least : 1 ≤ heard_pdcchs es = some_counted es some in
            let ours = v_is play (omega (arith, heard_is, least)) in
            let theirs =
            v_numbered set.config (s % 10) (sent_ago sent s) (heard_ago (heard_in_run set items) s) (schedule.rule s)
            (λ k l m. ago_brings sent (heard_in_run set items) brings s k) some in
            let last : (seen_in set.config (s % 10) (sent_ago sent s) (heard_ago (heard_in_run set items) s)).v ≡ last_dai es =
            last_dai_holds (window_at set s) es unseen ∙ ap (λ (b : Bool). cond b (last_dai es) 0) some in
            omega (arith, ours, theirs, last, heard_is, lost_is)

    few_lost : lost_before es ≤ 8
    few_lost = go (any_of is_pdcch es) refl
      where
        go : (b : Bool) → any_of is_pdcch es ≡ b → lost_before es ≤ 8
        go true e =
            omega (arith, some_counted es e, entries_few set.config (s % 10) (sent_ago sent s) (heard_ago (heard_in_run set items) s), window_size set.config (s % 10))
        go false e = omega (arith, none_lost es e)

    some_heard : 1 ≤ heard_pdcchs es → any_of is_pdcch es ≡ true
    some_heard h = go (any_of is_pdcch es) refl
      where
        go : (b : Bool) → any_of is_pdcch es ≡ b → any_of is_pdcch es ≡ true
        go true e = e
        go false e = absurd (omega (arith, h, none_counted es e))

    before_some : 1 ≤ lost_before es → any_of is_pdcch es ≡ true
    before_some h = go (any_of is_pdcch es) refl
      where
        go : (b : Bool) → any_of is_pdcch es ≡ b → any_of is_pdcch es ≡ true
        go true e = e
        go false e = absurd (omega (arith, h, none_lost es e))

  module _ (i s : ℕ) (x : Heard) (at-s : IsSubframe set items i s x) (is_bundled : IsBundled set items s) where
    abbrev window : List Entry
    window = entries_at set sent items s

    abbrev IsReplied : Type 0
    IsReplied = IsSent (fed_at e set items i x).answer

    -- a reply is sent exactly when it is due
    due : IsReplied ↔ (((any_of is_pdcch window ≡ true) × ((lost_before window ≡ 0) ⊎ (lost_before window ≡ 4) ⊎ (lost_before window ≡ 8)))
        ⊎ ((any_of is_pdcch window ≡ false) × (any_of is_block window ≡ true)))
    due = ((demand.run set good sent schedule items brings).bundled i s x at-s is_bundled.0 is_bundled.1).0

    fours : lost_before window % 4 ≡ 0 → (lost_before window ≡ 0) ⊎ (lost_before window ≡ 4) ⊎ (lost_before window ≡ 8)
    fours m = go (ℕ_discrete (lost_before window) 0) (ℕ_discrete (lost_before window) 4)
      where
        go : Dec (lost_before window ≡ 0) → Dec (lost_before window ≡ 4) → (lost_before window ≡ 0) ⊎ (lost_before window ≡ 4) ⊎ (lost_before window ≡ 8)
        go (yes a) b = inl a
        go (no a) (yes b) = inr (inl b)
        go (no a) (no b) = inr (inr (omega (arith, m, a, b, few_lost s)))

    replied_holds : (replied (play_at set sent items s) ≡ true) ↔ (IsReplied × (any_of is_pdcch window ≡ true))
    replied_holds = (
      λ r.
          let p = (replied_is (play_at set sent items s)).0 r in
          let some = some_heard s (omega (arith, p.0, heard_is s)) in
          (due.1 (inl (some, fours (rw (lost_is s) at p.1))), some),
      λ p. (replied_is (play_at set sent items s)).1 (omega (arith, heard_is s, some_counted window p.1), rw (lost_is s) (divided (due.0 p.0) p.1)),
    )
      where
        divided : ((any_of is_pdcch window ≡ true) × ((lost_before window ≡ 0) ⊎ (lost_before window ≡ 4) ⊎ (lost_before window ≡ 8)))
            ⊎ ((any_of is_pdcch window ≡ false) × (any_of is_block window ≡ true))
            → any_of is_pdcch window ≡ true → lost_before window % 4 ≡ 0
        divided (inl (a, inl z)) some = omega (arith, z)
        divided (inl (a, inr (inl z))) some = omega (arith, z)
        divided (inl (a, inr (inr z))) some = omega (arith, z)
        divided (inr (a, b)) some = absurd (false≢true (sym a ∙ some))

    won_holds : (won (play_at set sent items s) ≡ true) ↔ (IsReplied × (1 ≤ lost_before window))
    won_holds = (
      λ w.
          let p = and_parts (replied (play_at set sent items s)) (hidden (play_at set sent items s)) w in
          ((replied_holds.0 p.0).0, omega (arith, lost_is s, (hidden_is (play_at set sent items s)).0 p.1)),
      λ p.
          rw (replied_holds.1 (p.0, before_some s p.1), (hidden_is (play_at set sent items s)).1 (omega (arith, lost_is s, p.1))),
    )

    which_holds : IsReplied → 1 ≤ lost_before window → (lost_before window ≡ 4) ⊎ (lost_before window ≡ 8)
    which_holds r some = go (due.0 r)
      where
        go : ((any_of is_pdcch window ≡ true) × ((lost_before window ≡ 0) ⊎ (lost_before window ≡ 4) ⊎ (lost_before window ≡ 8)))
            ⊎ ((any_of is_pdcch window ≡ false) × (any_of is_block window ≡ true))
            → (lost_before window ≡ 4) ⊎ (lost_before window ≡ 8)
        go (inl (a, inl z)) = absurd (omega (arith, some, z))
        go (inl (a, inr (inl z))) = inl z
        go (inl (a, inr (inr z))) = inr z
        go (inr (a, b)) = absurd (false≢true (sym a ∙ before_some s some))

    -- what is hidden needs five grants and four losses
    few_holds : IsReplied → (grants_in (play_at set sent items s) ≤ 4) ⊎ (losses_in (play_at set sent items s) ≤ 3) → lost_before window ≡ 0
    few_holds r few = go (dec_le 1 (lost_before window)) few
      where
        go : Dec (1 ≤ lost_before window) → (grants_in (play_at set sent items s) ≤ 4) ⊎ (losses_in (play_at set sent items s) ≤ 3)
            → lost_before window ≡ 0
        go (no none) few = omega (arith, none)
        go (yes some) (inl grants) = absurd (omega (arith, grants, (won_needs (play_at set sent items s) (won_holds.1 (r, some))).0))
        go (yes some) (inr losses) = absurd (omega (arith, losses, (won_needs (play_at set sent items s) (won_holds.1 (r, some))).1))

    -- a window of at most four subframes has at most four grants
    other_holds : (set.config ≡ 5 → ⊥) → IsReplied → lost_before window ≡ 0
    other_holds other r =
        few_holds r (inl (omega (arith, grants_most (play_at set sent items s), size_is s, small_windows set.config (s % 10) other)))

  five_holds : set.config ≡ 5 → (s : ℕ) → 0 < length (window_at set s) → (length (window_at set s) ≡ 9) × (window_mode set items s ≡ 0)
  five_holds five s some =
      let a = accepted (settings_in set items s) (window_good set good items s) in
      (rw five (nine_windows (s % 10) (rw five at some)), mode (ℕ_discrete (window_mode set items s) 1) a.mode (λ m. a.no_five m five))
    where
      mode : Dec (window_mode set items s ≡ 1) → window_mode set items s ≤ 1 → (window_mode set items s ≡ 1 → ⊥) → window_mode set items s ≡ 0
      mode (yes one) most not_one = absurd (not_one one)
      mode (no zero) most not_one = omega (arith, zero, most)

-- The theorem: what losses can hide in a run of an engine that meets demand 3 is what they can in the game.
pub hides : (e : Engine) → Demand3 e → Hides e
hides e demand set good sent schedule items brings =
    record {
      size = size_is e demand set good sent schedule items brings;
      values = values_are e demand set good sent schedule items brings;
      replied = replied_holds e demand set good sent schedule items brings;
      won = won_holds e demand set good sent schedule items brings;
      which = which_holds e demand set good sent schedule items brings;
      few = few_holds e demand set good sent schedule items brings;
      five = five_holds e demand set good sent schedule items brings;
      others = λ other i s x at-s is_bundled. other_holds e demand set good sent schedule items brings i s x at-s is_bundled other;
    }
