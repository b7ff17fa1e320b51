-- What the statement shuts out, field by field, by runs of engines/proofs/Worked.antt and diagnosis/proofs/WorkedCauses.antt. `size` and
-- `values`, which tie the play to the window, and `five` are about no engine: must-fail edits turn them. The engine that answers a miss holds
-- V against the value for U + 1.
--
--   replied   always silent                                             not_always_silent
--             a miss is answered                                        not_answers_miss
--   won       always silent                                             not_silent_for_won
--             a miss is answered                                        not_won_by_one
--   which     a miss is answered: one is hidden, not four               not_one_hidden
--   few       a miss is answered, with two grants                       not_with_two
--             and with one lost of six in a window of nine              not_with_one_lost
--   others    a miss is answered in configuration 1                     not_elsewhere
-- Assumes nothing.
use mathlib.Core.Bool.{false≢true}
use mathlib.Core.Logic.{inl, inr, ⊎_elim}
use mathlib.Core.Path.{refl, ap}
use native.Mathlib.Omega.{arith}
use Rattle.heard.specs.declared.Heard.TheVariants.{Nothing}
use Rattle.fold.specs.Fold.{expected, step_of}
use Rattle.agreement.specs.Demand3.{Engine}
use Rattle.engines.proofs.Computing.{handsets}
use Rattle.engines.proofs.Finite.{sending}
use Rattle.engines.proofs.Worked.{Run, Worked, fed_nothing, answer_at, missed, first_missed, four_lost, four_lost_holds}
use Rattle.engines.proofs.WrongEngines.{answers_by, knows_by, same_answer}
use Rattle.engines.proofs.WrongHandsets.{always_silent, counts_one_more}
use Rattle.diagnosis.proofs.WorkedCauses.{five_heard, five_heard_holds}
use Rattle.hiding.specs.Hiding.{LossesHidden, Hides}

-- In a worked run the statement holds.
hidden_in : (e : Engine) → Hides e → (r : Run) → Worked r → LossesHidden e r.set (sending r.sends) r.items
hidden_in e d r w = d r.set w.accepted (sending r.sends) w.schedule r.items w.brings

not_always_silent : Hides (answers_by always_silent) → ⊥
unfolding handsets expected step_of
not_always_silent d =
    let h = hidden_in (answers_by always_silent) d four_lost four_lost_holds in
    let p = (h.replied 12 12 Nothing (fed_nothing four_lost 12 (omega arith) refl refl) (omega arith, inl refl)).0 refl in
    omega (arith, same_answer (ap always_silent (answer_at four_lost four_lost_holds 12)) p.0.1)

not_silent_for_won : Hides (answers_by always_silent) → ⊥
unfolding handsets expected step_of
not_silent_for_won d =
    let h = hidden_in (answers_by always_silent) d four_lost four_lost_holds in
    let p = (h.won 12 12 Nothing (fed_nothing four_lost 12 (omega arith) refl refl) (omega arith, inl refl)).0 refl in
    omega (arith, same_answer (ap always_silent (answer_at four_lost four_lost_holds 12)) p.0.1)

not_answers_miss : Hides (knows_by counts_one_more) → ⊥
unfolding handsets expected step_of
not_answers_miss d =
    let h = hidden_in (knows_by counts_one_more) d missed first_missed in
    false≢true ((h.replied 7 7 Nothing (fed_nothing missed 7 (omega arith) refl refl) (omega arith, inl refl)).1 ((_, refl), refl))

not_won_by_one : Hides (knows_by counts_one_more) → ⊥
unfolding handsets expected step_of
not_won_by_one d =
    let h = hidden_in (knows_by counts_one_more) d missed first_missed in
    false≢true ((h.won 7 7 Nothing (fed_nothing missed 7 (omega arith) refl refl) (omega arith, inl refl)).1 ((_, refl), omega arith))

not_one_hidden : Hides (knows_by counts_one_more) → ⊥
unfolding handsets
not_one_hidden d =
    let h = hidden_in (knows_by counts_one_more) d missed first_missed in
    ⊎_elim (λ e. omega (arith, e)) (λ e. omega (arith, e))
    (h.which 7 7 Nothing (fed_nothing missed 7 (omega arith) refl refl) (omega arith, inl refl) (_, refl) (omega arith))

not_with_two : Hides (knows_by counts_one_more) → ⊥
unfolding handsets
not_with_two d =
    let h = hidden_in (knows_by counts_one_more) d missed first_missed in
    let z = h.few 7 7 Nothing (fed_nothing missed 7 (omega arith) refl refl) (omega arith, inl refl) (_, refl) (inl (omega arith)) in
    omega (arith, z)

not_with_one_lost : Hides (knows_by counts_one_more) → ⊥
unfolding handsets
not_with_one_lost d =
    let h = hidden_in (knows_by counts_one_more) d five_heard five_heard_holds in
    let z = h.few 12 12 Nothing (fed_nothing five_heard 12 (omega arith) refl refl) (omega arith, inl refl) (_, refl) (inr (omega arith)) in
    omega (arith, z)

not_elsewhere : Hides (knows_by counts_one_more) → ⊥
unfolding handsets
not_elsewhere d =
    let h = hidden_in (knows_by counts_one_more) d missed first_missed in
    let z = h.others (λ e. omega (arith, e)) 7 7 Nothing (fed_nothing missed 7 (omega arith) refl refl) (omega arith, inl refl) (_, refl) in
    omega (arith, z)
