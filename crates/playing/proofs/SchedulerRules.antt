-- Where the radio cannot, the scheduler has a rule that keeps it from winning: it grants first and holds when it owes no more. Where the radio
-- can, no rule of the scheduler does.
-- Assumes nothing.
use Prim.Native.Nat.{ℕ, zero, suc, ◌<◌, ◌≤◌}
use mathlib.Core.Bool.{Bool, true, false, cond, false≢true}
use mathlib.Core.List.{List, [], ◌∷◌}
use mathlib.Core.Logic.{◌⊎◌, inl, inr, ◌↔◌}
use mathlib.Core.Path.{◌≡◌, refl, sym, ap, ◌∙◌}
use native.Mathlib.Decide.{dec_le}
use native.Mathlib.Omega.{arith}
use lib.Dec.{ltb}
use lib.ListN.{length}
use borrow.Author.Tests.{lt-ltb, le-ltb}
use Rattle.playing.specs.Game.{Turn, held, passed, lost, grants_in, radio_forces}
use Rattle.playing.specs.Decided.{SchedulerRule, against_answers, SchedulerPrevents}
use Rattle.playing.proofs.Plays.{FirstLost, first_none, first_held, first_won, first_answered, answered_grant}
use Rattle.playing.proofs.Tree.{forces_enough, not_won}

-- The scheduler's rule: it grants while it owes a grant.
grants_first : ℕ → SchedulerRule
grants_first grants play = ltb (grants_in play) grants

grants_made : (grants : ℕ) (answers : List Bool)
    → ((grants_in (against_answers (grants_first grants) answers) ≡ length answers) × (length answers ≤ grants))
    ⊎ ((grants_in (against_answers (grants_first grants) answers) ≡ grants) × (grants ≤ length answers))
unfolding grants_first
grants_made grants [] = inl (refl, omega arith)
grants_made grants (answer ∷ answers) = go (grants_made grants answers)
  where
    before : List Turn
    before = against_answers (grants_first grants) answers

    more : grants_in before < grants
        → grants_in (cond (ltb (grants_in before) grants) (cond answer lost passed) held ∷ before) ≡ suc (grants_in before)
    more h = rw (lt-ltb (grants_in before) grants h) (answered_grant answer before)

    enough : grants ≤ grants_in before
        → grants_in (cond (ltb (grants_in before) grants) (cond answer lost passed) held ∷ before) ≡ grants_in before
    enough h = rw (le-ltb (grants_in before) grants h)

    go : ((grants_in before ≡ length answers) × (length answers ≤ grants)) ⊎ ((grants_in before ≡ grants) × (grants ≤ length answers))
        → ((grants_in (cond (ltb (grants_in before) grants) (cond answer lost passed) held ∷ before) ≡ suc (length answers)) × (suc (length answers) ≤ grants))
        ⊎ ((grants_in (cond (ltb (grants_in before) grants) (cond answer lost passed) held ∷ before) ≡ grants) × (grants ≤ suc (length answers)))
    go (inl p) = at_all (dec_le grants (length answers))
      where
        at_all : Dec (grants ≤ length answers)
            → ((grants_in (cond (ltb (grants_in before) grants) (cond answer lost passed) held ∷ before) ≡ suc (length answers)) × (suc (length answers) ≤ grants))
            ⊎ ((grants_in (cond (ltb (grants_in before) grants) (cond answer lost passed) held ∷ before) ≡ grants) × (grants ≤ suc (length answers)))
        at_all (yes done) = inr (enough (omega (arith, p.0, done)) ∙ omega (arith, p.0, p.1, done), omega (arith, done))
        at_all (no owed) = inl (more (omega (arith, p.0, owed)) ∙ ap suc p.0, omega (arith, owed))
    go (inr p) = inr (enough (omega (arith, p.0)) ∙ p.0, omega (arith, p.1))

-- The radio's answers that lose the first four grants of a scheduler's rule.
losing : SchedulerRule → ℕ → List Bool
losing rule zero = []
losing rule (suc left) = ltb (grants_in (against_answers rule (losing rule left))) 4 ∷ losing rule left

losing_size : (rule : SchedulerRule) (size : ℕ) → length (losing rule size) ≡ size
unfolding losing
losing_size rule zero = refl
losing_size rule (suc size) = ap suc (losing_size rule size)

four_of : (rule : SchedulerRule) (size : ℕ) → FirstLost (against_answers rule (losing rule size))
unfolding losing
four_of rule zero = first_none
four_of rule (suc size) = go (rule (against_answers rule (losing rule size))) (four_of rule size)
  where
    go : {play : List Turn} (b : Bool) → FirstLost play → FirstLost (cond b (cond (ltb (grants_in play) 4) lost passed) held ∷ play)
    go false f = first_held _ f
    go true f = first_answered _ f

pub scheduler_holds : (size grants losses : ℕ) → grants ≤ size → (radio_forces size grants losses [] ≡ false) ↔ SchedulerPrevents size grants losses
scheduler_holds size grants losses h = (
  λ e. (
    grants_first grants,
    λ answers l.
        let g = made answers (grants_made grants answers) l in
        (g, λ few. not_won size grants losses h e (against_answers (grants_first grants) answers) g few),
  ),
  λ p. go p (radio_forces size grants losses []) refl,
)
  where
    made : (answers : List Bool)
        → ((grants_in (against_answers (grants_first grants) answers) ≡ length answers) × (length answers ≤ grants))
        ⊎ ((grants_in (against_answers (grants_first grants) answers) ≡ grants) × (grants ≤ length answers))
        → length answers ≡ size → grants_in (against_answers (grants_first grants) answers) ≡ grants
    made answers (inl p) l = omega (arith, p.0, p.1, l, h)
    made answers (inr p) l = p.0

    go : SchedulerPrevents size grants losses → (b : Bool) → radio_forces size grants losses [] ≡ b → radio_forces size grants losses [] ≡ false
    go p false e = e
    go p true e =
        let n = forces_enough size grants losses h e in
        let play : List Turn = against_answers p.0 (losing p.0 size) in
        let r = p.1 (losing p.0 size) (losing_size p.0 size) in
        let f = four_of p.0 size in
        let five : 5 ≤ grants_in play = rw r.0 n.0 in
        absurd (false≢true (sym (r.1 (omega (arith, (f.many five).0, n.1))) ∙ first_won play f five))
