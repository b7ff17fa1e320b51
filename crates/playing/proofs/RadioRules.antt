-- Where the radio can force the outcome it has a rule that does: it loses the first four grants.
-- Assumes nothing.
use Prim.Native.Nat.{ℕ, zero, suc, ◌≤◌}
use mathlib.Core.Bool.{Bool, true, false}
use mathlib.Core.List.{List, [], ◌∷◌}
use mathlib.Core.Logic.{◌↔◌}
use mathlib.Core.Path.{◌≡◌, refl, ap, ◌∙◌}
use native.Mathlib.Omega.{arith}
use lib.Dec.{ltb}
use lib.ListN.{length}
use Rattle.playing.specs.Game.{grants_in, radio_forces}
use Rattle.playing.specs.Decided.{RadioRule, against_moves, RadioWins}
use Rattle.playing.proofs.Plays.{won_needs, FirstLost, first_none, first_held, first_won, first_answered, answered_grant}
use Rattle.playing.proofs.Tree.{forces_enough, enough_forces}

-- The radio's rule: it loses the first four grants.
loses_four : RadioRule
loses_four play = ltb (grants_in play) 4

four_against : (moves : List Bool) → FirstLost (against_moves loses_four moves)
unfolding loses_four
four_against [] = first_none
four_against (false ∷ moves) = first_held (against_moves loses_four moves) (four_against moves)
four_against (true ∷ moves) = first_answered (against_moves loses_four moves) (four_against moves)

-- Moves with so many grants, the newest ones.
granting : ℕ → ℕ → List Bool
granting zero grants = []
granting (suc size) zero = false ∷ granting size zero
granting (suc size) (suc grants) = true ∷ granting size grants

granting_size : (size grants : ℕ) → length (granting size grants) ≡ size
unfolding granting
granting_size zero grants = refl
granting_size (suc size) zero = ap suc (granting_size size zero)
granting_size (suc size) (suc grants) = ap suc (granting_size size grants)

granting_grants : (loses : RadioRule) (size grants : ℕ) → grants ≤ size → grants_in (against_moves loses (granting size grants)) ≡ grants
unfolding granting
granting_grants loses zero grants h = omega (arith, h)
granting_grants loses (suc size) zero h = granting_grants loses size zero (omega arith)
granting_grants loses (suc size) (suc grants) h =
    answered_grant (loses (against_moves loses (granting size grants))) (against_moves loses (granting size grants))
    ∙ ap suc (granting_grants loses size grants (omega (arith, h)))

pub radio_holds : (size grants losses : ℕ) → grants ≤ size → (radio_forces size grants losses [] ≡ true) ↔ RadioWins size grants losses
radio_holds size grants losses h = (
  λ e.
      let n = forces_enough size grants losses h e in (
        loses_four,
        λ moves l g.
            let f = four_against moves in
            let five : 5 ≤ grants_in (against_moves loses_four moves) = rw g n.0 in
            (omega (arith, (f.many five).0, n.1), first_won _ f five),
      ),
  λ w.
      let moves : List Bool = granting size grants in
      let g = granting_grants w.0 size grants h in
      let p = w.1 moves (granting_size size grants) g in
      let n = won_needs (against_moves w.0 moves) p.1 in
      enough_forces size grants losses h (omega (arith, n.0, g)) (omega (arith, n.1, p.0)),
)
