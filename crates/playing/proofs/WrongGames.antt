-- What the statement of the game shuts out, field by field. Each proof asks the statement for this field alone.
--
--   exactly      four grants are enough                    not_four_grants
--   radio        the radio never can                       not_never
--                three losses are enough                   not_three_losses
--   scheduler    the radio always can                      not_always
--                it can in no window of nine               not_short_windows
--   no_play      the radio never can, where some play is won   not_without_plays
-- Assumes nothing.
use Prim.Native.Nat.{ℕ, ◌≤◌}
use mathlib.Core.Bool.{Bool, true, false, ◌&&◌, false≢true}
use mathlib.Core.List.{[], ◌∷◌}
use mathlib.Core.Path.{refl, sym, ◌∙◌}
use native.Mathlib.Omega.{arith}
use lib.Dec.{leb}
use Rattle.fold.specs.Fold.{expected, step_of}
use Rattle.playing.specs.Game.{passed, lost}
use Rattle.playing.specs.Decided.{Decided}
use Rattle.playing.proofs.Decided.{decided}

abbrev Forcing : Type 0
Forcing = ℕ → ℕ → ℕ → Bool

four_grants : Forcing
four_grants size grants losses = leb 4 grants && leb 4 losses

three_losses : Forcing
three_losses size grants losses = leb 5 grants && leb 3 losses

short_windows : Forcing
short_windows size grants losses = leb size 8 && leb 5 grants && leb 4 losses

never : Forcing
never size grants losses = false

always : Forcing
always size grants losses = true

not_four_grants : Decided four_grants → ⊥
unfolding four_grants
not_four_grants d = false≢true (sym (d.exactly 4 4 4 (omega arith)))

not_never : Decided never → ⊥
unfolding never
not_never d =
    let h : 5 ≤ 5 = omega arith in
    false≢true ((d.radio 5 5 4 h).1 ((decided.radio 5 5 4 h).0 (decided.exactly 5 5 4 h)))

not_three_losses : Decided three_losses → ⊥
unfolding three_losses
not_three_losses d =
    let h : 5 ≤ 5 = omega arith in
    false≢true (sym (decided.exactly 5 5 3 h) ∙ (decided.radio 5 5 3 h).1 ((d.radio 5 5 3 h).0 refl))

not_always : Decided always → ⊥
unfolding always
not_always d =
    let h : 4 ≤ 9 = omega arith in
    false≢true (sym ((d.scheduler 9 4 9 h).1 ((decided.scheduler 9 4 9 h).0 (decided.exactly 9 4 9 h))))

not_short_windows : Decided short_windows → ⊥
unfolding short_windows
not_short_windows d =
    let h : 5 ≤ 9 = omega arith in
    false≢true (sym ((decided.scheduler 9 5 4 h).1 ((d.scheduler 9 5 4 h).0 refl)) ∙ decided.exactly 9 5 4 h)

not_without_plays : Decided never → ⊥
unfolding never expected step_of
not_without_plays d =
    false≢true
    (sym (d.no_play 5 5 4 (omega arith) refl (passed ∷ lost ∷ lost ∷ lost ∷ lost ∷ [])
    (record { subframes = refl; granted = refl; few_lost = omega arith })))
