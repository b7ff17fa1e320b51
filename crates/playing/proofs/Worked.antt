-- Plays and games on numbers, by the definitions alone.
-- Assumes nothing.
use mathlib.Core.Bool.{true, false}
use mathlib.Core.List.{[], ◌∷◌}
use mathlib.Core.Path.{◌≡◌, refl}
use Rattle.fold.specs.Fold.{expected, step_of}
use Rattle.playing.specs.Game.{passed, lost, won, radio_forces}

-- Of a play the newest turn comes first. Four lost, then one heard: its DAI is 1, as if it were the first.
five_grants : won (passed ∷ lost ∷ lost ∷ lost ∷ lost ∷ []) ≡ true
unfolding expected step_of
five_grants = refl

-- Four grants, three of them lost: the one that is heard has DAI 4.
four_grants : won (passed ∷ lost ∷ lost ∷ lost ∷ []) ≡ false
unfolding expected step_of
four_grants = refl

-- Four lost after the last heard one hide nothing.
lost_after : won (lost ∷ lost ∷ lost ∷ lost ∷ passed ∷ []) ≡ false
unfolding expected step_of
lost_after = refl

-- Nine grants, with the first four lost, with four in the midst, with eight.
nine_first : won (passed ∷ passed ∷ passed ∷ passed ∷ passed ∷ lost ∷ lost ∷ lost ∷ lost ∷ []) ≡ true
unfolding expected step_of
nine_first = refl

nine_midst : won (passed ∷ passed ∷ lost ∷ lost ∷ lost ∷ lost ∷ passed ∷ passed ∷ passed ∷ []) ≡ true
unfolding expected step_of
nine_midst = refl

nine_eight : won (passed ∷ lost ∷ lost ∷ lost ∷ lost ∷ lost ∷ lost ∷ lost ∷ lost ∷ []) ≡ true
unfolding expected step_of
nine_eight = refl

-- The trees of small windows.
five_five_four : radio_forces 5 5 4 [] ≡ true
unfolding radio_forces expected step_of
five_five_four = refl

six_five_four : radio_forces 6 5 4 [] ≡ true
unfolding radio_forces expected step_of
six_five_four = refl

five_four_nine : radio_forces 5 4 9 [] ≡ false
unfolding radio_forces expected step_of
five_four_nine = refl

five_five_three : radio_forces 5 5 3 [] ≡ false
unfolding radio_forces expected step_of
five_five_three = refl

-- With no loss to spend the radio cannot, though every grant is heard and a reply is sent.
four_four_none : radio_forces 4 4 0 [] ≡ false
unfolding radio_forces expected step_of
four_four_none = refl
