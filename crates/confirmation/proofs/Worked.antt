-- What an ACK confirms in windows of configuration 5, worked out: which are the four, and what counts among them.
-- Assumes nothing.
use Rattle.std.proofs.Common.{Ok}
use Prim.Native.Nat.{ℕ}
use mathlib.Core.Bool.{Bool, true, false, cond}
use mathlib.Core.List.{List, [], ◌∷◌, map}
use mathlib.Core.Path.{◌≡◌, refl}
use lib.Dec.{eqb}
use Rattle.frame.specs.Order.{member, times_of}
use Rattle.frame.specs.Table.{table, window_of}
use Rattle.station.specs.declared.Place.{Place}
use Rattle.station.specs.declared.Place.TheVariants as place
use Rattle.station.specs.declared.Reading.TheVariants as reading
use Rattle.confirmation.specs.declared.Send.{Send}
use Rattle.confirmation.specs.declared.Send.TheVariants as send
use Rattle.confirmation.specs.Confirmed.{confirmed}

-- Grants of one block k ago for the k of a list, with first CCE k; and with x sent j ago.
abbrev granted : List ℕ → ℕ → Send
granted ks k = cond (member k ks) (send.Granted (record { blocks = 1; cce = record { 0 = k }; dai = 1 })) send.Nothing

abbrev with : (ℕ → Send) → ℕ → Send → ℕ → Send
with sent j x k = cond (eqb k j) x (sent k)

abbrev release : ℕ → Send
release k = send.Released (record { cce = record { 0 = k }; dai = 1 })

abbrev block : Send
block = send.Scheduled (record { blocks = 1 })

abbrev pdcch : ℕ → ℕ → Place
pdcch m c = place.Pdcch m (record { 0 = c })

-- What an ACK that names this confirms at positions 0 to 8, that is 13, 12, 9, 8, 7, 5, 4, 11 and 6 ago.
abbrev confirms : (ℕ → Send) → Place → List Bool
confirms sent named =
    map (λ (m : ℕ). confirmed (window_of 5 2) sent (Ok (reading.Bundled named 1 0)) m 0) (0 ∷ 1 ∷ 2 ∷ 3 ∷ 4 ∷ 5 ∷ 6 ∷ 7 ∷ 8 ∷ [])

abbrev nothing : List Bool
nothing = false ∷ false ∷ false ∷ false ∷ false ∷ false ∷ false ∷ false ∷ false ∷ []

-- Nine grants. The fourth in time, 9 ago, is named: it and the three before it are confirmed, whatever was sent later.
fourth_of_nine : confirms (granted (window_of 5 2)) (pdcch 2 9) ≡ true ∷ true ∷ true ∷ false ∷ false ∷ false ∷ false ∷ true ∷ false ∷ []
unfolding confirmed times_of window_of table
fourth_of_nine = refl

-- The fifth, 8 ago, is named: that one alone.
fifth_of_nine : confirms (granted (window_of 5 2)) (pdcch 3 8) ≡ false ∷ false ∷ false ∷ true ∷ false ∷ false ∷ false ∷ false ∷ false ∷ []
unfolding confirmed times_of window_of table
fifth_of_nine = refl

-- Four grants and then a release, 8 ago, which is named and is the fifth: nothing. The handset sends this ACK where all four were lost.
release_fifth : confirms (with (granted (13 ∷ 12 ∷ 11 ∷ 9 ∷ [])) 8 (release 8)) (pdcch 3 8) ≡ nothing
unfolding confirmed times_of window_of table
release_fifth = refl

-- Three grants and then a release, 9 ago, which is named and is the fourth: the three.
release_fourth : confirms (with (granted (13 ∷ 12 ∷ 11 ∷ [])) 9 (release 9)) (pdcch 2 9)
    ≡ true ∷ true ∷ false ∷ false ∷ false ∷ false ∷ false ∷ true ∷ false ∷ []
unfolding confirmed times_of window_of table
release_fourth = refl

-- A scheduled block, 13 ago, and then four grants, of which the last, 8 ago, is named: the four, since the block is not counted, and
-- not the block.
block_before_holds : confirms (with (granted (12 ∷ 11 ∷ 9 ∷ 8 ∷ [])) 13 block) (pdcch 3 8)
    ≡ false ∷ true ∷ true ∷ true ∷ false ∷ false ∷ false ∷ true ∷ false ∷ []
unfolding confirmed times_of window_of table
block_before_holds = refl

-- The same window, read as the block: that block alone.
block_named_holds : confirms (with (granted (12 ∷ 11 ∷ 9 ∷ 8 ∷ [])) 13 block) (place.Block 0)
    ≡ true ∷ false ∷ false ∷ false ∷ false ∷ false ∷ false ∷ false ∷ false ∷ []
unfolding confirmed times_of window_of table
block_named_holds = refl

-- A place where something else was sent: another first CCE, a scheduled block for a PDCCH, a PDCCH for a scheduled block.
not_sent : (confirms (granted (13 ∷ [])) (pdcch 0 12) ≡ nothing)
    × (confirms (with (granted []) 13 block) (pdcch 0 13) ≡ nothing)
    × (confirms (granted (13 ∷ [])) (place.Block 0) ≡ nothing)
unfolding confirmed times_of window_of table
not_sent = (refl, refl, refl)
