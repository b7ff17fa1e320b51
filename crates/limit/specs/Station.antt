-- The station's reading is the rule `ours` of Rules.antt: what it delivers of a multiplexed reply are the positions that `ours` names
-- for the window's size, the index and the bits. read_of is what station::read promises, and feedback_reading with it.
-- Assumes nothing.
use Rattle.std.specs.Prelude.{Ok, Option, ℕ, ◌≡◌}
use Rattle.frame.specs.declared.Settings.{Settings}
use Rattle.resource.specs.Calls.{size_of}
use Rattle.station.specs.declared.Place.{Place}
use Rattle.station.specs.declared.Reading.TheVariants.{Multiplexed}
use Rattle.station.specs.Readings.{place_position, read_of}
use Rattle.limit.specs.Rules.{Positions, in_set, ours}

-- Whatever the settings, the subframe, what the reading is told, the resource and the bits: if it is multiplexed, a position is in its
-- set exactly if `ours` names it. The index is the position of what the reply is read as.
abbrev pub ReadingIsOurs : Type 0
ReadingIsOurs =
    (s : Settings) (n : ℕ) (told : Option ℕ) (r b0 b1 : ℕ) (named : Place) (set : ℕ) → read_of s n told r b0 b1 ≡ Ok (Multiplexed named set)
    → (sent : Positions) (p : ℕ) → in_set set p ≡ ours (size_of s n) sent (place_position named) b0 b1 p
