-- What a reply is read as, before its bits are looked at: a refusal, or the place.
-- Assumes nothing.
use Rattle.std.specs.Prelude.{ℕ, cond, eqb, Option, Some, None, Result, Ok, Err}
use Rattle.frame.specs.declared.Settings.{Settings}
use Rattle.frame.specs.Refusals.{refused_or}
use Rattle.frame.specs.Settings.{or_else, window_refusal}
use Rattle.resource.specs.declared.Cce.{Cce}
use Rattle.resource.specs.Calls.{inverse_of}
use Rattle.station.specs.declared.Place.{Place}
use Rattle.station.specs.declared.Place.TheVariants.{Pdcch, Block}
use Rattle.station.specs.Readings.{told_refusal}

-- the place of a dynamic resource
abbrev pub pdcch_place : Result (ℕ × Cce) ℕ → Result Place ℕ
pdcch_place (Ok (m, c)) = Ok (Pdcch m c)
pdcch_place (Err k) = Err k

-- the scheduled block at the told position, or a dynamic resource's place
abbrev pub place_on : Settings → ℕ → Option ℕ → ℕ → Result Place ℕ
place_on s n None r = pdcch_place (inverse_of s n r)
place_on s n (Some m) r = cond (eqb r s.scheduled) (Ok (Block m)) (pdcch_place (inverse_of s n r))

-- the refusals that come first, or the place
unfoldable pub place_of : Settings → ℕ → Option ℕ → ℕ → Result Place ℕ
place_of s n told r = refused_or (or_else (window_refusal s n) (told_refusal s n told)) (place_on s n told r)
