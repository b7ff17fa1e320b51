-- The station's reading: document 01, "The station's reading" and refusal 14; document 02, U1, 11 and 18, and U2, 20.
-- U8: "The station is told the mode per window": the settings' mode is that of the reply's window.
-- Assumes nothing.
use Rattle.std.specs.Prelude.{Option, Some, None, Result, Ok, Err, ℕ, Bool, cond, ◌&&◌, ◌||◌, ◌⊎◌, ◌≡◌, ltb, eqb}
use Rattle.resource.specs.declared.Cce.{Cce}
use Rattle.frame.specs.declared.Settings.{Settings}
use Rattle.frame.specs.Distance.{subframe_of}
use Rattle.frame.specs.Refusals.{refused_or}
use Rattle.frame.specs.Settings.{or_else, has_scheduled, window_refusal, bundles}
use Rattle.frame.specs.Special.{too_short}
use Rattle.resource.specs.Calls.{size_of, inverse_of}
use Rattle.symbols.specs.Delivered.{delivery_of}
use Rattle.station.specs.declared.Place.{Place}
use Rattle.station.specs.declared.Place.TheVariants.{Pdcch, Block}
use Rattle.station.specs.declared.Reading.{Reading}
use Rattle.station.specs.declared.Reading.TheVariants.{Bundled, Multiplexed}

-- The position of what a reply is read as.
abbrev pub place_position : Place → ℕ
place_position (Pdcch m c) = m
place_position (Block m) = m

-- 14 in a bundled window: bit over 1, or second bit set in a one-bit reply, that of a cell of one block.
unfoldable pub bad_bits : Settings → ℕ → ℕ → Bool
bad_bits s b0 b1 = ltb 1 b0 || ltb 1 b1 || (eqb s.blocks 1 && eqb b1 1)

-- Bundled: what it is read as with the ACK bits.
unfoldable pub bundled_reading : Settings → Place → ℕ → ℕ → Result Reading ℕ
bundled_reading s place b0 b1 = cond (bad_bits s b0 b1) (Err 14) (Ok (Bundled place b0 b1))

-- Multiplexed: what it is read as with the set of positions that are A in every state whose symbol this is; 14 for a symbol in no
-- row.
unfoldable pub multiplexed_reading : Place → Option ℕ → Result Reading ℕ
multiplexed_reading place (Some positions) = Ok (Multiplexed place positions)
multiplexed_reading place None = Err 14

-- The reading at a place in a window of `size` positions; the index is the place's position.
unfoldable pub read_at : Settings → ℕ → Place → ℕ → ℕ → Result Reading ℕ
read_at s size place b0 b1 =
    cond (bundles s size) (bundled_reading s place b0 b1) (multiplexed_reading place (delivery_of size (place_position place) b0 b1))

abbrev pub read_inverted : Settings → ℕ → Result (ℕ × Cce) ℕ → ℕ → ℕ → Result Reading ℕ
read_inverted s size (Ok (m, c)) b0 b1 = read_at s size (Pdcch m c) b0 b1
read_inverted s size (Err k) b0 b1 = Err k

-- A dynamic resource is inverted to position and first CCE: 1 to 6, 17, 19, 24 and 7, then 13, then 14.
unfoldable pub dynamic_reading : Settings → ℕ → ℕ → ℕ → ℕ → Result Reading ℕ
dynamic_reading s n r b0 b1 = read_inverted s (size_of s n) (inverse_of s n r) b0 b1

-- The reading "is told the scheduled position, if any (11 if not below M, 18 if no resource is set)". U2's 20, "one told to the
-- reading too", comes before both: it needs the position's subframe, which only a position below M has.
unfoldable pub told_refusal : Settings → ℕ → Option ℕ → ℕ
told_refusal s n None = 0
told_refusal s n (Some m) = cond (ltb m (size_of s n)) (cond (too_short s (subframe_of s.config n m)) 20 (cond (has_scheduled s) 0 18)) 11

-- It "takes that resource as that block"; any other is dynamic.
unfoldable pub read_on : Settings → ℕ → Option ℕ → ℕ → ℕ → ℕ → Result Reading ℕ
read_on s n None r b0 b1 = dynamic_reading s n r b0 b1
read_on s n (Some m) r b0 b1 = cond (eqb r s.scheduled) (read_at s (size_of s n) (Block m) b0 b1) (dynamic_reading s n r b0 b1)

-- The reading: 1 to 6, 17, 19, 24 and 7, then 20, 11 and 18 for what it is told, whatever the resource; then 13 and 14.
unfoldable pub read_of : Settings → ℕ → Option ℕ → ℕ → ℕ → ℕ → Result Reading ℕ
read_of s n told r b0 b1 = refused_or (or_else (window_refusal s n) (told_refusal s n told)) (read_on s n told r b0 b1)

-- The reading names this place.
abbrev pub Names : Result Reading ℕ → Place → Type 0
Names (Ok (Bundled named b0 b1)) place = named ≡ place
Names (Ok (Multiplexed named positions)) place = named ≡ place
Names (Err k) place = ⊥

-- "the station's reading, given bits it doesn't refuse, gives the pair back" (document 00, demand 3).
abbrev pub GivesBack : ℕ → ℕ → Result Reading ℕ → Type 0
GivesBack m c reading = (reading ≡ Err 14) ⊎ Names reading (Pdcch m (record { 0 = c }))
