-- Resource calls, inverses and readings with one fault each, and the field of the statement that shuts each of them out;
-- WrongEngines.antt lists them.
-- Assumes nothing.
use Rattle.std.proofs.Common.{Option, Some, None, Result, Ok, Err}
use Rattle.resource.specs.declared.Cce.{Cce}
use Rattle.resource.specs.declared.Resource.{Resource}
use Prim.Native.Nat.{ℕ, ◌+◌, ◌-◌, ◌*◌, ◌/◌, ◌%◌, ◌^◌}
use mathlib.Core.Bool.{cond}
use mathlib.Core.List.{List, [], ◌∷◌}
use mathlib.Core.Logic.{inl, inr, ⊎_elim}
use mathlib.Core.Path.{◌≡◌, refl, sym, ap, ◌∙◌}
use native.Mathlib.Omega.{arith}
use lib.Dec.{eqb, ltb}
use Rattle.frame.specs.declared.Settings.{Settings}
use Rattle.frame.specs.Special.{no_pdsch}
use Rattle.resource.specs.Calls.{size_of, resource_of, inverse_of}
use Rattle.resource.specs.Formula.{edge}
use Rattle.symbols.specs.declared.State.TheVariants.{Ack, Dtx}
use Rattle.symbols.specs.Delivered.{is_symbol}
use Rattle.symbols.specs.declared.Cell.{Cell}
use Rattle.symbols.specs.Selection.{Row, fits, table_of}
use Rattle.symbols.proofs.Reading.{delivered_exactly}
use Rattle.reply.specs.declared.Answer.{Answer}
use Rattle.reply.specs.declared.Reply.{Reply}
use Rattle.handset.specs.declared.Handset.{Handset}
use Rattle.handset.specs.Make.{make_of}
use Rattle.station.specs.declared.Place.{Place}
use Rattle.station.specs.declared.Place.TheVariants as place
use Rattle.station.specs.declared.Reading.{Reading}
use Rattle.station.specs.declared.Reading.TheVariants as reading
use Rattle.station.specs.Readings.{place_position, read_of}
use Rattle.agreement.specs.Demand3.{Engine, Demand3}
use Rattle.engines.proofs.Computing.{schedules, handsets, stations}
use Rattle.engines.proofs.Worked.{answer_at, reading_at_holds, cell, scheduled_cell, short_cell, all_heard, all_heard_holds, shared, symbol_shared, lone_block, lone_block_holds, block_at_index, block_at_index_holds}
use Rattle.engines.proofs.WrongEngines.{engine, mapped_by, inverted_by, read_by, changed, replying, sent_on, same_resource, symbol_parts, named_at, in_all_heard, in_shared, in_lone_block, in_block_at_index}

-- The resource call and its inverse.

-- A single resource for everyone: N1 for every pair that is not refused.
abbrev only_one : Settings → Result Resource ℕ → Result Resource ℕ
only_one s (Ok r) = Ok (record { 0 = s.n1 })
only_one s (Err k) = Err k

abbrev pub one_for_all : Settings → ℕ → ℕ → ℕ → Result Resource ℕ
one_for_all s n m c = only_one s (resource_of s n m c)

pub not_one_for_all : Demand3 (mapped_by one_for_all) → ⊥
unfolding handsets
not_one_for_all d = omega (arith, ((d.one_to_one (cell 1 0) 2 refl).once 0 0 1 0 10 refl refl).0)

-- A position beyond the window is taken for its last one.
abbrev pub last_for_beyond : Settings → ℕ → ℕ → ℕ → Result Resource ℕ
last_for_beyond s n m c = resource_of s n (cond (ltb m (size_of s n)) m (size_of s n - 1)) c

pub not_last_for_beyond : Demand3 (mapped_by last_for_beyond) → ⊥
unfolding handsets
not_last_for_beyond d = omega (arith, ((d.one_to_one (cell 1 0) 2 refl).once 1 0 2 0 21 refl refl).0)

-- An inverse that answers the position as the first CCE, and the reverse.
abbrev pair_exchanged : Result (ℕ × Cce) ℕ → Result (ℕ × Cce) ℕ
pair_exchanged (Ok (m, c)) = Ok (c.0, (record { 0 = m }))
pair_exchanged (Err k) = Err k

abbrev pub back_exchanged : Settings → ℕ → ℕ → Result (ℕ × Cce) ℕ
back_exchanged s n r = pair_exchanged (inverse_of s n r)

abbrev inverted_position : Result (ℕ × Cce) ℕ → ℕ
inverted_position (Ok (m, c)) = m
inverted_position (Err k) = k

pub not_back_exchanged : Demand3 (inverted_by back_exchanged) → ⊥
unfolding handsets stations
not_back_exchanged d =
    let p = (d.one_to_one (cell 1 0) 2 refl).into 1 0 (omega arith) (omega arith) in
    let r : 21 ≡ p.0 = same_resource _ _ p.3.there in
    omega (arith, ap inverted_position (ap (back_exchanged (cell 1 0) 2) r ∙ p.3.back))

-- All ends number the dynamic resources from the top of the range down: they agree, and with nobody else.
abbrev from_top : Settings → ℕ → ℕ → ℕ
from_top s n r = cond (ltb r s.n1) r (2 * s.n1 + size_of s n * edge s.nrb 4 - 1 - r)

abbrev mapped_from_top : Settings → ℕ → Result Resource ℕ → Result Resource ℕ
mapped_from_top s n (Ok r) = Ok (record { 0 = from_top s n r.0 })
mapped_from_top s n (Err k) = Err k

abbrev replied_from_top : Handset → Result Answer ℕ → Result Answer ℕ
replied_from_top h = replying (λ (r : Reply). sent_on r (from_top h.settings h.next r.resource.0))

abbrev pub top_down : Engine
top_down =
    engine make_of (changed replied_from_top) (λ s n m c. mapped_from_top s n (resource_of s n m c)) (λ s n r. inverse_of s n (from_top s n r))
    (λ s n told r b0 b1. read_of s n told (from_top s n r) b0 b1)

pub not_top_down : Demand3 top_down → ⊥
unfolding handsets
not_top_down d = omega (arith, same_resource _ _ (d.by_formula (cell 1 0) 2 0 0 refl (omega arith) (omega arith)))

-- The reading.

-- our station with its readings changed
abbrev pub reads_by : (Result Reading ℕ → Result Reading ℕ) → Engine
reads_by change = read_by (λ s n told r b0 b1. change (read_of s n told r b0 b1))

-- By cases of a reading: bundled, multiplexed, a refusal.
abbrev by_reading : {A : Type 0} → (Place → ℕ → ℕ → A) → (Place → ℕ → A) → (ℕ → A) → Result Reading ℕ → A
by_reading bundled multiplexed refused (Ok (reading.Bundled named b0 b1)) = bundled named b0 b1
by_reading bundled multiplexed refused (Ok (reading.Multiplexed named p)) = multiplexed named p
by_reading bundled multiplexed refused (Err k) = refused k

-- A reading by a number: two readings with different numbers are not the same.
abbrev reading_number : Result Reading ℕ → ℕ
reading_number = by_reading (λ named b0 b1. 0) (λ named p. 1) (λ k. 2 + k)

-- Where bits are to be refused, it names the first pair.
abbrev pub refused_as_first : Result Reading ℕ → Result Reading ℕ
refused_as_first =
    by_reading (λ named b0 b1. Ok (reading.Bundled named b0 b1)) (λ named p. Ok (reading.Multiplexed named p))
    (λ k. cond (eqb k 14) (Ok (reading.Bundled (place.Pdcch 0 (record { 0 = 0 })) 0 0)) (Err k))

pub not_refused_as_first : Demand3 (reads_by refused_as_first) → ⊥
unfolding handsets stations
not_refused_as_first d =
    ⊎_elim (λ e. omega (arith, ap reading_number e)) (λ e. omega (arith, ap place_position e))
    (d.gives_back (cell 1 0) 2 1 10 31 1 1 None tt refl)

-- Told a scheduled position, it takes the scheduled resource alone and refuses every other with 13.
abbrev pub scheduled_only : Settings → ℕ → Option ℕ → ℕ → ℕ → ℕ → Result Reading ℕ
scheduled_only s n None r b0 b1 = read_of s n None r b0 b1
scheduled_only s n (Some m) r b0 b1 = cond (eqb r s.scheduled) (read_of s n (Some m) r b0 b1) (Err 13)

pub not_scheduled_only : Demand3 (read_by scheduled_only) → ⊥
unfolding handsets
not_scheduled_only d =
    ⊎_elim (λ e. omega (arith, ap reading_number e)) (λ e. e) (d.gives_back (scheduled_cell 2 0) 2 3 20 111 1 0 (Some 1) (omega arith, refl, refl) refl)

-- In a cell whose special subframes are too short for data it refuses 20 whatever position it is told.
abbrev pub twenty_anywhere : Settings → ℕ → Option ℕ → ℕ → ℕ → ℕ → Result Reading ℕ
twenty_anywhere s n None r b0 b1 = read_of s n None r b0 b1
twenty_anywhere s n (Some m) r b0 b1 = cond (no_pdsch s.prefix s.special) (Err 20) (read_of s n (Some m) r b0 b1)

-- told position 1 of the window of subframe 2, which is subframe 5
pub not_twenty_anywhere : Demand3 (read_by twenty_anywhere) → ⊥
unfolding handsets
not_twenty_anywhere d =
    ⊎_elim (λ e. omega (arith, ap reading_number e)) (λ e. e) (d.gives_back (short_cell 2 0) 2 3 20 111 1 0 (Some 1) (omega arith, refl, refl) refl)

-- It does not listen to what it is told: the scheduled resource is refused 13.
abbrev pub untold : Settings → ℕ → Option ℕ → ℕ → ℕ → ℕ → Result Reading ℕ
untold s n position = read_of s n None

pub not_untold : Demand3 (read_by untold) → ⊥
unfolding schedules stations
not_untold d =
    let m = ((in_lone_block (read_by untold) d).1 _ (answer_at lone_block lone_block_holds 12)).alone 7 refl (inr (inl (refl, refl))) in
    omega (arith, ap reading_number m.4)

pub not_untold_multiplexed : Demand3 (read_by untold) → ⊥
unfolding schedules stations
not_untold_multiplexed d =
    let m = (in_block_at_index (read_by untold) d).1 _ (answer_at block_at_index block_at_index_holds 12) in
    omega (arith, ap reading_number m.is_read)

-- It takes the scheduled block for position 0, whatever position it is told.
abbrev block_first : Option ℕ → Option ℕ
block_first None = None
block_first (Some m) = Some 0

abbrev pub told_as_first : Settings → ℕ → Option ℕ → ℕ → ℕ → ℕ → Result Reading ℕ
told_as_first s n told = read_of s n (block_first told)

-- the position that a reading names
abbrev named_position : Result Reading ℕ → ℕ
named_position = by_reading (λ named b0 b1. place_position named) (λ named p. place_position named) (λ k. 0)

pub not_told_as_first : Demand3 (read_by told_as_first) → ⊥
unfolding schedules stations
not_told_as_first d =
    let m = ((in_lone_block (read_by told_as_first) d).1 _ (answer_at lone_block lone_block_holds 12)).alone 7 refl (inr (inl (refl, refl))) in
    let first : 0 ≡ m.0 = ap named_position m.4 in
    omega (arith, rw (← first) at m.2)

pub not_told_as_first_multiplexed : Demand3 (read_by told_as_first) → ⊥
unfolding handsets stations
not_told_as_first_multiplexed d =
    let m = (in_block_at_index (read_by told_as_first) d).1 _ (answer_at block_at_index block_at_index_holds 12) in
    let named : m.named ≡ place.Block 1 = named_at m 1 (symbol_parts 1 1 0 _ _ _ m.is_symbol).0 in
    omega (arith, ap named_position m.is_read, ap place_position named)

-- It refuses every bit pattern with 14.
abbrev pub refuses_bits : Result Reading ℕ → Result Reading ℕ
refuses_bits = by_reading (λ named b0 b1. Err 14) (λ named p. Err 14) Err

pub not_refuses_bits : Demand3 (reads_by refuses_bits) → ⊥
unfolding schedules
not_refuses_bits d =
    let m = ((in_all_heard (reads_by refuses_bits) d).1 _ (answer_at all_heard all_heard_holds 7)).is_read 6 10 refl in
    omega (arith, ap reading_number (sym (ap refuses_bits (reading_at_holds all_heard all_heard_holds 0)) ∙ m.4))

pub not_refuses_bits_multiplexed : Demand3 (reads_by refuses_bits) → ⊥
unfolding schedules
not_refuses_bits_multiplexed d =
    let m = (in_shared (reads_by refuses_bits) d).1 _ (answer_at shared symbol_shared 12) in
    omega (arith, ap reading_number (sym (ap refuses_bits (reading_at_holds shared symbol_shared 0)) ∙ m.is_read))

-- the set of delivered positions that a reading gives, and a reading with another set, by its position and its set
abbrev delivered_in : Result Reading ℕ → ℕ
delivered_in = by_reading (λ named b0 b1. 0) (λ named p. p) (λ k. 0)

abbrev delivering : (ℕ → ℕ → ℕ) → Result Reading ℕ → Result Reading ℕ
delivering change = by_reading (λ named b0 b1. Ok (reading.Bundled named b0 b1)) (λ named p. Ok (reading.Multiplexed named (change (place_position named) p))) Err

-- It marks no position delivered.
abbrev pub delivers_nothing : Result Reading ℕ → Result Reading ℕ
delivers_nothing = delivering (λ (m p : ℕ). 0)

-- In the run with the shared symbol (1, 10) position 0 is A in every state that sends it.
pub not_delivers_nothing : Demand3 (reads_by delivers_nothing) → ⊥
unfolding handsets stations
not_delivers_nothing d =
    let m = (in_shared (reads_by delivers_nothing) d).1 _ (answer_at shared symbol_shared 12) in
    let none : 0 ≡ m.delivered = ap delivered_in (sym (ap delivers_nothing (reading_at_holds shared symbol_shared 0)) ∙ m.is_read) in
    let index : 1 ≡ m.index = (symbol_parts 1 1 0 _ _ _ m.is_symbol).0 in
    let bit : m.delivered / 2 ^ 0 % 2 ≡ 1 = (m.exactly 0 (omega arith)).1 (λ ss size sent. (delivered_exactly 4 1 1 0 0).0 refl ss size (sent ∙ rw (← index))) in
    omega arith

-- It marks a position beyond the window too.
abbrev pub delivers_beyond : Settings → ℕ → Option ℕ → ℕ → ℕ → ℕ → Result Reading ℕ
delivers_beyond s n told r b0 b1 = delivering (λ (m p : ℕ). p + 2 ^ size_of s n) (read_of s n told r b0 b1)

pub not_delivers_beyond : Demand3 (read_by delivers_beyond) → ⊥
unfolding schedules
not_delivers_beyond d =
    let m = (in_shared (read_by delivers_beyond) d).1 _ (answer_at shared symbol_shared 12) in
    let more : 19 ≡ m.delivered = ap delivered_in (sym (ap (delivering (λ (m p : ℕ). p + 16)) (reading_at_holds shared symbol_shared 0)) ∙ m.is_read) in
    omega (arith, m.no_other)

-- It marks the positions that are A in the first row that says the symbol, where several rows do.
abbrev ack_cells : List Cell → ℕ
ack_cells [] = 0
ack_cells (m ∷ ms) = cond (fits m Ack) 1 0 + 2 * ack_cells ms

abbrev ack_in_row : List Row → ℕ → ℕ → ℕ → ℕ
ack_in_row [] i b0 b1 = 0
ack_in_row (r ∷ rs) i b0 b1 = cond (is_symbol r.says i b0 b1) (ack_cells r.cells) (ack_in_row rs i b0 b1)

abbrev pub delivers_one_row : Settings → ℕ → Option ℕ → ℕ → ℕ → ℕ → Result Reading ℕ
delivers_one_row s n told r b0 b1 = delivering (λ (m p : ℕ). ack_in_row (table_of (size_of s n)) m b0 b1) (read_of s n told r b0 b1)

dtx_not_ack : Dtx ≡ Ack → ⊥
dtx_not_ack e = let z : ◌≡◌ {A = ℕ} 0 1 = cc in omega arith

-- That row is A,A,A,(N or D), and the run's state is A,A,D,D.
pub not_delivers_one_row : Demand3 (read_by delivers_one_row) → ⊥
unfolding handsets
not_delivers_one_row d =
    let m = (in_shared (read_by delivers_one_row) d).1 _ (answer_at shared symbol_shared 12) in
    let three : 7 ≡ m.delivered = ap delivered_in
    (sym (ap (delivering (λ (m p : ℕ). ack_in_row (table_of 4) m 1 0)) (reading_at_holds shared symbol_shared 0)) ∙ m.is_read) in
    dtx_not_ack ((m.exactly 2 (omega arith)).0 (rw (← three)) (Ack ∷ Ack ∷ Dtx ∷ Dtx ∷ []) refl m.is_symbol)
