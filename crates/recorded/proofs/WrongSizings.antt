-- What the statement of sizing/specs/Sizing.antt shuts out, field by field. For each field there is the sizing of this repository with
-- a fault, and a proof that the statement does not hold of it. The proof asks the statement for this field; without the field it no
-- longer checks. Since no other sizing meets `refusals`, `done` and `alone` together (sizing/proofs/Only.antt), those for the other
-- fields break one of these three too.
--
-- SizesReplays
--   refusals   a kind over 3 is refused 22                                      not_looks_at_kinds
--              settings before parts                                            not_settings_first
--              no settings are refused                                          not_settings_free
--   done       a window for each record                                         not_each_record
--              the windows of whole frames alone                                not_whole_frames
--              four bytes for a window                                          not_half_bytes
--   stopped    what the replay writes, with a window fewer where it is not all  not_window_fewer
--              the same with its bytes alone fewer                              not_bytes_fewer
--   alone      what the replay writes                                           not_by_replay
--   enough     a window fewer                                                   not_one_fewer
--   short      a window more                                                    not_one_more
--   early      a trace with no records is refused 22                            not_refuses_empty
--              settings are refused 1 whatever is wrong with them               not_one_number
-- Assumes nothing.
use Rattle.std.proofs.Common.{Result, Ok, Err}
use Prim.Native.Nat.{ℕ, zero, suc, ◌<◌, ◌+◌, ◌-◌, ◌*◌, ◌/◌}
use mathlib.Core.Bool.{cond}
use mathlib.Core.List.{List, [], ◌∷◌, ◌++◌}
use mathlib.Core.Path.{◌≡◌, refl, ap}
use native.Mathlib.Nat.{not-suc-le-zero, le_of_suc-le-suc}
use native.Mathlib.Omega.{arith}
use lib.Dec.{eqb, lit<, lit≤}
use lib.ListN.{length, take, drop}
use Rattle.frame.specs.Refusals.{unless_refused}
use Rattle.frame.specs.Settings.{or_else, settings_refusal}
use Rattle.counting.specs.Windows.{windows_before}
use Rattle.trace.specs.Trace.{byte_at, header_of, settings_of, parts_refusal, trace_refusal}
use Rattle.sizing.specs.declared.ReplaySize.{ReplaySize}
use Rattle.sizing.specs.Size.{size_refusal, windows_completed}
use Rattle.sizing.specs.Sizing.{Sizing, size_written, SameHead, SizesReplays}
use Rattle.recorded.proofs.Worked.{replays, settings, drive, stopped, unknown, narrow}

-- Sizings with other refusals, and with other figures.
abbrev refusing : (List ℕ → ℕ) → Sizing
refusing refusal l = unless_refused (refusal l) (record { windows = windows_completed l; bytes = 8 * windows_completed l })

abbrev with_windows : (List ℕ → ℕ) → Sizing
with_windows windows l = unless_refused (size_refusal l) (record { windows = windows l; bytes = 8 * windows l })

-- The two figures, 0 where there are none.
abbrev windows_in : Result ReplaySize ℕ → ℕ
windows_in (Ok z) = z.windows
windows_in (Err k) = 0

abbrev bytes_in : Result ReplaySize ℕ → ℕ
bytes_in (Ok z) = z.bytes
bytes_in (Err k) = 0

-- A kind over 3 is refused 22.
pub not_looks_at_kinds : SizesReplays (refusing (λ l. or_else (trace_refusal l) (settings_refusal (settings_of l)))) → ⊥
unfolding replays
not_looks_at_kinds s = omega (arith, s.refusals unknown)

-- Settings before parts: N_RB 0 in a trace whose settings begin in its header.
abbrev both : List ℕ
both = (0 ∷ 0 ∷ 0 ∷ 0 ∷ 0 ∷ 0 ∷ 8 ∷ 0 ∷ [])

pub not_settings_first : SizesReplays (refusing (λ l. or_else (settings_refusal (settings_of l)) (parts_refusal l))) → ⊥
unfolding replays
not_settings_first s = omega (arith, s.refusals both)

-- No settings are refused.
pub not_settings_free : SizesReplays (refusing parts_refusal) → ⊥
unfolding replays
not_settings_free s = omega (arith, s.refusals narrow)

-- A window for each record.
pub not_each_record : SizesReplays (with_windows (λ l. (header_of l).records)) → ⊥
unfolding replays
not_each_record s = omega (arith, ap windows_in (s.done drive 26 refl))

-- The windows of whole frames alone: eight records make no frame.
pub not_whole_frames : SizesReplays (with_windows (λ l. (header_of l).records / 10 * windows_before (settings_of l).config 10)) → ⊥
unfolding replays
not_whole_frames s = omega (arith, ap windows_in (s.done drive 26 refl))

-- Four bytes for a window.
abbrev half_bytes : Sizing
half_bytes l = unless_refused (size_refusal l) (record { windows = windows_completed l; bytes = 4 * windows_completed l })

pub not_half_bytes : SizesReplays half_bytes → ⊥
unfolding replays
not_half_bytes s = omega (arith, ap bytes_in (s.done drive 26 refl))

-- What the replay writes, with a window fewer where it is not all.
abbrev fewer : (ReplaySize → ReplaySize) → Sizing
fewer less l = unless_refused (size_refusal l) (cond (eqb (size_written l).windows (windows_completed l)) (size_written l) (less (size_written l)))

pub not_window_fewer : SizesReplays (fewer (λ z. record { windows = z.windows - 1; bytes = z.bytes })) → ⊥
unfolding replays
not_window_fewer s =
    let p = s.stopped stopped 24 refl in
    omega (arith, ap windows_in p.1, p.2.windows)

-- The same with its bytes alone fewer.
pub not_bytes_fewer : SizesReplays (fewer (λ z. record { windows = z.windows; bytes = z.bytes - 8 })) → ⊥
unfolding replays
not_bytes_fewer s =
    let p = s.stopped stopped 24 refl in
    omega (arith, ap bytes_in p.1, p.2.bytes)

-- What the replay writes, whether it stops or not: it depends on the records, which begin behind the first 18 bytes.
front_same : (front l m : List ℕ) (i : ℕ) → i < length front → byte_at (front ++ l) i ≡ byte_at (front ++ m) i
front_same [] l m i h = absurd (not-suc-le-zero h)
front_same (x ∷ front) l m zero h = refl
front_same (x ∷ front) l m (suc i) h = front_same front l m i (le_of_suc-le-suc h)

same_head : SameHead drive stopped
unfolding replays
same_head =
    let front : (i : ℕ) → i < 18 → byte_at drive i ≡ byte_at stopped i = λ i h. front_same (take 18 drive) (drop 18 drive) (drop 18 stopped) i h in
    record { size = refl; header = λ i h. front i (omega (arith, h.1)); settings = λ i h. front i h.1 }

abbrev by_replay : Sizing
by_replay l = unless_refused (size_refusal l) (size_written l)

pub not_by_replay : SizesReplays by_replay → ⊥
unfolding replays
not_by_replay s = omega (arith, ap windows_in (s.alone drive stopped same_head))

-- A window fewer.
pub not_one_fewer : SizesReplays (with_windows (λ l. windows_completed l - 1)) → ⊥
unfolding replays
not_one_fewer s = s.enough drive (record { windows = 2; bytes = 16 }) refl refl 16 (lit≤ tt) refl

-- A window more.
pub not_one_more : SizesReplays (with_windows (λ l. windows_completed l + 1)) → ⊥
unfolding replays
not_one_more s = omega (arith, ap (λ r. r.refusal) (s.short drive (record { windows = 4; bytes = 32 }) refl refl 24 (lit< tt)))

-- A trace with no records is refused 22.
abbrev empty : List ℕ
empty = (0 ∷ 0 ∷ 18 ∷ 0 ∷ 8 ∷ 0 ∷ 18 ∷ 0 ∷ []) ++ settings

pub not_refuses_empty : SizesReplays (refusing (λ l. or_else (size_refusal l) (cond (eqb (header_of l).records 0) 22 0))) → ⊥
unfolding replays
not_refuses_empty s = omega (arith, ap (λ r. r.kind) (s.early empty (λ e. omega (arith, e)) 0))

-- Settings are refused 1 whatever is wrong with them.
pub not_one_number : SizesReplays (refusing (λ l. or_else (parts_refusal l) (cond (eqb (settings_refusal (settings_of l)) 0) 0 1))) → ⊥
unfolding replays
not_one_number s = omega (arith, ap (λ r. r.refusal) (s.early narrow (λ e. omega (arith, e)) 24))
