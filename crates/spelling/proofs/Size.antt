-- The spelling of a trace is no longer than the trace: its parts share no byte. Assumes nothing.
use Prim.Native.Nat.{ℕ, ◌+◌, ◌-◌, ◌*◌, ◌≤◌}
use mathlib.Core.List.{List}
use mathlib.Core.Path.{◌≡◌, sym}
use native.Mathlib.Decide.{dec_le}
use native.Mathlib.Omega.{arith}
use lib.ListN.{length}
use Rattle.trace.specs.declared.Header.{Header}
use Rattle.trace.specs.Exactly.{PartsFit}
use Rattle.trace.specs.Trace.{header_of, trace_refusal}
use Rattle.trace.proofs.Exactly.{exactly}
use Rattle.spelling.specs.Spelling.{spelled_size}

module _ (h : Header) (f : PartsFit h) where
  -- The settings begin behind the header, and end inside the file.
  settings_behind : 8 ≤ h.settings
  settings_behind = go (dec_le 8 h.settings)
    where
      go : Dec (8 ≤ h.settings) → 8 ≤ h.settings
      go (yes p) = p
      go (no p) = absurd (f.header_settings h.settings (omega arith, omega arith) (omega arith, omega arith))

  settings_inside : h.settings + 10 ≤ h.size
  settings_inside = omega (arith, f.settings (h.settings + 9) (omega arith, omega arith))

  module _ (some : 1 ≤ h.records) where
    -- So do the records, where there are any.
    records_behind : 8 ≤ h.first
    records_behind = go (dec_le 8 h.first)
      where
        go : Dec (8 ≤ h.first) → 8 ≤ h.first
        go (yes p) = p
        go (no p) = absurd (f.header_records h.first (omega arith, omega arith) (omega arith, omega arith))

    records_inside : h.first + 4 * h.records ≤ h.size
    records_inside = omega (arith, f.records (h.first + 4 * h.records - 1) (omega arith, omega arith))

    -- The part of the two that begins later begins behind the other's end.
    both_fit : Dec (h.settings ≤ h.first) → Dec (h.settings + 10 ≤ h.first) → Dec (h.first + 4 * h.records ≤ h.settings)
        → spelled_size h.records ≤ h.size
    both_fit order (yes behind) before = omega (arith, settings_behind, records_inside)
    both_fit order (no behind) (yes before) = omega (arith, records_behind, settings_inside)
    both_fit (yes order) (no behind) (no before) = absurd (f.settings_records h.first (omega arith, omega arith) (omega arith, omega arith))
    both_fit (no order) (no behind) (no before) = absurd (f.settings_records h.settings (omega arith, omega arith) (omega arith, omega arith))

  parts_size : spelled_size h.records ≤ h.size
  parts_size = go (dec_le 1 h.records)
    where
      go : Dec (1 ≤ h.records) → spelled_size h.records ≤ h.size
      go (yes some) = both_fit some (dec_le h.settings h.first) (dec_le (h.settings + 10) h.first) (dec_le (h.first + 4 * h.records) h.settings)
      go (no none) = omega (arith, settings_behind, settings_inside)

module _ (l : List ℕ) (good : trace_refusal l ≡ 0) where
  pub size_least_holds : spelled_size (header_of l).records ≤ (header_of l).size
  size_least_holds = parts_size (header_of l) ((exactly l).none.0 good).1

  pub size_length : (header_of l).size ≡ length l
  size_length = sym ((exactly l).none.0 good).0.1
