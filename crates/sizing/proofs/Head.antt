-- Traces with the same header and settings are sized the same: what is read there is all that is read. Assumes nothing.
use Prim.Native.Nat.{ℕ, ◌+◌, ◌≤◌, ◌<◌}
use mathlib.Core.List.{List}
use mathlib.Core.Path.{◌≡◌}
use native.Mathlib.Omega.{arith}
use Rattle.trace.specs.Trace.{byte_at, number_at, header_of, settings_at, settings_of, Part, header_part, settings_part, length_refusal, parts_refusal}
use Rattle.sizing.specs.Size.{size_refusal, figures_in, size_of}
use Rattle.sizing.specs.Sizing.{SameIn, SameHead}

-- A number in a part.
number_same : (p : Part) (l m : List ℕ) → SameIn p l m → (i : ℕ) → p.start ≤ i → i + 1 < p.end → number_at l i ≡ number_at m i
unfolding number_at
number_same p l m same i from to = rw (same i (from, omega arith), same (i + 1) (omega arith, to))

module _ (l m : List ℕ) (same : SameHead l m) where
  pub header_same : header_of l ≡ header_of m
  unfolding header_of
  header_same =
      let number : (i : ℕ) → i < 7 → number_at l i ≡ number_at m i = λ i h. number_same header_part l m same.header i (omega arith) (omega arith) in
      rw (number 0 (omega arith), number 2 (omega arith), number 4 (omega arith), number 6 (omega arith))

  pub settings_same : settings_of l ≡ settings_of m
  unfolding settings_of settings_at
  settings_same =
      let at : ℕ = (header_of l).settings in
      let byte : (i : ℕ) → i < 10 → byte_at l (at + i) ≡ byte_at m (at + i) = λ i h. same.settings (at + i) (omega arith, omega arith) in
      let number : (i : ℕ) → i < 9 → number_at l (at + i) ≡ number_at m (at + i) = λ i h.
      number_same (settings_part (header_of l)) l m same.settings (at + i) (omega arith) (omega arith) in
      rw (
        ← header_same,
        same.settings at (omega arith, omega arith),
        byte 1 (omega arith),
        byte 2 (omega arith),
        byte 3 (omega arith),
        byte 4 (omega arith),
        byte 5 (omega arith),
        number 6 (omega arith),
        number 8 (omega arith),
      )

  pub parts_same : parts_refusal l ≡ parts_refusal m
  unfolding parts_refusal length_refusal
  parts_same = rw (header_same, same.size)

  pub size_same : size_of l ≡ size_of m
  unfolding size_of size_refusal figures_in
  size_same = rw (header_same, settings_same, parts_same)
