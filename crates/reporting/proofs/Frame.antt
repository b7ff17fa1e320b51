-- The frame that a window's line names is the one that its uplink subframe is in. Assumes nothing.
use Prim.Native.Nat.{ℕ, suc, ◌+◌, ◌-◌, ◌/◌, ◌%◌, ◌<◌, ◌≤◌}
use mathlib.Core.Bool.{true}
use mathlib.Core.Path.{◌≡◌}
use native.Mathlib.Nat.{add-zero, div-eq_of_lt, mul-add-div_right}
use native.Mathlib.Omega.{arith}
use borrow.Author.Tests.{ne_eqb}
use Rattle.counting.specs.Windows.{has_window, windows_before}
use Rattle.counting.proofs.Frames.{windows_rise, by_frames}
use Rattle.reporting.specs.Text.{frame_of}

-- Subframe i, counted from the first record, completes window number windows_before c i.
pub frame_right : (c i : ℕ) → has_window c (i % 10) ≡ true → frame_of c (windows_before c i) ≡ i / 10
unfolding frame_of windows_before
frame_right c i has =
    let r : ℕ = i % 10 in
    let all : suc r + (10 - suc r) ≡ 10 = omega arith in
    let rise : windows_before c (suc r) ≤ windows_before c 10 = rw all at (windows_rise c (suc r) (10 - suc r)) in
    let same : i % 10 % 10 ≡ i % 10 = omega arith in
    let more : windows_before c (suc r) ≡ windows_before c r + 1 = rw (same, has) in
    let less : windows_before c r < windows_before c 10 = omega (arith, rise, more) in
    let some : 0 < windows_before c 10 = omega (arith, less) in
    rw (ne_eqb (windows_before c 10) 0 (λ z. omega (arith, z, some)), by_frames c i, mul-add-div_right some (i / 10) (windows_before c r), div-eq_of_lt less)
    (add-zero (i / 10))
