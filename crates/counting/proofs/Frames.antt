-- Windows counted by whole frames: each frame completes as many as the first. Assumes nothing.
use Prim.Native.Nat.{ℕ, zero, suc, ◌+◌, ◌*◌, ◌/◌, ◌%◌, ◌<◌, ◌≤◌}
use mathlib.Core.Bool.{Bool, true, false, cond}
use mathlib.Core.List.{List}
use mathlib.Core.Path.{◌≡◌, refl, sym, ap}
use native.Mathlib.Nat.{suc-mul, zero-mul, zero-add, add-zero, div-add-mod', mul-le-mul_left}
use native.Mathlib.Decide.{dec_lt}
use native.Mathlib.Omega.{arith}
use lib.Dec.{leb}
use borrow.Author.Tests.{lt-leb, le-leb}
use Rattle.frame.specs.Coded.{grid}
use Rattle.frame.proofs.Windows.{outside_configurations}
use Rattle.frame.proofs.Rows.{grid_at}
use Rattle.frame.proofs.Bools.{bit_small}
use Rattle.counting.specs.Windows.{has_window, windows_before, complete_at, complete_in}

module _ (c : ℕ) where
  -- A subframe completes one window at most.
  pub windows_most : (n : ℕ) → windows_before c n ≤ n
  unfolding windows_before
  windows_most zero = omega arith
  windows_most (suc n) = omega (arith, windows_most n, bit_small (has_window c (n % 10)))

  -- More subframes complete no fewer windows.
  pub windows_rise : (n m : ℕ) → windows_before c n ≤ windows_before c (n + m)
  unfolding windows_before
  windows_rise n zero = rw add-zero (omega arith)
  windows_rise n (suc m) =
      let e : n + suc m ≡ suc (n + m) = omega arith in
      rw e (omega (arith, windows_rise n m))

  -- After a frame the count goes on as from a frame's start.
  pub frame_more : (n : ℕ) → windows_before c (n + 10) ≡ windows_before c 10 + windows_before c n
  unfolding windows_before
  frame_more zero = omega arith
  frame_more (suc n) =
      let same : (n + 10) % 10 ≡ n % 10 = omega arith in
      let one : ℕ → ℕ = λ (m : ℕ). cond (has_window c m) 1 0 in
      let more : one ((n + 10) % 10) ≡ one (n % 10) = ap one same in
      let e : suc n + 10 ≡ suc (n + 10) = omega arith in
      rw e (omega (arith, frame_more n, more))

  whole_frames : (q r : ℕ) → windows_before c (q * 10 + r) ≡ q * windows_before c 10 + windows_before c r
  whole_frames zero r = rw (zero-mul 10, zero-mul (windows_before c 10), zero-add r, zero-add (windows_before c r))
  whole_frames (suc q) r =
      let e : suc q * 10 + r ≡ (q * 10 + r) + 10 = omega arith in
      rw (e, frame_more (q * 10 + r), whole_frames q r, suc-mul q (windows_before c 10)) (omega arith)

  -- The closed form: whole frames, then the rest.
  pub by_frames : (n : ℕ) → windows_before c n ≡ n / 10 * windows_before c 10 + windows_before c (n % 10)
  by_frames n = rw (← whole_frames (n / 10) (n % 10), div-add-mod' n 10)

  -- The whole frames complete no more windows than they have subframes.
  pub frames_most : (n : ℕ) → n / 10 * windows_before c 10 ≤ n
  frames_most n = omega (arith, mul-le-mul_left (n / 10) (windows_most 10))

-- No configuration over 6 has a window.
none_over : (c n : ℕ) → 6 < c → windows_before c n ≡ 0
unfolding windows_before has_window
none_over c zero h = refl
none_over c (suc n) h = rw (none_over c n h, outside_configurations c (n % 10) h) refl

over_table : (c n : ℕ) → 6 < c → complete_at c n ≡ 0
unfolding complete_at
over_table c n h = rw (none_over c (n + 1) h) (both (leb n 9))
  where
    both : (b : Bool) → ◌≡◌ {A = ℕ} (cond b 0 0) 0
    both true = refl
    both false = refl

beyond_frame : (c n : ℕ) → 9 < n → complete_at c n ≡ 0
unfolding complete_at
beyond_frame c n h = rw (lt-leb n 9 h) refl

-- What the table says, which is computed row by row.
pub complete_is : (rows : List (List ℕ)) (c n w : ℕ) → w ≡ complete_in rows c n → rows ≡ grid complete_at → w ≡ complete_at c n
unfolding complete_in
complete_is rows c n w read same = rw (read, same) (grid_at complete_at 0 over_table beyond_frame c n)

pub complete_within : (c n : ℕ) → n ≤ 9 → complete_at c n ≡ windows_before c (n + 1)
unfolding complete_at
complete_within c n h = rw (le-leb n 9 h) refl

-- The closed form by the table, where the frame is not over and where it is.
module _ (c n frame : ℕ) (whole : frame ≡ complete_at c 9) where
  by_table : n / 10 * frame + windows_before c (n % 10) ≡ windows_before c n
  by_table = rw (whole, complete_within c 9 (omega arith)) (sym (by_frames c n))

  pub some_left : (rest last : ℕ) → rest ≡ complete_at c last → last + 1 ≡ n % 10 → n / 10 * frame + rest ≡ windows_before c n
  some_left rest last is e = rw (is, complete_within c last (omega (arith, e)), e) by_table

  pub none_left : (1 ≤ n % 10 → ⊥) → n / 10 * frame ≡ windows_before c n
  unfolding windows_before
  none_left e =
      let over : n % 10 ≡ 0 = elim (dec_lt 0 (n % 10)) [ yes h ↦ absurd (e h) | no h ↦ omega arith ] in
      omega (arith, rw over at by_table)
