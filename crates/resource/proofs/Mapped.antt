-- The map of a window that was tested: N_RB, N1 and M are in the ranges that it is computed in, and what it gives is what the call gives.
-- Assumes nothing.
use Prim.Native.Nat.{ℕ, zero, suc, ◌≤◌}
use mathlib.Core.Bool.{cond}
use lib.Dec.{eqb}
use mathlib.Core.Path.{◌≡◌}
use native.Mathlib.Omega.{arith}
use Rattle.frame.specs.declared.Settings.{Settings}
use Rattle.frame.specs.Settings.{settings_refusal, no_window_refusal, window_refusal}
use Rattle.frame.proofs.Accepted.{accepted, neither}
use Rattle.frame.proofs.Windows.{window_size}
use Rattle.resource.specs.Bounds.{Bounds}
use Rattle.resource.specs.Calls.{resource_in, inverse_in, size_of, resource_of, inverse_of}

pub window_bounds : (s : Settings) (n size : ℕ) → window_refusal s n ≡ 0 → size ≡ size_of s n → Bounds s.nrb s.n1 size
unfolding window_refusal no_window_refusal
window_bounds s n size good read =
    let none = neither (settings_refusal s) _ good in
    let a = accepted s none.0 in
    record {
      nrb_most = a.nrb_most;
      n1_most = a.n1;
      size_least = rw read (some (size_of s n) none.1);
      size_most = rw read (window_size s.config n);
    }
  where
    some : (size : ℕ) → ◌≡◌ {A = ℕ} (cond (eqb size 0) 7 0) 0 → 1 ≤ size
    some zero e = absurd (omega arith)
    some (suc k) e = omega arith

-- What is left of a call after its window was accepted is the map, or the inverse, of that window.
pub resource_mapped : (s : Settings) (n size m c : ℕ) → window_refusal s n ≡ 0 → size ≡ size_of s n → resource_in s.nrb s.n1 size m c ≡ resource_of s n m c
unfolding resource_in resource_of
resource_mapped s n size m c good read = rw (read, good)

pub inverse_mapped : (s : Settings) (n size r : ℕ) → window_refusal s n ≡ 0 → size ≡ size_of s n → inverse_in s.nrb s.n1 size r ≡ inverse_of s n r
unfolding inverse_in inverse_of
inverse_mapped s n size r good read = rw (read, good)
