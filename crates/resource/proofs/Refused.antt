-- Where the map of a window and its inverse refuse.
-- Assumes nothing.
use Rattle.std.proofs.Common.{Ok, Err}
use Prim.Native.Nat.{ℕ, ◌+◌, ◌-◌, ◌*◌, ◌<◌, ◌≤◌}
use mathlib.Core.Path.{◌≡◌}
use native.Mathlib.Omega.{arith}
use borrow.Author.Tests.{lt-ltb, le-ltb, le-leb, lt-leb}
use Rattle.resource.specs.Formula.{edge, resource_number, position_back, cce_back}
use Rattle.resource.specs.Calls.{pair_refusal, range_refusal, resource_in, inverse_in}

module _ (nrb n1 size : ℕ) where
  -- 11: position not below M
  pub position_refused : (m c : ℕ) → size ≤ m → Err 11 ≡ resource_in nrb n1 size m c
  unfolding resource_in pair_refusal
  position_refused m c h = rw (le-ltb m size h)

  -- 11: first CCE not below N_4
  pub cce_refused : (m c : ℕ) → m < size → edge nrb 4 ≤ c → Err 11 ≡ resource_in nrb n1 size m c
  unfolding resource_in pair_refusal
  cce_refused m c h top = rw (lt-ltb m size h, le-ltb c (edge nrb 4) top)

  pub resource_given : (m c r : ℕ) → m < size → c < edge nrb 4 → r ≡ resource_number nrb n1 size m c
      → Ok (record { 0 = r }) ≡ resource_in nrb n1 size m c
  unfolding resource_in pair_refusal
  resource_given m c r h top e = rw (lt-ltb m size h, lt-ltb c (edge nrb 4) top, e)

  -- 13: resource below N1
  pub low_refused : (r : ℕ) → r < n1 → Err 13 ≡ inverse_in nrb n1 size r
  unfolding inverse_in range_refusal
  low_refused r h = rw (lt-leb n1 r h)

  -- 13: resource above N1 + M × N_4 − 1
  pub high_refused : (r : ℕ) → n1 ≤ r → size * edge nrb 4 ≤ r - n1 → Err 13 ≡ inverse_in nrb n1 size r
  unfolding inverse_in range_refusal
  high_refused r low h = rw (le-leb n1 r low, le-ltb r (n1 + size * edge nrb 4) (omega arith))

  pub pair_given : (r m c : ℕ) → n1 ≤ r → r - n1 < size * edge nrb 4 → m ≡ position_back nrb size (r - n1) → c ≡ cce_back nrb size (r - n1)
      → Ok (m, (record { 0 = c })) ≡ inverse_in nrb n1 size r
  unfolding inverse_in range_refusal
  pair_given r m c low h em ec = rw (le-leb n1 r low, lt-ltb r (n1 + size * edge nrb 4) (omega arith), em, ec)
