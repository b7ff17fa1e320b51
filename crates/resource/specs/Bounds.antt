-- The bounds that the code of the formula works within. They hold of accepted settings (N_RB, N1) and of a window's M.
-- Assumes nothing.
use Rattle.std.specs.Prelude.{ℕ, ◌≤◌}

pub record Bounds (nrb n1 size : ℕ) : Type 0 where
  pub nrb_most : nrb ≤ 110
  pub n1_most : n1 ≤ 2047
  pub size_least : 1 ≤ size
  pub size_most : size ≤ 9
