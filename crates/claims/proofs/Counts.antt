-- How many marks a window has at most.
-- Assumes nothing.
use Prim.Native.Nat.{ℕ, ◌≤◌}
use mathlib.Core.Path.{◌≡◌}
use native.Mathlib.Omega.{arith}
use Rattle.frame.specs.declared.Settings.{Settings}
use Rattle.frame.specs.Settings.{has_second_port, window_refusal}
use Rattle.frame.proofs.Bools.{bit_small}
use Rattle.resource.proofs.Counts.{window_resources}
use Rattle.claims.specs.Claims.{resources_of, room_of}

module _ (s : Settings) (n : ℕ) (accepted : window_refusal s n ≡ 0) where
  pub resources_most : resources_of s n ≤ 1206
  unfolding resources_of
  resources_most = window_resources s n accepted

  pub room_most : room_of s n ≤ 1207
  unfolding room_of
  room_most = omega (arith, resources_most, bit_small (has_second_port s))
