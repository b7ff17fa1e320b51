-- Where 1 to 7, 17, 19 and 24 are not met: a window has from 1 to 1,206 resources.
-- Assumes nothing.
use Prim.Native.Nat.{ℕ, ◌*◌, ◌≤◌}
use mathlib.Core.Path.{◌≡◌}
use native.Mathlib.Nat.{mul-le-mul}
use native.Mathlib.Omega.{arith}
use Rattle.frame.specs.declared.Settings.{Settings}
use Rattle.frame.specs.Settings.{window_refusal}
use Rattle.frame.proofs.Accepted.{answered}
use Rattle.frame.proofs.Windows.{window_size}
use Rattle.resource.specs.Formula.{edge}
use Rattle.resource.specs.Calls.{size_of}
use Rattle.resource.proofs.Edges.{edge_least, resources_most}

module _ (s : Settings) (n : ℕ) (e : window_refusal s n ≡ 0) where
  pub resources_least : 1 ≤ size_of s n * edge s.nrb 4
  resources_least =
      let a = answered s n e in
      mul-le-mul {n₁ = 1} {m₁ = 1} a.1 (omega (arith, edge_least s.nrb a.0.nrb_least))

  pub window_resources : size_of s n * edge s.nrb 4 ≤ 1206
  window_resources = resources_most s.nrb (size_of s n) (window_size s.config n) (answered s n e).0.nrb_most
