-- What the passes over the claims go by.
-- Assumes nothing.
use Rattle.std.specs.Prelude.{Ok, ℕ, ◌≡◌}
use Rattle.frame.specs.declared.Settings.{Settings}
use Rattle.claims.specs.Claims.{claimed}

-- The resource call gives the claim the resource r.
abbrev pub Has : Settings → ℕ → ℕ → ℕ → Type 0
Has s n claim r = claimed s n claim ≡ Ok (record { 0 = r })
