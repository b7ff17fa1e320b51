-- What a search for the first index answers.
-- Assumes nothing.
use Rattle.std.specs.Prelude.{ℕ, ◌<◌, ◌≤◌, Bool, true, false, ◌≡◌}

-- r is the first of low, low + 1, .., high - 1 at which the test passes; high where it passes at none.
pub record First (test : ℕ → Bool) (low high r : ℕ) : Type 0 where
  pub least : low ≤ r
  pub most : r ≤ high
  pub before : (i : ℕ) → low ≤ i → i < r → test i ≡ false
  pub passes : r < high → test r ≡ true
