-- When a list of claims is clean: document 01, "Claims of a cell", and document 02, U9, said of the claims one by one.
-- Assumes nothing.
use Rattle.std.specs.Prelude.{ℕ, ◌+◌, ◌<◌, false, List, ◌⊎◌, ◌≡◌, length, get_or}
use Rattle.frame.specs.declared.Settings.{Settings}
use Rattle.claims.specs.Claims.{is_bad, scratch_refusal}
use Rattle.claims.specs.Marking.{Has}

-- The claim has the resource r: on the first port, by the resource call; or with two ports on the second, one above that.
abbrev pub HasOnPort : Settings → ℕ → ℕ → ℕ → Type 0
HasOnPort s n claim r = Has s n claim r ⊎ ((s.ports ≡ 2) × (q : ℕ) × Has s n claim q × (r ≡ q + 1))

-- Nothing is refused, no claim is bad, and no resource of one claim is another's: U9, "clean" means both ports. `room` is what the form
-- of the scratch asks for.
pub record AllClean (s : Settings) (n : ℕ) (claims : List ℕ) (room lent : ℕ) : Type 0 where
  pub accepted : scratch_refusal s n room lent ≡ 0
  pub good : (i : ℕ) → i < length claims → is_bad s n (get_or claims i 0) ≡ false
  pub apart : (i j : ℕ) → i < j → j < length claims → (r : ℕ) → HasOnPort s n (get_or claims i 0) r → HasOnPort s n (get_or claims j 0) r → ⊥
