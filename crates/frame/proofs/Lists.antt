-- Laws of lists: an entry of a mapped list is the mapped entry.
-- Assumes nothing.
use Prim.Native.Nat.{ℕ, zero, suc, ◌<◌}
use mathlib.Core.List.{List, [], ◌∷◌, map}
use mathlib.Core.Path.{◌≡◌, refl}
use native.Mathlib.Nat.{le_of_suc-le-suc, not-suc-le-zero}
use lib.ListN.{length, get_or}

-- Whatever a read past the end gives on either side.
pub entry : {A B : Type 0} (f : A → B) (l : List A) (i : ℕ) (d : B) (e : A) → i < length l → get_or (map f l) i d ≡ f (get_or l i e)
entry f [] i d e h = absurd (not-suc-le-zero h)
entry f (x ∷ l) zero d e h = refl
entry f (x ∷ l) (suc i) d e h = entry f l i d e (le_of_suc-le-suc h)
