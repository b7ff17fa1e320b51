-- What a test shows of every entry of a list holds of the entry at each place; past the end, of what is read there.
-- Assumes nothing.
use Prim.Native.Nat.{ℕ, zero, suc}
use mathlib.Core.Bool.{Bool, true, ◌&&◌}
use mathlib.Core.List.{List, [], ◌∷◌}
use lib.Dec.{T}
use lib.Ieee.Fits.{and_l, and_r}
use lib.ListN.{get_or}

abbrev pub every : {A : Type 0} → (A → Bool) → List A → Bool
every f [] = true
every f (x ∷ l) = f x && every f l

pub every_at : {A : Type 0} (f : A → Bool) (l : List A) (d : A) → T (every f l) → T (f d) → (i : ℕ) → T (f (get_or l i d))
every_at f [] d t e i = e
every_at f (x ∷ l) d t e zero = and_l (f x) (every f l) t
every_at f (x ∷ l) d t e (suc i) = every_at f l d (and_r (f x) (every f l) t) e i
