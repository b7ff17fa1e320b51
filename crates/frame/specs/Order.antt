-- Positions and time: document 01, "Frame and windows". A position m is a place in K as printed; time order is k falling.
-- Assumes nothing.
use Rattle.std.specs.Prelude.{ℕ, zero, suc, ◌<◌, Bool, false, cond, ◌||◌, List, [], ◌∷◌, map, ◌≡◌, eqb, length, get_or}

-- k is one of the numbers of the list
abbrev pub member : ℕ → List ℕ → Bool
member k [] = false
member k (x ∷ xs) = eqb x k || member k xs

-- The members of K that are at most n, falling: n, n - 1, .., 1, those of them that K has.
abbrev pub falling : ℕ → List ℕ → List ℕ
falling zero ks = []
falling (suc n) ks = cond (member (suc n) ks) (suc n ∷ falling n ks) (falling n ks)

-- K in time order, earliest subframe first; no k is over 13.
unfoldable pub times_of : List ℕ → List ℕ
times_of ks = falling 13 ks

-- What time order must be: exactly the members of K, each k smaller than the ones before it.
pub record InTimeOrder (ks ts : List ℕ) : Type 0 where
  pub size : length ts ≡ length ks
  pub same : (k : ℕ) → member k ts ≡ member k ks
  pub falls : (i j : ℕ) → i < j → j < length ts → get_or ts j 0 < get_or ts i 0

-- The position of k in K as printed; the length of K where K has no such k.
abbrev pub position_of : ℕ → List ℕ → ℕ
position_of k [] = zero
position_of k (x ∷ xs) = cond (eqb x k) zero (suc (position_of k xs))

-- The positions of a window in time order, earliest first.
unfoldable pub order_of : List ℕ → List ℕ
order_of ks = map (λ (k : ℕ). position_of k ks) (times_of ks)
