-- The inputs that are a digit, and those that are not.
-- Assumes nothing.
use Rattle.std.proofs.Common.{Some, None, ℕ, ◌-◌, ◌≤◌, ◌≡◌, Bool, true, false, cond, ◌&&◌, List, length, get_or, refl}
use lib.Dec.{eqb, leb}
use borrow.Author.Tests.{eqb-true, leb-true, eq-eqb, le-leb}
use Rattle.reading.specs.Digit.{digit_in}

-- what an input that is a digit meets
abbrev Meets : List ℕ → Type 0
Meets input = (length input ≡ 2) × (48 ≤ get_or input 0 0) × (get_or input 0 0 ≤ 57) × (get_or input 1 0 ≡ 10)

pub no_digit : (input : List ℕ) → (Meets input → ⊥) → digit_in input ≡ None
unfolding digit_in
no_digit input h = go (eqb (length input) 2) (leb 48 (get_or input 0 0)) (leb (get_or input 0 0) 57) (eqb (get_or input 1 0) 10) refl refl refl refl
  where
    go : (a b c d : Bool) → eqb (length input) 2 ≡ a → leb 48 (get_or input 0 0) ≡ b → leb (get_or input 0 0) 57 ≡ c
        → eqb (get_or input 1 0) 10 ≡ d → cond (a && b && c && d) (Some (get_or input 0 0 - 48)) None ≡ None
    go true true true true p q r s = absurd (h (eqb-true _ _ p, leb-true _ _ q, leb-true _ _ r, eqb-true _ _ s))
    go true true true false p q r s = refl
    go true true false d p q r s = refl
    go true false c d p q r s = refl
    go false b c d p q r s = refl

pub is_digit : (input : List ℕ) → Meets input → digit_in input ≡ Some (get_or input 0 0 - 48)
unfolding digit_in
is_digit input h = rw (eq-eqb _ _ h.0, le-leb _ _ h.1, le-leb _ _ h.2, eq-eqb _ _ h.3)
