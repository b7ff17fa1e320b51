-- The marks of the claims before an index: what a claim's places tell, and that marking them leads to the next index.
-- Assumes nothing.
use Prim.Native.Nat.{ℕ, zero, suc, ◌+◌}
use mathlib.Core.Bool.{Bool, true, false, ◌&&◌, ◌||◌, or-true, or-false, and-false, or_assoc}
use mathlib.Core.List.{List}
use mathlib.Core.Path.{◌≡◌, refl, sym, ap₂, ◌∙◌, fun_ext}
use native.Mathlib.Decide.{ℕ_discrete}
use native.Mathlib.Omega.{arith}
use lib.Dec.{eqb}
use lib.ListN.{get_or}
use borrow.Author.Tests.{eq-eqb, ne_eqb}
use Rattle.frame.specs.declared.Settings.{Settings}
use Rattle.frame.specs.Settings.{has_second_port}
use Rattle.claims.specs.Claims.{claimed, takes, clashes, earlier, marked}
use Rattle.claims.specs.Form.{or_at}
use Rattle.claims.specs.Marking.{Has}

-- Which of two tests is asked first does not matter.
pub either_first : (a b m : Bool) → (a || (b || m)) ≡ (b || (a || m))
either_first true b m = sym (or-true b)
either_first false b m = refl

exchange : (a b c d : Bool) → ((a || b) || (c || d)) ≡ ((a || c) || (b || d))
exchange true b c d = refl
exchange false true c d = sym (or-true c)
exchange false false c d = refl

shifted : (a b c : ℕ) → eqb (a + c) (b + c) ≡ eqb a b
shifted a b c = go (ℕ_discrete a b)
  where
    go : Dec (a ≡ b) → eqb (a + c) (b + c) ≡ eqb a b
    go (yes same) = rw (eq-eqb a b same) (eq-eqb (a + c) (b + c) (omega arith))
    go (no other) = rw (ne_eqb a b other) (ne_eqb (a + c) (b + c) λ e. other (omega arith))

-- Two pairs of tests, the second of each asked with two ports only.
exchange_second : (two a b c d : Bool) → ((a || (two && b)) || (c || (two && d))) ≡ ((a || c) || (two && (b || d)))
exchange_second true a b c d = exchange a b c d
exchange_second false a b c d = rw (or-false a, or-false c) (sym (or-false (a || c)))

module _ (s : Settings) (n : ℕ) (claims : List ℕ) where
  -- A claim whose first resource is t + N1 has the place t, and with two ports t + 1.
  module _ (claim t : ℕ) (has : Has s n claim (t + s.n1)) where
    taken : (k : ℕ) → takes s (claimed s n claim) (k + s.n1) ≡ (eqb t k || (has_second_port s && eqb (t + 1) k))
    taken k =
        let above : t + s.n1 + 1 ≡ t + 1 + s.n1 = omega arith in
        rw (has, above, shifted t k s.n1, shifted (t + 1) k s.n1)

    -- It clashes with another exactly if that one takes a place of it.
    clash_taken : (x : ℕ) → clashes s n x claim ≡ (takes s (claimed s n x) (t + s.n1) || (has_second_port s && takes s (claimed s n x) (t + 1 + s.n1)))
    unfolding clashes
    clash_taken x = let above : t + s.n1 + 1 ≡ t + 1 + s.n1 = omega arith in rw (has, above)

  -- A claim clashes with one before index e exactly where one of its places is marked there.
  pub earlier_marked : (y t : ℕ) → Has s n y (t + s.n1) → (e : ℕ)
      → earlier s n claims e y ≡ (marked s n claims e t || (has_second_port s && marked s n claims e (t + 1)))
  earlier_marked y t has zero = sym (and-false (has_second_port s))
  earlier_marked y t has (suc e) =
      ap₂ ◌||◌ (clash_taken y t has (get_or claims e 0)) (earlier_marked y t has e)
      ∙ exchange_second (has_second_port s) (takes s (claimed s n (get_or claims e 0)) (t + s.n1)) (takes s (claimed s n (get_or claims e 0)) (t + 1 + s.n1))
      (marked s n claims e t) (marked s n claims e (t + 1))

  module _ (e t : ℕ) (has : Has s n (get_or claims e 0) (t + s.n1)) where
    -- With one port claim e marks its one place.
    pub marked_one : has_second_port s ≡ false → or_at (marked s n claims e) t ≡ marked s n claims (suc e)
    marked_one one = fun_ext λ k. rw (taken (get_or claims e 0) t has k, one, or-false (eqb t k))

    -- With two it marks both.
    pub marked_two : has_second_port s ≡ true → or_at (or_at (marked s n claims e) t) (t + 1) ≡ marked s n claims (suc e)
    marked_two two =
        fun_ext λ k. rw (taken (get_or claims e 0) t has k, two)
        (sym (or_assoc (eqb t k) (eqb (t + 1) k) (marked s n claims e k) ∙ either_first (eqb t k) (eqb (t + 1) k) (marked s n claims e k)))
