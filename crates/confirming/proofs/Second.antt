-- More than one scheduled block was sent in the subframes of a list exactly if two positions of it have one.
-- Assumes nothing.
use Prim.Native.Nat.{ℕ, zero, suc, ◌+◌, ◌<◌, suc-le-suc}
use mathlib.Core.Bool.{Bool, true, false, cond}
use mathlib.Core.List.{List, [], ◌∷◌}
use mathlib.Core.Path.{◌≡◌, refl}
use native.Mathlib.Nat.{le_of_suc-le-suc, not-suc-le-zero}
use native.Mathlib.Omega.{arith}
use lib.ListN.{length, get_or}
use Rattle.confirmation.specs.declared.Send.{Send}
use Rattle.confirmation.specs.Sent.{is_block}
use Rattle.confirming.specs.Refusals.{blocks_sent}

module _ (sent : ℕ → Send) where
  abbrev BlockAt : List ℕ → ℕ → Type 0
  BlockAt ks m = is_block (sent (get_or ks m 0)) ≡ true

  one_of : (ks : List ℕ) → 0 < blocks_sent sent ks → (m : ℕ) × (m < length ks) × BlockAt ks m
  unfolding blocks_sent
  one_of [] h = absurd (omega arith)
  one_of (k ∷ ks) h = go (is_block (sent k)) refl h (one_of ks)
    where
      go : (b : Bool) → is_block (sent k) ≡ b → 0 < cond b 1 0 + blocks_sent sent ks
          → (0 < blocks_sent sent ks → (m : ℕ) × (m < length ks) × BlockAt ks m) → (m : ℕ) × (m < length (k ∷ ks)) × BlockAt (k ∷ ks) m
      go true e h rest = (0, omega arith, e)
      go false e h rest = let r = rest (omega arith) in (suc r.0, suc-le-suc r.1, r.2)

  abbrev Two : List ℕ → Type 0
  Two ks = (i j : ℕ) × (i < j) × (j < length ks) × BlockAt ks i × BlockAt ks j

  pub two_of : (ks : List ℕ) → 1 < blocks_sent sent ks → Two ks
  unfolding blocks_sent
  two_of [] h = absurd (omega arith)
  two_of (k ∷ ks) h = go (is_block (sent k)) refl h (two_of ks)
    where
      go : (b : Bool) → is_block (sent k) ≡ b → 1 < cond b 1 0 + blocks_sent sent ks → (1 < blocks_sent sent ks → Two ks) → Two (k ∷ ks)
      go true e h rest = let r = one_of ks (omega arith) in (0, suc r.0, omega arith, suc-le-suc r.1, e, r.2)
      go false e h rest = let r = rest (omega arith) in (suc r.0, suc r.1, suc-le-suc r.2, suc-le-suc r.3, r.4, r.5)

  of_one : (ks : List ℕ) (m : ℕ) → m < length ks → BlockAt ks m → 0 < blocks_sent sent ks
  unfolding blocks_sent
  of_one [] m h b = absurd (not-suc-le-zero h)
  of_one (k ∷ ks) zero h b = rw b (omega arith)
  of_one (k ∷ ks) (suc m) h b = omega (arith, of_one ks m (le_of_suc-le-suc h) b)

  pub of_two : (ks : List ℕ) (i j : ℕ) → i < j → j < length ks → BlockAt ks i → BlockAt ks j → 1 < blocks_sent sent ks
  unfolding blocks_sent
  of_two [] i j l h b c = absurd (not-suc-le-zero h)
  of_two (k ∷ ks) i zero l h b c = absurd (not-suc-le-zero l)
  of_two (k ∷ ks) zero (suc j) l h b c = rw b (omega (arith, of_one ks j (le_of_suc-le-suc h) c))
  of_two (k ∷ ks) (suc i) (suc j) l h b c = omega (arith, of_two ks i j (le_of_suc-le-suc l) (le_of_suc-le-suc h) b c)
