-- What the reading is told: the position of a scheduled block that was sent in the window, and nothing where there is none.
-- Assumes nothing.
use Rattle.std.proofs.Common.{Some, None}
use Prim.Native.Nat.{ℕ, suc, ◌+◌, ◌<◌, suc-le-suc}
use mathlib.Core.Bool.{Bool, true, false, cond, ◌||◌, false≢true, or-true}
use mathlib.Core.List.{List, [], ◌∷◌}
use mathlib.Core.Path.{◌≡◌, refl, sym, ap, ◌∙◌}
use native.Mathlib.Nat.{add-zero}
use native.Mathlib.Omega.{arith}
use lib.Dec.{eqb}
use lib.ListN.{length, get_or}
use borrow.Author.Tests.{eqb-true, eq-eqb}
use Rattle.frame.specs.Order.{member}
use Rattle.confirmation.specs.declared.Send.{Send}
use Rattle.confirmation.specs.Sent.{is_block, told_from, told_of}

module _ (sent : ℕ → Send) where
  -- The position that is told, counted from i, has a scheduled block.
  told_from_holds : (ks : List ℕ) (i m : ℕ) → told_from i ks sent ≡ Some m
      → (j : ℕ) × (m ≡ i + j) × (j < length ks) × (is_block (sent (get_or ks j 0)) ≡ true)
  told_from_holds [] i m e = let z : ◌≡◌ {A = ℕ} 0 1 = cc in absurd (omega arith)
  told_from_holds (k ∷ ks) i m e = go (is_block (sent k)) refl (told_from_holds ks (suc i) m) e
    where
      same : Some i ≡ Some m → i ≡ m
      same e = cc

      go : (b : Bool) → is_block (sent k) ≡ b
          → (told_from (suc i) ks sent ≡ Some m → (j : ℕ) × (m ≡ suc i + j) × (j < length ks) × (is_block (sent (get_or ks j 0)) ≡ true))
          → cond b (Some i) (told_from (suc i) ks sent) ≡ Some m
          → (j : ℕ) × (m ≡ i + j) × (j < suc (length ks)) × (is_block (sent (get_or (k ∷ ks) j 0)) ≡ true)
      go true b rest e = (0, sym (same e) ∙ sym (add-zero i), omega arith, b)
      go false b rest e = let r = rest e in (suc r.0, r.1 ∙ omega arith, suc-le-suc r.2, r.3)

  pub told_position_holds : (ks : List ℕ) (m : ℕ) → told_of ks sent ≡ Some m → (m < length ks) × (is_block (sent (get_or ks m 0)) ≡ true)
  told_position_holds ks m e =
      let r = told_from_holds ks 0 m e in
      let same : r.0 ≡ m = omega (arith, r.1) in
      (rw same at r.2, rw same at r.3)

  -- Where a scheduled block was sent, a position is told.
  told_some : (ks : List ℕ) (i k : ℕ) → member k ks ≡ true → is_block (sent k) ≡ true → (m : ℕ) × (told_from i ks sent ≡ Some m)
  told_some [] i k e b = absurd (false≢true e)
  told_some (j ∷ ks) i k e b = go (is_block (sent j)) refl (eqb j k) refl e (told_some ks (suc i) k)
    where
      go : (s : Bool) → is_block (sent j) ≡ s → (q : Bool) → eqb j k ≡ q → (q || member k ks) ≡ true
          → (member k ks ≡ true → is_block (sent k) ≡ true → (m : ℕ) × (told_from (suc i) ks sent ≡ Some m))
          → (m : ℕ) × (cond s (Some i) (told_from (suc i) ks sent) ≡ Some m)
      go true s q f e rest = (i, refl)
      go false s true f e rest = absurd (false≢true (sym s ∙ ap (λ (x : ℕ). is_block (sent x)) (eqb-true j k f) ∙ b))
      go false s false f e rest = rest e b

  pub told_of_block : (ks : List ℕ) (k : ℕ) → member k ks ≡ true → is_block (sent k) ≡ true → (m : ℕ) × (told_of ks sent ≡ Some m)
  told_of_block ks k e b = told_some ks 0 k e b

  -- Where none was sent, nothing is told.
  told_nothing : (ks : List ℕ) (i : ℕ) → ((k : ℕ) → member k ks ≡ true → is_block (sent k) ≡ false) → told_from i ks sent ≡ None
  told_nothing [] i none = refl
  told_nothing (j ∷ ks) i none =
      rw (none j (rw (eq-eqb j j refl))) (told_nothing ks (suc i) (λ k m. none k (rw m (or-true (eqb j k)))))

  pub told_none : (ks : List ℕ) → ((k : ℕ) → member k ks ≡ true → is_block (sent k) ≡ false) → told_of ks sent ≡ None
  told_none ks none = told_nothing ks 0 none
