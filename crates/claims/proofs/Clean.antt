-- The answer is clean exactly when nothing is refused, no claim is bad and no resource of one claim is another's, over both ports and
-- in either form of the scratch.
-- Assumes nothing.
use Rattle.std.proofs.Common.{Ok, Err, Some, None}
use Prim.Native.Nat.{ℕ, zero, suc, ◌<◌}
use mathlib.Core.Bool.{Bool, true, false, cond, false≢true}
use mathlib.Core.List.{List}
use mathlib.Core.Logic.{◌↔◌, ⊎_elim}
use mathlib.Core.Path.{◌≡◌, refl, sym, ◌∙◌}
use native.Mathlib.Nat.{le_refl, le_of_suc-le-suc, eq-or-lt_of_le}
use native.Mathlib.Omega.{arith}
use lib.Dec.{ltb}
use lib.ListN.{length, get_or}
use borrow.Author.Tests.{le-ltb, ltb-false}
use Rattle.std.proofs.lemmas.Bool.{false_from_ne_true, or_parts}
use Rattle.frame.specs.declared.Settings.{Settings}
use Rattle.claims.specs.Claims.{is_bad, first_bad, clashes, earlier, first_clash, scratch_refusal, refused_or, checked_on, checked_with}
use Rattle.claims.specs.Clean.{AllClean}
use Rattle.claims.proofs.First.{first_none, first_bad_holds, first_clash_holds}
use Rattle.claims.proofs.Share.{share_exactly}

-- `earlier` fails exactly where x clashes with no claim before index e.
module _ (s : Settings) (n : ℕ) (claims : List ℕ) (x : ℕ) where
  pub none_earlier : (e : ℕ) → earlier s n claims e x ≡ false → (i : ℕ) → i < e → clashes s n (get_or claims i 0) x ≡ false
  none_earlier zero h i b = absurd (omega arith)
  none_earlier (suc e) h i b =
      let f = or_parts (clashes s n (get_or claims e 0) x) (earlier s n claims e x) h in
      ⊎_elim (λ last. rw last f.0) (λ less. none_earlier e f.1 i less) (eq-or-lt_of_le (le_of_suc-le-suc b))

  pub earlier_none : (e : ℕ) → ((i : ℕ) → i < e → clashes s n (get_or claims i 0) x ≡ false) → earlier s n claims e x ≡ false
  earlier_none zero h = refl
  earlier_none (suc e) h = rw (h e (omega arith)) (earlier_none e λ i b. h i (omega arith))

-- Only one way leads to a clean answer.
only_clean : (k x y : ℕ) (a b : Bool) → refused_or k (cond a (Err (16, x)) (Ok (cond b (Some y) None))) ≡ Ok None → (k ≡ 0) × (a ≡ false) × (b ≡ false)
only_clean (suc k) x y a b e = let z : ◌≡◌ {A = ℕ} 0 1 = cc in absurd (omega arith)
only_clean zero x y true b e = let z : ◌≡◌ {A = ℕ} 0 1 = cc in absurd (omega arith)
only_clean zero x y false true e = let z : ◌≡◌ {A = ℕ} 0 1 = cc in absurd (omega arith)
only_clean zero x y false false e = (refl, refl, refl)

module _ (s : Settings) (n : ℕ) (claims : List ℕ) (room lent : ℕ) where
  clean_to : checked_with s n claims room lent ≡ Ok None → AllClean s n claims room lent
  unfolding checked_with checked_on
  clean_to e =
      let f = only_clean (scratch_refusal s n room lent) (first_bad s n claims) (first_clash s n claims)
      (ltb (first_bad s n claims) (length claims)) (ltb (first_clash s n claims) (length claims)) e in
      let bad = ltb-false (first_bad s n claims) (length claims) f.1 in
      let clash = ltb-false (first_clash s n claims) (length claims) f.2 in
      record {
        accepted = f.0;
        good = λ i h. (first_bad_holds s n claims).before i (omega arith) (omega arith);
        apart = λ i j h b r p q.
            let none = none_earlier s n claims (get_or claims j 0) j ((first_clash_holds s n claims).before j (omega arith) (omega arith)) i h in
            false≢true (sym none ∙ (share_exactly s n (get_or claims i 0) (get_or claims j 0)).1 (r, p, q));
      }

  clean_from : AllClean s n claims room lent → checked_with s n claims room lent ≡ Ok None
  unfolding checked_with checked_on first_bad first_clash
  clean_from a =
      let bad = first_none (λ (i : ℕ). is_bad s n (get_or claims i 0)) (length claims) (length claims) a.good (le_refl _) (le_refl _) in
      let clash = first_none (λ (i : ℕ). earlier s n claims i (get_or claims i 0)) (length claims) (length claims)
      (λ j h. earlier_none s n claims (get_or claims j 0) j λ i b. false_from_ne_true _ λ e.
      let f = (share_exactly s n (get_or claims i 0) (get_or claims j 0)).0 e in
      a.apart i j b h f.0 f.1 f.2)
      (le_refl _) (le_refl _) in
      rw (a.accepted, le-ltb (first_bad s n claims) (length claims) (omega arith), le-ltb (first_clash s n claims) (length claims) (omega arith))

  pub clean_exactly : (checked_with s n claims room lent ≡ Ok None) ↔ AllClean s n claims room lent
  clean_exactly = (clean_to, clean_from)
