-- The numbers of feedback_claims and feedback_claims_bits lose nothing: no claims are refused with 0.
-- Assumes nothing.
use Rattle.std.proofs.Common.{Ok, Option}
use Prim.Native.Nat.{ℕ, zero, suc}
use mathlib.Core.Bool.{not}
use mathlib.Core.List.{List}
use mathlib.Core.Path.{◌≡◌, refl, sym, ap}
use lib.Dec.{ltb, eqb-suc-zero}
use lib.ListN.{length}
use Rattle.frame.specs.declared.Settings.{Settings}
use Rattle.frame.proofs.Bools.{either}
use Rattle.claims.specs.Claims.{Checked, first_bad, first_clash, scratch_refusal, checked_on, refused_or, checked_with}
use Rattle.numbers.specs.Answers.{claims_answer}
use Rattle.numbers.specs.Back.{checked_in, KindFor}
use Rattle.numbers.specs.Kinds.{claims_clash}

-- An answer about claims comes back from its numbers, and its kind is one that there is, 0 where it is refused.
abbrev pub CheckedKept : Checked → Type 0
CheckedKept x = (checked_in (claims_answer x) ≡ x) × KindFor claims_clash (claims_answer x).kind (claims_answer x).refusal

refused_or_kept : (k : ℕ) (x : Checked) → CheckedKept x → CheckedKept (refused_or k x)
refused_or_kept zero x kept = kept
refused_or_kept (suc k) x kept = (refl, (sym (ap not (eqb-suc-zero k)), refl))

pub claims_kept : (s : Settings) (n : ℕ) (list : List ℕ) (room lent : ℕ) → CheckedKept (checked_with s n list room lent)
unfolding checked_with checked_on
claims_kept s n list room lent =
    refused_or_kept (scratch_refusal s n room lent) _
    (either CheckedKept (ltb (first_bad s n list) (length list)) _ _ (refl, (refl, refl))
    (either (λ (clash : Option ℕ). CheckedKept (Ok clash)) (ltb (first_clash s n list) (length list)) _ _ (refl, (refl, refl)) (refl, (refl, refl))))
