-- The numbers of feedback_inverse lose nothing.
-- Assumes nothing.
use Prim.Native.Nat.{ℕ, zero, suc}
use mathlib.Core.Path.{◌≡◌, refl}
use Rattle.frame.specs.declared.Settings.{Settings}
use Rattle.frame.specs.Refusals.{unless_refused}
use Rattle.resource.specs.declared.Cce.{Cce}
use Rattle.resource.specs.Calls.{inverse_of}
use Rattle.resource.proofs.Forms.{inverse_form}
use Rattle.numbers.specs.Answers.{inverse_answer}
use Rattle.numbers.specs.Back.{inverted_in}

inverted_back : (k m : ℕ) (c : Cce) → inverted_in (inverse_answer (unless_refused k (m, c))) ≡ unless_refused k (m, c)
inverted_back zero m c = refl
inverted_back (suc k) m c = refl

pub inverse_back : (s : Settings) (n r : ℕ) → inverted_in (inverse_answer (inverse_of s n r)) ≡ inverse_of s n r
inverse_back s n r =
    let f = inverse_form s n r in
    rw f.3 (inverted_back f.0 f.1 (record { 0 = f.2 }))
