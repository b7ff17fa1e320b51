-- 21 and 22 of the parts, whatever the kinds: from what is proved of the whole refusal of a trace. Assumes nothing.
use Prim.Native.Nat.{ℕ, zero, suc}
use mathlib.Core.Bool.{Bool, true, false, cond}
use mathlib.Core.List.{List}
use mathlib.Core.Logic.{◌⊎◌, inl, inr, ◌↔◌}
use mathlib.Core.Path.{◌≡◌, refl}
use native.Mathlib.Omega.{arith}
use Rattle.frame.specs.Settings.{or_else}
use Rattle.trace.specs.Exactly.{RightLength, RefusedExactly}
use Rattle.trace.specs.Trace.{header_of, kinds_known, parts_refusal, trace_refusal}
use Rattle.trace.proofs.Exactly.{exactly}
use Rattle.sizing.specs.Sizing.{PartsRefused}

-- The parts are refused by 21 where the trace is.
twenty_one_first : (p : ℕ) (b : Bool) → (or_else p (cond b 0 22) ≡ 21) ↔ (p ≡ 21)
twenty_one_first zero true = (λ e. e, λ e. e)
twenty_one_first zero false = (λ e. absurd (omega arith), λ e. absurd (omega arith))
twenty_one_first (suc p) b = (λ e. e, λ e. e)

-- They are refused by no number but 21 and 22.
one_of : (p : ℕ) (b : Bool) → (or_else p (cond b 0 22) ≡ 0) ⊎ ((or_else p (cond b 0 22) ≡ 21) ⊎ (or_else p (cond b 0 22) ≡ 22))
    → (p ≡ 0 → ⊥) → (p ≡ 21 → ⊥) → p ≡ 22
one_of zero b which some first = absurd (some refl)
one_of (suc p) b (inl e) some first = absurd (omega arith)
one_of (suc p) b (inr (inl e)) some first = absurd (first e)
one_of (suc p) b (inr (inr e)) some first = e

pub parts_refused : (l : List ℕ) → PartsRefused l
unfolding trace_refusal
parts_refused l =
    record {
      twenty_one = (λ e. whole.twenty_one.0 (first.1 e), λ wrong. first.0 (whole.twenty_one.1 wrong));
      twenty_two = (
        λ e. (right e, λ fit. absurd (omega (arith, e, whole.parts.1 (right e, fit)))),
        λ r. one_of (parts_refusal l) kinds whole.no_other (λ e. r.1 (whole.parts.0 e).1) (λ e. whole.twenty_one.0 (first.1 e) r.0),
      );
    }
  where
    kinds : Bool
    kinds = kinds_known l (header_of l).first (header_of l).records

    whole : RefusedExactly l
    whole = exactly l

    first : (or_else (parts_refusal l) (cond kinds 0 22) ≡ 21) ↔ (parts_refusal l ≡ 21)
    first = twenty_one_first (parts_refusal l) kinds

    right : parts_refusal l ≡ 22 → RightLength l
    right e = (whole.twenty_two.0 (rw e)).0
