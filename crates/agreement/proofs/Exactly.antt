-- A reply is sent exactly when it is due: from what is answered in either case.
-- Assumes nothing.
use Rattle.std.proofs.Common.{Result, Ok}
use Prim.Native.Nat.{ℕ}
use mathlib.Core.Logic.{◌⊎◌, inl, inr}
use mathlib.Core.Path.{◌≡◌, sym, ap, ◌∙◌, subst}
use native.Mathlib.Omega.{arith}
use Rattle.reply.specs.declared.Answer.{Answer}
use Rattle.reply.specs.declared.Answer.TheVariants as answer
use Rattle.reply.specs.declared.Reply.{Reply}
use Rattle.agreement.specs.Window.{SentExactly}

same_reply : (r r' : Reply) → ◌≡◌ {A = Result Answer ℕ} (Ok (answer.Sent r)) (Ok (answer.Sent r')) → r ≡ r'
same_reply r r' e = cc

sent_not_silent : (r : Reply) (a : Result Answer ℕ) → a ≡ Ok (answer.Sent r) → a ≡ Ok answer.Silent → ⊥
sent_not_silent r a e f = let z : ◌≡◌ {A = ℕ} 0 1 = cc in omega arith

-- What a window answers, as a feed that is not refused hands it on.
module _ (a : Answer) (Due : Type 0) (Right : Reply → Type 0) where
  pub sent_exactly : (Due ⊎ (Due → ⊥)) → (Due → (r : Reply) × (a ≡ answer.Sent r) × Right r) → ((Due → ⊥) → a ≡ answer.Silent) → SentExactly (Ok a) Due Right
  sent_exactly (inl due) yes' no' =
      let it = yes' due in (
        (λ r. due, λ d. (it.0, ap Ok it.1)),
        λ r e. subst Right (same_reply it.0 r (sym (ap Ok it.1) ∙ e)) it.2,
        λ none. absurd (none it.0 (ap Ok it.1)),
      )
  sent_exactly (inr not) yes' no' =
      let silent : ◌≡◌ {A = Result Answer ℕ} (Ok a) (Ok answer.Silent) = ap Ok (no' not) in (
        (λ r. absurd (sent_not_silent r.0 (Ok a) r.1 silent), λ due. absurd (not due)),
        λ r e. absurd (sent_not_silent r (Ok a) e silent),
        λ none. silent,
      )
