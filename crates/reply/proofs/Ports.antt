-- Every reply carries the resource of the second antenna port, whatever the settings and whatever was heard: document 02, U9.
-- Assumes nothing.
use Rattle.std.proofs.Common.{Result, Ok, Err, Option, Some, None}
use Rattle.resource.specs.declared.Resource.{Resource}
use Prim.Native.Nat.{ℕ}
use mathlib.Core.List.{List}
use mathlib.Core.Path.{◌≡◌, refl, subst}
use lib.Dec.{eqb}
use lib.ListN.{length}
use Rattle.frame.specs.declared.Settings.{Settings}
use Rattle.frame.specs.Settings.{bundles}
use Rattle.frame.specs.Table.{window_of}
use Rattle.frame.proofs.Bools.{either}
use Rattle.resource.specs.Ports.{second_port}
use Rattle.symbols.specs.declared.Symbol.{Symbol}
use Rattle.symbols.specs.Selection.{symbol_of}
use Rattle.heard.specs.declared.View.{View}
use Rattle.fold.specs.declared.Seen.{Seen}
use Rattle.fold.specs.Fold.{seen_of}
use Rattle.reply.specs.declared.Answer.{Answer}
use Rattle.reply.specs.declared.Answer.TheVariants.{Taken, NoWindow, Silent, Sent}
use Rattle.reply.specs.declared.Reply.{Reply}
use Rattle.reply.specs.declared.ReplyKind.{ReplyKind}
use Rattle.reply.specs.Replies.{reply_on, miss_shown, lone_answer, window_state, bundled_answer, symbol_answer, multiplexed_answer, window_answer}

-- A reply's second resource is that of the second port.
abbrev Carries : Settings → Answer → Type 0
Carries s (Sent r) = r.second ≡ second_port s r.resource.0
Carries s Silent = Unit {0}
Carries s Taken = Unit {0}
Carries s NoWindow = Unit {0}

module _ (s : Settings) where
  reply_carries : (kind : ReplyKind) (x : Result Resource ℕ) (b0 b1 : ℕ) → Carries s (reply_on s kind x b0 b1)
  unfolding reply_on
  reply_carries kind (Ok r) b0 b1 = refl
  reply_carries kind (Err k) b0 b1 = tt

  bundled_carries : (n : ℕ) (seen : Seen) → Carries s (bundled_answer s n seen)
  unfolding bundled_answer lone_answer
  bundled_carries n seen =
      either (Carries s) (eqb seen.u 0) _ _ (either (Carries s) seen.scheduled _ _ (reply_carries _ _ _ _) tt)
      (either (Carries s) (miss_shown s seen) _ _ tt (reply_carries _ _ _ _))

  symbol_carries : (n : ℕ) (view : ℕ → View) (ks : List ℕ) (y : Option Symbol) → Carries s (symbol_answer s n view ks y)
  unfolding symbol_answer
  symbol_carries n view ks (Some y) = reply_carries _ _ _ _
  symbol_carries n view ks None = tt

  window_carries : (n : ℕ) (view : ℕ → View) → Carries s (window_answer s n view)
  unfolding window_answer multiplexed_answer
  window_carries n view =
      let ks : List ℕ = window_of s.config n in
      either (Carries s) (eqb (length ks) 0) _ _ tt
      (either (Carries s) (bundles s (length ks)) _ _ (bundled_carries n (seen_of view ks)) (symbol_carries n view ks (symbol_of (window_state view ks))))

  pub second_carried : (n : ℕ) (view : ℕ → View) (r : Reply) → window_answer s n view ≡ Sent r → r.second ≡ second_port s r.resource.0
  second_carried n view r e = subst (Carries s) e (window_carries n view)
