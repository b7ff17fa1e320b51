-- What a window is answered: silent, or a reply whose bits are 0 or 1. A subframe without one is told so. Assumes nothing.
use Rattle.std.proofs.Common.{Result, Ok, Err, Option, Some, None}
use Rattle.resource.specs.declared.Resource.{Resource}
use Prim.Native.Nat.{ℕ, ◌≤◌}
use mathlib.Core.Bool.{false, cond}
use mathlib.Core.List.{List}
use mathlib.Core.Path.{◌≡◌, refl}
use native.Mathlib.Omega.{arith}
use lib.Dec.{eqb}
use lib.ListN.{length, get_or}
use Rattle.frame.specs.declared.Settings.{Settings}
use Rattle.frame.specs.Settings.{bundles}
use Rattle.frame.specs.Table.{window_of}
use Rattle.frame.proofs.Bools.{either, bit_small}
use Rattle.resource.specs.Calls.{resource_of}
use Rattle.symbols.specs.declared.State.{State}
use Rattle.symbols.specs.declared.Symbol.{Symbol}
use Rattle.symbols.specs.Selection.{symbol_of}
use Rattle.symbols.proofs.Rows.{bits_small}
use Rattle.heard.specs.declared.View.{View}
use Rattle.heard.specs.Memory.{bit}
use Rattle.fold.specs.declared.Seen.{Seen}
use Rattle.fold.specs.Fold.{seen_of}
use Rattle.reply.specs.declared.Answer.{Answer}
use Rattle.reply.specs.declared.Answer.TheVariants.{Taken, NoWindow, Silent, Sent}
use Rattle.reply.specs.declared.ReplyKind.{ReplyKind}
use Rattle.reply.specs.Kinds.{kind_bundled, kind_multiplexed}
use Rattle.reply.specs.Replies.{reply_on, miss_shown, second_bit, on_scheduled, lone_answer, carrier_of, window_state, bundled_answer, symbol_answer, multiplexed_answer, window_answer}

-- Silent, or a reply with bits 0 or 1.
abbrev pub Answered : Answer → Type 0
Answered Silent = Unit {0}
Answered (Sent r) = (r.b0 ≤ 1) × (r.b1 ≤ 1)
Answered Taken = ⊥
Answered NoWindow = ⊥

-- That, or taken, or without a window.
abbrev pub Told : Answer → Type 0
Told Silent = Answered Silent
Told (Sent r) = Answered (Sent r)
Told Taken = Unit {0}
Told NoWindow = Unit {0}

pub answered_told : (x : Answer) → Answered x → Told x
answered_told Silent a = a
answered_told (Sent r) a = a
answered_told Taken a = tt
answered_told NoWindow a = tt

pub second_small : (s : Settings) (seen : Seen) → second_bit s seen ≤ 1
unfolding second_bit
second_small s seen = either (λ (b : ℕ). b ≤ 1) (eqb s.blocks 2) _ _ (bit_small seen.second) (omega arith)

reply_answered : (s : Settings) (kind : ReplyKind) (x : Result Resource ℕ) (b0 b1 : ℕ) → b0 ≤ 1 → b1 ≤ 1 → Answered (reply_on s kind x b0 b1)
unfolding reply_on
reply_answered s kind (Ok r) b0 b1 t u = (t, u)
reply_answered s kind (Err k) b0 b1 t u = tt

bundled_answered : (s : Settings) (n : ℕ) (seen : Seen) → Answered (bundled_answer s n seen)
unfolding bundled_answer lone_answer
bundled_answered s n seen =
    let small : (x : Result Resource ℕ) → Answered (reply_on s kind_bundled x (bit seen.first) (second_bit s seen)) =
    λ x. reply_answered s kind_bundled x _ _ (bit_small seen.first) (second_small s seen) in
    either Answered (eqb seen.u 0) _ _ (either Answered seen.scheduled _ _ (small (on_scheduled s)) tt)
    (either Answered (miss_shown s seen) _ _ tt (small (resource_of s n seen.position seen.cce.0)))

symbol_answered : (s : Settings) (n : ℕ) (view : ℕ → View) (ks : List ℕ) (ss : List State) (y : Option Symbol) → symbol_of ss ≡ y
    → Answered (symbol_answer s n view ks y)
unfolding symbol_answer
symbol_answered s n view ks ss (Some y) e =
    let small = bits_small ss y.index y.b0 y.b1 e in
    reply_answered s kind_multiplexed (carrier_of s n y.index (view (get_or ks y.index 0))) y.b0 y.b1 small.0 small.1
symbol_answered s n view ks ss None e = tt

module _ (s : Settings) (n : ℕ) (view : ℕ → View) where
  -- The answer in the mode that the window has.
  abbrev in_mode : List ℕ → Answer
  in_mode ks = cond (bundles s (length ks)) (bundled_answer s n (seen_of view ks)) (multiplexed_answer s n view ks)

  mode_answered : (ks : List ℕ) → Answered (in_mode ks)
  unfolding multiplexed_answer
  mode_answered ks =
      either Answered (bundles s (length ks)) _ _ (bundled_answered s n (seen_of view ks))
      (symbol_answered s n view ks (window_state view ks) (symbol_of (window_state view ks)) refl)

  -- A subframe with a window is answered.
  pub window_answered : eqb (length (window_of s.config n)) 0 ≡ false → Answered (window_answer s n view)
  unfolding window_answer
  window_answered some = rw some (mode_answered (window_of s.config n))

  -- One without is told that it has none.
  pub window_told : Told (window_answer s n view)
  unfolding window_answer
  window_told =
      let ks : List ℕ = window_of s.config n in
      either Told (eqb (length ks) 0) _ _ tt (answered_told (in_mode ks) (mode_answered ks))
