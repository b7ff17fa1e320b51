-- Handsets that go wrong where the mode changes (document 02, U8), with one fault each, and the field of the statement that shuts each of
-- them out; WrongEngines.antt lists them.
-- Assumes nothing.
use Rattle.std.proofs.Common.{Result, Ok, Err}
use Prim.Native.Nat.{ℕ, ◌+◌, ◌%◌}
use mathlib.Core.Bool.{Bool, true, cond, ◌&&◌}
use mathlib.Core.List.{List, [], ◌∷◌}
use mathlib.Core.Logic.{inl}
use mathlib.Core.Path.{refl, ap}
use native.Mathlib.Omega.{arith}
use lib.Dec.{eqb}
use lib.ListN.{get_or}
use Rattle.frame.specs.Settings.{in_mode}
use Rattle.frame.specs.Table.{window_of}
use Rattle.heard.specs.declared.Heard.TheVariants.{Nothing}
use Rattle.heard.specs.declared.Slot.{Slot}
use Rattle.heard.specs.Memory.{view_ago}
use Rattle.reply.specs.declared.Answer.{Answer}
use Rattle.reply.specs.declared.Answer.TheVariants as answer
use Rattle.reply.specs.declared.Reply.{Reply}
use Rattle.reply.specs.Kinds.{kind_number}
use Rattle.reply.specs.Replies.{window_answer}
use Rattle.handset.specs.Change.{Changed}
use Rattle.handset.specs.declared.Handset.{Handset}
use Rattle.handset.specs.Change.{in_new_mode, change_of}
use Rattle.handset.specs.Make.{fresh}
use Rattle.handset.specs.Modes.{mode_ago, modes_before}
use Rattle.agreement.specs.Demand3.{Engine, Demand3}
use Rattle.agreement.specs.Run.{settings_in}
use Rattle.engines.proofs.ChangedRuns.{between_windows, between_windows_holds, changed_first, changed_first_holds, refused_changes, refused_changes_holds}
use Rattle.engines.proofs.Computing.{schedules, handsets}
use Rattle.engines.proofs.Worked.{Run, fed_nothing_at}
use Rattle.engines.proofs.WrongEngines.{changed_by, knows_by, answering, same_answer, holds_in, BundledAt, MultiplexedAt}

-- What the statement says of the reply at subframe s, which item i feeds with nothing, in the window's own mode.
abbrev BundledThere : Engine → Run → ℕ → ℕ → Type 0
BundledThere e r i s = BundledAt e r (settings_in r.set r.items s) i s

abbrev MultiplexedThere : Engine → Run → ℕ → ℕ → Type 0
MultiplexedThere e r i s = MultiplexedAt e r (settings_in r.set r.items s) i s

module _ (e : Engine) (d : Demand3 e) where
  -- Bundled, by the mode of subframe 1; mode 1 stood at subframe 5.
  in_between_first : BundledThere e between_windows 14 12
  unfolding schedules
  in_between_first =
      (holds_in e d between_windows between_windows_holds).bundled 14 12 Nothing (fed_nothing_at between_windows 14 12 (omega arith) refl refl) (omega arith) (inl refl)

  -- Multiplexed, by the mode of subframe 7; mode 0 stands since subframe 9.
  in_between_second : MultiplexedThere e between_windows 15 13
  unfolding schedules
  in_between_second =
      (holds_in e d between_windows between_windows_holds).multiplexed 15 13 Nothing (fed_nothing_at between_windows 15 13 (omega arith) refl refl) (omega arith) refl
      (λ one. omega arith)

  -- Multiplexed, by the mode that the handset was made with; it was changed to mode 0 before the first feed.
  in_changed_first : MultiplexedThere e changed_first 8 7
  unfolding schedules
  in_changed_first =
      (holds_in e d changed_first changed_first_holds).multiplexed 8 7 Nothing (fed_nothing_at changed_first 8 7 (omega arith) refl refl) (omega arith) refl
      (λ one. omega arith)

-- Our handset, answering in a mode of its own choice.
abbrev answers_in : (Handset → ℕ) → Handset → Result Answer ℕ → Result Answer ℕ
answers_in mode h =
    let other : Result Answer ℕ = Ok (window_answer (in_mode h.settings (mode h)) h.next (view_ago h.past)) in
    answering (Ok answer.Taken) (Ok answer.NoWindow) other (λ (r : Reply). other) Err

-- Every window is answered in the mode that stands.
abbrev pub in_standing : Handset → Result Answer ℕ → Result Answer ℕ
in_standing = answers_in (λ (h : Handset). h.settings.mode)

pub not_in_standing : Demand3 (knows_by in_standing) → ⊥
unfolding handsets
not_in_standing d = omega (arith, ap kind_number ((in_between_second (knows_by in_standing) d).1 _ refl).kind)

-- A window is answered in the mode of k_0, which K as printed begins with.
abbrev pub in_first_printed : Handset → Result Answer ℕ → Result Answer ℕ
in_first_printed = answers_in (λ (h : Handset). mode_ago h.modes (get_or (window_of h.settings.config h.next) 0 0))

pub not_in_first_printed : Demand3 (knows_by in_first_printed) → ⊥
unfolding handsets
not_in_first_printed d = omega (arith, ap kind_number ((in_between_first (knows_by in_first_printed) d).1 _ refl).kind)

-- Our handset with another change of mode: the refusals are ours, and an accepted one makes another handset.
abbrev changes_to : (Handset → ℕ → Handset) → Handset → ℕ → Changed
changes_to other h m = record { refusal = (change_of h m).refusal; handset = cond (eqb (change_of h m).refusal 0) (other h m) h }

-- A change before anything was heard makes the handset anew, so that what lies before the start counts in the new mode.
abbrev none_heard : List Slot → Bool
none_heard [] = true
none_heard (t ∷ ts) = eqb t.kind 0 && none_heard ts

abbrev pub makes_anew : Handset → ℕ → Changed
makes_anew = changes_to (λ h m. cond (eqb h.next 0 && none_heard h.past) (fresh (in_mode h.settings m)) (in_new_mode h m))

pub not_makes_anew : Demand3 (changed_by makes_anew) → ⊥
unfolding handsets
not_makes_anew d = omega (arith, ap kind_number ((in_changed_first (changed_by makes_anew) d).1 _ refl).kind)

-- A change rewrites what is remembered: all that was fed counts in the new mode.
abbrev pub rewrites : Handset → ℕ → Changed
rewrites = changes_to (λ h m. record { settings = in_mode h.settings m; next = h.next; modes = modes_before m; past = h.past })

pub not_rewrites : Demand3 (changed_by rewrites) → ⊥
unfolding handsets
not_rewrites d = omega (arith, ap kind_number ((in_between_second (changed_by rewrites) d).1 _ refl).kind)

-- A change is answered, and the old mode stands on.
abbrev pub ignores : Handset → ℕ → Changed
ignores = changes_to (λ h m. h)

pub not_ignores : Demand3 (changed_by ignores) → ⊥
unfolding handsets
not_ignores d = omega (arith, ap kind_number ((in_between_second (changed_by ignores) d).1 _ refl).kind)

-- A change counts as a subframe: the handset expects one more.
abbrev pub counts_change : Handset → ℕ → Changed
counts_change = changes_to (λ h m. record { settings = in_mode h.settings m; next = (h.next + 1) % 10; modes = h.modes; past = h.past })

-- After one change it takes subframe 1 for 2, which is uplink, and is silent.
pub not_counts_change : Demand3 (changed_by counts_change) → ⊥
unfolding handsets
not_counts_change d =
    let t = (holds_in (changed_by counts_change) d changed_first changed_first_holds).taken 2 1 Nothing (fed_nothing_at changed_first 2 1 (omega arith) refl refl) refl in
    omega (arith, same_answer {b = (Ok answer.Silent)} refl t)

-- A refused change is kept: the new mode stands, though its number is answered.
abbrev pub keeps_refused : Handset → ℕ → Changed
keeps_refused h m = record { refusal = (change_of h m).refusal; handset = in_new_mode h m }

pub not_keeps_refused : Demand3 (changed_by keeps_refused) → ⊥
unfolding handsets
not_keeps_refused d =
    let l = (holds_in (changed_by keeps_refused) d refused_changes refused_changes_holds).change_leaves 0 1 (record { inside = omega arith; changes = refl }) (λ e. omega arith) in
    omega (arith, ap (λ (h : Handset). h.settings.mode) l)

-- What a change answers, where another number stands for ours.
abbrev pub says_instead : (ℕ → ℕ) → Handset → ℕ → Changed
says_instead number h m = record { refusal = number (change_of h m).refusal; handset = (change_of h m).handset }

-- 5 is not answered: a change to mode 1 in configuration 5 leaves the handset and answers 0.
abbrev pub accepts_five : Handset → ℕ → Changed
accepts_five = says_instead (λ (k : ℕ). cond (eqb k 5) 0 k)

pub not_accepts_five : Demand3 (changed_by accepts_five) → ⊥
unfolding handsets
not_accepts_five d =
    omega (arith, (holds_in (changed_by accepts_five) d refused_changes refused_changes_holds).changed_exactly 0 1 (record { inside = omega arith; changes = refl }))

-- 5 for a mode over 1.
abbrev pub five_for_four : Handset → ℕ → Changed
five_for_four = says_instead (λ (k : ℕ). cond (eqb k 4) 5 k)

pub not_five_for_four : Demand3 (changed_by five_for_four) → ⊥
unfolding handsets
not_five_for_four d =
    omega (arith, (holds_in (changed_by five_for_four) d refused_changes refused_changes_holds).changed_exactly 2 2 (record { inside = omega arith; changes = refl }))

-- 8 for a change while something heard is remembered.
abbrev pub refuses_open : Handset → ℕ → Changed
refuses_open h m = record { refusal = cond (none_heard h.past) (change_of h m).refusal 8; handset = cond (none_heard h.past) (change_of h m).handset h }

pub not_refuses_open : Demand3 (changed_by refuses_open) → ⊥
unfolding handsets
not_refuses_open d =
    omega (arith, (holds_in (changed_by refuses_open) d between_windows between_windows_holds).changed_exactly 2 1 (record { inside = omega arith; changes = refl }))
