-- The modes of a run: those that the handset remembers are those that stood, and each is one that 4, 5 and 24 allow.
-- Assumes nothing.
use Prim.Native.Nat.{ℕ, zero, suc, ◌-◌, ◌%◌, ◌≤◌}
use mathlib.Core.Bool.{Bool, true, false, cond}
use mathlib.Core.List.{List, [], ◌∷◌}
use mathlib.Core.Path.{◌≡◌, refl, ap, ◌∙◌}
use native.Mathlib.Omega.{arith}
use lib.Dec.{T, eqb, leb, eqb→eq}
use lib.ListN.{get_or}
use borrow.Author.Tests.{eqb-true}
use Rattle.frame.specs.declared.Settings.{Settings}
use Rattle.frame.specs.Earliest.{earliest_k}
use Rattle.frame.specs.Order.{times_of}
use Rattle.frame.specs.Settings.{new_mode_refusal, has_scheduled, settings_refusal, in_mode}
use Rattle.frame.specs.Special.{too_short}
use Rattle.frame.specs.Table.{table, window_of}
use Rattle.frame.proofs.Accepted.{mode_allowed, accepted_in, allowed_most}
use Rattle.frame.proofs.Bools.{either}
use Rattle.frame.proofs.Windows.{every_row, window_passes}
use Rattle.confirmation.specs.declared.Send.{Send}
use Rattle.confirmation.specs.Sent.{as_heard}
use Rattle.heard.specs.declared.Heard.{Heard}
use Rattle.heard.specs.declared.Heard.TheVariants.{Nothing, Granted, Scheduled, Released}
use Rattle.heard.specs.Heard.{uplink_refusal, short_refusal, data_refusal, carried_refusal, pdcch_refusal, unset_refusal, heard_refusal, second_refusal, cause_of}
use Rattle.handset.specs.Modes.{mode_ago, modes_before, modes_pushed, modes_sound}
use Rattle.handset.proofs.ModeBits.{newest_mode, older_mode, made_mode, modes_exactly}
use Rattle.agreement.specs.Run.{Item, feed, change, cause_after, standing, modes_from, modes_in_run, largest, window_at, window_mode, settings_in, Schedule}

-- What is brought is refused alike in every mode: no cause of a feed looks at it.
heard_in_holds : (s : Settings) (m n : ℕ) (x : Heard) → heard_refusal (in_mode s m) n x ≡ heard_refusal s n x
unfolding heard_refusal data_refusal uplink_refusal short_refusal carried_refusal pdcch_refusal unset_refusal has_scheduled too_short
heard_in_holds s m n Nothing = refl
heard_in_holds s m n (Granted g) = refl
heard_in_holds s m n (Scheduled b) = refl
heard_in_holds s m n (Released p) = refl

pub cause_in_holds : (s : Settings) (m n : ℕ) (block : ℕ → Bool) (x : Heard) → cause_of (in_mode s m) n block x ≡ cause_of s n block x
unfolding cause_of second_refusal
cause_in_holds s m n block x = rw (heard_in_holds s m n x)

-- So what may be sent is the same in every mode.
pub schedule_in : (set : Settings) (m : ℕ) (sent : ℕ → Send) → Schedule set sent → Schedule (in_mode set m) sent
schedule_in set m sent a =
    record { valid = λ s. heard_in_holds set m (s % 10) (as_heard (sent s)) ∙ a.valid s; rule = a.rule; one = a.one }

-- The largest k of a window is that of its earliest subframe.
largest_tested : T (every_row (λ c n ks. eqb (get_or (times_of ks) 0 0) (largest ks)) table)
unfolding table times_of
largest_tested = tt

pub earliest_largest : (c n : ℕ) → earliest_k c n ≡ largest (window_of c n)
unfolding earliest_k times_of
earliest_largest c n = eqb→eq _ _ (window_passes _ largest_tested c n tt)

-- 4, 5 and 24 allow every mode of a list.
abbrev pub Allowed : Settings → List ℕ → Type 0
Allowed set [] = Unit {0}
Allowed set (m ∷ ms) = (new_mode_refusal (in_mode set m) ≡ 0) × Allowed set ms

-- The modes that a handset made in mode `made` remembers after feeds in the modes of the list, newest first.
abbrev pub modes_after : ℕ → List ℕ → ℕ
modes_after made [] = modes_before made
modes_after made (m ∷ ms) = modes_pushed (modes_after made ms) m

module _ (set : Settings) (good : settings_refusal set ≡ 0) where
  pub made_allowed : new_mode_refusal (in_mode set set.mode) ≡ 0
  made_allowed = mode_allowed set good

  pub allowed_at : (ms : List ℕ) → Allowed set ms → (i : ℕ) → new_mode_refusal (in_mode set (get_or ms i set.mode)) ≡ 0
  allowed_at [] a i = made_allowed
  allowed_at (m ∷ ms) a zero = a.0
  allowed_at (m ∷ ms) a (suc i) = allowed_at ms a.1 i

  -- Each remembered mode is the one that stood, up to 13 ago.
  remembered_at : (ms : List ℕ) → Allowed set ms → (i : ℕ) → i ≤ 12 → mode_ago (modes_after set.mode ms) (suc i) ≡ get_or ms i set.mode
  remembered_at [] a i most = made_mode set.mode (suc i) (allowed_most set made_allowed) (omega arith) (omega arith)
  remembered_at (m ∷ ms) a zero most = newest_mode (modes_after set.mode ms) m (allowed_most (in_mode set m) a.0)
  remembered_at (m ∷ ms) a (suc i) most =
      older_mode (modes_after set.mode ms) m (suc i) (allowed_most (in_mode set m) a.0) (omega arith) (omega arith)
      ∙ remembered_at ms a.1 i (omega arith)

  pub modes_at : (ms : List ℕ) → Allowed set ms → (k : ℕ) → 1 ≤ k → k ≤ 13 → mode_ago (modes_after set.mode ms) k ≡ get_or ms (k - 1) set.mode
  modes_at ms a k least most =
      let same : k ≡ suc (k - 1) = omega arith in
      ap (mode_ago (modes_after set.mode ms)) same ∙ remembered_at ms a (k - 1) (omega arith)

  -- 8 does not refuse them, in whatever mode stands.
  pub modes_sound_holds : (m : ℕ) (ms : List ℕ) → Allowed set ms → modes_sound (in_mode set m) (modes_after set.mode ms) ≡ true
  modes_sound_holds m ms a =
      (modes_exactly (in_mode set m) (modes_after set.mode ms)).1
      (λ k least most. rw (modes_at ms a k least most) (allowed_at ms a (k - 1)))

  -- The mode that stands is allowed wherever a run comes to, and so is the mode of each window.
  pub standing_allowed : (mode m : ℕ) → new_mode_refusal (in_mode set mode) ≡ 0 → new_mode_refusal (in_mode set (standing set mode m)) ≡ 0
  standing_allowed mode m allowed = go (eqb (new_mode_refusal (in_mode set m)) 0) refl
    where
      go : (b : Bool) → eqb (new_mode_refusal (in_mode set m)) 0 ≡ b → new_mode_refusal (in_mode set (cond b m mode)) ≡ 0
      go true e = eqb-true (new_mode_refusal (in_mode set m)) 0 e
      go false e = allowed

  from_allowed : (items : List Item) (past : List Heard) (mode : ℕ) → new_mode_refusal (in_mode set mode) ≡ 0 → Allowed set (modes_from set past mode items)
  from_allowed [] past mode allowed = tt
  from_allowed (feed x ∷ items) past mode allowed =
      either (Allowed set) (eqb (cause_after set past x) 0) (mode ∷ modes_from set (x ∷ past) mode items) (modes_from set past mode items)
      (allowed, from_allowed items (x ∷ past) mode allowed) (from_allowed items past mode allowed)
  from_allowed (change m ∷ items) past mode allowed = from_allowed items past (standing set mode m) (standing_allowed mode m allowed)

  pub window_allowed : (items : List Item) (s : ℕ) → new_mode_refusal (in_mode set (window_mode set items s)) ≡ 0
  window_allowed items s =
      let k : ℕ = largest (window_at set s) in
      either (λ (m : ℕ). new_mode_refusal (in_mode set m) ≡ 0) (leb k s) (get_or (modes_in_run set items) (s - k) set.mode) set.mode
      (allowed_at (modes_in_run set items) (from_allowed items [] set.mode made_allowed) (s - k)) made_allowed

  pub window_good : (items : List Item) (s : ℕ) → settings_refusal (settings_in set items s) ≡ 0
  window_good items s = accepted_in set (window_mode set items s) good (window_allowed items s)
