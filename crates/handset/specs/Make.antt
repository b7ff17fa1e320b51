-- Making a handset: document 01, "The running handset".
-- Assumes nothing.
use Rattle.std.specs.Prelude.{ℕ, zero, suc, cond, List, [], ◌∷◌, eqb, get_or, Result, Ok, Err}
use Rattle.frame.specs.declared.Settings.{Settings}
use Rattle.frame.specs.declared.refusal.Refusal.{Refusal}
use Rattle.frame.specs.Refusals.{number_of}
use Rattle.frame.specs.Settings.{settings_refusal}
use Rattle.heard.specs.declared.Slot.{Slot}
use Rattle.heard.specs.Memory.{none}
use Rattle.handset.specs.declared.Handset.{Handset}
use Rattle.handset.specs.Modes.{modes_before}

-- The slots i, i + 1, .., `count` of them; nothing heard where the list has ended.
abbrev pub slots_from : ℕ → ℕ → List Slot → List Slot
slots_from zero i l = []
slots_from (suc count) i l = get_or l i none ∷ slots_from count (suc i) l

-- The last 13 subframes of a history, newest first; those before the start count as unheard.
abbrev pub memory : List Slot → List Slot
memory l = slots_from 13 0 l

-- A fresh handset expects subframe 0 and remembers nothing heard, in the mode that it is made with.
unfoldable pub fresh : Settings → Handset
fresh s = record { settings = s; next = 0; modes = modes_before s.mode; past = memory [] }

-- Settings with every number 0, which refusal 2 refuses: what a handset beside a refusal has, so that every feed of it answers 8
-- (proofs/Refused.antt).
abbrev pub no_settings : Settings
no_settings = record { config = 0; nrb = 0; n1 = 0; mode = 0; blocks = 0; scheduled = 0; prefix = 0; special = 0; ports = 0 }

-- What is made: the refusal, 0 for none, and beside a refusal a handset that every feed refuses.
pub record Made : Type 0 where
  pub refusal : ℕ
  pub handset : Handset

-- What a result of the code says was made.
abbrev pub made_as : Result Handset Refusal → Made
made_as (Ok h) = record { refusal = 0; handset = h }
made_as (Err r) = record { refusal = number_of r; handset = fresh no_settings }

-- Making: 1 to 6, 17, 19 and 24, else a fresh handset.
unfoldable pub make_of : Settings → Made
make_of s = record { refusal = settings_refusal s; handset = cond (eqb (settings_refusal s) 0) (fresh s) (fresh no_settings) }
