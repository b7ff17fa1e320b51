-- Refusal 8: lent state fails 1 to 6, expects a subframe over 9, or remembers a grant failing 9 to 12 in the subframe it was fed in;
-- "so does one that breaks a rule on settings or grants added later": 17, 19 and 24, 20, and 18 after what it remembers from before.
-- U8 and U9: a remembered mode that 4, 5 or 24 would refuse breaks one too.
-- Assumes nothing.
use Rattle.std.specs.Prelude.{ℕ, Bool, true, cond, ◌&&◌, List, [], ◌∷◌, eqb, leb}
use Rattle.frame.specs.declared.Settings.{Settings}
use Rattle.frame.specs.Distance.{before}
use Rattle.frame.specs.Settings.{settings_refusal}
use Rattle.heard.specs.declared.Slot.{Slot}
use Rattle.heard.specs.Heard.{cause_of}
use Rattle.heard.specs.Memory.{heard_in, block_ago}
use Rattle.handset.specs.declared.Handset.{Handset}
use Rattle.handset.specs.Modes.{modes_sound}

-- A remembered subframe is of a kind that there is, and what it heard is valid in subframe n after the older ones.
unfoldable pub slot_sound : Settings → ℕ → List Slot → Slot → Bool
slot_sound s n older t = leb t.kind 3 && eqb (cause_of s n (block_ago older) (heard_in t)) 0

-- The subframe before n; before 0 comes 9.
abbrev pub previous : ℕ → ℕ
previous n = before n 1

-- The newest slot was fed in the subframe before n, the next one in the subframe before that, and so on.
unfoldable pub all_sound : Settings → ℕ → List Slot → Bool
all_sound s n [] = true
all_sound s n (t ∷ ts) = slot_sound s (previous n) ts t && all_sound s (previous n) ts

unfoldable pub state_sound : Handset → Bool
state_sound h =
    eqb (settings_refusal h.settings) 0 && leb h.next 9 && modes_sound h.settings h.modes && all_sound h.settings h.next h.past

unfoldable pub state_refusal : Handset → ℕ
state_refusal h = cond (state_sound h) 0 8
