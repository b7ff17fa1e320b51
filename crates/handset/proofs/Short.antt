-- A state that 8 does not refuse remembers data, grants and scheduled blocks, only in subframes long enough for it, however long ago
-- they were fed.
-- Assumes nothing.
use Prim.Native.Nat.{ℕ, suc}
use mathlib.Core.Bool.{true, false}
use mathlib.Core.Path.{◌≡◌}
use lib.ListN.{get_or}
use Rattle.frame.specs.Distance.{before}
use Rattle.frame.specs.Special.{too_short}
use Rattle.heard.specs.Heard.{is_data}
use Rattle.heard.specs.Memory.{none, heard_in}
use Rattle.heard.proofs.Valid.{valid_long}
use Rattle.handset.specs.declared.Handset.{Handset}
use Rattle.handset.specs.Sound.{state_refusal}
use Rattle.handset.proofs.Passing.{remembered_valid}

pub remembered_long : (h : Handset) → state_refusal h ≡ 0 → (i : ℕ) → is_data (heard_in (get_or h.past i none)) ≡ true
    → too_short h.settings (before h.next (suc i)) ≡ false
remembered_long h accepted i d = valid_long h.settings (before h.next (suc i)) (heard_in (get_or h.past i none)) (remembered_valid h accepted i) d
