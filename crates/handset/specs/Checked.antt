-- What is remembered, as the code checks it: each slot by itself, and then that no scheduled block is a second one in its window
-- (proofs/Remembered.antt).
-- Assumes nothing.
use Rattle.std.specs.Prelude.{ℕ, Bool, true, false, not, ◌&&◌, ◌||◌, List, [], ◌∷◌, eqb, leb}
use Rattle.frame.specs.declared.Settings.{Settings}
use Rattle.heard.specs.declared.Slot.{Slot}
use Rattle.heard.specs.Heard.{heard_refusal, block_before}
use Rattle.heard.specs.Memory.{none, heard_in, block_ago}
use Rattle.handset.specs.Sound.{previous}

-- A slot is of a kind that there is, and what it heard is valid in subframe n by itself.
unfoldable pub slot_valid : Settings → ℕ → Slot → Bool
slot_valid s n t = leb t.kind 3 && eqb (heard_refusal s n (heard_in t)) 0

-- Three slots of nothing, which the code puts behind the 13.
abbrev pub padding : List Slot
padding = none ∷ none ∷ none ∷ []

-- Every slot is valid by itself: the newest in the subframe before n, and so on back.
unfoldable pub all_valid : Settings → ℕ → List Slot → Bool
all_valid s n [] = true
all_valid s n (t ∷ ts) = slot_valid s (previous n) t && all_valid s (previous n) ts

-- Some slot is a scheduled block.
unfoldable pub any_block : List Slot → Bool
any_block [] = false
any_block (t ∷ ts) = eqb t.kind 2 || any_block ts

-- No scheduled block is a second one in its window.
unfoldable pub blocks_apart : ℕ → ℕ → List Slot → Bool
blocks_apart c n [] = true
blocks_apart c n (t ∷ ts) = not (eqb t.kind 2 && block_before 13 c (previous n) (block_ago ts)) && blocks_apart c (previous n) ts
