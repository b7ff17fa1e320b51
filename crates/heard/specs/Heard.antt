-- What a handset hears, and refusals 9 to 12, 18 and 20: document 01, "What a handset hears" and "Causes and their numbers"; document
-- 02, U1 and U2.
-- Assumes nothing.
use Rattle.std.specs.Prelude.{ℕ, zero, suc, ◌≤◌, Bool, true, false, cond, ◌&&◌, ◌||◌, ◌↔◌, ◌≡◌, ltb, eqb}
use Rattle.frame.specs.declared.Settings.{Settings}
use Rattle.frame.specs.Distance.{shares}
use Rattle.frame.specs.Layout.{downlink}
use Rattle.frame.specs.Settings.{or_else, outside, has_scheduled}
use Rattle.frame.specs.Special.{too_short}
use Rattle.resource.specs.Formula.{edge}
use Rattle.heard.specs.declared.Heard.{Heard}
use Rattle.heard.specs.declared.Heard.TheVariants.{Nothing, Granted, Scheduled, Released}
use Rattle.heard.specs.declared.View.{View}
use Rattle.heard.specs.declared.View.TheVariants.{Unheard, Pdcch, Block}

-- 9: a grant, a scheduled block or a release in an uplink subframe.
unfoldable pub uplink_refusal : Settings → ℕ → ℕ
uplink_refusal s n = cond (downlink s.config n) 0 9

-- 20: "a data grant or scheduled block in such a subframe", one too short for data.
unfoldable pub short_refusal : Settings → ℕ → ℕ
short_refusal s n = cond (too_short s n) 20 0

-- What subframe n may not bring, whatever its fields: 9, and then 20 for data, that is a grant or a scheduled block. "A release is
-- still heard there."
unfoldable pub data_refusal : Settings → ℕ → ℕ
data_refusal s n = or_else (uplink_refusal s n) (short_refusal s n)

-- 10: blocks carried 0 or over the setting.
unfoldable pub carried_refusal : Settings → ℕ → ℕ
carried_refusal s blocks = cond (outside 1 s.blocks blocks) 10 0

-- 11: first CCE not below N_4. 12: DAI not 1 to 4.
unfoldable pub pdcch_refusal : Settings → ℕ → ℕ → ℕ
pdcch_refusal s cce dai = cond (ltb cce (edge s.nrb 4)) (cond (outside 1 4 dai) 12 0) 11

-- 18: a scheduled block with no resource set.
unfoldable pub unset_refusal : Settings → ℕ
unset_refusal s = cond (has_scheduled s) 0 18

-- The refusal of what subframe n brings, by itself: 9 and 20, then 10, 11, 12 and 18 in the fields that it has ("Kinds of heard
-- subframe added later meet 9 to 12 in the fields they have"); 0 if it is valid there.
unfoldable pub heard_refusal : Settings → ℕ → Heard → ℕ
heard_refusal s n Nothing = 0
heard_refusal s n (Granted g) = or_else (data_refusal s n) (or_else (carried_refusal s g.blocks) (pdcch_refusal s g.cce.0 g.dai))
heard_refusal s n (Scheduled b) = or_else (data_refusal s n) (or_else (carried_refusal s b.blocks) (unset_refusal s))
heard_refusal s n (Released p) = or_else (uplink_refusal s n) (pdcch_refusal s p.cce.0 p.dai)

-- It is data: a grant or a scheduled block.
abbrev pub is_data : Heard → Bool
is_data Nothing = false
is_data (Granted g) = true
is_data (Scheduled b) = true
is_data (Released p) = false

-- What 20 is, whatever else is met: exactly data in a subframe too short for it.
abbrev pub TwentyExactly : Settings → ℕ → Heard → Type 0
TwentyExactly s n x = (heard_refusal s n x ≡ 20) ↔ ((is_data x ≡ true) × (too_short s n ≡ true))

-- It is a scheduled block.
abbrev pub is_block : Heard → Bool
is_block Nothing = false
is_block (Granted g) = false
is_block (Scheduled b) = true
is_block (Released p) = false

-- A scheduled block was heard before in the window of subframe n, at most `most` subframes before it: `block a` says whether one was
-- heard a before n.
unfoldable pub block_before : ℕ → ℕ → ℕ → (ℕ → Bool) → Bool
block_before zero c n block = false
block_before (suc a) c n block = (block (suc a) && shares c n (suc a)) || block_before a c n block

-- That it looks 13 subframes back is no limit: of a downlink subframe n, `block_before` is true exactly if some block was heard before
-- n, however long before, in a subframe that shares n's window.
abbrev pub BeforeExactly : ℕ → ℕ → (ℕ → Bool) → Type 0
BeforeExactly c n block =
    downlink c n ≡ true
    → (block_before 13 c n block ≡ true) ↔ ((a : ℕ) × (1 ≤ a) × (block a ≡ true) × (shares c n a ≡ true))

-- 18: a second scheduled block in one window.
unfoldable pub second_refusal : Settings → ℕ → (ℕ → Bool) → Heard → ℕ
second_refusal s n block x = cond (is_block x && block_before 13 s.config n block) 18 0

-- The refusal of what subframe n brings after what was heard before it: 9, 20, 10 to 12, then 18.
unfoldable pub cause_of : Settings → ℕ → (ℕ → Bool) → Heard → ℕ
cause_of s n block x = or_else (heard_refusal s n x) (second_refusal s n block x)

-- What a reply sees: in a two-block cell a sole block's result stands for both blocks; a release is a PDCCH that decoded everything.
unfoldable pub view_of : Heard → View
view_of Nothing = Unheard
view_of (Granted g) =
    Pdcch (record { cce = g.cce; dai = g.dai; first = g.first; second = cond (eqb g.blocks 2) g.second g.first })
view_of (Scheduled b) = Block (record { first = b.first; second = cond (eqb b.blocks 2) b.second b.first })
view_of (Released p) = Pdcch (record { cce = p.cce; dai = p.dai; first = true; second = true })
