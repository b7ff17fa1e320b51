-- A remembered subframe as four numbers, and what stood k subframes ago.
-- Assumes nothing.
use Rattle.std.specs.Prelude.{ℕ, ◌+◌, ◌-◌, ◌*◌, ◌/◌, ◌%◌, Bool, true, false, not, cond, List, eqb, get_or}
use Rattle.frame.specs.Table.{window_of}
use Rattle.heard.specs.declared.Heard.{Heard}
use Rattle.heard.specs.declared.Heard.TheVariants.{Nothing, Granted, Scheduled, Released}
use Rattle.heard.specs.declared.Memory.{Memory}
use Rattle.heard.specs.declared.Slot.{Slot}
use Rattle.heard.specs.declared.View.{View}
use Rattle.heard.specs.declared.View.TheVariants.{Unheard, Pdcch, Block}
use Rattle.heard.specs.Heard.{view_of}

-- Nothing heard: every number 0.
abbrev pub none : Slot
none = record { kind = 0; cce = 0; dai = 0; results = 0 }

abbrev pub bit : Bool → ℕ
bit b = cond b 1 0

-- Results: bit 0 for the first block, bit 1 for the second, bit 2 for two blocks carried.
abbrev pub results_of : Bool → Bool → ℕ → ℕ
results_of first second blocks = bit first + 2 * bit second + 4 * bit (eqb blocks 2)

-- Kind 0 is nothing, 1 a grant, 2 a scheduled block, which has results alone, 3 a release, which has none.
unfoldable pub slot_of : Heard → Slot
slot_of Nothing = none
slot_of (Granted g) = record { kind = 1; cce = g.cce.0; dai = g.dai; results = results_of g.first g.second g.blocks }
slot_of (Scheduled b) = record { kind = 2; cce = 0; dai = 0; results = results_of b.first b.second b.blocks }
slot_of (Released p) = record { kind = 3; cce = p.cce.0; dai = p.dai; results = 0 }

-- The blocks carried, and which of them decoded.
abbrev pub blocks_in : Slot → ℕ
blocks_in t = cond (eqb (t.results / 4 % 2) 1) 2 1

abbrev pub first_in : Slot → Bool
first_in t = eqb (t.results % 2) 1

abbrev pub second_in : Slot → Bool
second_in t = eqb (t.results / 2 % 2) 1

-- What a remembered subframe heard, by its kind; nothing where there is no such kind.
unfoldable pub heard_in : Slot → Heard
heard_in t =
    cond (eqb t.kind 1) (Granted (record { blocks = blocks_in t; first = first_in t; second = second_in t; cce = record { 0 = t.cce }; dai = t.dai }))
    (cond (eqb t.kind 2) (Scheduled (record { blocks = blocks_in t; first = first_in t; second = second_in t }))
    (cond (eqb t.kind 3) (Released (record { cce = record { 0 = t.cce }; dai = t.dai }))
    Nothing))

-- What a reply sees of a remembered subframe.
unfoldable pub view_in : Slot → View
view_in t = view_of (heard_in t)

-- It is a PDCCH.
abbrev pub sees_pdcch : View → Bool
sees_pdcch Unheard = false
sees_pdcch (Pdcch g) = true
sees_pdcch (Block b) = false

-- It is a scheduled block.
abbrev pub sees_block : View → Bool
sees_block Unheard = false
sees_block (Pdcch g) = false
sees_block (Block b) = true

-- The first block, and the second one, was heard and did not decode.
abbrev pub first_failed : View → Bool
first_failed Unheard = false
first_failed (Pdcch g) = not g.first
first_failed (Block b) = not b.first

abbrev pub second_failed : View → Bool
second_failed Unheard = false
second_failed (Pdcch g) = not g.second
second_failed (Block b) = not b.second

-- What a reply sees of the subframe k ago; the newest slot comes first, and before the oldest nothing was heard.
unfoldable pub view_ago : List Slot → ℕ → View
view_ago past k = view_in (get_or past (k - 1) none)

-- A scheduled block was heard k ago.
unfoldable pub block_ago : List Slot → ℕ → Bool
block_ago past k = eqb (get_or past (k - 1) none).kind 2

-- K of the window of the subframe that a memory stands before.
abbrev pub ks_in : Memory → List ℕ
ks_in m = window_of m.settings.now.config m.n

-- What a reply sees of the subframe k before it, k from 1 on.
abbrev pub views_in : Memory → ℕ → View
views_in m = view_ago m.past.now
