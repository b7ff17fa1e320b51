-- The list of what the records bring, and what its feeds do at one of them. Assumes nothing.
use Prim.Native.Nat.{ℕ, zero, suc, ◌+◌, ◌-◌, ◌<◌}
use mathlib.Core.List.{List, ◌∷◌}
use mathlib.Core.Path.{◌≡◌, refl, sym, ap, ◌∙◌}
use native.Mathlib.Nat.{add-zero, add-suc, suc-add, le_of_suc-le-suc, not-suc-le-zero}
use native.Mathlib.Omega.{arith}
use lib.ListN.{length, get_or}
use Rattle.heard.specs.declared.Heard.TheVariants.{Nothing}
use Rattle.heard.specs.declared.Slot.{Slot}
use Rattle.heard.specs.Memory.{heard_in}
use Rattle.reader.specs.Record.{used_in, brought_by, record_slot, brought_at}
use Rattle.replaying.specs.Replay.{brought_from}

-- It has one entry for each record, in their order.
pub brought_length : (l : List ℕ) (i count : ℕ) → length (brought_from l i count) ≡ count
brought_length l i zero = refl
brought_length l i (suc count) = ap suc (brought_length l (suc i) count)

pub brought_at_holds : (l : List ℕ) (i count j : ℕ) → j < count → get_or (brought_from l i count) j Nothing ≡ brought_at l (i + j)
brought_at_holds l i zero j h = absurd (not-suc-le-zero h)
brought_at_holds l i (suc count) zero h = ap (brought_at l) (sym (add-zero i))
brought_at_holds l i (suc count) (suc j) h =
    brought_at_holds l (suc i) count j (le_of_suc-le-suc h) ∙ ap (brought_at l) (suc-add i j ∙ sym (add-suc i j))

-- From record i on: what is used of it brings the first, then the rest.
pub brought_next : (l : List ℕ) (records i : ℕ) → i < records → (t : Slot) → t ≡ used_in (record_slot l i)
    → brought_from l i (records - i) ≡ heard_in t ∷ brought_from l (suc i) (records - suc i)
unfolding brought_at brought_by
brought_next l records i inside t read =
    let e : records - i ≡ suc (records - suc i) = omega arith in
    rw (e, read)
