-- `mark_to_clash` meets its contract.
-- Assumes nothing.
use Prim.Native.Nat.{◌+◌}
use mathlib.Core.Bool.{false, ◌&&◌, ◌||◌, or-true}
use mathlib.Core.Path.{◌≡◌}
use borrow.Author.Rules.{rules}
use Rattle.claims.proofs.Turn.{ended, clashed, turned_one, turned_two}
use Rattle.claims.proofs.window.ClaimedWindow.mark_to_clash.Goals as goal
use Rattle.claims.proofs.window.ClaimedWindow.mark_to_clash.Goals.{then-is_marked-via-then-is_marked, then-is_marked-via-else-is_marked+then-is_marked-2, then-self, else-self, then-self-2, else-self-2}

pub returns-then-is_marked : goal.returns-then-is_marked
returns-then-is_marked g c =
    let offset = c.offset_of-t.ensures in
    let each = clashed _ g.met.F.Form.laws _ _ _ c.loop-i.invariant c.requires.good c.loop-i-test.true _ offset.below offset.resource
    (elim c.then-is_marked.branch [
      | then-is_marked-via-then-is_marked w ↦ search rules
      | then-is_marked-via-else-is_marked+then-is_marked-2 w ↦ elim w.if-self.branch [ then-self v ↦ search (rules, or-true) | else-self v ↦ search rules ]
    ]) in
    record { value = each.value; laid = each.laid_after }

pub loop-i-preserved : goal.loop-i-preserved
loop-i-preserved g c =
    let offset = c.offset_of-t.ensures in
    let unset : (g.F.Form.is_marked c.loop-i.bytes c.offset_of-t.result || (c.args.self.now.two && g.F.Form.is_marked c.loop-i.bytes (c.offset_of-t.result + 1))) ≡ false =
    elim c.if-self.branch [ then-self w ↦ search rules | else-self w ↦ search rules ] in
    elim c.if-self-2.branch [
      | then-self-2 w ↦
          rw (w.bytes-is, w.mark-then-self-2.ensures, c.mark.ensures)
          (turned_two _ g.met.F.Form.laws _ _ _ c.loop-i.invariant c.requires.good c.loop-i-test.true _ offset.below offset.resource unset w.if-self-2.true)
      | else-self-2 w ↦
          rw (w.bytes-is, c.mark.ensures)
          (turned_one _ g.met.F.Form.laws _ _ _ c.loop-i.invariant c.requires.good c.loop-i-test.true _ offset.below offset.resource unset w.if-self-2.false)
    ]

pub returns : goal.returns
returns g c =
    let each = ended _ g.met.F.Form.laws _ _ _ c.loop-i.invariant c.loop-i-test.false c.loop-i.auto.i-end in
    record { value = each.value; laid = each.laid_after }
