-- `handset::Handset::all_sound` meets its contract. Assumes nothing.
use Prim.Native.Nat.{ℕ, ◌+◌}
use mathlib.Core.Bool.{not}
use mathlib.Core.Path.{ap, ◌∙◌}
use native.Mathlib.Omega.{arith}
use Rattle.frame.specs.Distance.{before}
use Rattle.frame.proofs.Letters.{letter_there}
use Rattle.handset.proofs.Remembered.{valid_more, block_more, valid_told, block_told, sixteen, sound_blockless, sound_searched, sound_invalid}
use Rattle.handset.proofs.Handset.all_sound.Goals as goal

pub loop-i-preserved : goal.loop-i-preserved
loop-i-preserved c =
    let p : ℕ = before c.args.self.now.next (c.loop-i.i + 1) in
    let size = sixteen c.args.self.now.past _ (omega arith) c.padded-slots.ensures in (
      valid_more _ _ _ _ (omega (arith, size)) c.loop-i.valid c.is_valid-valid.result c.loop-i.invariant.0
          _ c.of-limits.ensures (c.is_valid-valid.ensures p (rw (c.letters_before-letters.ensures, c.of-limits.ensures) (letter_there _ _ _ (omega arith)))),
      block_more _ _ (omega (arith, size)) c.loop-i.block c.loop-i.invariant.1,
    )

pub returns-then-not-block : goal.returns-then-not-block
returns-then-not-block c =
    let size = sixteen c.args.self.now.past _ (omega arith) c.padded-slots.ensures in
    ap not c.if-not-block.true
    ∙ sound_blockless _ _ _ (valid_told _ _ c.padded-slots.ensures _ (omega (arith, size)) _ _ c.loop-i.valid c.loop-i.invariant.0 ∙ c.if-valid.true)
    (block_told _ _ c.padded-slots.ensures _ (omega (arith, size)) c.loop-i.block c.loop-i.invariant.1 ∙ c.if-not-block.true)

pub returns-else-not-block : goal.returns-else-not-block
returns-else-not-block c =
    let size = sixteen c.args.self.now.past _ (omega arith) c.padded-slots.ensures in
    sound_searched _ _ _ (valid_told _ _ c.padded-slots.ensures _ (omega (arith, size)) _ _ c.loop-i.valid c.loop-i.invariant.0 ∙ c.if-valid.true) _ c.blocks_apart.ensures

pub returns-else-valid : goal.returns-else-valid
returns-else-valid c =
    let size = sixteen c.args.self.now.past _ (omega arith) c.padded-slots.ensures in
    ap (λ b. b) c.if-valid.false
    ∙ sound_invalid _ _ _ (valid_told _ _ c.padded-slots.ensures _ (omega (arith, size)) _ _ c.loop-i.valid c.loop-i.invariant.0 ∙ c.if-valid.false)
