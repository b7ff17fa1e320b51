-- `handset::state::padded` meets its contract. Assumes nothing.
use mathlib.Core.Path.{refl}
use native.Mathlib.Omega.{arith}
use lib.ListN.{length-replicate}
use Rattle.heard.specs.Memory.{none}
use Rattle.handset.proofs.Remembered.{is_none, put_more, all_put}
use Rattle.handset.proofs.state.padded.Goals as goal

pub loop-i-init : goal.loop-i-init
loop-i-init c = rw (is_none _ c.default-slots.ensures) refl

pub loop-i-preserved : goal.loop-i-preserved
loop-i-preserved c = rw c.loop-i.invariant (put_more _ _ c.loop-i.i (omega arith) (omega (arith, length-replicate 16 none)))

pub returns : goal.returns
returns c = all_put _ _ c.loop-i.i (omega arith) (omega arith) c.loop-i.invariant
