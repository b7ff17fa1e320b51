-- `handset::Handset::push` meets its contract. Assumes nothing.
use native.Mathlib.Omega.{arith}
use Rattle.handset.specs.Feed.{pushed}
use Rattle.handset.proofs.Passing.{passed}
use Rattle.handset.proofs.Pushed.{pushed_before}
use Rattle.handset.proofs.Handset.push.Goals as goal

pub slot_of-requires : goal.slot_of-requires
slot_of-requires c = (passed _ _ c.requires).stored

pub overflow_add-self : goal.overflow_add-self
overflow_add-self c = omega (arith, (passed _ _ c.requires).state.next)

pub overflow_add-self-2 : goal.overflow_add-self-2
overflow_add-self-2 c = omega (arith, (passed _ _ c.requires).state.settings.mode)

pub returns : goal.returns
unfolding pushed
returns c = rw (pushed_before _ _ _ (omega arith) c.copy_within.ensures.after, c.slot_of.ensures)
