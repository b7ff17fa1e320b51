-- `reply::answers::code_of` meets its contract. The loop's invariant: the number is that of the first positions' state.
-- Assumes nothing.
use mathlib.Core.Path.{◌≡◌}
use Rattle.heard.specs.Memory.{views_in}
use Rattle.reply.proofs.Multiplexing.{code_to}
use Rattle.reply.proofs.answers.code_of.Given as goal

abbrev pub invariant-loop-k : goal.invariant-loop-k
invariant-loop-k l = l.code ≡ code_to (views_in l.memory) l.k-index l.k-items
