-- `replaying::play` meets its contract: the loop's invariant is `Playing`, at the record that is next. Assumes nothing.
use Rattle.std.proofs.Common.{◌≡◌}
use Rattle.replaying.proofs.Plays.{Playing}
use Rattle.replaying.proofs.play.Given as goal

abbrev pub invariant-loop-number : goal.invariant-loop-number
invariant-loop-number l =
    (l.number-iterator.trace ≡ l.trace) × Playing l.trace l.initial.running.handset l.initial.windows l.windows l.running.handset l.number-iterator.reader.next
