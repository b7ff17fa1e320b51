-- `spelling::stops::first_refused` meets its contract: the loop's invariant is `Feeding`, at the record that is next. Assumes nothing.
use Rattle.std.proofs.Common.{◌≡◌}
use Rattle.spelling.proofs.Feeding.{Feeding}
use Rattle.spelling.proofs.stops.first_refused.Given as goal

abbrev pub invariant-loop-number : goal.invariant-loop-number
invariant-loop-number l = (l.number-iterator.trace ≡ l.trace) × Feeding l.trace l.initial.running.handset l.running.handset l.number-iterator.reader.next
