-- `spelling::bytes::put_records` meets its contract: the loop's invariant is `Putting`, at the record that is next. Assumes nothing.
use Rattle.std.proofs.Common.{◌≡◌}
use Rattle.spelling.proofs.Records.{Putting}
use Rattle.spelling.proofs.bytes.put_records.Given as goal

abbrev pub invariant-loop-number : goal.invariant-loop-number
invariant-loop-number l = (l.number-iterator.trace ≡ l.trace) × Putting l.trace l.initial.out l.out l.number-iterator.reader.next
