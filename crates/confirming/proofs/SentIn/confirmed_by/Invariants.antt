-- `confirming::SentIn::confirmed_by` meets its contract. The loop's invariant: the sets are those of the positions gone through. Assumes nothing.
use Rattle.std.proofs.Common.{◌≡◌, length}
use Rattle.symbols.specs.Delivered.{set_of}
use Rattle.confirming.proofs.Confirming.{confirms_at}
use Rattle.confirming.proofs.SentIn.confirmed_by.Given as goal

abbrev pub invariant-loop-m : goal.invariant-loop-m
invariant-loop-m l =
    record {
      first : l.first ≡ set_of (length l.yielded) (confirms_at l.self l.acks 0);
      second : l.second ≡ set_of (length l.yielded) (confirms_at l.self l.acks 1);
    }
