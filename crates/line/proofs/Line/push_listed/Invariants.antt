-- The line with the numbers that are left is what the result is to be.
use Rattle.std.proofs.Common.{◌≡◌, drop}
use Rattle.line.specs.Line.{added, listed}
use Rattle.line.proofs.Line.push_listed.Given as goal

abbrev pub invariant-loop-x : goal.invariant-loop-x
invariant-loop-x l = added l.self (listed l.text (drop l.x-index l.xs)) ≡ added l.initial.self (listed l.text l.xs)
