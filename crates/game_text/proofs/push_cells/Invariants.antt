-- The line has the letters of the losses below this one.
use Rattle.std.proofs.Common.{◌≡◌}
use Rattle.line.specs.Line.{added}
use Rattle.game_text.specs.Text.{cells}
use Rattle.game_text.proofs.push_cells.Given as goal

abbrev pub invariant-loop-losses : goal.invariant-loop-losses
invariant-loop-losses l = l.line ≡ added l.initial.line (cells l.size l.grants l.losses)
