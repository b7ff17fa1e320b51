-- The refusal is put on an empty line.
use Rattle.game_text.proofs.Lines.{refused_line}
use Rattle.game_text.proofs.refusal_line.Goals as goal

pub returns-then-i-eq0 : goal.returns-then-i-eq0
returns-then-i-eq0 c = rw (c.push_str.ensures, c.new-line.ensures) (refused_line c.args.i c.if-i-eq0.true)
