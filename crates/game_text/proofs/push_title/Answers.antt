-- The title is put on the line in two pieces.
use Rattle.line.proofs.Adding.{added_append}
use Rattle.game_text.specs.Text.{title}
use Rattle.game_text.proofs.push_title.Goals as goal

pub returns : goal.returns
unfolding title
returns c = rw (c.push_str.ensures, c.push_labelled.ensures) (added_append c.args.line.now _ _)
