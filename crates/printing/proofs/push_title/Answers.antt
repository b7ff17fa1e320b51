-- The text in two parts, the second too long for the search.
use Rattle.line.proofs.Adding.{added_append}
use Rattle.printing.specs.Text.{title}
use Rattle.printing.proofs.push_title.Goals as goal

pub returns : goal.returns
unfolding title
returns c = rw (c.push_labelled-2.ensures, c.push_labelled.ensures) (added_append _ _ _)
