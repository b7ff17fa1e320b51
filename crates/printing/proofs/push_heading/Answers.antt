-- The columns of the positions, then the last two, a text too long for the search.
use Rattle.line.proofs.Adding.{added_append}
use Rattle.printing.specs.Text.{heading}
use Rattle.printing.proofs.push_heading.Goals as goal

pub returns : goal.returns
unfolding heading
returns c = rw (c.push_str.ensures, c.extend_from_slice.ensures) (added_append _ _ _)
