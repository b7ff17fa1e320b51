-- `reporting::push_sent` meets its contract: the kind of a reply, then its numbers. Assumes nothing.
use Rattle.std.proofs.Common.{rules}
use Rattle.line.proofs.Adding.{added_append}
use Rattle.reporting.proofs.Lines.{reply_sent}
use Rattle.reporting.proofs.push_sent.Goals as goal

pub returns-in-Some : goal.returns-in-Some
returns-in-Some c = rw (reply_sent _ _ _ _ _ c.in-Some.is) (search (rules, added_append))
