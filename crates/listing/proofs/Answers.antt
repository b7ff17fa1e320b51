-- The two kinds of answer to an input, the refusal and the lines of a configuration. Each has room on a page: the lines by a test
-- of the seven configurations that antt computes.
-- Assumes nothing.
use Rattle.std.proofs.Common.{Some, ℕ, ◌<◌, ◌≤◌, ◌≡◌, Bool, [], length, arith}
use lib.Dec.{T, leb, lit≤}
use borrow.Author.Tests.{le-leb, lt-leb}
use Rattle.std.specs.Fmt.{digits}
use Rattle.frame.proofs.Below.{below, below_at}
use Rattle.frame.specs.Table.{table, window_of}
use Rattle.line.proofs.Adding.{added_alone}
use Rattle.line.specs.Line.{added, listed}
use Rattle.listing.specs.Page.{line, line_of, lines_below, refusal, page_for}

-- the lines of configuration c have room on a page
abbrev room_for : ℕ → Bool
room_for c = leb (length (lines_below 10 c)) 100

room_tested : T (below 7 room_for)
unfolding table window_of digits listed line line_of lines_below
room_tested = tt

-- The answer to an input that is refused.
pub refused : added [] refusal ≡ refusal
refused = added_alone refusal (lit≤ tt)

pub past_six : (c : ℕ) → 6 < c → page_for (Some c) ≡ refusal
past_six c h = rw (lt-leb c 6 h)

-- The answer to a configuration.
pub lines : (c : ℕ) → c ≤ 6 → added [] (lines_below 10 c) ≡ page_for (Some c)
lines c h = rw (le-leb c 6 h) (added_alone (lines_below 10 c) (lit≤ (below_at 7 room_for room_tested c (omega arith))))
