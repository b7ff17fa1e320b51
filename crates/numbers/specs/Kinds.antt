-- The kinds of an answer as numbers, beside those of a reply (reply/specs/Kinds.antt): what a reading and a feed tell, the
-- cause of a silence, what claims tell, and what a reader of a trace tells.
-- Assumes nothing.
use Rattle.std.specs.Prelude.{ℕ}

abbrev pub kind_refused : ℕ
kind_refused = 0

abbrev pub kind_silent : ℕ
kind_silent = 3

abbrev pub kind_taken : ℕ
kind_taken = 4

abbrev pub kind_no_window : ℕ
kind_no_window = 5

abbrev pub cause_none : ℕ
cause_none = 0

abbrev pub cause_nothing_heard : ℕ
cause_nothing_heard = 1

abbrev pub cause_miss_shown : ℕ
cause_miss_shown = 2

abbrev pub claims_refused : ℕ
claims_refused = 0

abbrev pub claims_clean : ℕ
claims_clean = 1

abbrev pub claims_clash : ℕ
claims_clash = 2

abbrev pub record_refused : ℕ
record_refused = 0

abbrev pub record_read : ℕ
record_read = 1

abbrev pub record_end : ℕ
record_end = 2
