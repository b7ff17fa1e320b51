-- What a C caller is told of a window that was tested.
-- Assumes nothing.
use Rattle.std.specs.Prelude.{ℕ, Result, Ok, Err, List, [], get_or}
use Rattle.frame.specs.declared.refusal.Refusal.{Refusal}
use Rattle.frame.specs.declared.window.Window.{Window}
use Rattle.frame.specs.Refusals.{number_of}
use Rattle.frame.specs.Table.{window_of}
use Rattle.numbers.specs.declared.frames.WindowAnswer.{WindowAnswer}
use Rattle.numbers.specs.Answers.{padded, window_as}

-- The window, or its refusal with zeros beside it.
abbrev pub tested_answer : Result Window Refusal → WindowAnswer
tested_answer (Ok w) = window_as 0 (window_of w.settings.config w.n)
tested_answer (Err r) = window_as (number_of r) []

-- zeros, where there is no window
abbrev pub no_window : WindowAnswer
no_window = record { refusal = 0; size = 0; k = padded 9 []; order = padded 9 [] }

-- the answer of a subframe in a table of answers; zeros where the rows have none
unfoldable pub answer_in : List (List WindowAnswer) → ℕ → ℕ → WindowAnswer
answer_in rows c n = get_or (get_or rows c []) n no_window
