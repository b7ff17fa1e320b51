-- The windows that a list of subframes completes: document 02, U3, "window that the records complete".
-- Assumes nothing.
use Rattle.std.specs.Prelude.{ℕ, zero, suc, ◌+◌, ◌%◌, Bool, cond, not, List, [], eqb, leb, get_or, length}
use Rattle.frame.specs.Table.{window_of}

-- Subframe n has a window: it is in Table 10.1-1.
unfoldable pub has_window : ℕ → ℕ → Bool
has_window c n = not (eqb (length (window_of c n)) 0)

-- How many windows the first `count` subframes complete, where the first one is subframe 0 of a frame: a window is complete when its
-- uplink subframe has come.
unfoldable pub windows_before : ℕ → ℕ → ℕ
windows_before c zero = 0
windows_before c (suc i) = windows_before c i + cond (has_window c (i % 10)) 1 0

-- The code's form: how many windows subframes 0 to n of a frame complete; 0 beyond it.
unfoldable pub complete_at : ℕ → ℕ → ℕ
complete_at c n = cond (leb n 9) (windows_before c (n + 1)) 0

-- The number in rows of them; 0 where they have none.
unfoldable pub complete_in : List (List ℕ) → ℕ → ℕ → ℕ
complete_in rows c n = get_or (get_or rows c []) n 0
