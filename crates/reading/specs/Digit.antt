-- An input that is one digit, as the programs `windows` and `game` take it.
-- Assumes nothing.
use Rattle.std.specs.Prelude.{Option, Some, None, ℕ, ◌-◌, cond, ◌&&◌, List, eqb, leb, length, get_or}

-- The digit that an input is: one of 0 to 9 (48 to 57) and a newline (10), nothing more.
unfoldable pub digit_in : List ℕ → Option ℕ
digit_in input =
    cond (eqb (length input) 2 && leb 48 (get_or input 0 0) && leb (get_or input 0 0) 57 && eqb (get_or input 1 0) 10)
    (Some (get_or input 0 0 - 48))
    None
