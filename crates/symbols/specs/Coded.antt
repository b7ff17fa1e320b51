-- The code's form of the tables, of states and of symbols.
-- Assumes nothing.
use Rattle.std.specs.Prelude.{ℕ, zero, suc, ◌+◌, ◌*◌, ◌/◌, ◌%◌, ◌^◌, List, [], ◌∷◌, length}
use Rattle.symbols.specs.declared.State.{State}
use Rattle.symbols.specs.declared.State.TheVariants.{Ack, Nack, Dtx}
use Rattle.symbols.specs.declared.Symbol.{Symbol}
use Rattle.symbols.specs.declared.TableRow.{TableRow}
use Rattle.symbols.specs.Selection.{Row, row}

-- the row of the print that a row of source gives
abbrev pub printed : TableRow → Row
printed r = row r.cells.now r.says

-- the digit of a state
abbrev pub state_digit : State → ℕ
state_digit Ack = 0
state_digit Nack = 1
state_digit Dtx = 2

-- the state of a digit
abbrev pub state_at : ℕ → State
state_at zero = Ack
state_at (suc zero) = Nack
state_at (suc (suc d)) = Dtx

-- the number of a window's state: its digits in base 3, that of position 0 first
abbrev pub code_of : List State → ℕ
code_of [] = 0
code_of (s ∷ ss) = state_digit s * 3 ^ length ss + code_of ss

-- the states of n positions that a number gives; numbers that differ by 3^n give the same
abbrev pub states_of : ℕ → ℕ → List State
states_of zero code = []
states_of (suc n) code = state_at (code / 3 ^ n % 3) ∷ states_of n code

-- the symbol with a number: index × 4 + b0 × 2 + b1
abbrev pub symbol_at : ℕ → Symbol
symbol_at number = record { index = number / 4; b0 = number / 2 % 2; b1 = number % 2 }
