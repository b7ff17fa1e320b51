-- Channel selection: document 01, "The multiplexed reply", with Tables 10.1-2 to 10.1-4 of TS 36.213 in the print's form and row
-- order, N/A rows included.
-- Assumes nothing.
use Rattle.std.specs.Prelude.{ℕ, zero, suc, Bool, true, false, cond, ◌&&◌, List, [], ◌∷◌, Option, Some, None, ◌≡◌, eqb, length}
use Rattle.symbols.specs.declared.Cell.{Cell}
use Rattle.symbols.specs.declared.Cell.TheVariants as cell
use Rattle.symbols.specs.declared.State.{State}
use Rattle.symbols.specs.declared.State.TheVariants.{Ack, Nack, Dtx}
use Rattle.symbols.specs.declared.Symbol.{Symbol}

-- What a row has for a position: a cell as the print spells it; "NACK/DTX" is 01's "N or D".
abbrev pub ACK : Cell
ACK = cell.Ack

abbrev pub NACK : Cell
NACK = cell.Nack

abbrev pub DTX : Cell
DTX = cell.Dtx

abbrev pub NACK/DTX : Cell
NACK/DTX = cell.NackDtx

-- 01's states A, N and D against a cell.
abbrev pub fits : Cell → State → Bool
fits cell.Ack Ack = true
fits cell.Ack Nack = false
fits cell.Ack Dtx = false
fits cell.Nack Ack = false
fits cell.Nack Nack = true
fits cell.Nack Dtx = false
fits cell.Dtx Ack = false
fits cell.Dtx Nack = false
fits cell.Dtx Dtx = true
fits cell.NackDtx Ack = false
fits cell.NackDtx Nack = true
fits cell.NackDtx Dtx = true

-- A row: the cells of HARQ-ACK(0), HARQ-ACK(1), .., then what is sent: index i and bits b0 b1, or N/A.
pub record Row : Type 0 where
  pub cells : List Cell
  pub says : Option Symbol

abbrev pub row : List Cell → Option Symbol → Row
row cells says = record { cells = cells; says = says }

-- The symbol (index i, b0 b1), which is sent; of N/A nothing is.
abbrev pub symbol : ℕ → ℕ → ℕ → Option Symbol
symbol i b0 b1 = Some (record { index = i; b0 = b0; b1 = b1 })

abbrev pub N/A : Option Symbol
N/A = None

-- Table 10.1-2: M = 2
unfoldable pub table2 : List Row
table2 =
    row (ACK ∷ ACK ∷ []) (symbol 1 1 1)
    ∷ row (ACK ∷ NACK/DTX ∷ []) (symbol 0 0 1)
    ∷ row (NACK/DTX ∷ ACK ∷ []) (symbol 1 0 0)
    ∷ row (NACK/DTX ∷ NACK ∷ []) (symbol 1 1 0)
    ∷ row (NACK ∷ DTX ∷ []) (symbol 0 1 0)
    ∷ row (DTX ∷ DTX ∷ []) N/A
    ∷ []

-- Table 10.1-3: M = 3; the list of document 01 leaves its N/A row out
unfoldable pub table3 : List Row
table3 =
    row (ACK ∷ ACK ∷ ACK ∷ []) (symbol 2 1 1)
    ∷ row (ACK ∷ ACK ∷ NACK/DTX ∷ []) (symbol 1 1 1)
    ∷ row (ACK ∷ NACK/DTX ∷ ACK ∷ []) (symbol 0 1 1)
    ∷ row (ACK ∷ NACK/DTX ∷ NACK/DTX ∷ []) (symbol 0 0 1)
    ∷ row (NACK/DTX ∷ ACK ∷ ACK ∷ []) (symbol 2 1 0)
    ∷ row (NACK/DTX ∷ ACK ∷ NACK/DTX ∷ []) (symbol 1 0 0)
    ∷ row (NACK/DTX ∷ NACK/DTX ∷ ACK ∷ []) (symbol 2 0 0)
    ∷ row (DTX ∷ DTX ∷ NACK ∷ []) (symbol 2 0 1)
    ∷ row (DTX ∷ NACK ∷ NACK/DTX ∷ []) (symbol 1 1 0)
    ∷ row (NACK ∷ NACK/DTX ∷ NACK/DTX ∷ []) (symbol 0 1 0)
    ∷ row (DTX ∷ DTX ∷ DTX ∷ []) N/A
    ∷ []

-- Table 10.1-4: M = 4
unfoldable pub table4 : List Row
table4 =
    row (ACK ∷ ACK ∷ ACK ∷ ACK ∷ []) (symbol 1 1 1)
    ∷ row (ACK ∷ ACK ∷ ACK ∷ NACK/DTX ∷ []) (symbol 1 1 0)
    ∷ row (NACK/DTX ∷ NACK/DTX ∷ NACK ∷ DTX ∷ []) (symbol 2 1 1)
    ∷ row (ACK ∷ ACK ∷ NACK/DTX ∷ ACK ∷ []) (symbol 1 1 0)
    ∷ row (NACK ∷ DTX ∷ DTX ∷ DTX ∷ []) (symbol 0 1 0)
    ∷ row (ACK ∷ ACK ∷ NACK/DTX ∷ NACK/DTX ∷ []) (symbol 1 1 0)
    ∷ row (ACK ∷ NACK/DTX ∷ ACK ∷ ACK ∷ []) (symbol 3 0 1)
    ∷ row (NACK/DTX ∷ NACK/DTX ∷ NACK/DTX ∷ NACK ∷ []) (symbol 3 1 1)
    ∷ row (ACK ∷ NACK/DTX ∷ ACK ∷ NACK/DTX ∷ []) (symbol 2 0 1)
    ∷ row (ACK ∷ NACK/DTX ∷ NACK/DTX ∷ ACK ∷ []) (symbol 0 0 1)
    ∷ row (ACK ∷ NACK/DTX ∷ NACK/DTX ∷ NACK/DTX ∷ []) (symbol 0 1 1)
    ∷ row (NACK/DTX ∷ ACK ∷ ACK ∷ ACK ∷ []) (symbol 3 0 1)
    ∷ row (NACK/DTX ∷ NACK ∷ DTX ∷ DTX ∷ []) (symbol 1 0 0)
    ∷ row (NACK/DTX ∷ ACK ∷ ACK ∷ NACK/DTX ∷ []) (symbol 2 1 0)
    ∷ row (NACK/DTX ∷ ACK ∷ NACK/DTX ∷ ACK ∷ []) (symbol 3 1 0)
    ∷ row (NACK/DTX ∷ ACK ∷ NACK/DTX ∷ NACK/DTX ∷ []) (symbol 1 0 1)
    ∷ row (NACK/DTX ∷ NACK/DTX ∷ ACK ∷ ACK ∷ []) (symbol 3 0 1)
    ∷ row (NACK/DTX ∷ NACK/DTX ∷ ACK ∷ NACK/DTX ∷ []) (symbol 2 0 0)
    ∷ row (NACK/DTX ∷ NACK/DTX ∷ NACK/DTX ∷ ACK ∷ []) (symbol 3 0 0)
    ∷ row (DTX ∷ DTX ∷ DTX ∷ DTX ∷ []) N/A
    ∷ []

-- The table for M; none for another M.
unfoldable pub table_of : ℕ → List Row
table_of size = cond (eqb size 2) table2 (cond (eqb size 3) table3 (cond (eqb size 4) table4 []))

-- The states fit the cells of a row, each in its place.
abbrev pub fits_all : List Cell → List State → Bool
fits_all [] [] = true
fits_all [] (s ∷ ss) = false
fits_all (c ∷ cs) [] = false
fits_all (c ∷ cs) (s ∷ ss) = fits c s && fits_all cs ss

-- What the first row that fits says; silent where no row does.
abbrev pub said_in : List Row → List State → Option Symbol
said_in [] ss = None
said_in (r ∷ rs) ss = cond (fits_all r.cells ss) r.says (said_in rs ss)

-- The symbol of a window's state, the states of its M positions in the order of K as printed.
unfoldable pub symbol_of : List State → Option Symbol
symbol_of ss = said_in (table_of (length ss)) ss

-- The rows of a table that fit the states, counted.
abbrev pub fitting_in : List Row → List State → ℕ
fitting_in [] ss = zero
fitting_in (r ∷ rs) ss = cond (fits_all r.cells ss) (suc (fitting_in rs ss)) (fitting_in rs ss)

-- How many rows of the table for M fit the state of a window of M positions.
unfoldable pub rows_fitting : List State → ℕ
rows_fitting ss = fitting_in (table_of (length ss)) ss

-- Every position is D.
abbrev pub AllDtx : List State → Type 0
AllDtx [] = Unit {0}
AllDtx (s ∷ ss) = (s ≡ Dtx) × AllDtx ss
