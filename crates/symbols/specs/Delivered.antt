-- What a symbol tells the station: document 01, "The station's reading". The set of positions that are A in every state whose
-- symbol this is, as an intersection over all 3^M states; no table of sets.
-- Assumes nothing.
use Rattle.std.specs.Prelude.{ℕ, zero, suc, ◌+◌, ◌*◌, Bool, true, false, cond, not, ◌&&◌, ◌||◌, List, [], ◌∷◌, Option, Some, None, eqb, get_or}
use Rattle.symbols.specs.declared.State.{State}
use Rattle.symbols.specs.declared.State.TheVariants.{Ack, Nack, Dtx}
use Rattle.symbols.specs.declared.Symbol.{Symbol}
use Rattle.symbols.specs.Selection.{symbol_of}

-- The test passes for each of the 3^M states of M positions.
abbrev pub every_state : ℕ → (List State → Bool) → Bool
every_state zero f = f []
every_state (suc n) f =
    every_state n (λ (t : List State). f (Ack ∷ t))
    && every_state n (λ (t : List State). f (Nack ∷ t))
    && every_state n (λ (t : List State). f (Dtx ∷ t))

-- The state's symbol is (index i, b0 b1).
abbrev pub is_symbol : Option Symbol → ℕ → ℕ → ℕ → Bool
is_symbol (Some y) i b0 b1 = eqb y.index i && eqb y.b0 b0 && eqb y.b1 b1
is_symbol None i b0 b1 = false

-- The state is A.
abbrev pub is_ack : State → Bool
is_ack Ack = true
is_ack Nack = false
is_ack Dtx = false

-- Some state of M positions sends the symbol: it stands in a row.
unfoldable pub in_some_row : ℕ → ℕ → ℕ → ℕ → Bool
in_some_row size i b0 b1 = not (every_state size (λ (t : List State). not (is_symbol (symbol_of t) i b0 b1)))

-- Position p is A in every state of M positions that sends the symbol.
unfoldable pub delivered_at : ℕ → ℕ → ℕ → ℕ → ℕ → Bool
delivered_at size i b0 b1 p = every_state size (λ (t : List State). not (is_symbol (symbol_of t) i b0 b1) || is_ack (get_or t p Dtx))

-- A set of positions as a number: bit p is set for position p, p below n.
abbrev pub set_of : ℕ → (ℕ → Bool) → ℕ
set_of zero f = 0
set_of (suc n) f = cond (f zero) 1 0 + 2 * set_of n (λ (p : ℕ). f (suc p))

-- The positions that the symbol delivers.
unfoldable pub delivered_set : ℕ → ℕ → ℕ → ℕ → ℕ
delivered_set size i b0 b1 = set_of size (delivered_at size i b0 b1)

-- What the station reads from a symbol: that set; nothing of a symbol that is in no row.
unfoldable pub delivery_of : ℕ → ℕ → ℕ → ℕ → Option ℕ
delivery_of size i b0 b1 = cond (in_some_row size i b0 b1) (Some (delivered_set size i b0 b1)) None
