-- The tables' rows, for M = 2, 3 and 4: each state fits one row; silent exactly where every position is D; the index is a position
-- that was heard, and a bit is 0 or 1. What the rows decide antt tests at every state, in the declarations named `..-tested`.
-- Assumes nothing.
use Prim.Native.Nat.{ℕ, ◌<◌, ◌≤◌}
use mathlib.Core.Bool.{Bool, true, false, not, ◌&&◌}
use mathlib.Core.List.{List, [], ◌∷◌}
use mathlib.Core.Logic.{◌↔◌}
use mathlib.Core.Path.{◌≡◌, refl}
use lib.Dec.{T, eqb, leb, ltb, lit<, lit≤, eqb→eq}
use lib.Ieee.Fits.{and_i, and_l, and_r}
use lib.ListN.{length, get_or}
use Rattle.std.proofs.Common.{Option, Some, None}
use Rattle.symbols.specs.declared.State.{State}
use Rattle.symbols.specs.declared.State.TheVariants.{Ack, Nack, Dtx}
use Rattle.symbols.specs.declared.Symbol.{Symbol}
use Rattle.symbols.specs.Selection.{symbol, table2, table3, table4, table_of, rows_fitting, symbol_of, AllDtx}
use Rattle.symbols.proofs.States.{every_window, window_passes, every_sent, sent_passes}

one_tested : T (every_window (λ t. eqb (rows_fitting t) 1))
unfolding every_window table2 table3 table4 table_of rows_fitting
one_tested = tt

-- Each state of a window fits exactly one row of its table.
pub one_row_holds : (ss : List State) → 2 ≤ length ss → length ss ≤ 4 → rows_fitting ss ≡ 1
one_row_holds ss low high = eqb→eq _ _ (window_passes _ one_tested ss low high)

abbrev is_dtx : State → Bool
is_dtx Ack = false
is_dtx Nack = false
is_dtx Dtx = true

is_dtx_holds : (s : State) → T (is_dtx s) → s ≡ Dtx
is_dtx_holds Ack t = absurd t
is_dtx_holds Nack t = absurd t
is_dtx_holds Dtx t = refl

abbrev all_dtx : List State → Bool
all_dtx [] = true
all_dtx (s ∷ ss) = is_dtx s && all_dtx ss

all_dtx_holds : (ss : List State) → T (all_dtx ss) → AllDtx ss
all_dtx_holds [] t = tt
all_dtx_holds (s ∷ ss) t = (is_dtx_holds s (and_l (is_dtx s) (all_dtx ss) t), all_dtx_holds ss (and_r (is_dtx s) (all_dtx ss) t))

dtx_all : (ss : List State) → AllDtx ss → T (all_dtx ss)
dtx_all [] d = tt
dtx_all (s ∷ ss) d = and_i (is_dtx s) (all_dtx ss) (rw d.0 tt) (dtx_all ss d.1)

-- silent where the test passes, and only there
abbrev silent_where : Bool → Option Symbol → Bool
silent_where b (Some y) = not b
silent_where b None = b

silent_where_holds : (b : Bool) (x : Option Symbol) → T b → T (silent_where b x) → x ≡ None
silent_where_holds true (Some y) h t = absurd t
silent_where_holds true None h t = refl
silent_where_holds false x h t = absurd h

silent_tested : T (every_window (λ t. silent_where (all_dtx t) (symbol_of t)))
unfolding every_window table2 table3 table4 table_of symbol_of
silent_tested = tt

-- Nothing is sent exactly where every position is D.
pub silent_exactly : (ss : List State) → 2 ≤ length ss → length ss ≤ 4 → (symbol_of ss ≡ None) ↔ AllDtx ss
silent_exactly ss low high =
    let t = window_passes _ silent_tested ss low high in
    (λ silent. all_dtx_holds ss (rw silent at t), λ d. silent_where_holds (all_dtx ss) (symbol_of ss) (dtx_all ss d) t)

size_tested : T (every_sent (λ t i b0 b1. leb 2 (length t) && leb (length t) 4))
unfolding every_window every_sent table2 table3 table4 table_of symbol_of
size_tested = tt

-- Only windows of 2 to 4 positions have symbols.
pub sent_size : (ss : List State) (i b0 b1 : ℕ) → symbol_of ss ≡ symbol i b0 b1 → (2 ≤ length ss) × (length ss ≤ 4)
sent_size ss i b0 b1 sent =
    let t = sent_passes _ size_tested ss i b0 b1 sent in
    (lit≤ (and_l (leb 2 (length ss)) (leb (length ss) 4) t), lit≤ (and_r (leb 2 (length ss)) (leb (length ss) 4) t))

index_tested : T (every_sent (λ t i b0 b1. ltb i (length t) && not (is_dtx (get_or t i Dtx))))
unfolding every_window every_sent table2 table3 table4 table_of symbol_of
index_tested = tt

-- The index is a position of the window, and that position was heard.
pub index_heard : (ss : List State) (i b0 b1 : ℕ) → symbol_of ss ≡ symbol i b0 b1 → (i < length ss) × (get_or ss i Dtx ≡ Dtx → ⊥)
index_heard ss i b0 b1 sent =
    let t = sent_passes _ index_tested ss i b0 b1 sent in
    let heard = and_r (ltb i (length ss)) (not (is_dtx (get_or ss i Dtx))) t in
    (lit< (and_l (ltb i (length ss)) (not (is_dtx (get_or ss i Dtx))) t), λ d. rw d at heard)

bits_tested : T (every_sent (λ t i b0 b1. leb b0 1 && leb b1 1))
unfolding every_window every_sent table2 table3 table4 table_of symbol_of
bits_tested = tt

-- The bits are 0 or 1.
pub bits_small : (ss : List State) (i b0 b1 : ℕ) → symbol_of ss ≡ symbol i b0 b1 → (b0 ≤ 1) × (b1 ≤ 1)
bits_small ss i b0 b1 sent =
    let t = sent_passes _ bits_tested ss i b0 b1 sent in
    (lit≤ (and_l (leb b0 1) (leb b1 1) t), lit≤ (and_r (leb b0 1) (leb b1 1) t))
