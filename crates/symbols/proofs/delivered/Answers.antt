-- `symbols::delivered` meets its contract: the code's sets are those that the symbols deliver. Assumes nothing.
use Prim.Native.Nat.{ℕ, ◌+◌, ◌-◌, ◌≤◌}
use mathlib.Core.List.{List, [], map}
use mathlib.Core.Path.{◌≡◌, refl, ap, ◌∙◌}
use native.Mathlib.Omega.{arith}
use lib.ListN.{get_or}
use borrow.Author.Rules.{rules}
use Rattle.std.proofs.Common.{Option, None}
use Rattle.std.proofs.lemmas.List.FromFn.{get_or-map-range_with_len}
use Rattle.std.specs.List.{range_with_len}
use Rattle.symbols.specs.Delivered.{in_some_row, delivered_at, delivered_set, delivery_of}
use Rattle.symbols.specs.Selection.{table2, table3, table4, table_of, symbol_of}
use Rattle.symbols.specs.declared.TheConstants.{DELIVERED}
use Rattle.symbols.proofs.delivered.Goals as goal

-- what the symbols deliver for M = m + 2, by index and bits
by_b1 : ℕ → ℕ → ℕ → List (Option ℕ)
by_b1 m i b0 = map (delivery_of (m + 2) i b0) (range_with_len 0 2)

by_b0 : ℕ → ℕ → List (List (Option ℕ))
by_b0 m i = map (by_b1 m i) (range_with_len 0 2)

by_index : ℕ → List (List (List (Option ℕ)))
by_index m = map (by_b0 m) (range_with_len 0 4)

tested : DELIVERED ≡ map by_index (range_with_len 0 3)
unfolding by_index by_b0 by_b1 delivery_of in_some_row delivered_at delivered_set symbol_of table_of table2 table3 table4
tested = refl

-- The table, read at M - 2, the index and the bits, gives what the symbol delivers.
read : (size i b0 b1 m j x y : ℕ) → (2 ≤ size) × (size ≤ 4) × (i ≤ 3) × (b0 ≤ 1) × (b1 ≤ 1) → m ≡ size - 2 → j ≡ i → x ≡ b0 → y ≡ b1
    → get_or (get_or (get_or (get_or DELIVERED m []) j []) x []) y None ≡ delivery_of size i b0 b1
unfolding by_index by_b0 by_b1
read size i b0 b1 m j x y h em ej ex ey =
    ap (λ (t : List (List (List (List (Option ℕ))))). get_or (get_or (get_or (get_or t m []) j []) x []) y None) tested
    ∙ ap (λ (t : List (List (List (Option ℕ)))). get_or (get_or (get_or t j []) x []) y None)
    (get_or-map-range_with_len by_index 0 3 m m [] (omega arith) (omega arith))
    ∙ ap (λ (t : List (List (Option ℕ))). get_or (get_or t x []) y None)
    (get_or-map-range_with_len (by_b0 m) 0 4 j i [] (omega arith) (omega arith))
    ∙ ap (λ (t : List (Option ℕ)). get_or t y None) (get_or-map-range_with_len (by_b1 m i) 0 2 x b0 [] (omega arith) (omega arith))
    ∙ get_or-map-range_with_len (delivery_of (m + 2) i b0) 0 2 y b1 None (omega arith) (omega arith)
    ∙ ap (λ (s : ℕ). delivery_of s i b0 b1) (omega arith)

pub returns : goal.returns
returns c = let a = c.args in
    rw c.deliveries.ensures
    (read a.size a.symbol.index a.symbol.b0 a.symbol.b1 _ _ _ _ (search rules) c.from.ensures c.from-2.ensures c.from-3.ensures c.from-4.ensures)
