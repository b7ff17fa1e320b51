-- The column of a block is one of the table's.
-- Assumes nothing.
use Prim.Native.Nat.{ℕ, ◌<◌}
use mathlib.Core.Bool.{Bool, true, false}
use native.Mathlib.Omega.{arith}
use Rattle.sizes.specs.Table.{table_column}

pub column_inside : (n : ℕ) (special : Bool) → 0 < n → n < 111 → (0 < table_column n special) × (table_column n special < 111)
unfolding table_column
column_inside n true l h = (omega arith, omega arith)
column_inside n false l h = (l, h)
