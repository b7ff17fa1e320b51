-- `frame::table::sizes_of` meets its contract: each digit is the M of the print's row. Assumes nothing.
use Prim.Native.Nat.{ℕ}
use mathlib.Core.Path.{refl}
use lib.ListN.{length}
use Rattle.frame.specs.Coded.{size_digits}
use Rattle.frame.specs.Table.{table, window_of}
use Rattle.frame.proofs.Rows.{digits_at}
use Rattle.frame.proofs.Windows.{outside_configurations}
use Rattle.frame.proofs.table.sizes_of.Goals as goal

pub returns : goal.returns
unfolding table window_of size_digits
returns c = digits_at (λ (c n : ℕ). length (window_of c n)) _ _ _ c.digits_in.ensures refl (λ c n h. rw (outside_configurations c n h))
