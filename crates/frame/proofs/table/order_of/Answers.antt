-- `frame::table::order_of` meets its contract: each list is the time order of the print's row. Assumes nothing.
use Prim.Native.Nat.{ℕ}
use mathlib.Core.Path.{refl}
use Rattle.frame.specs.Order.{times_of, order_of}
use Rattle.frame.specs.Table.{table, window_of}
use Rattle.frame.proofs.Rows.{list_at}
use Rattle.frame.proofs.Windows.{outside_configurations, outside_subframes}
use Rattle.frame.proofs.table.order_of.Goals as goal

pub returns : goal.returns
unfolding table window_of times_of order_of
returns c =
    list_at (λ (c n : ℕ). order_of (window_of c n)) _ _ _ _ c.list_in.ensures refl (λ c n h. rw (outside_configurations c n h))
    (λ c n h. rw (outside_subframes c n h))
