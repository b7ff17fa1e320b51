-- The earliest subframe of a window, which is first in time order: how far before n it is.
-- Assumes nothing.
use Prim.Native.Nat.{ℕ, ◌<◌, ◌≤◌}
use mathlib.Core.Path.{◌≡◌}
use lib.Dec.{T, leb, lit≤}
use lib.ListN.{length, get_or}
use Rattle.frame.specs.Earliest.{earliest_k}
use Rattle.frame.specs.Order.{times_of}
use Rattle.frame.specs.Table.{table, window_of}
use Rattle.frame.proofs.Windows.{every_row, every_position, window_passes, position_passes, outside_configurations, outside_subframes}

most_tested : T (every_row (λ c n ks. leb (get_or (times_of ks) 0 0) 13) table)
unfolding table times_of
most_tested = tt

-- No window begins more than 13 subframes before it is answered.
pub earliest_most : (c n : ℕ) → earliest_k c n ≤ 13
unfolding earliest_k times_of
earliest_most c n = lit≤ (window_passes _ most_tested c n tt)

least_tested : T (every_position (λ c n ks m. leb 1 (get_or (times_of ks) 0 0)) table)
unfolding table times_of
least_tested = tt

-- A window begins before the subframe that answers it.
pub earliest_least : (c n : ℕ) → 0 < length (window_of c n) → 1 ≤ earliest_k c n
unfolding earliest_k
earliest_least c n some = lit≤ (position_passes _ least_tested c n 0 some)

-- 0 where there is no window: for a subframe over 9, and for a configuration over 6.
pub none_outside : (c n : ℕ) → 9 < n → 0 ≡ earliest_k c n
unfolding earliest_k times_of
none_outside c n h = rw (outside_subframes c n h)

pub no_earliest : (c n : ℕ) → 6 < c → earliest_k c n ≡ 0
unfolding earliest_k times_of
no_earliest c n h = rw (outside_configurations c n h)
