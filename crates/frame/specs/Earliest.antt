-- The earliest subframe of a window: document 02, U8, "its earliest downlink subframe".
-- Assumes nothing.
use Rattle.std.specs.Prelude.{ℕ, get_or}
use Rattle.frame.specs.Order.{times_of}
use Rattle.frame.specs.Table.{window_of}

-- How many subframes before n it is: the first k in time order, which is the largest and need not be k_0, which K as printed begins
-- with. 0 where n has no window.
unfoldable pub earliest_k : ℕ → ℕ → ℕ
earliest_k c n = get_or (times_of (window_of c n)) 0 0
