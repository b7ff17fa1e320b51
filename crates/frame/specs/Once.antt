-- Each downlink subframe is in exactly one window: document 00, demand 3, over the subframes 0, 1, 2, .. of an endless run.
-- Assumes nothing.
use Rattle.std.specs.Prelude.{ℕ, ◌+◌, ◌<◌, ◌%◌, ◌≡◌, length, get_or}
use Rattle.frame.specs.Table.{window_of}

-- Subframe d of the run stands at position m of the window of subframe s: d is s - k_m.
pub record InWindow (c s m d : ℕ) : Type 0 where
  pub position : m < length (window_of c (s % 10))
  pub distance : d + get_or (window_of c (s % 10)) m 0 ≡ s

-- There is a window with d in it, and no other, nor another position there.
pub record InExactlyOne (c d : ℕ) : Type 0 where
  pub uplink : ℕ
  pub position : ℕ
  pub inside : InWindow c uplink position d
  pub only : (s m : ℕ) → InWindow c s m d → (s ≡ uplink) × (m ≡ position)
