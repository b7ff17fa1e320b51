-- What a replay writes and what 23 counts: the windows that the records complete. U14 stands on it.
-- Assumes nothing.
use Rattle.std.specs.Prelude.{ℕ, ◌*◌, ◌≤◌, List, ◌≡◌, length}
use Rattle.counting.specs.Windows.{windows_before}
use Rattle.trace.specs.Trace.{settings_of}
use Rattle.replaying.specs.Replay.{played_in, output_needed}

-- Where no record is refused, the windows written are all that the records complete; where one is, they are those that the records
-- before it complete, and no more than all.
pub record WindowsCounted (l : List ℕ) : Type 0 where
  pub all : (played_in l).refusal ≡ 0 → length (played_in l).bytes ≡ output_needed l
  pub stopped : ((played_in l).refusal ≡ 0 → ⊥) → length (played_in l).bytes ≡ 8 * windows_before (settings_of l).config (played_in l).number
  pub most : length (played_in l).bytes ≤ output_needed l
