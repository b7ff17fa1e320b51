-- The code's form of the credited blocks: two sets of positions.
-- Assumes nothing.
use Rattle.std.specs.Prelude.{Result, ℕ, Bool, cond, eqb}
use Rattle.station.specs.declared.Reading.{Reading}
use Rattle.confirming.specs.declared.blocks.Blocks.{Blocks}
use Rattle.confirming.specs.declared.blocks.Positions.{Positions}
use Rattle.confirming.specs.Coded.{in_set}
use Rattle.credit.specs.Credit.{own_bit}

-- No position.
abbrev pub no_positions : Positions
no_positions = record { 0 = 0 }

-- Of the confirmed blocks those whose own bit is ACK.
unfoldable pub own_blocks : Result Reading ℕ → Blocks → Blocks
own_blocks read b = record { first = cond (own_bit read 0) b.first no_positions; second = cond (own_bit read 1) b.second no_positions }

-- The block at position m is one of these.
abbrev pub block_in : Blocks → ℕ → ℕ → Bool
block_in blocks m block = cond (eqb block 0) (in_set blocks.first.0 m) (in_set blocks.second.0 m)
