-- What a reading confirms, in words. proofs/Confirmed.antt shows of each kind of reading that `confirmed` is exactly this, both ways.
-- Assumes nothing.
use Rattle.std.specs.Prelude.{ℕ, ◌/◌, ◌%◌, ◌^◌, ◌<◌, ◌≤◌, true, List, ◌⊎◌, ◌≡◌, length, get_or}
use Rattle.frame.specs.Order.{times_of}
use Rattle.station.specs.declared.Place.{Place}
use Rattle.station.specs.declared.Place.TheVariants as place
use Rattle.confirmation.specs.declared.Send.{Send}
use Rattle.confirmation.specs.Confirmed.{sent_up_to}
use Rattle.confirmation.specs.Sent.{is_pdcch, is_block, blocks_of, has_cce}

-- What the reading names was sent there: a PDCCH with that first CCE, or a scheduled block.
abbrev pub WasSent : List ℕ → (ℕ → Send) → Place → Type 0
WasSent ks sent (place.Pdcch m c) = (m < length ks) × (has_cce (sent (get_or ks m 0)) c.0 ≡ true)
WasSent ks sent (place.Block m) = (m < length ks) × (is_block (sent (get_or ks m 0)) ≡ true)

-- The bits acknowledge a block of what was sent: of two blocks bit 0 the first and bit 1 the second; of a sole block, whose result
-- stands for both, either bit.
abbrev pub Acknowledges : Send → ℕ → ℕ → ℕ → Type 0
Acknowledges x block b0 b1 =
    (blocks_of x ≡ 2 → block ≡ 0 → b0 ≡ 1)
    × (blocks_of x ≡ 2 → (block ≡ 0 → ⊥) → b1 ≡ 1)
    × ((blocks_of x ≡ 2 → ⊥) → (b0 ≡ 1) ⊎ (b1 ≡ 1))

-- What an ACK that names a PDCCH confirms: the PDCCH was sent, with that first CCE; the block is one that the PDCCH at position m
-- carries; that PDCCH is the named one, or one before it in time where at most four were sent up to and with the named one; and the
-- bits acknowledge the block.
pub record BundledConfirmed (ks : List ℕ) (sent : ℕ → Send) (named c b0 b1 m block : ℕ) : Type 0 where
  pub there : WasSent ks sent (place.Pdcch named (record { 0 = c }))
  pub inside : m < length ks
  pub pdcch : is_pdcch (sent (get_or ks m 0)) ≡ true
  pub carries : block < blocks_of (sent (get_or ks m 0))
  pub up_to : (get_or ks m 0 ≡ get_or ks named 0) ⊎ ((sent_up_to sent (get_or ks named 0) (times_of ks) ≤ 4) × (get_or ks named 0 ≤ get_or ks m 0))
  pub bits : Acknowledges (sent (get_or ks m 0)) block b0 b1

-- What an ACK that names the scheduled block confirms: that block was sent; position m is the same subframe; the block is one that
-- it carries, and the bits acknowledge it.
pub record BlockConfirmed (ks : List ℕ) (sent : ℕ → Send) (named b0 b1 m block : ℕ) : Type 0 where
  pub there : WasSent ks sent (place.Block named)
  pub inside : m < length ks
  pub same : get_or ks m 0 ≡ get_or ks named 0
  pub carries : block < blocks_of (sent (get_or ks m 0))
  pub bits : Acknowledges (sent (get_or ks m 0)) block b0 b1

-- What a multiplexed reading confirms: what it names was sent; the block is one that what was sent at a delivered position carries.
pub record MultiplexedConfirmed (ks : List ℕ) (sent : ℕ → Send) (named : Place) (positions m block : ℕ) : Type 0 where
  pub there : WasSent ks sent named
  pub inside : m < length ks
  pub carries : block < blocks_of (sent (get_or ks m 0))
  pub delivered : positions / 2 ^ m % 2 ≡ 1
