-- Which blocks a station may take for decoded. It knows K of the window, what it SENT in the window's subframes and its reading of
-- the reply; what the handset heard is asked nowhere. That each confirmed block was heard and decoded, in every run of demand 3, is
-- proved in agreement/proofs/Conclusions.antt.
-- `sent k` is what was sent k subframes before the reply; `ks` is K as printed; a position m stands for subframe n - k_m; block 0
-- is a grant's or a scheduled block's first or only one, block 1 its second. Document 02, U1.
-- Assumes nothing.
use Rattle.std.specs.Prelude.{Result, Ok, Err, ℕ, ◌+◌, ◌/◌, ◌%◌, ◌^◌, Bool, false, cond, ◌&&◌, ◌||◌, List, [], ◌∷◌, eqb, leb, ltb, length, get_or}
use Rattle.frame.specs.Order.{times_of}
use Rattle.station.specs.declared.Place.{Place}
use Rattle.station.specs.declared.Place.TheVariants as place
use Rattle.station.specs.declared.Reading.{Reading}
use Rattle.station.specs.declared.Reading.TheVariants as reading
use Rattle.confirmation.specs.declared.Send.{Send}
use Rattle.confirmation.specs.Sent.{is_pdcch, is_block, blocks_of, has_cce}

-- What the reading names was sent: at position m a PDCCH with first CCE c, or a scheduled block.
abbrev pub named_sent : List ℕ → (ℕ → Send) → Place → Bool
named_sent ks sent (place.Pdcch m c) = ltb m (length ks) && has_cce (sent (get_or ks m 0)) c.0
named_sent ks sent (place.Block m) = ltb m (length ks) && is_block (sent (get_or ks m 0))

-- Of the k of a list, the PDCCHs sent up to and with k ago, releases counted: time order is k falling.
abbrev pub sent_up_to : (ℕ → Send) → ℕ → List ℕ → ℕ
sent_up_to sent k [] = 0
sent_up_to sent k (j ∷ ts) = cond (leb k j && is_pdcch (sent j)) 1 0 + sent_up_to sent k ts

-- A PDCCH was sent k ago, and a reply that names the one of `named` ago speaks for it: for that one; and, if at most four PDCCHs of
-- the window were sent up to and with it, for those before it, of which then none was lost.
abbrev pub speaks_for : List ℕ → (ℕ → Send) → ℕ → ℕ → Bool
speaks_for ks sent named k =
    is_pdcch (sent k) && (eqb k named || (leb (sent_up_to sent named (times_of ks)) 4 && leb named k))

-- A bundled ACK with that name holds for what was sent k ago: of a scheduled block for that block alone, of a PDCCH for no scheduled
-- block.
abbrev pub holds_for : List ℕ → (ℕ → Send) → Place → ℕ → Bool
holds_for ks sent (place.Pdcch m c) k = speaks_for ks sent (get_or ks m 0) k
holds_for ks sent (place.Block m) k = eqb k (get_or ks m 0)

-- The bits acknowledge the block: bit 0 the first, bit 1 the second, and either a sole block, whose result stands for both.
abbrev pub acknowledged : Send → ℕ → ℕ → ℕ → Bool
acknowledged x block b0 b1 = cond (eqb (blocks_of x) 2) (cond (eqb block 0) (eqb b0 1) (eqb b1 1)) (eqb b0 1 || eqb b1 1)

-- The reading acknowledges the block at position m. A bundled one by its bits; a multiplexed one by its set of
-- delivered positions, in which each carried block was decoded.
abbrev pub says_ack : List ℕ → (ℕ → Send) → Result Reading ℕ → ℕ → ℕ → Bool
says_ack ks sent (Ok (reading.Bundled named b0 b1)) m block =
    named_sent ks sent named && holds_for ks sent named (get_or ks m 0) && acknowledged (sent (get_or ks m 0)) block b0 b1
says_ack ks sent (Ok (reading.Multiplexed named positions)) m block = named_sent ks sent named && eqb (positions / 2 ^ m % 2) 1
says_ack ks sent (Err k) m block = false

-- The reading confirms the block at position m of the window: what was sent there carries it, and it is acknowledged.
unfoldable pub confirmed : List ℕ → (ℕ → Send) → Result Reading ℕ → ℕ → ℕ → Bool
confirmed ks sent read m block = ltb m (length ks) && ltb block (blocks_of (sent (get_or ks m 0))) && says_ack ks sent read m block
