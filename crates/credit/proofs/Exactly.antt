-- What is credited and what is refused is what the words of specs/Exactly.antt say, both ways.
-- Assumes nothing.
use Rattle.std.proofs.Common.{Result, Ok}
use Prim.Native.Nat.{ℕ, ◌<◌, ◌≤◌}
use mathlib.Core.Bool.{true}
use mathlib.Core.List.{List}
use mathlib.Core.Logic.{inl, ◌↔◌}
use mathlib.Core.Path.{◌≡◌, refl}
use native.Mathlib.Decide.{ℕ_discrete}
use native.Mathlib.Omega.{arith}
use lib.ListN.{get_or}
use borrow.Author.Tests.{eqb-true, eq-eqb, ne_eqb}
use Rattle.std.proofs.lemmas.Bool.{and_parts}
use Rattle.station.specs.declared.Place.{Place}
use Rattle.station.specs.declared.Place.TheVariants as place
use Rattle.station.specs.declared.Reading.{Reading}
use Rattle.station.specs.declared.Reading.TheVariants as reading
use Rattle.confirmation.specs.declared.Send.{Send}
use Rattle.confirmation.specs.Confirmed.{confirmed}
use Rattle.confirmation.specs.Exactly.{Acknowledges, MultiplexedConfirmed}
use Rattle.confirmation.specs.Sent.{blocks_of}
use Rattle.confirmation.proofs.Confirmed.{bundled_exactly, block_exactly, multiplexed_exactly}
use Rattle.credit.specs.Credit.{own_bit, credited}
use Rattle.credit.specs.Exactly.{OwnBit, BundledCredited, BlockCredited, CreditedExactly}

-- A block's own bit.
own_says : (named : Place) (b0 b1 block : ℕ) → own_bit (Ok (reading.Bundled named b0 b1)) block ≡ true → OwnBit block b0 b1
own_says named b0 b1 block e = (
  λ first. eqb-true b0 1 (rw (eq-eqb block 0 first) at e),
  λ other. eqb-true b1 1 (rw (ne_eqb block 0 other) at e),
)

says_own : (named : Place) (b0 b1 block : ℕ) → OwnBit block b0 b1 → own_bit (Ok (reading.Bundled named b0 b1)) block ≡ true
says_own named b0 b1 block bit = go (ℕ_discrete block 0)
  where
    go : Dec (block ≡ 0) → own_bit (Ok (reading.Bundled named b0 b1)) block ≡ true
    go (yes first) = rw (eq-eqb block 0 first, eq-eqb b0 1 (bit.0 first))
    go (no other) = rw (ne_eqb block 0 other, eq-eqb b1 1 (bit.1 other))

-- A block whose own bit is ACK is acknowledged: a sole block is the first.
own_acknowledges : (x : Send) (block b0 b1 : ℕ) → block < blocks_of x → blocks_of x ≤ 2 → OwnBit block b0 b1 → Acknowledges x block b0 b1
own_acknowledges x block b0 b1 carries most bit = (
  λ two first. bit.0 first,
  λ two other. bit.1 other,
  λ one. inl (bit.0 (omega arith)),
)

module _ (ks : List ℕ) (sent : ℕ → Send) where
  pub split : (read : Result Reading ℕ) (m block : ℕ) → credited ks sent read m block ≡ true → (confirmed ks sent read m block ≡ true) × (own_bit read block ≡ true)
  unfolding credited
  split read m block e = and_parts (confirmed ks sent read m block) (own_bit read block) e

  join : (read : Result Reading ℕ) (m block : ℕ) → confirmed ks sent read m block ≡ true → own_bit read block ≡ true → credited ks sent read m block ≡ true
  unfolding credited
  join read m block e own = rw (e, own)

  bundled : (named c b0 b1 m block : ℕ) → blocks_of (sent (get_or ks m 0)) ≤ 2
      → (credited ks sent (Ok (reading.Bundled (place.Pdcch named (record { 0 = c })) b0 b1)) m block ≡ true) ↔ BundledCredited ks sent named c b0 b1 m block
  bundled named c b0 b1 m block most = (to, from)
    where
      to : credited ks sent (Ok (reading.Bundled (place.Pdcch named (record { 0 = c })) b0 b1)) m block ≡ true → BundledCredited ks sent named c b0 b1 m block
      to e =
          let p = split (Ok (reading.Bundled (place.Pdcch named (record { 0 = c })) b0 b1)) m block e in
          let b = (bundled_exactly ks sent named c b0 b1 m block).0 p.0 in
          record {
            there = b.there;
            inside = b.inside;
            pdcch = b.pdcch;
            carries = b.carries;
            up_to = b.up_to;
            bit = own_says (place.Pdcch named (record { 0 = c })) b0 b1 block p.1;
          }

      from : BundledCredited ks sent named c b0 b1 m block → credited ks sent (Ok (reading.Bundled (place.Pdcch named (record { 0 = c })) b0 b1)) m block ≡ true
      from b =
          join (Ok (reading.Bundled (place.Pdcch named (record { 0 = c })) b0 b1)) m block
          ((bundled_exactly ks sent named c b0 b1 m block).1
          (record {
            there = b.there;
            inside = b.inside;
            pdcch = b.pdcch;
            carries = b.carries;
            up_to = b.up_to;
            bits = own_acknowledges (sent (get_or ks m 0)) block b0 b1 b.carries most b.bit;
          }))
          (says_own (place.Pdcch named (record { 0 = c })) b0 b1 block b.bit)

  block_alone_holds : (named b0 b1 m block : ℕ) → blocks_of (sent (get_or ks m 0)) ≤ 2
      → (credited ks sent (Ok (reading.Bundled (place.Block named) b0 b1)) m block ≡ true) ↔ BlockCredited ks sent named b0 b1 m block
  block_alone_holds named b0 b1 m block most = (to, from)
    where
      to : credited ks sent (Ok (reading.Bundled (place.Block named) b0 b1)) m block ≡ true → BlockCredited ks sent named b0 b1 m block
      to e =
          let p = split (Ok (reading.Bundled (place.Block named) b0 b1)) m block e in
          let b = (block_exactly ks sent named b0 b1 m block).0 p.0 in
          record { there = b.there; inside = b.inside; same = b.same; carries = b.carries; bit = own_says (place.Block named) b0 b1 block p.1 }

      from : BlockCredited ks sent named b0 b1 m block → credited ks sent (Ok (reading.Bundled (place.Block named) b0 b1)) m block ≡ true
      from b =
          join (Ok (reading.Bundled (place.Block named) b0 b1)) m block
          ((block_exactly ks sent named b0 b1 m block).1
          (record {
            there = b.there;
            inside = b.inside;
            same = b.same;
            carries = b.carries;
            bits = own_acknowledges (sent (get_or ks m 0)) block b0 b1 b.carries most b.bit;
          }))
          (says_own (place.Block named) b0 b1 block b.bit)

  multiplexed : (named : Place) (positions m block : ℕ)
      → (credited ks sent (Ok (reading.Multiplexed named positions)) m block ≡ true) ↔ MultiplexedConfirmed ks sent named positions m block
  multiplexed named positions m block = (
    λ e. (multiplexed_exactly ks sent named positions m block).0 (split (Ok (reading.Multiplexed named positions)) m block e).0,
    λ b. join (Ok (reading.Multiplexed named positions)) m block ((multiplexed_exactly ks sent named positions m block).1 b) refl,
  )

  pub credited_exactly : CreditedExactly ks sent
  credited_exactly =
      record {
        bundled = bundled;
        block = block_alone_holds;
        multiplexed = multiplexed;
        is_confirmed = λ read m block e. (split read m block e).0;
      }
