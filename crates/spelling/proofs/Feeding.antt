-- The loop over the records without an output: what holds before a record, and what follows where it goes on, stops and ends.
-- Assumes nothing.
use Prim.Native.Nat.{ℕ, suc, ◌+◌, ◌-◌, ◌<◌}
use mathlib.Core.List.{List, ◌∷◌}
use mathlib.Core.Path.{◌≡◌, ap}
use native.Mathlib.Numerals.{add-one}
use native.Mathlib.Omega.{arith}
use lib.Dec.{eqb-suc-zero}
use Rattle.std.proofs.Common.{Ok, Err}
use Rattle.frame.specs.Refusals.{number_in}
use Rattle.frame.proofs.Refused.{from_one}
use Rattle.heard.specs.declared.Slot.{Slot}
use Rattle.heard.specs.Memory.{heard_in}
use Rattle.handset.specs.declared.Handset.{Handset}
use Rattle.handset.specs.Feed.{feed_of}
use Rattle.reader.specs.declared.accepted.Trace.{Trace}
use Rattle.reader.specs.Record.{used_in, record_slot}
use Rattle.replaying.specs.declared.stop.Stop.{Stop as Ending}
use Rattle.replaying.specs.declared.stop.Stop.TheVariants.{Refused, AtRecord}
use Rattle.replaying.specs.Ended.{TakesRecord}
use Rattle.replaying.specs.Replay.{brought_from, brought_in, played, ended_as}
use Rattle.replaying.proofs.Brought.{brought_next}
use Rattle.spelling.specs.Writing.{Stop, stop_in, stopped_by}

module _ (trace : Trace) (h₀ : Handset) where
  abbrev l : List ℕ
  l = trace.bytes.now

  abbrev records : ℕ
  records = trace.records

  -- Where all feeds stop.
  abbrev whole : Stop
  whole = stop_in (ended_as (played h₀ 0 (brought_in l)))

  -- Before record i: the feeds that are left stop where all would.
  pub record Feeding (h : Handset) (i : ℕ) : Type 0 where
    pub left : stop_in (ended_as (played h i (brought_from l i (records - i)))) ≡ whole

  pub begins : Feeding h₀ 0
  unfolding brought_in
  begins =
      let all : records - 0 ≡ records = omega arith in
      record { left = rw all (ap (λ (count : ℕ). stop_in (ended_as (played h₀ 0 (brought_from l 0 count)))) trace.counted) }

  module _ (h : Handset) (i : ℕ) (p : Feeding h i) where
    -- No record is left.
    pub ends : i ≡ records → stopped_by {T = Unit {0}} (Ok tt) ≡ whole
    unfolding played
    ends e =
        let none : records - i ≡ 0 = omega arith in
        rw none at p.left

    module _ (inside : i < records) (t : Slot) (read : t ≡ used_in (record_slot l i)) where
      brings : brought_from l i (records - i) ≡ heard_in t ∷ brought_from l (suc i) (records - suc i)
      brings = brought_next l records i inside t read

      -- The record is refused.
      pub stops : (number : ℕ) → number ≡ i → (stop : Ending) → TakesRecord number (Err stop) (number_in (feed_of h (heard_in t)).answer)
          → stopped_by {T = Unit {0}} (Err stop) ≡ whole
      unfolding played
      stops number same (Refused k) f = absurd f
      stops number same (AtRecord k j) f =
          let one = from_one k in
          rw (one.1, f.1, same) (rw (brings, f.0, one.1, eqb-suc-zero one.0) at p.left)

      -- It is not.
      pub goes_on : TakesRecord i (Ok tt) (number_in (feed_of h (heard_in t)).answer) → (h′ : Handset) → h′ ≡ (feed_of h (heard_in t)).handset → Feeding h′ (i + 1)
      unfolding played
      goes_on f h′ fed = rw fed (record { left = rw add-one (rw (brings, f) at p.left) })
