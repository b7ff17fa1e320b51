-- The loop that writes the records: what holds before a record, and what follows where it goes on and ends. Assumes nothing.
use Prim.Native.Nat.{ℕ, suc, ◌+◌, ◌-◌, ◌*◌, ◌≤◌, ◌<◌}
use mathlib.Core.List.{List, ◌++◌}
use mathlib.Core.Path.{◌≡◌, refl, ap, subst, ◌∙◌}
use native.Mathlib.Numerals.{add-one}
use native.Mathlib.Omega.{arith}
use lib.ListN.{length}
use Rattle.heard.specs.declared.Slot.{Slot}
use Rattle.reader.specs.declared.accepted.Trace.{Trace}
use Rattle.reader.specs.Record.{used_in, record_slot}
use Rattle.replaying.specs.Written.{put_at}
use Rattle.replaying.proofs.Putting.{put_none, put_more, length_put}
use Rattle.spelling.specs.Spelling.{slot_bytes, records_bytes}
use Rattle.spelling.specs.Writable.{Writable}
use Rattle.spelling.proofs.Putting.{records_length}

module _ (trace : Trace) (old : List ℕ) where
  abbrev l : List ℕ
  l = trace.bytes.now

  abbrev records : ℕ
  records = trace.records

  -- Before record i: with the records that are left, all would be written.
  pub record Putting (out : List ℕ) (i : ℕ) : Type 0 where
    pub same : length out ≡ length old
    pub left : put_at (18 + 4 * i) (records_bytes l i (records - i)) out ≡ put_at 18 (records_bytes l 0 records) old

  module _ (ready : Writable trace old) where
    pub begins : Putting old 0
    begins =
        let all : records - 0 ≡ records = omega arith in
        record { same = refl; left = rw all }

    module _ (out : List ℕ) (i : ℕ) (p : Putting out i) where
      -- No record is left.
      pub ends : i ≡ records → out ≡ put_at 18 (records_bytes l 0 records) old
      ends e =
          let none : records - i ≡ 0 = omega arith in
          put_none out (18 + 4 * i) ∙ rw none at p.left

      module _ (inside : i < records) (t : Slot) (read : t ≡ used_in (record_slot l i)) where
        room : 18 + 4 * i + 4 ≤ length out
        room = omega (arith, inside, p.same, ready.room)

        -- What is read of record i.
        bytes : slot_bytes t ++ records_bytes l (suc i) (records - suc i) ≡ records_bytes l i (records - i)
        bytes =
            let e : records - i ≡ suc (records - suc i) = omega (arith, inside) in
            rw (e, read)

        pub goes_on : (number : ℕ) → number ≡ i → (out′ : List ℕ) → out′ ≡ put_at (18 + 4 * number) (slot_bytes t) out → Putting out′ (i + 1)
        goes_on number this out′ put =
            let here : out′ ≡ put_at (18 + 4 * i) (slot_bytes t) out = rw this at put in
            let size = records_length l (suc i) (records - suc i) in
            let after : 18 + 4 * i + 4 ≡ 18 + 4 * suc i = omega arith in
            let rest : List ℕ = records_bytes l (suc i) (records - suc i) in
            let more = put_more out (18 + 4 * i) (slot_bytes t) (omega (arith, room)) rest (omega (arith, size, inside, p.same, ready.room)) in
            let there = subst (λ (k : ℕ). put_at k rest (put_at (18 + 4 * i) (slot_bytes t) out) ≡ put_at (18 + 4 * i) (slot_bytes t ++ rest) out) after more in
            record {
              same = ap length here ∙ length_put out (18 + 4 * i) (slot_bytes t) (omega (arith, room)) ∙ p.same;
              left = rw (add-one, here) (there ∙ ap (λ (b : List ℕ). put_at (18 + 4 * i) b out) bytes ∙ p.left);
            }
