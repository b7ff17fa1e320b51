-- What is written reads back: the header, the settings, each record, and so what its replay brings. Assumes nothing.
use Rattle.std.proofs.Common.{Some, Ok}
use Prim.Native.Nat.{ℕ, zero, suc, ◌+◌, ◌-◌, ◌*◌, ◌/◌, ◌%◌, ◌≤◌, ◌<◌}
use mathlib.Core.List.{List, ◌++◌}
use mathlib.Core.Path.{◌≡◌, refl, sym, ap, subst, ◌∙◌}
use native.Mathlib.Nat.{add-zero, zero-add}
use native.Mathlib.Decide.{dec_le}
use native.Mathlib.Omega.{arith}
use lib.ListN.{length, get_or, drop}
use lib.Seq.{get_or-drop, drop-drop}
use borrow.Author.Tests.{le-ltb}
use Rattle.frame.specs.declared.Settings.{Settings}
use Rattle.frame.proofs.Accepted.{neither}
use Rattle.heard.specs.declared.Slot.{Slot}
use Rattle.heard.specs.Memory.{heard_in}
use Rattle.trace.specs.declared.Header.{Header}
use Rattle.trace.specs.Exactly.{PartsFit}
use Rattle.trace.specs.Trace.{byte_at, number_at, header_of, settings_at, settings_of, parts_refusal, place_of, trace_refusal}
use Rattle.trace.proofs.Exactly.{exactly}
use Rattle.reader.specs.Record.{slot_at, used_in, brought_by, record_slot, brought_at, record_of}
use Rattle.reader.proofs.Given.{record_read_holds}
use Rattle.replaying.specs.Replay.{brought_from, brought_in, played_in}
use Rattle.spelling.specs.Spelling.{spelled_size, header_bytes, settings_bytes, slot_bytes, records_bytes, spelling_of}
use Rattle.spelling.proofs.Answers.{spelling_length}
use Rattle.spelling.proofs.Using.{used_again, known_kind}

-- A number from its two bytes.
two_bytes : (n : ℕ) → n % 256 + 256 * (n / 256) ≡ n
two_bytes n = omega arith

-- The header and the settings, whatever comes behind them.
header_read : (r : ℕ) (rest : List ℕ) → header_of (header_bytes r ++ rest) ≡ record { records = r; first = 18; settings = 8; size = spelled_size r }
unfolding header_of number_at header_bytes
header_read r rest = rw (two_bytes r, two_bytes (spelled_size r))

-- Settings of one antenna port: those of every trace.
abbrev one_port : Settings → Settings
one_port s =
    record {
      config = s.config;
      nrb = s.nrb;
      n1 = s.n1;
      mode = s.mode;
      blocks = s.blocks;
      scheduled = s.scheduled;
      prefix = s.prefix;
      special = s.special;
      ports = 1;
    }

settings_read : (r : ℕ) (s : Settings) (rest : List ℕ) → settings_at (header_bytes r ++ (settings_bytes s ++ rest)) 8 ≡ one_port s
unfolding settings_at number_at header_bytes settings_bytes
settings_read r s rest = rw (two_bytes s.n1, two_bytes s.scheduled)

-- Four bytes at a place are a record.
slot_read : (l : List ℕ) (at : ℕ) (t : Slot) (rest : List ℕ) → drop at l ≡ slot_bytes t ++ rest → slot_at l at ≡ t
unfolding slot_at
slot_read l at t rest e =
    let byte : (i : ℕ) → get_or l (at + i) 0 ≡ get_or (slot_bytes t ++ rest) i 0 = λ i. sym (get_or-drop at l i 0) ∙ ap (λ (k : List ℕ). get_or k i 0) e in
    let first : get_or l at 0 ≡ t.kind = ap (λ (k : ℕ). get_or l k 0) (sym (add-zero at)) ∙ byte 0 in
    rw (first, byte 1, byte 2, byte 3)

-- The records behind the first j.
records_drop : (l : List ℕ) (j i count : ℕ) → drop (4 * j) (records_bytes l i (j + count)) ≡ records_bytes l (i + j) count
records_drop l zero i count = rw (zero-add, add-zero)
records_drop l (suc j) i count =
    let four : 4 * suc j ≡ suc (suc (suc (suc (4 * j)))) = omega arith in
    let more : suc j + count ≡ suc (j + count) = omega arith in
    let place : i + suc j ≡ suc i + j = omega arith in
    rw (four, more, place) (records_drop l j (suc i) count)

-- A trace that is not refused is in order in its parts.
traced : (l : List ℕ) → trace_refusal l ≡ 0 → parts_refusal l ≡ 0
unfolding trace_refusal
traced l good = (neither (parts_refusal l) _ good).0

module _ (l : List ℕ) where
  abbrev w : List ℕ
  w = spelling_of l

  abbrev r : ℕ
  r = (header_of l).records

  pub header_back : header_of w ≡ record { records = r; first = 18; settings = 8; size = spelled_size r }
  unfolding spelling_of
  header_back = header_read r (settings_bytes (settings_of l) ++ records_bytes l 0 r)

  pub settings_back : settings_of w ≡ settings_of l
  unfolding settings_at settings_of spelling_of header_bytes
  settings_back = rw header_back (settings_read r (settings_of l) (records_bytes l 0 r))

  -- From record i on.
  from_record : (i : ℕ) → i ≤ r → drop (18 + 4 * i) w ≡ records_bytes l i (r - i)
  unfolding spelling_of header_bytes settings_bytes
  from_record i h =
      let all : i + (r - i) ≡ r = omega arith in
      let behind : drop (4 * i) (records_bytes l 0 r) ≡ records_bytes l i (r - i) = rw (all, zero-add) at (records_drop l i 0 (r - i)) in
      sym (drop-drop (4 * i) 18 w) ∙ behind

  pub record_back : (i : ℕ) → i < r → record_slot w i ≡ used_in (record_slot l i)
  unfolding record_slot
  record_back i h =
      let one : r - i ≡ suc (r - suc i) = omega arith in
      rw header_back (slot_read w (18 + 4 * i) (used_in (record_slot l i)) (records_bytes l (suc i) (r - suc i)) (rw one at (from_record i (omega arith))))

  kind_back : (i : ℕ) → i < r → byte_at w (place_of (header_of w).first i) ≤ 3
  unfolding record_slot slot_at
  kind_back i h =
      let same : byte_at w (place_of (header_of w).first i) ≡ (used_in (record_slot l i)).kind = ap (λ (t : Slot). t.kind) (record_back i h) in
      rw same (known_kind (record_slot l i))

  -- It has the length that its header says, parts one behind the other, and known kinds.
  pub trace_back : trace_refusal w ≡ 0
  trace_back =
      let size : length w ≡ (header_of w).size = spelling_length l ∙ sym (ap (λ (h : Header). h.size) header_back) in
      (exactly w).none.1
      ((rw (spelling_length l) (omega arith), size), subst PartsFit (sym header_back) (in_line r), kinds)
    where
      in_line : (r : ℕ) → PartsFit (record { records = r; first = 18; settings = 8; size = spelled_size r })
      in_line r =
          record {
            header = λ i a. omega (arith, a.1);
            settings = λ i a. omega (arith, a.1);
            records = λ i a. omega (arith, a.1);
            header_settings = λ i a b. omega (arith, a.1, b.0);
            header_records = λ i a b. omega (arith, a.1, b.0);
            settings_records = λ i a b. omega (arith, a.1, b.0);
          }

      kinds : (i : ℕ) → i < (header_of w).records → byte_at w (place_of (header_of w).first i) ≤ 3
      kinds i h = kind_back i (rw header_back at h)

  -- A reader gives the same records, and the end after the last.
  module _ (good : trace_refusal l ≡ 0) where
    read_same : (i : ℕ) → i < r → record_of w i ≡ record_of l i
    read_same i h =
        let there : i < (header_of w).records = rw header_back h in
        let same : used_in (record_slot w i) ≡ used_in (record_slot l i) = ap used_in (record_back i h) ∙ used_again (record_slot l i) in
        record_read_holds w trace_back i there ∙ ap (λ (t : Slot). Ok (Some t)) same ∙ sym (record_read_holds l good i h)

    end_same : (i : ℕ) → r ≤ i → record_of w i ≡ record_of l i
    unfolding record_of
    end_same i h = rw (traced w trace_back, traced l good, header_back, le-ltb i r h)

    pub read_back : (i : ℕ) → record_of w i ≡ record_of l i
    read_back i = go (dec_le (suc i) r)
      where
        go : Dec (suc i ≤ r) → record_of w i ≡ record_of l i
        go (yes h) = read_same i h
        go (no h) = end_same i (omega arith)

  -- What its records bring is what those of the trace do.
  brought_back : (i : ℕ) → i < r → brought_at w i ≡ brought_at l i
  unfolding brought_at brought_by
  brought_back i h = ap (λ (t : Slot). heard_in (used_in t)) (record_back i h) ∙ ap heard_in (used_again (record_slot l i))

  brought_from_holds : (i count : ℕ) → i + count ≤ r → brought_from w i count ≡ brought_from l i count
  brought_from_holds i zero h = refl
  brought_from_holds i (suc count) h = rw (brought_back i (omega arith), brought_from_holds (suc i) count (omega arith))

  pub all_brought : brought_in w ≡ brought_in l
  unfolding brought_in
  all_brought = rw header_back (brought_from_holds 0 r (omega arith))

  pub played_back : played_in w ≡ played_in l
  unfolding played_in
  played_back = rw (settings_back, all_brought)

  -- Written again, it is what it was.
  records_again : (i count : ℕ) → i + count ≤ r → records_bytes w i count ≡ records_bytes l i count
  records_again i zero h = refl
  records_again i (suc count) h =
      let same : used_in (record_slot w i) ≡ used_in (record_slot l i) = ap used_in (record_back i (omega arith)) ∙ used_again (record_slot l i) in
      rw (same, records_again (suc i) count (omega arith))

  pub spelled_again : spelling_of w ≡ spelling_of l
  unfolding spelling_of
  spelled_again = rw (header_back, settings_back, records_again 0 r (omega arith))
