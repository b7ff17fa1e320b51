-- The statement leaves no choice: specs/OneSpelling.antt, `OnlyWriter`, proved. Assumes nothing.
use Prim.Native.Nat.{ℕ, suc, ◌+◌, ◌-◌, ◌*◌, ◌/◌, ◌%◌, ◌≤◌, ◌<◌}
use mathlib.Core.List.{List, ◌++◌}
use mathlib.Core.Logic.{⊎_elim}
use mathlib.Core.Path.{◌≡◌, sym, ap, subst, ◌∙◌}
use native.Mathlib.Decide.{dec_le, ℕ_discrete}
use native.Mathlib.Nat.{le_refl, eq-or-lt_of_le, le_of_suc-le-suc, add-zero}
use native.Mathlib.Omega.{arith}
use lib.ListN.{length, take, drop, get_or, take-append-drop}
use lib.Seq.{ext_get_or}
use Rattle.frame.specs.declared.Settings.{Settings}
use Rattle.heard.specs.declared.Slot.{Slot}
use Rattle.handset.specs.Make.{make_of}
use Rattle.trace.specs.declared.Header.{Header}
use Rattle.trace.specs.Trace.{number_at, header_of, settings_at, settings_of, trace_refusal}
use Rattle.reader.specs.Record.{slot_at, record_slot}
use Rattle.replaying.specs.Accepted.{AcceptedTrace}
use Rattle.replaying.specs.Replay.{played_in, output_needed}
use Rattle.spelling.specs.OneSpelling.{Writer, trace_writer, Writes, bytes_written, Bytes, Spells, OneSpelling, OnlyWriter}
use Rattle.spelling.specs.Writing.{Written, write_of, spelled_into}
use Rattle.spelling.proofs.OneSpelling.{kinds, one_spelling}
use Rattle.spelling.proofs.Using.{one_bare}

-- A fact for the numbers below n, and for n.
up_to : (P : ℕ → Type 0) (n : ℕ) → P n → ((i : ℕ) → i < n → P i) → (i : ℕ) → i < suc n → P i
up_to P n p below i h = ⊎_elim (λ e. subst P (sym e) p) (λ less. below i less) (eq-or-lt_of_le (le_of_suc-le-suc h))

-- Two bytes of each of two numbers that are equal.
same_two : (a b c d : ℕ) → a < 256 → c < 256 → a + 256 * b ≡ c + 256 * d → (a ≡ c) × (b ≡ d)
same_two a b c d p q e = (omega arith, omega arith)

-- Two lists of bytes with the same header, settings and records.
module _ (b c : List ℕ) (p : Bytes b) (q : Bytes c) where
  pair : (i : ℕ) → number_at b i ≡ number_at c i → (get_or b i 0 ≡ get_or c i 0) × (get_or b (i + 1) 0 ≡ get_or c (i + 1) 0)
  unfolding number_at
  pair i e = same_two _ _ _ _ (p i) (q i) e

  abbrev Same : ℕ → Type 0
  Same i = get_or b i 0 ≡ get_or c i 0

  front : header_of b ≡ header_of c → settings_at b 8 ≡ settings_at c 8 → (i : ℕ) → i < 18 → Same i
  unfolding header_of settings_at
  front e f =
      let records = pair 0 (ap (λ (h : Header). h.records) e) in
      let first = pair 2 (ap (λ (h : Header). h.first) e) in
      let settings = pair 4 (ap (λ (h : Header). h.settings) e) in
      let size = pair 6 (ap (λ (h : Header). h.size) e) in
      let n1 = pair 14 (ap (λ (s : Settings). s.n1) f) in
      let scheduled = pair 16 (ap (λ (s : Settings). s.scheduled) f) in
      up_to Same 17 scheduled.1
      (up_to Same 16 scheduled.0
      (up_to Same 15 n1.1
      (up_to Same 14 n1.0
      (up_to Same 13 (ap (λ (s : Settings). s.prefix) f)
      (up_to Same 12 (ap (λ (s : Settings). s.special) f)
      (up_to Same 11 (ap (λ (s : Settings). s.blocks) f)
      (up_to Same 10 (ap (λ (s : Settings). s.mode) f)
      (up_to Same 9 (ap (λ (s : Settings). s.nrb) f)
      (up_to Same 8 (ap (λ (s : Settings). s.config) f)
      (up_to Same 7 size.1
      (up_to Same 6 size.0
      (up_to Same 5 settings.1
      (up_to Same 4 settings.0
      (up_to Same 3 first.1
      (up_to Same 2 first.0 (up_to Same 1 records.1 (up_to Same 0 records.0 (λ i h. absurd (omega arith)))))))))))))))))))

  -- A byte of the record at a place.
  slot_byte : (at k : ℕ) → slot_at b at ≡ slot_at c at → k < 4 → Same (at + k)
  unfolding slot_at
  slot_byte at k e h =
      let P : ℕ → Type 0 = λ (j : ℕ). Same (at + j) in
      let first : Same (at + 0) = rw (add-zero at) (ap (λ (t : Slot). t.kind) e) in
      up_to P 3 (ap (λ (t : Slot). t.results) e)
      (up_to P 2 (ap (λ (t : Slot). t.dai) e) (up_to P 1 (ap (λ (t : Slot). t.cce) e) (up_to P 0 first (λ i h. absurd (omega arith))))) k h

  behind : ((j : ℕ) → 18 + 4 * j < length b → slot_at b (18 + 4 * j) ≡ slot_at c (18 + 4 * j)) → (i : ℕ) → 18 ≤ i → i < length b → Same i
  behind slots i h inside =
      let j : ℕ = (i - 18) / 4 in
      let k : ℕ = (i - 18) % 4 in
      let place : 18 + 4 * j + k ≡ i = omega arith in
      subst Same place (slot_byte (18 + 4 * j) k (slots j (omega arith)) (omega arith))

  all_same : length b ≡ length c → header_of b ≡ header_of c → settings_at b 8 ≡ settings_at c 8
      → ((j : ℕ) → 18 + 4 * j < length b → slot_at b (18 + 4 * j) ≡ slot_at c (18 + 4 * j)) → b ≡ c
  all_same size e f slots =
      ext_get_or 0 b c size (λ i h. go i h (dec_le 18 i))
    where
      go : (i : ℕ) → i < length b → Dec (18 ≤ i) → Same i
      go i h (yes far) = behind slots i far h
      go i h (no near) = front e f i (omega arith)

-- What spells the same trace in bytes is the same.
module _ (l b : List ℕ) (s : Spells b l) where
  settings_eight : settings_at b 8 ≡ settings_of l
  unfolding settings_of
  settings_eight = rw s.header at (sym s.same.settings)

  record_there : (j : ℕ) → slot_at b (18 + 4 * j) ≡ record_slot b j
  unfolding record_slot
  record_there j = rw s.header

  many : (header_of b).records ≡ (header_of l).records
  many = sym s.same.count

module _ (l b c : List ℕ) (good : trace_refusal l ≡ 0) (s : Spells b l) (t : Spells c l) where
  one_slot : (j : ℕ) → 18 + 4 * j < length b → slot_at b (18 + 4 * j) ≡ slot_at c (18 + 4 * j)
  one_slot j h =
      let inside : j < (header_of l).records = omega (arith, s.size) in
      record_there l b s j
      ∙ one_bare (record_slot l j) (record_slot b j) (record_slot c j) (kinds l good j inside) (s.same.records j inside) (t.same.records j inside)
      (s.bare j (rw (many l b s) inside)) (t.bare j (rw (many l c t) inside))
      ∙ sym (record_there l c t j)

  one_spelled : Bytes b → Bytes c → b ≡ c
  one_spelled p q =
      all_same b c p q (s.size ∙ sym t.size) (s.header ∙ sym t.header) (settings_eight l b s ∙ sym (settings_eight l c t)) one_slot

-- Whether a trace is accepted is three numbers.
accepted_or_not : (l : List ℕ) → Dec (AcceptedTrace l)
accepted_or_not l = go (ℕ_discrete (trace_refusal l) 0) (ℕ_discrete (make_of (settings_of l)).refusal 0) (ℕ_discrete (played_in l).refusal 0)
  where
    go : Dec (trace_refusal l ≡ 0) → Dec ((make_of (settings_of l)).refusal ≡ 0) → Dec ((played_in l).refusal ≡ 0) → Dec (AcceptedTrace l)
    go (yes a) (yes b) (yes c) = yes (record { trace = a; settings = b; records = c })
    go (no a) b c = no (λ x. a x.trace)
    go (yes a) (no b) c = no (λ x. b x.settings)
    go (yes a) (yes b) (no c) = no (λ x. c x.records)

module _ (w : Writer) (o : OneSpelling w) (l : List ℕ) where
  same_answer : (room : ℕ) → w.answer l room ≡ write_of l room
  same_answer room = go (accepted_or_not l) (dec_le (18 + 4 * (header_of l).records) room)
    where
      go : Dec (AcceptedTrace l) → Dec (18 + 4 * (header_of l).records ≤ room) → w.answer l room ≡ write_of l room
      go (yes a) (yes h) = o.done l a room h ∙ sym (one_spelling.done l a room h)
      go (yes a) (no h) = o.small l a room (omega arith) ∙ sym (one_spelling.small l a room (omega arith))
      go (no a) h = o.stops l a room (output_needed l) (le_refl (output_needed l)) ∙ sym (one_spelling.stops l a room (output_needed l) (le_refl (output_needed l)))

  module _ (old : List ℕ) (b : Bytes l) where
    same_output : Dec (Writes w l old) → w.output l old ≡ spelled_into l old
    same_output (no h) = o.refused l old h ∙ sym (one_spelling.refused l old (λ z. h (ap (λ (r : Written). r.refusal) (same_answer (length old)) ∙ z)))
    same_output (yes h) =
        let e = same_answer (length old) in
        let z : Writes trace_writer l old = sym (ap (λ (r : Written). r.refusal) e) ∙ h in
        let good = ((o.writes l old).0 h).0.trace in
        let n : ℕ = (w.answer l (length old)).size in
        let m : ℕ = (write_of l (length old)).size in
        let size : n ≡ m = ap (λ (r : Written). r.size) e in
        let same = one_spelled l (bytes_written w l old) (bytes_written trace_writer l old) good (o.spells l old h) (one_spelling.spells l old z) (o.bytes l old b h) (one_spelling.bytes l old b z) in
        sym (take-append-drop n (w.output l old)) ∙ joined_as same (o.kept l old h) size z
      where
        joined_as : bytes_written w l old ≡ bytes_written trace_writer l old
            → drop (w.answer l (length old)).size (w.output l old) ≡ drop (w.answer l (length old)).size old
            → (w.answer l (length old)).size ≡ (write_of l (length old)).size → Writes trace_writer l old
            → take (w.answer l (length old)).size (w.output l old) ++ drop (w.answer l (length old)).size (w.output l old) ≡ spelled_into l old
        joined_as same kept size z =
            rw (same, kept, size, ← one_spelling.kept l old z) (take-append-drop (write_of l (length old)).size (spelled_into l old))

pub only_writer : (w : Writer) → OnlyWriter w
only_writer w o l old b = (same_answer w o l (length old), same_output w o l old b (ℕ_discrete (w.answer l (length old)).refusal 0))
