-- What a trace must be, byte by byte, with no word of how it is tested: document 02, U3, 21 and 22.
-- Assumes nothing.
use Rattle.std.specs.Prelude.{ℕ, ◌≤◌, ◌<◌, List, ◌⊎◌, ◌↔◌, ◌≡◌, length}
use Rattle.trace.specs.declared.Header.{Header}
use Rattle.trace.specs.Trace.{byte_at, header_of, Part, header_part, settings_part, records_part, place_of, parts_refusal, trace_refusal}

-- Byte i belongs to a part. No byte belongs to the records where there are none, wherever their offset says they begin.
abbrev pub Holds : Part → ℕ → Type 0
Holds p i = (p.start ≤ i) × (i < p.end)

-- No byte belongs to both parts.
abbrev pub Apart : Part → Part → Type 0
Apart p q = (i : ℕ) → Holds p i → Holds q i → ⊥

-- Every byte of a part is in the file.
abbrev pub Inside : ℕ → Part → Type 0
Inside size p = (i : ℕ) → Holds p i → i < size

-- The parts share no byte and don't leave the file.
pub record PartsFit (h : Header) : Type 0 where
  pub header : Inside h.size header_part
  pub settings : Inside h.size (settings_part h)
  pub records : Inside h.size (records_part h)
  pub header_settings : Apart header_part (settings_part h)
  pub header_records : Apart header_part (records_part h)
  pub settings_records : Apart (settings_part h) (records_part h)

-- The file has a header, and is of the header's length.
abbrev pub RightLength : List ℕ → Type 0
RightLength l = (8 ≤ length l) × (length l ≡ (header_of l).size)

-- No kind is over 3.
abbrev pub KindsKnown : List ℕ → Type 0
KindsKnown l = (i : ℕ) → i < (header_of l).records → byte_at l (place_of (header_of l).first i) ≤ 3

-- 21 and 22 are given for their causes and no other.
pub record RefusedExactly (l : List ℕ) : Type 0 where
  pub twenty_one : (trace_refusal l ≡ 21) ↔ (RightLength l → ⊥)
  pub twenty_two : (trace_refusal l ≡ 22) ↔ (RightLength l × (PartsFit (header_of l) × KindsKnown l → ⊥))
  pub none : (trace_refusal l ≡ 0) ↔ (RightLength l × PartsFit (header_of l) × KindsKnown l)
  pub no_other : (trace_refusal l ≡ 0) ⊎ ((trace_refusal l ≡ 21) ⊎ (trace_refusal l ≡ 22))
  -- what the reader looks at, whatever the kinds
  pub parts : (parts_refusal l ≡ 0) ↔ (RightLength l × PartsFit (header_of l))
