-- What of a trace is used, kind by kind, and when two traces are alike in it: document 02, U3 for what is used, U4 for alike. It cites
-- neither the reader's `used_in` nor anything of the writer.
-- Assumes nothing.
use Rattle.std.specs.Prelude.{ℕ, ◌/◌, ◌%◌, ◌<◌, List, ◌≡◌}
use Rattle.heard.specs.declared.Slot.{Slot}
use Rattle.trace.specs.Trace.{header_of, settings_of}
use Rattle.reader.specs.Record.{record_slot}

-- "results (bit 0 first block, bit 1 second, bit 2 set for two blocks)".
abbrev pub bit0 : ℕ → ℕ
bit0 results = results % 2

abbrev pub bit1 : ℕ → ℕ
bit1 results = results / 2 % 2

abbrev pub bit2 : ℕ → ℕ
bit2 results = results / 4 % 2

-- Alike in the bits that are used: "bit 1 only with bit 2".
pub record SameResults (a b : ℕ) : Type 0 where
  pub first : bit0 a ≡ bit0 b
  pub two : bit2 a ≡ bit2 b
  pub second : bit2 a ≡ 1 → bit1 a ≡ bit1 b

-- Alike in the fields that are used: "Kind 1 uses all, 2 results, 3 CCE and DAI"; kind 0 uses none.
pub record SameRecord (a b : Slot) : Type 0 where
  pub kind : a.kind ≡ b.kind
  pub grant : a.kind ≡ 1 → (a.cce ≡ b.cce) × (a.dai ≡ b.dai) × SameResults a.results b.results
  pub scheduled : a.kind ≡ 2 → SameResults a.results b.results
  pub release : a.kind ≡ 3 → (a.cce ≡ b.cce) × (a.dai ≡ b.dai)

-- "settings, number of records and the records' used fields and bits are equal".
pub record SameTrace (l m : List ℕ) : Type 0 where
  pub settings : settings_of l ≡ settings_of m
  pub count : (header_of l).records ≡ (header_of m).records
  pub records : (i : ℕ) → i < (header_of l).records → SameRecord (record_slot l i) (record_slot m i)

-- No bit is set that is not used: none above bit 2, and bit 1 only with bit 2.
pub record ResultsBare (a : ℕ) : Type 0 where
  pub above : a < 8
  pub second : bit2 a ≡ 0 → bit1 a ≡ 0

-- "every unused field or bit 0".
pub record RecordBare (t : Slot) : Type 0 where
  pub nothing : t.kind ≡ 0 → (t.cce ≡ 0) × (t.dai ≡ 0) × (t.results ≡ 0)
  pub grant : t.kind ≡ 1 → ResultsBare t.results
  pub scheduled : t.kind ≡ 2 → (t.cce ≡ 0) × (t.dai ≡ 0) × ResultsBare t.results
  pub release : t.kind ≡ 3 → t.results ≡ 0
