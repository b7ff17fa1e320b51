-- The one spelling of a trace, byte by byte: document 02, U4, whose sentence stands above the definitions, and U3 for the parts.
-- Assumes nothing.
use Rattle.std.specs.Prelude.{ℕ, zero, suc, ◌+◌, ◌*◌, List, [], ◌∷◌, ◌++◌}
use Rattle.frame.specs.declared.Settings.{Settings}
use Rattle.heard.specs.declared.Slot.{Slot}
use Rattle.reader.specs.Record.{used_in, record_slot}
use Rattle.trace.specs.Trace.{number_bytes, header_of, settings_of}

-- "18 bytes and four per record": the whole length.
abbrev pub spelled_size : ℕ → ℕ
spelled_size records = 18 + 4 * records

-- "with settings at 8, records at 18 (also if there are none)": records, offset of the first record, offset of the settings, whole
-- length.
unfoldable pub header_bytes : ℕ → List ℕ
header_bytes records = number_bytes records ++ (number_bytes 18 ++ (number_bytes 8 ++ number_bytes (spelled_size records)))

-- "configuration, N_RB, mode, blocks, special, prefix .., N1, scheduled resource".
unfoldable pub settings_bytes : Settings → List ℕ
settings_bytes s =
    s.config ∷ s.nrb ∷ s.mode ∷ s.blocks ∷ s.special ∷ s.prefix ∷ (number_bytes s.n1 ++ number_bytes s.scheduled)

-- "kind .., first CCE, DAI, results".
abbrev pub slot_bytes : Slot → List ℕ
slot_bytes t = t.kind ∷ t.cce ∷ t.dai ∷ t.results ∷ []

-- The records from record i on, `count` of them, with "every unused field or bit 0".
abbrev pub records_bytes : List ℕ → ℕ → ℕ → List ℕ
records_bytes l i zero = []
records_bytes l i (suc count) = slot_bytes (used_in (record_slot l i)) ++ records_bytes l (suc i) count

-- Header, settings, records, and nothing between them.
unfoldable pub spelling_of : List ℕ → List ℕ
spelling_of l =
    header_bytes (header_of l).records ++ (settings_bytes (settings_of l) ++ records_bytes l 0 (header_of l).records)
