-- A recorded drive, byte by byte: document 02, U3, whose sentences stand above the definitions. A trace is a list of bytes.
-- Assumes nothing.
use Rattle.std.specs.Prelude.{ℕ, ◌+◌, ◌*◌, ◌/◌, ◌%◌, Bool, cond, ◌&&◌, ◌||◌, List, [], ◌∷◌, eqb, leb, length, get_or}
use Rattle.std.specs.List.{list_all, range_with_len}
use Rattle.std.specs.declared.ops.Range.{Range}
use Rattle.frame.specs.declared.Settings.{Settings}
use Rattle.frame.specs.Settings.{or_else}
use Rattle.trace.specs.declared.Header.{Header}

-- Byte i of a trace. A trace that is too short for its parts is refused, and what is read past its end, 0, says nothing.
abbrev pub byte_at : List ℕ → ℕ → ℕ
byte_at l i = get_or l i 0

-- "16-bit numbers, little-endian like all here": the low byte first.
unfoldable pub number_at : List ℕ → ℕ → ℕ
number_at l i = byte_at l i + 256 * byte_at l (i + 1)

-- The two bytes of such a number.
abbrev pub number_bytes : ℕ → List ℕ
number_bytes n = n % 256 ∷ n / 256 ∷ []

-- "A trace has a header of four 16-bit numbers, ..: records, offset of the first record, offset of the settings, whole length."
unfoldable pub header_of : List ℕ → Header
header_of l = record { records = number_at l 0; first = number_at l 2; settings = number_at l 4; size = number_at l 6 }

-- "The settings take ten bytes: configuration, N_RB, mode, blocks, special, prefix (0 normal, 1 extended), N1, scheduled resource
-- (65535 for none)." U9: "Replays and traces keep one port."
unfoldable pub settings_at : List ℕ → ℕ → Settings
settings_at l at =
    record {
      config = byte_at l at;
      nrb = byte_at l (at + 1);
      n1 = number_at l (at + 6);
      mode = byte_at l (at + 2);
      blocks = byte_at l (at + 3);
      scheduled = number_at l (at + 8);
      prefix = byte_at l (at + 5);
      special = byte_at l (at + 4);
      ports = 1;
    }

-- The settings of a trace.
unfoldable pub settings_of : List ℕ → Settings
settings_of l = settings_at l (header_of l).settings

-- A part of a trace: its first byte, and the one after its last.
abbrev pub Part : Type 0
Part = Range ℕ

abbrev pub header_part : Part
header_part = record { start = 0; end = 8 }

abbrev pub settings_part : Header → Part
settings_part h = record { start = h.settings; end = h.settings + 10 }

-- "A record takes four [bytes]".
abbrev pub records_part : Header → Part
records_part h = record { start = h.first; end = h.first + 4 * h.records }

-- No byte of one part is a byte of the other, and no byte of a part is past the trace's `size` bytes (specs/Exactly.antt).
abbrev pub apart : Part → Part → Bool
apart p q = leb p.end q.start || leb q.end p.start

abbrev pub within : ℕ → Part → Bool
within size p = leb p.end size

unfoldable pub settings_fit : Header → Bool
settings_fit h = within h.size (settings_part h) && apart header_part (settings_part h)

-- "with no records, their offset is ignored"
unfoldable pub records_fit : Header → Bool
records_fit h =
    eqb h.records 0
    || (within h.size (records_part h) && (apart header_part (records_part h) && apart (settings_part h) (records_part h)))

-- "Refusal 21, first of all, is a file below eight bytes or not of the header's length;"
unfoldable pub length_refusal : List ℕ → ℕ
length_refusal l = cond (leb 8 (length l) && eqb (length l) (header_of l).size) 0 21

-- "22, after 21, parts (header too) that share a byte or leave the file (with no records, their offset is ignored),"
unfoldable pub parts_refusal : List ℕ → ℕ
parts_refusal l = or_else (length_refusal l) (cond (settings_fit (header_of l) && records_fit (header_of l)) 0 22)

-- The byte at which record i begins, and which is its kind, where the records begin at `first`.
abbrev pub place_of : ℕ → ℕ → ℕ
place_of first i = first + 4 * i

-- The kinds of the first `count` records are 0 to 3.
unfoldable pub kinds_known : List ℕ → ℕ → ℕ → Bool
kinds_known l first count = list_all (λ i. leb (byte_at l (place_of first i)) 3) (range_with_len 0 count)

-- "or a kind over 3"; in any record, before anything is made of the trace.
unfoldable pub trace_refusal : List ℕ → ℕ
trace_refusal l = or_else (parts_refusal l) (cond (kinds_known l (header_of l).first (header_of l).records) 0 22)
