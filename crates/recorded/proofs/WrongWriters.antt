-- What the statement of spelling/specs/OneSpelling.antt shuts out, field by field. For each field there is the writer of this repository
-- with a fault, and a proof that the statement does not hold of it. The proof asks the statement for this field; without the field it
-- no longer checks.
--
-- OneSpelling
--   writes     every trace is refused                                           not_refuses_all
--              a trace that stops at a record is written                        not_takes_stopped
--   done       an output of just the bytes that are written is too small        not_too_narrow
--              it tells no size                                                 not_sizeless
--   stops      23 before the refusal of a record                                not_room_first
--              the number of the record after                                   not_next_record
--              a record's refusal told as one of the trace                      not_as_trace
--   small      21 for 23                                                        not_twenty_one
--   spells     by its fields, below
--   bytes      N1 300 as one number, and 0                                      not_unbyted
--   kept       the output behind the bytes is cleared                           not_clears_behind
--   refused    the header is written before a record is refused                 not_header_first
--   equal      bit 1 kept without bit 2: the same trace, other bytes            not_keeps_second_equal
--              nothing of a record kept: another trace, the same bytes          not_forgets_equal
--   accepted   the offsets exchanged                                            not_exchanges_accepted
--   again      the records backwards                                            not_backwards_again
--   read       the records backwards                                            not_backwards_read
--   brought    the records backwards                                            not_backwards_brought
--   replayed   the last record left out                                         not_leaves_out_replayed
--   printed    the first CCE left out                                           not_without_cce_printed
-- Spells
--   header     the offsets exchanged                                            not_exchanges
--              the length of the source                                         not_source_length
--              the records' offset 0 where there are none                       not_nowhere
--   size       the last record left out                                         not_leaves_out
--   same       settings: the special configuration left out                     not_without_special
--              count: the last record left out                                  not_leaves_out_count
--              records: nothing of a record kept                                not_forgets
--   bare       nothing: a record copied as it is                                not_copies_nothing
--              grant: a record copied as it is                                  not_copies_grant
--                  bit 1 kept without bit 2                                     not_keeps_second
--              scheduled: its DAI kept                                          not_keeps_dai
--              release: a record copied as it is                                not_copies_release
-- Assumes nothing.
use Rattle.std.proofs.Common.{Option, Some, None, Result, Ok, Err}
use Prim.Native.Nat.{ℕ, zero, suc, ◌+◌, ◌-◌, ◌%◌}
use mathlib.Core.Bool.{Bool, true, cond, ◌&&◌}
use mathlib.Core.List.{List, [], ◌∷◌, ◌++◌}
use mathlib.Core.Path.{◌≡◌, refl, ap}
use native.Mathlib.Omega.{arith}
use lib.Dec.{eqb, ltb, lit<, lit≤}
use lib.ListN.{length, replicate, get_or}
use borrow.Author.Tests.{ltb-true}
use Rattle.std.proofs.lemmas.Bool.{and_parts}
use Rattle.frame.specs.declared.Settings.{Settings}
use Rattle.heard.specs.declared.Heard.{Heard}
use Rattle.heard.specs.declared.Slot.{Slot}
use Rattle.heard.specs.Memory.{slot_of, none}
use Rattle.trace.specs.declared.Header.{Header}
use Rattle.trace.specs.Trace.{number_bytes, header_of, settings_of}
use Rattle.reader.specs.Record.{used_in, record_slot, read_as, record_of}
use Rattle.replaying.specs.Accepted.{AcceptedTrace}
use Rattle.replaying.specs.Replay.{Replayed, written, output_as}
use Rattle.spelling.specs.OneSpelling.{Writer, Bytes, OneSpelling}
use Rattle.spelling.specs.Spelling.{spelled_size, header_bytes, settings_bytes, slot_bytes, spelling_of}
use Rattle.spelling.specs.Writing.{Written, write_of, spelled_into}
use Rattle.recorded.proofs.Spelled.{spellings, elsewhere, alike, missed, unlike, empty}
use Rattle.recorded.proofs.Worked.{settings, drive, stopped}

-- Writers with other answers, and with other bytes.
abbrev answering : (List ℕ → ℕ → Written) → Writer
answering answer = record { answer = answer; output = spelled_into }

abbrev writing : (List ℕ → List ℕ) → Writer
writing bytes = record { answer = write_of; output = λ l old. output_as (write_of l (length old)).refusal (bytes l) old }

abbrev refused_with : ℕ → Written
refused_with k = record { refusal = k; kind = 0; number = 0; size = 0 }

-- The accepted trace, and the one that stops at record 3.
drive_accepted : AcceptedTrace drive
unfolding spellings
drive_accepted = record { trace = refl; settings = refl; records = refl }

stopped_refused : AcceptedTrace stopped → ⊥
unfolding spellings
stopped_refused a = omega (arith, a.records)

-- Every trace is refused.
pub not_refuses_all : OneSpelling (answering (λ l room. refused_with 21)) → ⊥
unfolding spellings
not_refuses_all s = omega (arith, (s.writes drive (replicate 50 9)).1 (drive_accepted, lit≤ tt))

-- A trace that stops at a record is written.
abbrev takes_stopped : List ℕ → ℕ → Written
takes_stopped l room = record { refusal = 0; kind = 1; number = 0; size = spelled_size (header_of l).records }

pub not_takes_stopped : OneSpelling (answering takes_stopped) → ⊥
not_takes_stopped s = stopped_refused ((s.writes stopped (replicate 50 9)).0 refl).0

-- An output of just the bytes that are written is too small.
abbrev too_narrow : List ℕ → ℕ → Written
too_narrow l room = cond (eqb room (spelled_size (header_of l).records)) (refused_with 23) (write_of l room)

pub not_too_narrow : OneSpelling (answering too_narrow) → ⊥
unfolding spellings
not_too_narrow s = omega (arith, ap (λ (r : Written). r.refusal) (s.done drive drive_accepted 50 (lit≤ tt)))

-- It tells no size.
abbrev sizeless : List ℕ → ℕ → Written
sizeless l room = record { refusal = (write_of l room).refusal; kind = (write_of l room).kind; number = (write_of l room).number; size = 0 }

pub not_sizeless : OneSpelling (answering sizeless) → ⊥
unfolding spellings
not_sizeless s = omega (arith, ap (λ (r : Written). r.size) (s.done drive drive_accepted 50 (lit≤ tt)))

-- 23 before the refusal of a record.
abbrev room_first : List ℕ → ℕ → Written
room_first l room = cond (ltb room (spelled_size (header_of l).records)) (refused_with 23) (write_of l room)

pub not_room_first : OneSpelling (answering room_first) → ⊥
unfolding spellings
not_room_first s = omega (arith, ap (λ (r : Written). r.refusal) (s.stops stopped stopped_refused 10 24 (lit≤ tt)))

-- The number of the record after.
abbrev next_record : List ℕ → ℕ → Written
next_record l room =
    record {
      refusal = (write_of l room).refusal;
      kind = (write_of l room).kind;
      number = cond (eqb (write_of l room).kind 2) ((write_of l room).number + 1) 0;
      size = (write_of l room).size;
    }

pub not_next_record : OneSpelling (answering next_record) → ⊥
unfolding spellings
not_next_record s = omega (arith, ap (λ (r : Written). r.number) (s.stops stopped stopped_refused 50 24 (lit≤ tt)))

-- A record's refusal told as one of the trace.
abbrev as_trace : List ℕ → ℕ → Written
as_trace l room = cond (eqb (write_of l room).refusal 0) (write_of l room) (refused_with (write_of l room).refusal)

pub not_as_trace : OneSpelling (answering as_trace) → ⊥
unfolding spellings
not_as_trace s = omega (arith, ap (λ (r : Written). r.kind) (s.stops stopped stopped_refused 50 24 (lit≤ tt)))

-- 21 for 23.
abbrev twenty_one : List ℕ → ℕ → Written
twenty_one l room = cond (eqb (write_of l room).refusal 23) (refused_with 21) (write_of l room)

pub not_twenty_one : OneSpelling (answering twenty_one) → ⊥
unfolding spellings
not_twenty_one s = omega (arith, ap (λ (r : Written). r.refusal) (s.small drive drive_accepted 49 (lit< tt)))

-- The output behind the bytes is cleared.
abbrev clears_behind : Writer
clears_behind =
    record {
      answer = write_of;
      output = λ l old. output_as (write_of l (length old)).refusal (spelling_of l ++ replicate (length old - spelled_size (header_of l).records) 0) old;
    }

pub not_clears_behind : OneSpelling clears_behind → ⊥
unfolding spellings
not_clears_behind s = omega (arith, ap (λ (l : List ℕ). get_or l 0 0) (s.kept drive (replicate 52 9) refl))

-- The header is written before a record is refused.
abbrev header_first : Writer
header_first = record { answer = write_of; output = λ l old. written (header_bytes (header_of l).records) (spelled_into l old) }

pub not_header_first : OneSpelling header_first → ⊥
unfolding spellings
not_header_first s = omega (arith, ap (λ (l : List ℕ). get_or l 0 0) (s.refused stopped (replicate 50 9) (λ e. omega (arith, e))))

-- Writers that take other numbers of a record.
abbrev records_by : (Slot → Slot) → List ℕ → ℕ → ℕ → List ℕ
records_by used l i zero = []
records_by used l i (suc count) = slot_bytes (used (record_slot l i)) ++ records_by used l (suc i) count

abbrev spelled_by : (Slot → Slot) → List ℕ → List ℕ
spelled_by used l = header_bytes (header_of l).records ++ (settings_bytes (settings_of l) ++ records_by used l 0 (header_of l).records)

-- Bit 1 kept without bit 2.
abbrev keeps_second : Slot → Slot
keeps_second t = record { kind = (used_in t).kind; cce = (used_in t).cce; dai = (used_in t).dai; results = cond (eqb t.kind 1) (t.results % 8) (used_in t).results }

pub not_keeps_second : OneSpelling (writing (spelled_by keeps_second)) → ⊥
unfolding spellings
not_keeps_second s = omega (arith, (((s.spells drive (replicate 50 9) refl).bare 0 (lit< tt)).grant refl).second refl)

pub not_keeps_second_equal : OneSpelling (writing (spelled_by keeps_second)) → ⊥
unfolding spellings
not_keeps_second_equal s =
    omega (arith, ap (λ (l : List ℕ). get_or l 21 0) ((s.equal drive elsewhere (replicate 50 9) (replicate 60 5) refl refl).1 alike))

-- Nothing of a record kept.
pub not_forgets : OneSpelling (writing (spelled_by (λ t. none))) → ⊥
unfolding spellings
not_forgets s = omega (arith, ((s.spells drive (replicate 50 9) refl).same.records 0 (lit< tt)).kind)

pub not_forgets_equal : OneSpelling (writing (spelled_by (λ t. none))) → ⊥
unfolding spellings
not_forgets_equal s = unlike ((s.equal drive missed (replicate 50 9) (replicate 50 9) refl refl).0 refl)

-- A record copied as it is.
pub not_copies_nothing : OneSpelling (writing (spelled_by (λ t. t))) → ⊥
unfolding spellings
not_copies_nothing s = omega (arith, (((s.spells elsewhere (replicate 50 9) refl).bare 2 (lit< tt)).nothing refl).0)

pub not_copies_grant : OneSpelling (writing (spelled_by (λ t. t))) → ⊥
unfolding spellings
not_copies_grant s = omega (arith, (((s.spells drive (replicate 50 9) refl).bare 1 (lit< tt)).grant refl).above)

-- A release with results, in a trace of one record.
abbrev release : List ℕ
release = (1 ∷ 0 ∷ 18 ∷ 0 ∷ 8 ∷ 0 ∷ 22 ∷ 0 ∷ []) ++ settings ++ 3 ∷ 5 ∷ 1 ∷ 255 ∷ []

pub not_copies_release : OneSpelling (writing (spelled_by (λ t. t))) → ⊥
unfolding spellings
not_copies_release s = omega (arith, ((s.spells release (replicate 22 9) refl).bare 0 (lit< tt)).release refl)

-- A scheduled block with numbers for CCE and DAI; N1 300, scheduled resource 7.
abbrev block : List ℕ
block = (1 ∷ 0 ∷ 18 ∷ 0 ∷ 8 ∷ 0 ∷ 22 ∷ 0 ∷ []) ++ (1 ∷ 50 ∷ 0 ∷ 1 ∷ 7 ∷ 0 ∷ 44 ∷ 1 ∷ 7 ∷ 0 ∷ []) ++ 2 ∷ 99 ∷ 88 ∷ 1 ∷ []

abbrev under : List ℕ → Bool
under [] = true
under (x ∷ l) = ltb x 256 && under l

under_bytes : (l : List ℕ) → under l ≡ true → Bytes l
under_bytes [] e i = lit< tt
under_bytes (x ∷ l) e zero = ltb-true x 256 (and_parts (ltb x 256) (under l) e).0
under_bytes (x ∷ l) e (suc i) = under_bytes l (and_parts (ltb x 256) (under l) e).1 i

block_bytes : Bytes block
block_bytes = under_bytes block refl

-- Its DAI kept.
abbrev keeps_dai : Slot → Slot
keeps_dai t = record { kind = (used_in t).kind; cce = (used_in t).cce; dai = cond (eqb t.kind 2) t.dai (used_in t).dai; results = (used_in t).results }

pub not_keeps_dai : OneSpelling (writing (spelled_by keeps_dai)) → ⊥
unfolding spellings
not_keeps_dai s = omega (arith, (((s.spells block (replicate 22 9) refl).bare 0 (lit< tt)).scheduled refl).1)

-- The first CCE left out.
abbrev without_cce : Slot → Slot
without_cce t = record { kind = (used_in t).kind; cce = 0; dai = (used_in t).dai; results = (used_in t).results }

pub not_without_cce_printed : OneSpelling (writing (spelled_by without_cce)) → ⊥
unfolding spellings
not_without_cce_printed s =
    omega (arith, ap (λ (l : List ℕ). get_or l 18 0) (s.printed drive (replicate 50 9) refl (replicate 24 9)))

-- Writers with another header or other settings.
abbrev headed : List ℕ → List ℕ → List ℕ
headed header l = header ++ (settings_bytes (settings_of l) ++ records_by used_in l 0 (header_of l).records)

-- The offsets exchanged.
abbrev exchanges : List ℕ → List ℕ
exchanges l = headed (number_bytes (header_of l).records ++ (number_bytes 8 ++ (number_bytes 18 ++ number_bytes (spelled_size (header_of l).records)))) l

pub not_exchanges : OneSpelling (writing exchanges) → ⊥
unfolding spellings
not_exchanges s = omega (arith, ap (λ (h : Header). h.settings) (s.spells drive (replicate 50 9) refl).header)

pub not_exchanges_accepted : OneSpelling (writing exchanges) → ⊥
unfolding spellings
not_exchanges_accepted s = omega (arith, (s.accepted drive (replicate 50 9) refl).trace)

-- The records' offset 0 where there are none.
abbrev nowhere : List ℕ → List ℕ
nowhere l =
    headed
    (number_bytes (header_of l).records
    ++ (number_bytes (cond (eqb (header_of l).records 0) 0 18) ++ (number_bytes 8 ++ number_bytes (spelled_size (header_of l).records))))
    l

pub not_nowhere : OneSpelling (writing nowhere) → ⊥
unfolding spellings
not_nowhere s = omega (arith, ap (λ (h : Header). h.first) (s.spells empty (replicate 18 9) refl).header)

-- A number as one that no byte holds, and 0.
abbrev in_one : ℕ → List ℕ
in_one n = n ∷ 0 ∷ []

abbrev unbyted : List ℕ → List ℕ
unbyted l =
    header_bytes (header_of l).records
    ++ (((settings_of l).config ∷ (settings_of l).nrb ∷ (settings_of l).mode ∷ (settings_of l).blocks ∷ (settings_of l).special ∷ (settings_of l).prefix ∷ [])
    ++ (in_one (settings_of l).n1 ++ (in_one (settings_of l).scheduled ++ records_by used_in l 0 (header_of l).records)))

pub not_unbyted : OneSpelling (writing unbyted) → ⊥
unfolding spellings
not_unbyted s = omega (arith, s.bytes block (replicate 22 9) block_bytes refl 14)

-- The length of the source.
abbrev source_length : List ℕ → List ℕ
source_length l = headed (number_bytes (header_of l).records ++ (number_bytes 18 ++ (number_bytes 8 ++ number_bytes (header_of l).size))) l

pub not_source_length : OneSpelling (writing source_length) → ⊥
unfolding spellings
not_source_length s = omega (arith, ap (λ (h : Header). h.size) (s.spells elsewhere (replicate 50 9) refl).header)

-- The special configuration left out.
abbrev plain : Settings → Settings
plain s =
    record {
      config = s.config;
      nrb = s.nrb;
      n1 = s.n1;
      mode = s.mode;
      blocks = s.blocks;
      scheduled = s.scheduled;
      prefix = s.prefix;
      special = 0;
      ports = s.ports;
    }

abbrev without_special : List ℕ → List ℕ
without_special l = header_bytes (header_of l).records ++ (settings_bytes (plain (settings_of l)) ++ records_by used_in l 0 (header_of l).records)

pub not_without_special : OneSpelling (writing without_special) → ⊥
unfolding spellings
not_without_special s = omega (arith, ap (λ (t : Settings). t.special) (s.spells drive (replicate 50 9) refl).same.settings)

-- The last record left out.
abbrev fewer : ℕ → ℕ
fewer zero = 0
fewer (suc r) = r

abbrev leaves_out : Writer
leaves_out =
    record {
      answer = λ l room.
          record {
            refusal = (write_of l room).refusal;
            kind = (write_of l room).kind;
            number = (write_of l room).number;
            size = spelled_size (fewer (header_of l).records);
          };
      output = λ l old.
          output_as (write_of l (length old)).refusal
          (header_bytes (fewer (header_of l).records) ++ (settings_bytes (settings_of l) ++ records_by used_in l 0 (fewer (header_of l).records))) old;
    }

pub not_leaves_out : OneSpelling leaves_out → ⊥
unfolding spellings
not_leaves_out s = omega (arith, (s.spells drive (replicate 50 9) refl).size)

pub not_leaves_out_count : OneSpelling leaves_out → ⊥
unfolding spellings
not_leaves_out_count s = omega (arith, (s.spells drive (replicate 50 9) refl).same.count)

pub not_leaves_out_replayed : OneSpelling leaves_out → ⊥
unfolding spellings
not_leaves_out_replayed s = omega (arith, ap (λ (r : Replayed). r.windows) (s.replayed drive (replicate 50 9) refl 24))

-- The records backwards, in a trace of two.
abbrev backwards : List ℕ → ℕ → List ℕ
backwards l zero = []
backwards l (suc i) = slot_bytes (used_in (record_slot l i)) ++ backwards l i

abbrev turned : List ℕ → List ℕ
turned l = header_bytes (header_of l).records ++ (settings_bytes (settings_of l) ++ backwards l (header_of l).records)

abbrev pair : List ℕ
pair = (2 ∷ 0 ∷ 18 ∷ 0 ∷ 8 ∷ 0 ∷ 26 ∷ 0 ∷ []) ++ settings ++ 1 ∷ 3 ∷ 1 ∷ 1 ∷ 0 ∷ 0 ∷ 0 ∷ 0 ∷ []

pub not_backwards_again : OneSpelling (writing turned) → ⊥
unfolding spellings
not_backwards_again s =
    omega (arith, ap (λ (l : List ℕ). get_or l 18 0) (s.again pair (replicate 26 9) refl (replicate 26 9) (lit≤ tt)).1)

pub not_backwards_read : OneSpelling (writing turned) → ⊥
unfolding spellings read_as record_of
not_backwards_read s = omega (arith, ap kind_read (s.read pair (replicate 26 9) refl 0))
  where
    kind_read : Result (Option Slot) ℕ → ℕ
    kind_read (Err k) = 9
    kind_read (Ok (Some t)) = t.kind
    kind_read (Ok None) = 9

pub not_backwards_brought : OneSpelling (writing turned) → ⊥
unfolding spellings
not_backwards_brought s = omega (arith, ap first_kind (s.brought pair (replicate 26 9) refl))
  where
    first_kind : List Heard → ℕ
    first_kind [] = 9
    first_kind (x ∷ xs) = (slot_of x).kind
