-- What is written of bytes are bytes. Assumes nothing.
use Prim.Native.Nat.{ℕ, zero, suc, ◌+◌, ◌<◌}
use mathlib.Core.List.{List, [], ◌∷◌, ◌++◌}
use mathlib.Core.Path.{◌≡◌}
use native.Mathlib.Omega.{arith}
use Rattle.frame.specs.declared.Settings.{Settings}
use Rattle.frame.specs.Settings.{settings_refusal}
use Rattle.frame.proofs.Accepted.{accepted}
use Rattle.heard.specs.declared.Slot.{Slot}
use Rattle.handset.specs.Make.{make_of}
use Rattle.trace.specs.Trace.{number_at, number_bytes, header_of, settings_at, settings_of}
use Rattle.reader.specs.Record.{slot_at, used_in, record_slot}
use Rattle.replaying.specs.Accepted.{AcceptedTrace}
use Rattle.spelling.specs.OneSpelling.{Bytes}
use Rattle.spelling.specs.Spelling.{spelled_size, header_bytes, settings_bytes, slot_bytes, records_bytes, spelling_of}
use Rattle.spelling.proofs.Putting.{config_small, nrb_small, mode_small, blocks_small, special_small, prefix_small}
use Rattle.spelling.proofs.Size.{size_least_holds}
use Rattle.spelling.proofs.Using.{known_kind, used_small}

-- The numbers of a list, one by one.
abbrev Small : List ℕ → Type 0
Small [] = Unit {0}
Small (x ∷ l) = (x < 256) × Small l

all_small : (l : List ℕ) → Small l → Bytes l
all_small [] s i = omega arith
all_small (x ∷ l) s zero = s.0
all_small (x ∷ l) s (suc i) = all_small l s.1 i

joined : (l m : List ℕ) → Small l → Small m → Small (l ++ m)
joined [] m b c = c
joined (x ∷ l) m b c = (b.0, joined l m b.1 c)

number_small : (n : ℕ) → n < 65536 → Small (number_bytes n)
number_small n h = (omega arith, (omega arith, tt))

-- A number of two bytes.
two_small : (l : List ℕ) → Bytes l → (i : ℕ) → number_at l i < 65536
unfolding number_at
two_small l b i = omega (arith, b i, b (i + 1))

header_small : (records : ℕ) → spelled_size records < 65536 → Small (header_bytes records)
unfolding header_bytes
header_small records h =
    let r = number_small records (omega arith) in
    let size = number_small (spelled_size records) h in
    (r.0, (r.1.0, (omega arith, (omega arith, (omega arith, (omega arith, size))))))

settings_small : (s : Settings) → settings_refusal s ≡ 0 → s.scheduled < 65536 → Small (settings_bytes s)
unfolding settings_bytes
settings_small s good h =
    let n1 = number_small s.n1 (omega (arith, (accepted s good).n1)) in
    let numbers = joined (number_bytes s.n1) (number_bytes s.scheduled) n1 (number_small s.scheduled h) in
    (config_small s good, (nrb_small s good, (mode_small s good, (blocks_small s good, (special_small s good, (prefix_small s good, numbers))))))

slot_small : (t : Slot) → t.cce < 256 → t.dai < 256 → Small (slot_bytes (used_in t))
slot_small t cce dai =
    let p = used_small t cce dai in
    (omega (arith, known_kind t), (p.0, (p.1, (p.2, tt))))

module _ (l : List ℕ) (b : Bytes l) where
  record_small : (i : ℕ) → Small (slot_bytes (used_in (record_slot l i)))
  unfolding record_slot slot_at
  record_small i = slot_small (record_slot l i) (b _) (b _)

  records_small : (i count : ℕ) → Small (records_bytes l i count)
  records_small i zero = tt
  records_small i (suc count) = joined (slot_bytes (used_in (record_slot l i))) (records_bytes l (suc i) count) (record_small i) (records_small (suc i) count)

  pub file_small : (header_of l).size < 65536
  unfolding header_of
  file_small = two_small l b 6

  scheduled_small : (settings_of l).scheduled < 65536
  unfolding settings_of settings_at
  scheduled_small = two_small l b _

settings_good : (l : List ℕ) → AcceptedTrace l → settings_refusal (settings_of l) ≡ 0
unfolding make_of
settings_good l a = a.settings

pub spelled_bytes : (l : List ℕ) → Bytes l → AcceptedTrace l → Bytes (spelling_of l)
unfolding spelling_of
spelled_bytes l b a =
    let r : ℕ = (header_of l).records in
    let s : Settings = settings_of l in
    let header = header_small r (omega (arith, size_least_holds l a.trace, file_small l b)) in
    let settings = settings_small s (settings_good l a) (scheduled_small l b) in
    all_small (header_bytes r ++ (settings_bytes s ++ records_bytes l 0 r))
    (joined (header_bytes r) (settings_bytes s ++ records_bytes l 0 r) header (joined (settings_bytes s) (records_bytes l 0 r) settings (records_small l b 0 r)))
