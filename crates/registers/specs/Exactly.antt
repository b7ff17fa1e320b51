-- What a call changes and what it leaves, byte by byte, with no word of how it is computed: document 02, U13.
-- Assumes nothing.
use Rattle.std.specs.Prelude.{ℕ, suc, ◌<◌, ◌≤◌, ◌/◌, ◌%◌, ◌^◌, true, false, cond, List, [], ◌∷◌, ◌↔◌, ◌≡◌, eqb, leb, length, get_or, drop}
use Rattle.frame.specs.Refusals.{number_in}
use Rattle.handset.specs.declared.Handset.{Handset}
use Rattle.handset.specs.Feed.{feed_of}
use Rattle.reader.specs.Record.{slot_at, brought_by}
use Rattle.replaying.specs.Written.{bytes_of}
use Rattle.registers.specs.Flags.{flags_in, with_refusal, with_reply, without}
use Rattle.registers.specs.Call.{Call}

-- "Refusal 28, before those of a feed (22 for a kind over 3 comes next), is another command; .. Refusal 29, before 28, is a block not of
-- 16 bytes".
abbrev pub refusal_due : List ℕ → Handset → ℕ
refusal_due b h =
    cond (eqb (length b) 16)
    (cond (leb (get_or b 4 0) 2)
    (cond (eqb (get_or b 4 0) 1) (cond (leb (get_or b 0 0) 3) (number_in (feed_of h (brought_by (slot_at b 0))).answer) 22) 0)
    28)
    29

-- What a feed shows: the bytes of its window, or nothing.
abbrev pub Shown : List ℕ → List ℕ → List ℕ → Type 0
Shown [] b new = new ≡ b
Shown (x ∷ reply) b new = (drop 8 new ≡ x ∷ reply) × (flags_in (get_or new 5 0) ≡ with_reply (flags_in (get_or b 5 0)))

-- A byte that the call leaves.
abbrev pub Kept : Call → List ℕ → Handset → ℕ → Type 0
Kept call b h i = get_or (call b h).block i 0 ≡ get_or b i 0

-- Bit i of two bytes is set.
abbrev pub BothHave : ℕ → ℕ → ℕ → Type 0
BothHave i x y = (x / 2 ^ i % 2 ≡ 1) × (y / 2 ^ i % 2 ≡ 1)

pub record CallExactly (call : Call) (b : List ℕ) (h : Handset) : Type 0 where
  pub refusal : (call b h).told.refusal ≡ refusal_due b h
  pub same_length : length (call b h).block ≡ length b
  -- "a block not of 16 bytes, which stays untouched"; the line is low beside it
  pub untouched : (length b ≡ 16 → ⊥) → ((call b h).block ≡ b) × ((call b h).told.line ≡ false) × ((call b h).told.handset ≡ h)
  -- no command changes bytes 0 to 4 and 6, nor bits 3 to 7 of byte 5
  pub kept : (i : ℕ) → i ≤ 6 → (i ≡ 5 → ⊥) → Kept call b h i
  pub above : get_or (call b h).block 5 0 / 8 ≡ get_or b 5 0 / 8
  -- "bytes 5 and 7 alone change on a refusal", of byte 5 bit 1 alone, and the handset is as it came
  pub refused : (k : ℕ) → length b ≡ 16 → (call b h).told.refusal ≡ suc k
      → ((i : ℕ) → (i ≡ 5 → ⊥) → (i ≡ 7 → ⊥) → Kept call b h i)
      × (get_or (call b h).block 7 0 ≡ suc k)
      × (flags_in (get_or (call b h).block 5 0) ≡ with_refusal (flags_in (get_or b 5 0)))
      × ((call b h).told.handset ≡ h)
  -- no command that is not refused changes byte 7
  pub number_kept : (call b h).told.refusal ≡ 0 → Kept call b h 7
  -- none changes nothing; clear changes byte 5 alone, and "drops those set in byte 0"
  pub none : length b ≡ 16 → get_or b 4 0 ≡ 0 → (call b h).block ≡ b
  pub clear : length b ≡ 16 → get_or b 4 0 ≡ 2
      → ((i : ℕ) → (i ≡ 5 → ⊥) → Kept call b h i)
      × (flags_in (get_or (call b h).block 5 0) ≡ without (flags_in (get_or b 5 0)) (flags_in (get_or b 0 0)))
  -- "None and clear don't look at the handset", nor does a command that is refused 29, 28 or 22: with any other handset the call does the
  -- same, and each is as it came
  pub any_handset : (other : Handset) → (length b ≡ 16 → get_or b 4 0 ≡ 1 → 3 < get_or b 0 0)
      → call b other
      ≡ record { told = record { refusal = (call b h).told.refusal; line = (call b h).told.line; handset = other }; block = (call b h).block }
  -- A feed that is not refused: where its subframe has a window, a silent one too, bytes 8 to 15 are that window's as in a replay, and the
  -- flags are those of a reply; where it has none, no byte changes.
  pub fed : length b ≡ 16 → get_or b 4 0 ≡ 1 → (call b h).told.refusal ≡ 0
      → Shown (bytes_of h.next (feed_of h (brought_by (slot_at b 0))).answer) b (call b h).block
      × ((call b h).told.handset ≡ (feed_of h (brought_by (slot_at b 0))).handset)
  -- "The interrupt line is high exactly if a flag and its mask bit are both set", of bits 0 to 2, after the command.
  pub line : length b ≡ 16
      → ((call b h).told.line ≡ true) ↔ ((i : ℕ) × (i ≤ 2) × BothHave i (get_or (call b h).block 5 0) (get_or (call b h).block 6 0))

abbrev pub CallsExactly : Call → Type 0
CallsExactly call = (b : List ℕ) (h : Handset) → CallExactly call b h
