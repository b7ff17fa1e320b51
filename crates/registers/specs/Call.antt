-- What a command makes of a block and a handset, byte by byte: document 02, U13, whose sentences stand above the definitions. A block is
-- a list of bytes.
-- Assumes nothing.
use Rattle.std.specs.Prelude.{ℕ, Bool, false, cond, List, eqb, leb, length, get_or, set, Option, Some, None, Result, Ok, Err, ⊤}
use Rattle.frame.specs.declared.refusal.Refusal.{Refusal}
use Rattle.frame.specs.Refusals.{number_of, refusal_in, number_in}
use Rattle.handset.specs.declared.Handset.{Handset}
use Rattle.handset.specs.Feed.{feed_of}
use Rattle.reader.specs.Record.{slot_at, brought_by}
use Rattle.replaying.specs.Written.{window_fed, put_at}
use Rattle.registers.specs.declared.Commanded.{Commanded}
use Rattle.registers.specs.declared.flags.Flags.{Flags}
use Rattle.registers.specs.Flags.{flags_in, flags_put, with_refusal, with_reply, without, raised}

-- The block with its flags changed: byte 5 alone.
abbrev pub flagged : (Flags → Flags) → List ℕ → List ℕ
flagged change b = set b 5 (flags_put (get_or b 5 0) (change (flags_in (get_or b 5 0))))

-- "bytes 5 and 7 alone change on a refusal": its flag, and "7 the refusal number".
abbrev pub refused_block : List ℕ → ℕ → List ℕ
refused_block b k = set (flagged with_refusal b) 7 k

-- "clear drops those set in byte 0": nothing else changes.
abbrev pub cleared_block : List ℕ → List ℕ
cleared_block b = flagged (λ f. without f (flags_in (get_or b 0 0))) b

-- "8 to 15 the last reply as in a replay, first port": its eight bytes, and its flags.
abbrev pub shown_block : List ℕ → List ℕ → List ℕ
shown_block b reply = put_at 8 reply (flagged with_reply b)

-- "Bytes 0 to 3 are a record as in a trace": 22 for a kind over 3; else the refusal of its feed, or the window's bytes, none for "taken"
-- and "no window".
unfoldable pub window_brought : List ℕ → Handset → Result (Option (List ℕ)) ℕ
window_brought b h = cond (leb (slot_at b 0).kind 3) (window_fed h.next (feed_of h (brought_by (slot_at b 0))).answer) (Err 22)

-- The handset after that feed; a kind over 3 brings it nothing, and no subframe either.
unfoldable pub handset_fed : List ℕ → Handset → Handset
handset_fed b h = cond (leb (slot_at b 0).kind 3) (feed_of h (brought_by (slot_at b 0))).handset h

-- What a command does: the block after it or its refusal, and the handset.
pub record Obeyed : Type 0 where
  pub block : Result (List ℕ) ℕ
  pub handset : Handset

-- "Each answered window, silent ones too, is a reply"; another subframe changes no byte.
abbrev pub replied : List ℕ → Result (Option (List ℕ)) ℕ → Result (List ℕ) ℕ
replied b (Ok (Some reply)) = Ok (shown_block b reply)
replied b (Ok None) = Ok b
replied b (Err k) = Err k

-- "4 is the command (0 none, 1 feed, 2 clear)"; "Refusal 28, before those of a feed .., is another command". "None and clear don't look
-- at the handset."
unfoldable pub obeyed : List ℕ → Handset → Obeyed
obeyed b h =
    cond (eqb (get_or b 4 0) 0) (record { block = Ok b; handset = h })
    (cond (eqb (get_or b 4 0) 1) (record { block = replied b (window_brought b h); handset = handset_fed b h })
    (cond (eqb (get_or b 4 0) 2) (record { block = Ok (cleared_block b); handset = h })
    (record { block = Err 28; handset = h })))

-- The block afterwards: a refusal is shown in it.
abbrev pub block_after : List ℕ → Result (List ℕ) ℕ → List ℕ
block_after b (Ok new) = new
block_after b (Err k) = refused_block b k

-- What the code's result and the block that it left say of a command.
abbrev pub block_or_refusal : Result ⊤ Refusal → List ℕ → Result (List ℕ) ℕ
block_or_refusal (Ok x) b = Ok b
block_or_refusal (Err r) b = Err (number_of r)

-- "The interrupt line is high exactly if a flag and its mask bit are both set."
abbrev pub line_of : List ℕ → Bool
line_of b = raised (flags_in (get_or b 5 0)) (flags_in (get_or b 6 0))

-- What a call answers: the refusal, 0 for none, whether the interrupt line is high, and the handset.
pub record Told : Type 0 where
  pub refusal : ℕ
  pub line : Bool
  pub handset : Handset

-- In the code's terms.
abbrev pub told_by : Commanded → Handset → Told
told_by c h = record { refusal = refusal_in c.done; line = c.line; handset = h }

-- The answer, and the block afterwards.
pub record AfterCommand : Type 0 where
  pub told : Told
  pub block : List ℕ

-- The line is judged after the command.
abbrev pub after_command : List ℕ → Obeyed → AfterCommand
after_command b o =
    let new : List ℕ = block_after b o.block in
    record { told = record { refusal = number_in o.block; line = line_of new; handset = o.handset }; block = new }

-- "Refusal 29, before 28, is a block not of 16 bytes, which stays untouched." Beside it the line is low.
unfoldable pub command_of : List ℕ → Handset → AfterCommand
command_of b h =
    cond (eqb (length b) 16) (after_command b (obeyed b h))
    (record { told = record { refusal = 29; line = false; handset = h }; block = b })

-- A call of this kind: what specs/Lists.antt and specs/Exactly.antt speak of, and what `command_of` is.
abbrev pub Call : Type 0
Call = List ℕ → Handset → AfterCommand
