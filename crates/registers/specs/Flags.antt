-- The flags of a register block: document 02, U13, "5 the flags: bit 0 reply ready, bit 1 refusal, bit 2 reply overwritten unread".
-- Assumes nothing.
use Rattle.std.specs.Prelude.{ℕ, ◌+◌, ◌*◌, ◌/◌, ◌%◌, Bool, true, not, ◌&&◌, ◌||◌, eqb}
use Rattle.heard.specs.Memory.{bit}
use Rattle.registers.specs.declared.flags.Flags.{Flags}

-- The flags in bits 0 to 2 of a byte.
abbrev pub flags_in : ℕ → Flags
flags_in x = record { ready = eqb (x % 2) 1; refused = eqb (x / 2 % 2) 1; overwritten = eqb (x / 4 % 2) 1 }

-- A byte with these flags in bits 0 to 2; bits 3 to 7 are its own.
abbrev pub flags_put : ℕ → Flags → ℕ
flags_put x f = x / 8 * 8 + bit f.ready + 2 * bit f.refused + 4 * bit f.overwritten

-- A refusal sets bit 1.
abbrev pub with_refusal : Flags → Flags
with_refusal f = record { ready = f.ready; refused = true; overwritten = f.overwritten }

-- A reply sets bit 0; "bit 2 is set when one arrives with bit 0 still set".
abbrev pub with_reply : Flags → Flags
with_reply f = record { ready = true; refused = f.refused; overwritten = f.overwritten || f.ready }

-- "clear drops those set in byte 0."
abbrev pub without : Flags → Flags → Flags
without f dropped =
    record {
      ready = f.ready && not dropped.ready;
      refused = f.refused && not dropped.refused;
      overwritten = f.overwritten && not dropped.overwritten;
    }

-- "The interrupt line is high exactly if a flag and its mask bit are both set."
abbrev pub raised : Flags → Flags → Bool
raised f mask = f.ready && mask.ready || f.refused && mask.refused || f.overwritten && mask.overwritten
