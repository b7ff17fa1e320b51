-- Lists of commands: document 02, U13, "For every list of commands, from a fresh handset and a block of zeros, only bytes 0 to 4 and 6
-- written in between, the block equals the running handset with these flags beside it."
-- Assumes nothing.
use Rattle.std.specs.Prelude.{ℕ, List, [], ◌∷◌, ◌≡◌, length, replicate, set}
use Rattle.handset.specs.declared.Handset.{Handset}
use Rattle.registers.specs.Call.{AfterCommand, Call}
use Rattle.registers.specs.Machine.{Written, Running, started, step, shown_as, seen}

-- The block with what a driver writes between two commands.
abbrev pub rewritten : Written → List ℕ → List ℕ
rewritten w b =
    set (set (set (set (set (set b 0 w.slot.kind) 1 w.slot.cce) 2 w.slot.dai) 3 w.slot.results) 4 w.command) 6 w.mask

-- What the calls make of a list of commands, each lent the block and the handset that the one before left.
abbrev pub calls : Call → List ℕ → Handset → List Written → List AfterCommand
calls call b h [] = []
calls call b h (w ∷ ws) =
    let a = call (rewritten w b) h in
    a ∷ calls call a.block a.told.handset ws

-- What the running handset with the flags beside it makes of them.
abbrev pub runs : Running → List Written → List AfterCommand
runs r [] = []
runs r (w ∷ ws) = seen w (step w r) ∷ runs (step w r).running ws

-- Block, line, refusal and handset after each command are those of the running handset with the flags beside it, whatever is written:
-- none, clear, feeds that are refused or not, commands over 2 and kinds over 3.
pub record BlockEquals (call : Call) : Type 0 where
  -- with any handset at the start, fresh ones among them
  pub from_zeros : (h : Handset) (ws : List Written) → calls call (replicate 16 0) h ws ≡ runs (started h) ws
  -- and from any block that shows a running handset, whatever a driver wrote last and whatever came before. Bits 3 to 7 of byte 5 are 0 in
  -- it, as they are after zeros; Exactly.antt says that they keep any other value too.
  pub onwards : (v : Written) (r : Running) → length r.reply ≡ 8 → (ws : List Written) → calls call (shown_as v r) r.handset ws ≡ runs r ws
