-- A scheduler against the radio: document 02, U12. Its sentences stand above the definitions that they give. U, V, the value expected and
-- what one subframe more does to them are the engine's own (fold/specs/Fold.antt).
-- Assumes nothing.
use Rattle.std.specs.Prelude.{Result, ℕ, zero, suc, ◌-◌, Bool, true, false, cond, not, ◌&&◌, ◌||◌, List, [], ◌∷◌, eqb, leb, ltb, length}
use Rattle.frame.specs.Refusals.{unless_refused}
use Rattle.frame.specs.Settings.{outside}
use Rattle.heard.specs.declared.View.{View}
use Rattle.heard.specs.declared.View.TheVariants.{Unheard, Pdcch}
use Rattle.fold.specs.declared.Seen.{Seen}
use Rattle.fold.specs.Fold.{expected, unseen, step_of}

-- What one subframe of the window comes to: "the scheduler grants or holds"; "the radio then passes or loses a grant".
pub data Turn : Type 0 where
  held : Turn
  passed : Turn
  lost : Turn

abbrev pub is_grant : Turn → Bool
is_grant held = false
is_grant passed = true
is_grant lost = true

abbrev pub is_lost : Turn → Bool
is_lost held = false
is_lost passed = false
is_lost lost = true

-- A play is the list of its turns, the newest first. How many turns of it meet a test.
abbrev pub count : (Turn → Bool) → List Turn → ℕ
count test [] = 0
count test (turn ∷ earlier) = cond (test turn) (suc (count test earlier)) (count test earlier)

abbrev pub grants_in : List Turn → ℕ
grants_in = count is_grant

abbrev pub losses_in : List Turn → ℕ
losses_in = count is_lost

-- What the handset sees of a turn that comes after the play `earlier`: a grant that was passed, and nothing else. Its DAI is by the
-- station's rule, lost ones counted: the j-th grant of a window in time order carries ((j − 1) mod 4) + 1, the value expected of the last
-- of j; here j − 1 came before. (Its first CCE and what it decoded are no part of the game; any would do.)
abbrev pub view_after : List Turn → Turn → View
view_after earlier held = Unheard
view_after earlier passed = Pdcch (record { cce = record { 0 = 0 }; dai = expected (suc (grants_in earlier)); first = true; second = true })
view_after earlier lost = Unheard

-- U and V after a play. (The position that the fold keeps beside them, which here is the place in time, is no part of the game either.)
abbrev pub seen_after : List Turn → Seen
seen_after [] = unseen
seen_after (turn ∷ earlier) = step_of (seen_after earlier) (length earlier) (view_after earlier turn)

-- "a bundled reply is sent": a grant was heard, and V is the value expected. For every size this is the rule of configurations 1 to 6,
-- which read the DAI.
abbrev pub replied : List Turn → Bool
replied play = not (eqb (seen_after play).u 0) && eqb (seen_after play).v (expected (seen_after play).u)

-- One of a play's grants was lost.
abbrev pub some_lost : List Turn → Bool
some_lost [] = false
some_lost (turn ∷ earlier) = is_lost turn || some_lost earlier

-- "a grant before the last heard was lost"
abbrev pub hidden : List Turn → Bool
hidden [] = false
hidden (held ∷ earlier) = hidden earlier
hidden (passed ∷ earlier) = some_lost earlier
hidden (lost ∷ earlier) = hidden earlier

-- "The radio wins if a bundled reply is sent though a grant before the last heard was lost."
abbrev pub won : List Turn → Bool
won play = replied play && hidden play

-- "in time order, the scheduler .. must end with exactly G grants": of those that it still owes it may make one if it owes any, and it may
-- hold if the subframes left after this one are enough for them.
abbrev pub may_grant : ℕ → Bool
may_grant owed = ltb 0 owed

abbrev pub may_hold : ℕ → ℕ → Bool
may_hold left owed = leb owed left

-- "at most L losses"
abbrev pub may_lose : ℕ → Bool
may_lose losses = ltb 0 losses

-- "Answer who can force the outcome .., defined over all plays": the radio can, after a play, where so many subframes are left, the
-- scheduler owes so many grants and the radio may lose so many more, if for each move that the scheduler has some answer of the radio
-- leads to where it can, and after the last subframe if it has won.
unfoldable pub radio_forces : ℕ → ℕ → ℕ → List Turn → Bool
radio_forces zero owed losses play = won play
radio_forces (suc left) owed losses play =
    (not (may_hold left owed) || radio_forces left owed losses (held ∷ play))
    && (not (may_grant owed)
    || radio_forces left (owed - 1) losses (passed ∷ play)
    || (may_lose losses && radio_forces left (owed - 1) (losses - 1) (lost ∷ play)))

-- "Refusal 27 .. is a window size not 1 to 9, G over it, or L over 9."
unfoldable pub game_refusal : ℕ → ℕ → ℕ → ℕ
game_refusal size grants losses = cond (outside 1 9 size || ltb size grants || ltb 9 losses) 27 0

-- The answer for a window of `size` subframes, `grants` grants and at most `losses` losses, from before its first subframe.
unfoldable pub game_of : ℕ → ℕ → ℕ → Result Bool ℕ
game_of size grants losses = unless_refused (game_refusal size grants losses) (radio_forces size grants losses [])
