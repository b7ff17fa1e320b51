-- What losses can hide in the runs of demand 3 (document 01), changes of mode among them: document 02, U12. A bundled window is a play of
-- the game (playing/specs/Game.antt), over PDCCHs: U, V, whether a reply that answers for a PDCCH is sent and whether the radio has won
-- are the game's.
-- The statement is about an engine, so that wrong ones can be refuted (proofs/WrongHiding.antt); proofs/Hiding.antt proves it of every
-- engine that meets demand 3. At the end, that losses are hidden in some runs: proofs/WorkedHiding.antt.
-- Assumes nothing.
use Rattle.std.specs.Prelude.{Result, Ok, ℕ, ◌<◌, ◌≤◌, true, cond, List, [], ◌∷◌, ◌⊎◌, ◌↔◌, ◌≡◌, length}
use Rattle.frame.specs.declared.Settings.{Settings}
use Rattle.frame.specs.Settings.{settings_refusal}
use Rattle.confirmation.specs.declared.Send.{Send}
use Rattle.confirmation.specs.Sent.{is_pdcch as is_sent_pdcch}
use Rattle.heard.specs.declared.Heard.{Heard}
use Rattle.reply.specs.declared.Answer.{Answer}
use Rattle.reply.specs.declared.Answer.TheVariants as answer
use Rattle.reply.specs.declared.Reply.{Reply}
use Rattle.agreement.specs.Demand3.{Engine, fed_at, IsSubframe}
use Rattle.agreement.specs.Run.{Item, window_at, window_mode, Schedule, BringsSent}
use Rattle.agreement.specs.Window.{Entry, at, is_heard, is_pdcch, any_of, lost_before, heard_pdcchs}
use Rattle.diagnosis.specs.Diagnosis.{entries_at, last_dai}
use Rattle.playing.specs.Decided.{Legal}
use Rattle.playing.specs.Game.{Turn, held, passed, lost, grants_in, losses_in, seen_after, replied, won}

-- What a subframe comes to in the game: a PDCCH that was sent is a grant, passed if it was heard and lost if not.
abbrev pub turn_of : Send → Heard → Turn
turn_of sent heard = cond (is_sent_pdcch sent) (cond (is_heard heard) passed lost) held

-- The play to which subframes in time order come, after a play; of a play the newest turn comes first.
abbrev pub play_after : List Turn → List Entry → List Turn
play_after earlier [] = earlier
play_after earlier (at k sent heard ∷ es) = play_after (turn_of sent heard ∷ earlier) es

-- The play of the window of s.
abbrev pub play_at : Settings → (ℕ → Send) → List Item → ℕ → List Turn
play_at set sent items s = play_after [] (entries_at set sent items s)

-- The window of s is there and bundled, by its own mode.
abbrev pub IsBundled : Settings → List Item → ℕ → Type 0
IsBundled set items s = (0 < length (window_at set s)) × ((window_mode set items s ≡ 0) ⊎ (length (window_at set s) ≡ 1))

-- A reply is sent.
abbrev pub IsSent : Result Answer ℕ → Type 0
IsSent a = (r : Reply) × (a ≡ Ok (answer.Sent r))

pub record LossesHidden (e : Engine) (set : Settings) (sent : ℕ → Send) (items : List Item) : Type 0 where
  -- the window is a play of the game of its size
  pub size : (s : ℕ) → length (play_at set sent items s) ≡ length (window_at set s)
  -- of as many heard grants as PDCCHs were heard, U, the last of which carries the play's V
  pub values : (s : ℕ) → ((seen_after (play_at set sent items s)).u ≡ heard_pdcchs (entries_at set sent items s))
      × (any_of is_pdcch (entries_at set sent items s) ≡ true → (seen_after (play_at set sent items s)).v ≡ last_dai (entries_at set sent items s))
  -- in it "a bundled reply is sent" exactly where one is sent that answers for a PDCCH
  pub replied : (i s : ℕ) (x : Heard) → IsSubframe set items i s x → IsBundled set items s
      → (replied (play_at set sent items s) ≡ true) ↔ (IsSent (fed_at e set items i x).answer × (any_of is_pdcch (entries_at set sent items s) ≡ true))
  -- and the radio has won exactly where a reply is sent "though a grant before the last heard was lost"
  pub won : (i s : ℕ) (x : Heard) → IsSubframe set items i s x → IsBundled set items s
      → (won (play_at set sent items s) ≡ true) ↔ (IsSent (fed_at e set items i x).answer × (1 ≤ lost_before (entries_at set sent items s)))
  -- what such a reply hides is four PDCCHs or eight
  pub which : (i s : ℕ) (x : Heard) → IsSubframe set items i s x → IsBundled set items s → IsSent (fed_at e set items i x).answer
      → 1 ≤ lost_before (entries_at set sent items s)
      → (lost_before (entries_at set sent items s) ≡ 4) ⊎ (lost_before (entries_at set sent items s) ≡ 8)
  -- so no reply hides a loss where at most four PDCCHs are sent in the window, or at most three of them lost
  pub few : (i s : ℕ) (x : Heard) → IsSubframe set items i s x → IsBundled set items s → IsSent (fed_at e set items i x).answer
      → (grants_in (play_at set sent items s) ≤ 4) ⊎ (losses_in (play_at set sent items s) ≤ 3) → lost_before (entries_at set sent items s) ≡ 0
  -- in configuration 5 this is about every window: its windows have nine subframes and are bundled
  pub five : set.config ≡ 5 → (s : ℕ) → 0 < length (window_at set s) → (length (window_at set s) ≡ 9) × (window_mode set items s ≡ 0)
  -- and in no other configuration a bundled reply hides a loss at all
  pub others : (set.config ≡ 5 → ⊥) → (i s : ℕ) (x : Heard) → IsSubframe set items i s x → IsBundled set items s
      → IsSent (fed_at e set items i x).answer → lost_before (entries_at set sent items s) ≡ 0

-- Of every run: whichever valid grants, scheduled blocks and releases were sent by the DAI rule, whichever of them were lost, refused
-- feeds and changes of mode included.
abbrev pub Hides : Engine → Type 0
Hides e =
    (set : Settings) → settings_refusal set ≡ 0 → (sent : ℕ → Send) → Schedule set sent
    → (items : List Item) → BringsSent set sent items → LossesHidden e set sent items

-- That so many PDCCHs are sent in a window of configuration 5, at most four of them are lost, so four, and the radio has won, in a run that
-- meets the hypotheses of demand 3.
pub record Hidden (grants : ℕ) : Type 0 where
  pub set : Settings
  pub five : set.config ≡ 5
  pub accepted : settings_refusal set ≡ 0
  pub sent : ℕ → Send
  pub schedule : Schedule set sent
  pub items : List Item
  pub brings : BringsSent set sent items
  -- the window of s, whose uplink subframe item i feeds with x
  pub i : ℕ
  pub s : ℕ
  pub x : Heard
  pub is_subframe : IsSubframe set items i s x
  pub is_bundled : IsBundled set items s
  pub play : Legal 9 grants 4 (play_at set sent items s)
  pub is_won : won (play_at set sent items s) ≡ true

-- It happens, in some run, with each number of grants with which the radio can force it.
abbrev pub Happens : Type 0
Happens = (grants : ℕ) → 5 ≤ grants → grants ≤ 9 → Hidden grants
