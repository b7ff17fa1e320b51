-- What the answer of the game means, and when the radio wins: document 02, U12. The statement is about any answer, `forces`, so that wrong
-- ones can be refuted (proofs/WrongGames.antt); proofs/Decided.antt proves it of radio_forces.
-- Assumes nothing.
use Rattle.std.specs.Prelude.{ℕ, ◌≤◌, Bool, true, false, cond, ◌&&◌, List, [], ◌∷◌, ◌↔◌, ◌≡◌, leb, length}
use Rattle.playing.specs.Game.{Turn, held, passed, lost, grants_in, losses_in, won}

-- A rule of the radio: whether it loses the grant that is made after a play. "the radio then passes or loses": it has seen the grant.
abbrev pub RadioRule : Type 0
RadioRule = List Turn → Bool

-- The play to which it comes where the scheduler grants (true) or holds (false), the newest move first.
abbrev pub against_moves : RadioRule → List Bool → List Turn
against_moves loses [] = []
against_moves loses (move ∷ moves) =
    let earlier : List Turn = against_moves loses moves in
    cond move (cond (loses earlier) lost passed) held ∷ earlier

-- A rule of the scheduler: whether it grants after a play.
abbrev pub SchedulerRule : Type 0
SchedulerRule = List Turn → Bool

-- The play to which it comes where the radio loses (true) or passes (false) what is granted, the newest answer first.
abbrev pub against_answers : SchedulerRule → List Bool → List Turn
against_answers grants [] = []
against_answers grants (answer ∷ answers) =
    let earlier : List Turn = against_answers grants answers in
    cond (grants earlier) (cond answer lost passed) held ∷ earlier

-- A play of the game: so many subframes, "exactly G grants", "at most L losses".
pub record Legal (size grants losses : ℕ) (play : List Turn) : Type 0 where
  pub subframes : length play ≡ size
  pub granted : grants_in play ≡ grants
  pub few_lost : losses_in play ≤ losses

-- The radio has a rule that wins against all that the scheduler may do,
abbrev pub RadioWins : ℕ → ℕ → ℕ → Type 0
RadioWins size grants losses =
    (loses : RadioRule)
    × ((moves : List Bool) → length moves ≡ size → grants_in (against_moves loses moves) ≡ grants
    → (losses_in (against_moves loses moves) ≤ losses) × (won (against_moves loses moves) ≡ true))

-- and the scheduler one that keeps it from winning, whatever the radio loses.
abbrev pub SchedulerPrevents : ℕ → ℕ → ℕ → Type 0
SchedulerPrevents size grants losses =
    (rule : SchedulerRule)
    × ((answers : List Bool) → length answers ≡ size
    → (grants_in (against_answers rule answers) ≡ grants)
    × (losses_in (against_answers rule answers) ≤ losses → won (against_answers rule answers) ≡ false))

pub record Decided (forces : ℕ → ℕ → ℕ → Bool) : Type 0 where
  -- "Show that the radio wins exactly when G is at least 5 and L at least 4", whatever the size
  pub exactly : (size grants losses : ℕ) → grants ≤ size → forces size grants losses ≡ (leb 5 grants && leb 4 losses)
  -- who can force the outcome has a rule that forces it
  pub radio : (size grants losses : ℕ) → grants ≤ size → (forces size grants losses ≡ true) ↔ RadioWins size grants losses
  pub scheduler : (size grants losses : ℕ) → grants ≤ size → (forces size grants losses ≡ false) ↔ SchedulerPrevents size grants losses
  -- and where it is the scheduler, it need not try: no play at all is won
  pub no_play : (size grants losses : ℕ) → grants ≤ size → forces size grants losses ≡ false
      → (play : List Turn) → Legal size grants losses play → won play ≡ false
