-- The cause of a silence is true: document 02, U11, in the runs of demand 3 (document 01), changes of mode among them. A handset tells
-- the cause from what it heard; here is what that says of what was sent and lost in the window, which it does not know.
-- The statement is about an engine and an explaining call, so that wrong ones can be refuted (proofs/WrongCauses.antt); proofs/True.antt
-- proves it of the engine of this repository and of explain_of, the definition that the promise of silence::explain is an equation with.
-- Assumes nothing.
use Rattle.std.specs.Prelude.{Some, None, Ok, ℕ, ◌+◌, ◌-◌, ◌%◌, ◌≤◌, false, cond, List, [], ◌∷◌, ◌↔◌, ◌≡◌, length}
use Rattle.frame.specs.declared.Settings.{Settings}
use Rattle.frame.specs.Settings.{settings_refusal}
use Rattle.confirmation.specs.declared.Send.{Send}
use Rattle.heard.specs.declared.Heard.{Heard}
use Rattle.heard.specs.declared.Heard.TheVariants.{Nothing, Granted, Scheduled, Released}
use Rattle.reply.specs.declared.Answer.TheVariants.{Silent}
use Rattle.silence.specs.declared.Cause.TheVariants.{NothingHeard, MissShown}
use Rattle.silence.specs.Cause.{Explained}
use Rattle.silence.specs.Exactly.{Explaining}
use Rattle.agreement.specs.Demand3.{Engine, handset_at, fed_at, IsFeed, IsSubframe}
use Rattle.agreement.specs.Run.{Item, heard_in_run, sent_ago, heard_ago, window_at, Schedule, BringsSent}
use Rattle.agreement.specs.Window.{Entry, at, in_time, is_heard, is_pdcch, any_of, lost_before, heard_pdcchs}

-- What the call tells of item i, which brings x to the handset that the items before it left.
abbrev pub explained_at : Engine → Explaining → Settings → List Item → ℕ → Heard → Explained
explained_at e explain set items i x = explain (handset_at e set items i) x

-- The subframes of the window of s in time order, with what was sent and what was heard in each.
abbrev pub entries_at : Settings → (ℕ → Send) → List Item → ℕ → List Entry
entries_at set sent items s = in_time (sent_ago sent s) (heard_ago (heard_in_run set items) s) (window_at set s)

-- The DAI of a PDCCH; 0 of all else.
abbrev pub heard_dai : Heard → ℕ
heard_dai Nothing = 0
heard_dai (Granted g) = g.dai
heard_dai (Scheduled b) = 0
heard_dai (Released p) = p.dai

-- V: the DAI of the last PDCCH heard in the window; 0 where none was.
abbrev pub last_dai : List Entry → ℕ
last_dai [] = 0
last_dai (at k sent heard ∷ es) = cond (any_of is_pdcch es) (last_dai es) (heard_dai heard)

-- What the causes told in a run say.
pub record CausesTold (e : Engine) (explain : Explaining) (set : Settings) (sent : ℕ → Send) (items : List Item) : Type 0 where
  -- what is fed is fed as ever: "Beside a silent answer give its cause",
  pub fed : (i : ℕ) (x : Heard) → IsFeed items i x → (explained_at e explain set items i x).fed ≡ fed_at e set items i x
  -- and beside no other
  pub not_silent : (i : ℕ) (x : Heard) → IsFeed items i x
      → ((explained_at e explain set items i x).cause ≡ None) ↔ ((fed_at e set items i x).answer ≡ (Ok Silent) → ⊥)
  -- "nothing heard in the window" is told of a silence exactly where nothing was heard in the window
  pub nothing_heard : (i s : ℕ) (x : Heard) → IsSubframe set items i s x → (fed_at e set items i x).answer ≡ Ok Silent
      → ((explained_at e explain set items i x).cause ≡ (Some NothingHeard)) ↔ (any_of is_heard (entries_at set sent items s) ≡ false)
  -- "a miss shown" exactly where PDCCHs before the last heard one were lost, and not a multiple of four of them, which V would not show
  pub miss_shown : (i s : ℕ) (x : Heard) → IsSubframe set items i s x → (fed_at e set items i x).answer ≡ Ok Silent
      → ((v w : ℕ) × ((explained_at e explain set items i x).cause ≡ Some (MissShown v w))) ↔ (lost_before (entries_at set sent items s) % 4 ≡ 0 → ⊥)
  -- "with V and the value expected", ((U − 1) mod 4) + 1
  pub values : (i s : ℕ) (x : Heard) → IsSubframe set items i s x → (v w : ℕ) → (explained_at e explain set items i x).cause ≡ Some (MissShown v w)
      → (v ≡ last_dai (entries_at set sent items s)) × (w ≡ (heard_pdcchs (entries_at set sent items s) - 1) % 4 + 1)
  -- by which they differ is how many were lost before the last heard one, up to a multiple of four
  pub how_many : (i s : ℕ) (x : Heard) → IsSubframe set items i s x → (v w : ℕ) → (explained_at e explain set items i x).cause ≡ Some (MissShown v w)
      → lost_before (entries_at set sent items s) % 4 ≡ (v + 4 - w) % 4
  -- and in a window of at most four subframes exactly how many
  pub exactly : (i s : ℕ) (x : Heard) → IsSubframe set items i s x → length (window_at set s) ≤ 4 → (v w : ℕ)
      → (explained_at e explain set items i x).cause ≡ Some (MissShown v w) → lost_before (entries_at set sent items s) ≡ (v + 4 - w) % 4

-- Of every run: whichever valid grants, scheduled blocks and releases were sent by the DAI rule, whichever of them were lost, refused
-- feeds and changes of mode included.
abbrev pub Diagnosed : Engine → Explaining → Type 0
Diagnosed e explain =
    (set : Settings) → settings_refusal set ≡ 0 → (sent : ℕ → Send) → Schedule set sent
    → (items : List Item) → BringsSent set sent items → CausesTold e explain set sent items
