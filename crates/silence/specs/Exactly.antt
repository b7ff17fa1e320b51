-- What U11 asks of a call beside the feed, in its words, for every handset and whatever it is fed: a handset that 8 refuses is not
-- silent, so this is for every state that 8 accepts. It leaves no choice (only_explanation in proofs/Exactly.antt).
-- Assumes nothing.
use Rattle.std.specs.Prelude.{Some, None, Ok, ℕ, ◌≤◌, true, false, ◌↔◌, ◌≡◌, length}
use Rattle.frame.specs.Settings.{bundles}
use Rattle.frame.specs.Table.{window_of}
use Rattle.heard.specs.declared.Heard.{Heard}
use Rattle.heard.specs.declared.Heard.TheVariants.{Nothing}
use Rattle.fold.specs.Fold.{expected}
use Rattle.reply.specs.declared.Answer.TheVariants.{Silent}
use Rattle.handset.specs.declared.Handset.{Handset}
use Rattle.handset.specs.Feed.{window_settings, feed_of}
use Rattle.silence.specs.declared.Cause.TheVariants.{NothingHeard, MissShown}
use Rattle.silence.specs.Cause.{Explained}
use Rattle.silence.specs.Cause.{window_seen}

-- A call that explains the feed of a handset.
abbrev pub Explaining : Type 0
Explaining = Handset → Heard → Explained

-- The window's two values differ: V and ((U − 1) mod 4) + 1.
abbrev pub Differ : Handset → Type 0
Differ h = (window_seen h).v ≡ expected (window_seen h).u → ⊥

-- "DAI 1 to 4"
abbrev pub IsDai : ℕ → Type 0
IsDai dai = (1 ≤ dai) × (dai ≤ 4)

pub record Explains (explain : Explaining) : Type 0 where
  -- its fed part is the feed's own
  pub fed : (h : Handset) (x : Heard) → (explain h x).fed ≡ feed_of h x
  -- "Beside a silent answer give its cause", and beside no other
  pub not_silent : (h : Handset) (x : Heard) → ((explain h x).cause ≡ None) ↔ ((feed_of h x).answer ≡ (Ok Silent) → ⊥)
  -- "It is the first exactly if U = 0 and no scheduled block was heard,"
  pub nothing_heard : (h : Handset) (x : Heard) → (feed_of h x).answer ≡ Ok Silent
      → ((explain h x).cause ≡ (Some NothingHeard)) ↔ (((window_seen h).u ≡ 0) × ((window_seen h).scheduled ≡ false))
  -- "the second exactly if U is above 0 and the two values differ";
  pub miss_shown : (h : Handset) (x : Heard) → (feed_of h x).answer ≡ Ok Silent
      → ((v e : ℕ) × ((explain h x).cause ≡ Some (MissShown v e))) ↔ ((1 ≤ (window_seen h).u) × Differ h)
  -- "with V and the value expected"
  pub values : (h : Handset) (x : Heard) (v e : ℕ) → (explain h x).cause ≡ Some (MissShown v e)
      → (v ≡ (window_seen h).v) × (e ≡ expected (window_seen h).u)
  -- each of them a DAI
  pub ranges : (h : Handset) (x : Heard) (v e : ℕ) → (explain h x).cause ≡ Some (MissShown v e) → IsDai v × IsDai e
  -- a miss is shown only where the window is bundled, by its own mode, and the configuration reads the DAI: a multiplexed silence heard
  -- nothing
  pub bundled_only : (h : Handset) (x : Heard) (v e : ℕ) → (explain h x).cause ≡ Some (MissShown v e)
      → (bundles (window_settings h) (length (window_of h.settings.config h.next)) ≡ true) × (1 ≤ h.settings.config)

-- Only a feed of nothing is silent: 9 refuses all else in an uplink subframe. So a call that explains feeds of nothing alone, as that for
-- C does, explains every silence.
abbrev pub OnlyNothingSilent : Type 0
OnlyNothingSilent = (h : Handset) (x : Heard) → (feed_of h x).answer ≡ (Ok Silent) → x ≡ Nothing
