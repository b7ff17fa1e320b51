-- A trace that is accepted, for requests that speak of one: document 02, U4 and U14.
-- Assumes nothing.
use Rattle.std.specs.Prelude.{ℕ, ◌≤◌, List, ◌↔◌, ◌≡◌}
use Rattle.handset.specs.Make.{make_of}
use Rattle.trace.specs.Trace.{settings_of, trace_refusal}
use Rattle.replaying.specs.Replay.{played_in, output_needed, replay_done, replay_of}

-- The trace is not refused, nor are its settings, nor any of its records.
pub record AcceptedTrace (l : List ℕ) : Type 0 where
  pub trace : trace_refusal l ≡ 0
  pub settings : (make_of (settings_of l)).refusal ≡ 0
  pub records : (played_in l).refusal ≡ 0

-- That is, its replay runs to its end in every output that is large enough for it: 23 alone is left aside.
abbrev pub ReplaysToItsEnd : List ℕ → Type 0
ReplaysToItsEnd l = (room : ℕ) → output_needed l ≤ room → (replay_of l room).kind ≡ replay_done

abbrev pub AcceptedExactly : List ℕ → Type 0
AcceptedExactly l = AcceptedTrace l ↔ ReplaysToItsEnd l
