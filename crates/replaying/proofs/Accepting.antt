-- A trace is accepted exactly if its replay runs to its end: specs/Accepted.antt, proved. Assumes nothing.
use Prim.Native.Nat.{ℕ, zero, suc, ◌≤◌}
use mathlib.Core.Bool.{Bool, true, false, cond}
use mathlib.Core.List.{List}
use mathlib.Core.Path.{◌≡◌, refl}
use native.Mathlib.Nat.{le_refl}
use native.Mathlib.Omega.{arith}
use lib.Dec.{eqb}
use borrow.Author.Tests.{le-ltb, eqb-true}
use Rattle.frame.specs.Settings.{or_else}
use Rattle.handset.specs.Make.{make_of}
use Rattle.trace.specs.Trace.{settings_of, trace_refusal}
use Rattle.replaying.specs.Accepted.{AcceptedTrace, ReplaysToItsEnd, AcceptedExactly}
use Rattle.replaying.specs.Replay.{Played, played_in, output_needed, start_refusal, replayed_as, replay_of}

-- With room, what is refused before any record is the trace or its settings.
pub roomy : (l : List ℕ) (room : ℕ) → output_needed l ≤ room → start_refusal l room ≡ or_else (trace_refusal l) (or_else (make_of (settings_of l)).refusal 0)
unfolding start_refusal
roomy l room h = rw (le-ltb room (output_needed l) h)

ended : (b : Bool) → ◌≡◌ {A = ℕ} (cond b 1 2) 1 → b ≡ true
ended true e = refl
ended false e = absurd (omega arith)

module _ (l : List ℕ) where
  runs : AcceptedTrace l → ReplaysToItsEnd l
  unfolding replay_of
  runs a room h = rw (roomy l room h, a.trace, a.settings, a.records)

  done : (t m : ℕ) (p : Played) → (replayed_as (or_else t (or_else m 0)) p).kind ≡ 1 → (t ≡ 0) × (m ≡ 0) × (p.refusal ≡ 0)
  done zero zero p e = (refl, refl, eqb-true p.refusal 0 (ended (eqb p.refusal 0) e))
  done zero (suc m) p e = absurd (omega arith)
  done (suc t) m p e = absurd (omega arith)

  ran : ReplaysToItsEnd l → AcceptedTrace l
  unfolding replay_of
  ran f =
      let p = done (trace_refusal l) (make_of (settings_of l)).refusal (played_in l) (rw (roomy l (output_needed l) (le_refl (output_needed l))) at (f (output_needed l) (le_refl (output_needed l)))) in
      record { trace = p.0; settings = p.1; records = p.2 }

  pub accepted_exactly : AcceptedExactly l
  accepted_exactly = (runs, ran)
