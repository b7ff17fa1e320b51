-- Lists of commands on numbers, so that the statements are about something: one whose feeds are a worked run of engines/proofs/Worked.antt
-- and bring what its station sends, one with a feed that is refused, one with a change of mode in between, and replies of each kind.
-- Configuration 1, N_RB 50.
-- Assumes nothing.
use Prim.Native.Nat.{ℕ, zero, suc}
use mathlib.Core.Bool.{Bool, true, false}
use mathlib.Core.List.{List, [], ◌∷◌, ◌++◌, map}
use mathlib.Core.Path.{◌≡◌, refl}
use lib.ListN.{drop, replicate}
use Rattle.heard.specs.declared.Heard.TheVariants.{Nothing}
use Rattle.handset.specs.declared.Handset.{Handset}
use Rattle.handset.specs.Make.{make_of}
use Rattle.reader.specs.Record.{slot_at, used_results, used_in, brought_by}
use Rattle.replaying.specs.Written.{window_bytes}
use Rattle.registers.specs.Call.{window_brought, handset_fed, obeyed, AfterCommand, command_of}
use Rattle.registers.specs.Machine.{Written, started, feed_step, step}
use Rattle.registers.specs.Lists.{calls, runs}
use Rattle.agreement.specs.Demand3.{feedback_engine, HoldsAfter}
use Rattle.engines.proofs.Computing.{handsets}
use Rattle.engines.proofs.Finite.{sending, scheduled, brought}
use Rattle.engines.proofs.ChangedRuns.{after_refused, after_refused_holds}
use Rattle.engines.proofs.Worked.{cell, scheduled_cell, all_heard, all_heard_holds}
use Rattle.frame.specs.declared.Settings.{Settings}
use Rattle.commanded.specs.Run.{Act, command, own_feed, own_change, run_of, call_at, running_after}
use Rattle.commanded.proofs.Run.{commands_run}

-- The definitions that a list of commands computes with, beside those of the handset.
unfoldable pub commands : Unit {0}
unfolding handsets slot_at used_results used_in brought_by window_bytes window_brought handset_fed obeyed command_of feed_step step run_of running_after
commands = tt

abbrev pub written : ℕ → ℕ → ℕ → ℕ → ℕ → ℕ → Written
written asked kind cce dai results mask =
    record { slot = record { kind = kind; cce = cce; dai = dai; results = results }; command = asked; mask = mask }

abbrev pub nothing_fed : ℕ → Written
nothing_fed = written 1 0 0 0 0

abbrev pub cleared : ℕ → ℕ → Written
cleared flags = written 2 flags 0 0 0

abbrev pub made : Handset
made = (make_of (cell 1 0)).handset

-- What is seen of each call: the refusal, the line and the block.
pub record Seen : Type 0 where
  pub refusal : ℕ
  pub line : Bool
  pub block : List ℕ

abbrev pub seen_of : AfterCommand → Seen
seen_of a = record { refusal = a.told.refusal; line = a.told.line; block = a.block }

-- N1 10, mode 0, one block. Grants of DAI 1 and 2 with first CCEs 3 and 10, both decoded; then nothing, with a kind and a command that
-- there are not in between. Of the grants' results bits that are not used are set.
abbrev pub drive : List Written
drive =
    written 1 1 3 1 3 7
    ∷ written 1 1 10 2 251 7
    ∷ written 0 1 10 2 251 0
    ∷ nothing_fed 1
    ∷ nothing_fed 4
    ∷ cleared 12 4
    ∷ written 1 9 0 0 0 2
    ∷ written 200 0 0 0 0 0
    ∷ cleared 3 7
    ∷ nothing_fed 0
    ∷ nothing_fed 0
    ∷ nothing_fed 0
    ∷ nothing_fed 255
    ∷ []

abbrev seen : ℕ → Bool → List ℕ → Seen
seen refusal line block = record { refusal = refusal; line = line; block = block }

-- Subframes 2 and 3 are silent, and the second reply overwrites the first; in 7 a bundled reply on resource 31, ACK.
abbrev drive_shows : List Seen
drive_shows =
    seen 0 false (1 ∷ 3 ∷ 1 ∷ 3 ∷ 1 ∷ 0 ∷ 7 ∷ 0 ∷ 0 ∷ 0 ∷ 0 ∷ 0 ∷ 0 ∷ 0 ∷ 0 ∷ 0 ∷ [])
    ∷ seen 0 false (1 ∷ 10 ∷ 2 ∷ 251 ∷ 1 ∷ 0 ∷ 7 ∷ 0 ∷ 0 ∷ 0 ∷ 0 ∷ 0 ∷ 0 ∷ 0 ∷ 0 ∷ 0 ∷ [])
    ∷ seen 0 false (1 ∷ 10 ∷ 2 ∷ 251 ∷ 0 ∷ 0 ∷ 0 ∷ 0 ∷ 0 ∷ 0 ∷ 0 ∷ 0 ∷ 0 ∷ 0 ∷ 0 ∷ 0 ∷ [])
    ∷ seen 0 true (0 ∷ 0 ∷ 0 ∷ 0 ∷ 1 ∷ 1 ∷ 1 ∷ 0 ∷ 2 ∷ 0 ∷ 0 ∷ 0 ∷ 0 ∷ 0 ∷ 0 ∷ 0 ∷ [])
    ∷ seen 0 true (0 ∷ 0 ∷ 0 ∷ 0 ∷ 1 ∷ 5 ∷ 4 ∷ 0 ∷ 3 ∷ 0 ∷ 0 ∷ 0 ∷ 0 ∷ 0 ∷ 0 ∷ 0 ∷ [])
    ∷ seen 0 false (12 ∷ 0 ∷ 0 ∷ 0 ∷ 2 ∷ 1 ∷ 4 ∷ 0 ∷ 3 ∷ 0 ∷ 0 ∷ 0 ∷ 0 ∷ 0 ∷ 0 ∷ 0 ∷ [])
    ∷ seen 22 true (9 ∷ 0 ∷ 0 ∷ 0 ∷ 1 ∷ 3 ∷ 2 ∷ 22 ∷ 3 ∷ 0 ∷ 0 ∷ 0 ∷ 0 ∷ 0 ∷ 0 ∷ 0 ∷ [])
    ∷ seen 28 false (0 ∷ 0 ∷ 0 ∷ 0 ∷ 200 ∷ 3 ∷ 0 ∷ 28 ∷ 3 ∷ 0 ∷ 0 ∷ 0 ∷ 0 ∷ 0 ∷ 0 ∷ 0 ∷ [])
    ∷ seen 0 false (3 ∷ 0 ∷ 0 ∷ 0 ∷ 2 ∷ 0 ∷ 7 ∷ 28 ∷ 3 ∷ 0 ∷ 0 ∷ 0 ∷ 0 ∷ 0 ∷ 0 ∷ 0 ∷ [])
    ∷ seen 0 false (0 ∷ 0 ∷ 0 ∷ 0 ∷ 1 ∷ 0 ∷ 0 ∷ 28 ∷ 3 ∷ 0 ∷ 0 ∷ 0 ∷ 0 ∷ 0 ∷ 0 ∷ 0 ∷ [])
    ∷ seen 0 false (0 ∷ 0 ∷ 0 ∷ 0 ∷ 1 ∷ 0 ∷ 0 ∷ 28 ∷ 3 ∷ 0 ∷ 0 ∷ 0 ∷ 0 ∷ 0 ∷ 0 ∷ 0 ∷ [])
    ∷ seen 0 false (0 ∷ 0 ∷ 0 ∷ 0 ∷ 1 ∷ 0 ∷ 0 ∷ 28 ∷ 3 ∷ 0 ∷ 0 ∷ 0 ∷ 0 ∷ 0 ∷ 0 ∷ 0 ∷ [])
    ∷ seen 0 true (0 ∷ 0 ∷ 0 ∷ 0 ∷ 1 ∷ 1 ∷ 255 ∷ 28 ∷ 7 ∷ 1 ∷ 31 ∷ 0 ∷ 1 ∷ 0 ∷ 0 ∷ 0 ∷ [])
    ∷ []

pub drive_seen : map seen_of (calls command_of (replicate 16 0) made drive) ≡ drive_shows
unfolding commands
drive_seen = refl

pub drive_runs : map seen_of (runs (started made) drive) ≡ drive_shows
unfolding commands
drive_runs = refl

-- Its feeds are those of the worked run, of whose schedule demand 3 therefore holds.
pub drive_run : run_of (map command drive) ≡ all_heard.items
unfolding commands
drive_run = refl

pub drive_holds : HoldsAfter feedback_engine (cell 1 0) (sending all_heard.sends) (run_of (map command drive))
unfolding commands
drive_holds = (commands_run (cell 1 0) refl (map command drive)).holds (sending all_heard.sends) all_heard_holds.schedule all_heard_holds.brings

-- A grant in subframe 3, which is uplink, is refused 9 with a reply unread: the reply stays, and subframe 3 is fed afterwards.
abbrev pub false_alarm : List Written
false_alarm = nothing_fed 0 ∷ nothing_fed 0 ∷ nothing_fed 1 ∷ written 1 1 3 1 1 2 ∷ nothing_fed 2 ∷ []

pub false_alarm_seen : map seen_of (calls command_of (replicate 16 0) made false_alarm)
    ≡ seen 0 false (0 ∷ 0 ∷ 0 ∷ 0 ∷ 1 ∷ 0 ∷ 0 ∷ 0 ∷ 0 ∷ 0 ∷ 0 ∷ 0 ∷ 0 ∷ 0 ∷ 0 ∷ 0 ∷ [])
    ∷ seen 0 false (0 ∷ 0 ∷ 0 ∷ 0 ∷ 1 ∷ 0 ∷ 0 ∷ 0 ∷ 0 ∷ 0 ∷ 0 ∷ 0 ∷ 0 ∷ 0 ∷ 0 ∷ 0 ∷ [])
    ∷ seen 0 true (0 ∷ 0 ∷ 0 ∷ 0 ∷ 1 ∷ 1 ∷ 1 ∷ 0 ∷ 2 ∷ 0 ∷ 0 ∷ 0 ∷ 0 ∷ 0 ∷ 0 ∷ 0 ∷ [])
    ∷ seen 9 true (1 ∷ 3 ∷ 1 ∷ 1 ∷ 1 ∷ 3 ∷ 2 ∷ 9 ∷ 2 ∷ 0 ∷ 0 ∷ 0 ∷ 0 ∷ 0 ∷ 0 ∷ 0 ∷ [])
    ∷ seen 0 true (0 ∷ 0 ∷ 0 ∷ 0 ∷ 1 ∷ 7 ∷ 2 ∷ 9 ∷ 3 ∷ 0 ∷ 0 ∷ 0 ∷ 0 ∷ 0 ∷ 0 ∷ 0 ∷ [])
    ∷ []
unfolding commands
false_alarm_seen = refl

-- Nothing was sent, so that demand 3 holds of it, with its feed that is refused: the grant in 3 is not heard.
pub false_alarm_holds : HoldsAfter feedback_engine (cell 1 0) (sending []) (run_of (map command false_alarm))
unfolding commands
false_alarm_holds =
    (commands_run (cell 1 0) refl (map command false_alarm)).holds (sending [])
    (scheduled (cell 1 0) [] tt) (brought (cell 1 0) [] (run_of (map command false_alarm)) tt)

-- What the command w shows after what was done before it, from a fresh handset with these settings: bytes 4 to 15.
abbrev pub shown_at : Settings → List Act → Written → List ℕ
shown_at set before w = drop 4 (call_at command_of set before w).block

abbrev pub fed_nothing : ℕ → List Act
fed_nothing zero = []
fed_nothing (suc n) = command (nothing_fed 0) ∷ fed_nothing n

-- The worked run `after_refused` of engines/proofs/ChangedRuns.antt: made in mode 0, a grant of DAI 5 is refused 12 in subframe 0, the mode
-- is changed to 1 by its own call, then 0 is fed. The window of 7 is multiplexed, with the state A,A; the flag of the refusal still stands.
abbrev pub mode_changed : List Act
mode_changed = command (written 1 1 3 5 1 0) ∷ own_change 1 ∷ command (written 1 1 3 1 1 0) ∷ command (written 1 1 10 2 1 0) ∷ []

pub multiplexed_shown : shown_at (cell 1 0) (mode_changed ++ fed_nothing 5) (nothing_fed 0) ≡ 1 ∷ 7 ∷ 0 ∷ 12 ∷ 7 ∷ 2 ∷ 31 ∷ 0 ∷ 1 ∷ 1 ∷ 0 ∷ 0 ∷ []
unfolding commands
multiplexed_shown = refl

pub mode_changed_run : run_of (mode_changed ++ fed_nothing 6) ≡ after_refused.items
unfolding commands
mode_changed_run = refl

pub mode_changed_holds : HoldsAfter feedback_engine (cell 1 0) (sending after_refused.sends) (run_of (mode_changed ++ fed_nothing 6))
unfolding commands
mode_changed_holds = (commands_run (cell 1 0) refl (mode_changed ++ fed_nothing 6)).holds (sending after_refused.sends) after_refused_holds.schedule after_refused_holds.brings

-- Two antenna ports, two blocks, N1 300: the grant of 0 decoded both blocks, that of 1 the first alone. The reply in 7 is on resource 339, 83
-- and 1 in bytes; 340, the second port's, is not shown.
abbrev pub two_ports : Settings
two_ports = record { config = 1; nrb = 50; n1 = 300; mode = 0; blocks = 2; scheduled = 65535; prefix = 0; special = 7; ports = 2 }

abbrev pub two_blocks : List Act
two_blocks = command (written 1 1 5 1 7 0) ∷ command (written 1 1 12 2 5 0) ∷ []

pub first_port_shown : shown_at two_ports (two_blocks ++ fed_nothing 5) (nothing_fed 0) ≡ 1 ∷ 5 ∷ 0 ∷ 0 ∷ 7 ∷ 1 ∷ 83 ∷ 1 ∷ 1 ∷ 0 ∷ 0 ∷ 0 ∷ []
unfolding commands
first_port_shown = refl

-- The scheduled resource is 7: a scheduled block in 4, decoded, is answered there in 8. The first CCE and DAI of its record say nothing.
pub block_shown : shown_at (scheduled_cell 1 0) (fed_nothing 4 ++ (command (written 1 2 99 9 3 0) ∷ fed_nothing 3)) (nothing_fed 0)
    ≡ 1 ∷ 5 ∷ 0 ∷ 0 ∷ 8 ∷ 1 ∷ 7 ∷ 0 ∷ 1 ∷ 0 ∷ 0 ∷ 0 ∷ []
unfolding commands
block_shown = refl

-- Subframe 2 fed by its own call: its silence is not shown, and the next window is that of 3.
pub own_feed_unshown : shown_at (cell 1 0) (fed_nothing 2 ++ (own_feed Nothing ∷ [])) (written 0 0 0 0 0 0) ≡ replicate 12 0
unfolding commands
own_feed_unshown = refl

pub after_own_feed : shown_at (cell 1 0) (fed_nothing 2 ++ (own_feed Nothing ∷ [])) (nothing_fed 0) ≡ 1 ∷ 1 ∷ 0 ∷ 0 ∷ 3 ∷ replicate 7 0
unfolding commands
after_own_feed = refl
