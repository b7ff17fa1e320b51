-- The feeds among the commands to a register block are a run of demand 3: document 02, U13, "the block equals the running handset", and
-- U8, "Lists of feeds in the third demand may now contain" changes of mode. So what demand 3 says of a run's answers, but for the second
-- port's resource, it says of what a block shows.
-- Assumes nothing.
use Rattle.std.specs.Prelude.{Result, ℕ, ◌%◌, Bool, true, false, cond, ◌&&◌, List, [], ◌∷◌, ◌++◌, ◌≡◌, eqb, leb, length, replicate}
use Rattle.frame.specs.declared.Settings.{Settings}
use Rattle.frame.specs.Refusals.{number_in}
use Rattle.frame.specs.Settings.{settings_refusal}
use Rattle.confirmation.specs.declared.Send.{Send}
use Rattle.heard.specs.declared.Heard.{Heard}
use Rattle.reply.specs.declared.Answer.{Answer}
use Rattle.handset.specs.declared.Handset.{Handset}
use Rattle.handset.specs.Change.{change_of}
use Rattle.handset.specs.Feed.{feed_of}
use Rattle.handset.specs.Make.{make_of}
use Rattle.reader.specs.Record.{brought_by}
use Rattle.replaying.specs.Written.{bytes_of}
use Rattle.registers.specs.Call.{AfterCommand, Call}
use Rattle.registers.specs.Exactly.{Shown}
use Rattle.registers.specs.Machine.{Written, Running, started, go_on, step, seen}
use Rattle.registers.specs.Lists.{rewritten}
use Rattle.agreement.specs.Demand3.{feedback_engine, handset_at, fed_at, IsFeed, cause_at, HoldsAfter}
use Rattle.agreement.specs.Run.{Item, feed, change, subframe_at, Schedule, BringsSent}

-- What is done with a handset behind a register block, one after the other: a command is written and obeyed; in between the handset may
-- be fed by its own call, or its mode be changed, which touches no block.
pub data Act : Type 0 where
  command : Written → Act
  own_feed : Heard → Act
  own_change : ℕ → Act

-- A command that feeds: 1, with a record of a kind that there is. 22 and 28 bring the handset nothing, and no subframe either.
abbrev pub feeds : Written → Bool
feeds w = eqb w.command 1 && leb w.slot.kind 3

-- The feeds among them, refused ones too, and the changes of mode.
unfoldable pub run_of : List Act → List Item
run_of [] = []
run_of (command w ∷ acts) = cond (feeds w) (feed (brought_by w.slot) ∷ run_of acts) (run_of acts)
run_of (own_feed x ∷ acts) = feed x ∷ run_of acts
run_of (own_change m ∷ acts) = change m ∷ run_of acts

-- What is lent to the next call.
pub record Lent : Type 0 where
  pub block : List ℕ
  pub handset : Handset

abbrev pub lent_after : Call → Lent → List Act → Lent
lent_after call l [] = l
lent_after call l (command w ∷ acts) =
    let a = call (rewritten w l.block) l.handset in
    lent_after call (record { block = a.block; handset = a.told.handset }) acts
lent_after call l (own_feed x ∷ acts) = lent_after call (record { block = l.block; handset = (feed_of l.handset x).handset }) acts
lent_after call l (own_change m ∷ acts) = lent_after call (record { block = l.block; handset = (change_of l.handset m).handset }) acts

-- "from a fresh handset and a block of zeros"
abbrev pub lent_at : Call → Settings → List Act → Lent
lent_at call set before = lent_after call (record { block = replicate 16 0; handset = (make_of set).handset }) before

-- The block as a driver wrote w into it, and the call on it, after what was done before.
abbrev pub block_at : Call → Settings → List Act → Written → List ℕ
block_at call set before w = rewritten w (lent_at call set before).block

abbrev pub call_at : Call → Settings → List Act → Written → AfterCommand
call_at call set before w = call (block_at call set before w) (lent_at call set before).handset

-- The running handset with its flags beside it after what was done: a feed or a change of its own moves the handset alone.
unfoldable pub running_after : Running → List Act → Running
running_after r [] = r
running_after r (command w ∷ acts) = running_after (step w r).running acts
running_after r (own_feed x ∷ acts) = running_after (go_on (feed_of r.handset x).handset r) acts
running_after r (own_change m ∷ acts) = running_after (go_on (change_of r.handset m).handset r) acts

abbrev pub running_at : Settings → List Act → Running
running_at set before = running_after (started (make_of set).handset) before

-- The item of the run that a feed after these acts is, and its subframe.
abbrev pub item_after : List Act → ℕ
item_after before = length (run_of before)

abbrev pub subframe_after : Settings → List Act → List Act → ℕ
subframe_after set acts before = subframe_at set (run_of acts) (item_after before)

-- What the run of all these acts answers to the feed of w after those before it.
abbrev pub answer_to : Settings → List Act → List Act → Written → Result Answer ℕ
answer_to set acts before w = (fed_at feedback_engine set (run_of acts) (item_after before) (brought_by w.slot)).answer

-- A command w of the list, and what was done before it.
abbrev pub Stands : List Act → List Act → Written → Type 0
Stands acts before w = (after : List Act) × (acts ≡ before ++ (command w ∷ after))

pub record IsRun (call : Call) (set : Settings) (acts : List Act) : Type 0 where
  -- Block, line, refusal and handset after each command are those of the running handset with its flags beside it, as in specs/Lists.antt
  -- of `registers`, with feeds and changes of its own in between.
  pub equals : (before : List Act) (w : Written) → Stands acts before w → call_at call set before w ≡ seen w (step w (running_at set before))
  -- A command that feeds is the run's next item,
  pub item : (before : List Act) (w : Written) → Stands acts before w → feeds w ≡ true → IsFeed (run_of acts) (item_after before) (brought_by w.slot)
  -- the handset that is lent to it, or to any other command there, is the run's,
  pub handset : (before : List Act) (w : Written) → Stands acts before w
      → (lent_at call set before).handset ≡ handset_at feedback_engine set (run_of acts) (item_after before)
  -- the refusal is what the run answers: the cause that is met, and 8 never,
  pub refusal : (before : List Act) (w : Written) → Stands acts before w → feeds w ≡ true
      → ((call_at call set before w).told.refusal ≡ number_in (answer_to set acts before w))
      × ((call_at call set before w).told.refusal ≡ cause_at set (run_of acts) (item_after before) (brought_by w.slot))
  -- and of a feed by command that is not refused a reply is shown exactly where the run answers a window: its bytes, as a replay writes
  -- them, and its flags; else no byte changes.
  pub reply : (before : List Act) (w : Written) → Stands acts before w → feeds w ≡ true → (call_at call set before w).told.refusal ≡ 0
      → Shown (bytes_of (subframe_after set acts before % 10) (answer_to set acts before w)) (block_at call set before w) (call_at call set before w).block
  -- Any other command leaves the run where it is.
  pub other : (before : List Act) (w : Written) → Stands acts before w → feeds w ≡ false
      → (call_at call set before w).told.handset ≡ (lent_at call set before).handset
  -- So demand 3 holds of it, for every schedule that its feeds bring.
  pub holds : (sent : ℕ → Send) → Schedule set sent → BringsSent set sent (run_of acts) → HoldsAfter feedback_engine set sent (run_of acts)

-- From a handset that is made with accepted settings, for every list of acts.
abbrev pub CommandsRun : Call → Type 0
CommandsRun call = (set : Settings) → settings_refusal set ≡ 0 → (acts : List Act) → IsRun call set acts
