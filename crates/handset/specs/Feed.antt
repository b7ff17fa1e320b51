-- Feeding a handset: document 01, "The running handset" and refusals 8 to 12; document 02, U1, 18, U2, 20, and U8.
-- Assumes nothing.
use Rattle.std.specs.Prelude.{Result, Ok, Err, ℕ, zero, suc, ◌+◌, ◌%◌, cond, ◌∷◌}
use Rattle.frame.specs.declared.Settings.{Settings}
use Rattle.frame.specs.Layout.{downlink}
use Rattle.frame.specs.Settings.{or_else}
use Rattle.reply.specs.declared.Answer.{Answer}
use Rattle.reply.specs.declared.Answer.TheVariants.{Taken}
use Rattle.heard.specs.declared.Heard.{Heard}
use Rattle.heard.specs.declared.View.{View}
use Rattle.heard.specs.Heard.{cause_of}
use Rattle.heard.specs.Memory.{slot_of, view_ago, block_ago}
use Rattle.reply.specs.Replies.{window_answer}
use Rattle.handset.specs.declared.Handset.{Handset}
use Rattle.handset.specs.Make.{slots_from}
use Rattle.handset.specs.Modes.{modes_pushed, in_window_mode}
use Rattle.handset.specs.Sound.{state_refusal}

-- Feeding a downlink subframe answers "taken"; an uplink one what its window says of the subframes before it.
unfoldable pub answer_of : Settings → ℕ → (ℕ → View) → Answer
answer_of s n view = cond (downlink s.config n) Taken (window_answer s n view)

-- The settings in which the window of the subframe that is expected is answered.
unfoldable pub window_settings : Handset → Settings
window_settings h = in_window_mode h.settings h.next h.modes

-- The answer of a state at the subframe it expects.
unfoldable pub next_answer : Handset → Answer
next_answer h = answer_of (window_settings h) h.next (view_ago h.past)

-- The handset with the subframe remembered, in the mode that stands; after 9 comes 0.
unfoldable pub pushed : Handset → Heard → Handset
pushed h x =
    record {
      settings = h.settings;
      next = (h.next + 1) % 10;
      modes = modes_pushed h.modes h.settings.mode;
      past = slot_of x ∷ slots_from 12 0 h.past;
    }

-- A feed refuses 8, then 9, 20, 10 to 12 and 18 for what it brings in the subframe that is expected.
unfoldable pub feed_refusal : Handset → Heard → ℕ
feed_refusal h x = or_else (state_refusal h) (cause_of h.settings h.next (block_ago h.past) x)

-- What a feed gives: the answer or the refusal, and the handset after it.
pub record Fed : Type 0 where
  pub answer : Result Answer ℕ
  pub handset : Handset

-- A refusal leaves the handset as it was.
abbrev pub fed_as : ℕ → Handset → Heard → Fed
fed_as zero h x = record { answer = Ok (next_answer h); handset = pushed h x }
fed_as (suc k) h x = record { answer = Err (suc k); handset = h }

unfoldable pub feed_of : Handset → Heard → Fed
feed_of h x = fed_as (feed_refusal h x) h x
