-- What the program `replay-text` prints of a recorded drive, said of the run: a line names the frame and the subframe in which its
-- window was answered, and what was answered there.
-- Assumes nothing.
use Rattle.std.specs.Prelude.{Some, None, Result, Ok, Err, ℕ, ◌/◌, ◌%◌, ◌<◌, true, List, [], ◌≡◌, length}
use Rattle.counting.specs.Windows.{has_window, windows_before}
use Rattle.reply.specs.declared.Answer.{Answer}
use Rattle.reply.specs.declared.Answer.TheVariants.{Taken, NoWindow, Silent, Sent}
use Rattle.trace.specs.Trace.{settings_of}
use Rattle.reader.specs.Record.{brought_at}
use Rattle.replaying.specs.Replay.{start_refusal, output_of}
use Rattle.reporting.specs.Text.{line_text, window_text}
use Rattle.agreement.specs.Demand3.{cause_at}
use Rattle.recorded.specs.Run.{run_of, answer_to}

-- The line of what subframe i was answered.
abbrev pub answer_line : ℕ → Result Answer ℕ → List ℕ
answer_line i (Ok Silent) = line_text (i / 10) (i % 10) None 0 0 0
answer_line i (Ok (Sent r)) = line_text (i / 10) (i % 10) (Some r.kind) r.resource.0 r.b0 r.b1
answer_line i (Ok Taken) = []
answer_line i (Ok NoWindow) = []
answer_line i (Err k) = []

-- Subframe i completes window number windows_before c i; its line says what it was answered.
abbrev pub LinesRight : List ℕ → Type 0
LinesRight l =
    (old : List ℕ) → start_refusal l (length old) ≡ 0
    → (i : ℕ) → i < length (run_of l) → cause_at (settings_of l) (run_of l) i (brought_at l i) ≡ 0 → has_window (settings_of l).config (i % 10) ≡ true
    → window_text l (output_of l old) (windows_before (settings_of l).config i) ≡ answer_line i (answer_to l i)
