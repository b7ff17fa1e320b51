-- The lines that are printed of a recorded drive: specs/Lines.antt, proved. Assumes nothing.
use Rattle.std.proofs.Common.{Option, Some, None, Result, Ok, Err}
use Prim.Native.Nat.{ℕ, ◌*◌, ◌/◌, ◌%◌, ◌≤◌}
use mathlib.Core.List.{List, ◌++◌}
use mathlib.Core.Path.{◌≡◌, refl, sym, ap, ◌∙◌}
use native.Mathlib.Decide.{dec_le}
use native.Mathlib.Omega.{arith}
use lib.ListN.{length, take, drop, length-drop}
use lib.Seq.{take_all, take-append-le, drop-append-le}
use Rattle.frame.specs.Settings.{settings_refusal}
use Rattle.counting.specs.Windows.{windows_before}
use Rattle.reply.specs.Kinds.{kind_number}
use Rattle.reply.specs.declared.Answer.{Answer}
use Rattle.reply.specs.declared.ReplyKind.{ReplyKind}
use Rattle.reply.specs.declared.ReplyKind.TheVariants.{Bundled, Multiplexed}
use Rattle.reply.specs.declared.Answer.TheVariants.{Taken, NoWindow, Silent, Sent}
use Rattle.trace.specs.Trace.{settings_of}
use Rattle.replaying.specs.Replay.{played_in, written, output_of}
use Rattle.replaying.specs.Written.{bytes_of}
use Rattle.reporting.specs.Text.{frame_of, kind_of, line_text, window_text}
use Rattle.reporting.proofs.Frame.{frame_right}
use Rattle.reporting.proofs.Named.{line_named}
use Rattle.recorded.specs.Lines.{answer_line, LinesRight}
use Rattle.recorded.specs.Run.{answer_to, IsRun}
use Rattle.recorded.proofs.Run.{is_run}

-- As many as were taken are there.
full : (n : ℕ) (xs : List ℕ) → length (take n xs) ≡ n → n ≤ length xs
full n xs e = go (dec_le n (length xs))
  where
    go : Dec (n ≤ length xs) → n ≤ length xs
    go (yes h) = h
    go (no h) = absurd (h (omega (arith, e, ap length (take_all n xs (omega arith)))))

-- Bytes of the windows are bytes of the output.
inside : (at : ℕ) (bytes rest : List ℕ) → length (take 8 (drop at bytes)) ≡ 8 → take 8 (drop at (bytes ++ rest)) ≡ take 8 (drop at bytes)
inside at bytes rest e =
    let room = full 8 (drop at bytes) e in
    rw (drop-append-le at bytes rest (omega (arith, room, length-drop at bytes)), take-append-le 8 (drop at bytes) rest room)

-- A reply's kind comes back from its number.
kind_back : (kind : ReplyKind) → kind_of (kind_number kind) ≡ Some kind
kind_back Bundled = refl
kind_back Multiplexed = refl

-- The line of a subframe, from its bytes.
from_bytes : (l out : List ℕ) (w i : ℕ) (a : Result Answer ℕ) → frame_of (settings_of l).config w ≡ i / 10 → take 8 (drop (8 * w) out) ≡ bytes_of (i % 10) a
    → length (bytes_of (i % 10) a) ≡ 8 → window_text l out w ≡ answer_line i a
from_bytes l out w i (Ok Silent) frame e size = line_named l out w _ _ _ _ _ e ∙ ap (λ (f : ℕ). line_text f (i % 10) None 0 0 0) frame
from_bytes l out w i (Ok (Sent r)) frame e size =
    line_named l out w _ _ _ _ _ e ∙ ap (λ (k : Option ReplyKind). line_text (frame_of (settings_of l).config w) (i % 10) k r.resource.0 r.b0 r.b1) (kind_back r.kind)
    ∙ ap (λ (f : ℕ). line_text f (i % 10) (Some r.kind) r.resource.0 r.b0 r.b1) frame
from_bytes l out w i (Ok Taken) frame e size = absurd (omega arith)
from_bytes l out w i (Ok NoWindow) frame e size = absurd (omega arith)
from_bytes l out w i (Err k) frame e size = absurd (omega arith)

pub lines_right : (l : List ℕ) → settings_refusal (settings_of l) ≡ 0 → LinesRight l
lines_right l good old start i h none has =
    let run : IsRun l = is_run l good in
    let at = run.window i h none has in
    let place : ℕ = 8 * windows_before (settings_of l).config i in
    let there = inside place (played_in l).bytes (drop (length (played_in l).bytes) old) (ap length at.0 ∙ at.1) in
    let output = run.output old start ∙ ap (λ (b : List ℕ). written b old) (sym run.prints) in
    from_bytes l (output_of l old) (windows_before (settings_of l).config i) i (answer_to l i) (frame_right (settings_of l).config i has)
    (ap (λ (out : List ℕ). take 8 (drop (8 * windows_before (settings_of l).config i) out)) output ∙ there ∙ at.0) at.1
