-- The text of the programs over a trace: a line for each window that a replay wrote, and one for a refusal.
-- Assumes nothing.
use Rattle.std.specs.Prelude.{ℕ, ◌+◌, ◌*◌, ◌/◌, cond, Option, Some, None, List, [], ◌∷◌, ◌++◌, eqb, codes, decimal}
use Rattle.counting.specs.Windows.{windows_before}
use Rattle.reply.specs.Kinds.{kind_number}
use Rattle.reply.specs.declared.ReplyKind.{ReplyKind}
use Rattle.reply.specs.declared.ReplyKind.TheVariants.{Bundled, Multiplexed}
use Rattle.trace.specs.Trace.{byte_at, number_at, settings_of}

-- The frame of window w, both counted from 0: each frame completes as many windows as the first (proofs/Frame.antt).
unfoldable pub frame_of : ℕ → ℕ → ℕ
frame_of c w = cond (eqb (windows_before c 10) 0) 0 (w / windows_before c 10)

-- The kind of a reply by its number in a window's bytes; none in a silent window.
abbrev pub kind_of : ℕ → Option ReplyKind
kind_of number = cond (eqb number 0) None (Some (cond (eqb number (kind_number Bundled)) Bundled Multiplexed))

unfoldable pub kind_text : ReplyKind → List ℕ
kind_text Bundled = codes "bundled"
kind_text Multiplexed = codes "multiplexed"

-- What was sent: the kind, the resource and the two bits; nothing in a silent window.
unfoldable pub sent_text : Option ReplyKind → ℕ → ℕ → ℕ → List ℕ
sent_text None resource b0 b1 = codes "silent"
sent_text (Some kind) resource b0 b1 =
    kind_text kind ++ (codes ", resource " ++ decimal resource) ++ (codes ", bits " ++ decimal b0) ++ (codes " " ++ decimal b1)

-- A window's line, its newline (10) included.
unfoldable pub line_text : ℕ → ℕ → Option ReplyKind → ℕ → ℕ → ℕ → List ℕ
line_text frame n kind resource b0 b1 =
    (codes "frame " ++ decimal frame) ++ (codes " subframe " ++ decimal n) ++ codes ": " ++ sent_text kind resource b0 b1 ++ 10 ∷ []

-- The line of window w. Its eight bytes are n, kind, resource in two, b0, b1 and two zeros.
unfoldable pub window_text : List ℕ → List ℕ → ℕ → List ℕ
window_text l out w =
    line_text (frame_of (settings_of l).config w) (byte_at out (8 * w)) (kind_of (byte_at out (8 * w + 1))) (number_at out (8 * w + 2))
    (byte_at out (8 * w + 4)) (byte_at out (8 * w + 5))

-- What a refusal's line says of the record that was refused, if one was.
abbrev pub record_text : Option ℕ → List ℕ
record_text None = []
record_text (Some number) = codes " at record " ++ decimal number

-- The line of a refusal, its newline included, from its number and that of the record; nothing where there is none.
unfoldable pub refusal_text : ℕ → Option ℕ → List ℕ
refusal_text refusal at = cond (eqb refusal 0) [] ((codes "refused " ++ decimal refusal) ++ record_text at ++ 10 ∷ [])
