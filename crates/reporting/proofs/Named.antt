-- The line of a window from its eight bytes: what `window_bytes` writes is what `window_text` reads. Assumes nothing.
use Prim.Native.Nat.{ℕ, ◌+◌, ◌*◌, ◌/◌, ◌%◌, ◌<◌}
use mathlib.Core.List.{List}
use mathlib.Core.Path.{◌≡◌, sym, ap, ◌∙◌}
use native.Mathlib.Nat.{add-zero}
use native.Mathlib.Omega.{arith}
use lib.ListN.{get_or, take, drop}
use lib.Seq.{get_or-take, get_or-drop}
use Rattle.replaying.specs.Written.{window_bytes}
use Rattle.trace.specs.Trace.{byte_at, number_at, settings_of}
use Rattle.reporting.specs.Text.{frame_of, kind_of, line_text, window_text}

module _ (l out : List ℕ) (w n kind resource b0 b1 : ℕ) (written : take 8 (drop (8 * w) out) ≡ window_bytes n kind resource b0 b1) where
  byte : (k : ℕ) → k < 8 → byte_at out (8 * w + k) ≡ get_or (window_bytes n kind resource b0 b1) k 0
  byte k h = sym (get_or-drop (8 * w) out k 0) ∙ sym (get_or-take 8 (drop (8 * w) out) k 0 h) ∙ ap (λ (bytes : List ℕ). get_or bytes k 0) written

  pub line_named : window_text l out w ≡ line_text (frame_of (settings_of l).config w) n (kind_of kind) resource b0 b1
  unfolding window_text number_at window_bytes
  line_named =
      let zero : byte_at out (8 * w) ≡ n = ap (byte_at out) (sym (add-zero (8 * w))) ∙ byte 0 (omega arith) in
      let three : byte_at out (8 * w + 2 + 1) ≡ resource / 256 =
      let same : 8 * w + 2 + 1 ≡ 8 * w + 3 = omega arith in
      ap (byte_at out) same ∙ byte 3 (omega arith) in
      let whole : resource % 256 + 256 * (resource / 256) ≡ resource = omega arith in
      rw (zero, byte 1 (omega arith), byte 2 (omega arith), three, byte 4 (omega arith), byte 5 (omega arith), whole)
