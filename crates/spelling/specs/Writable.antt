-- What the functions that write ask of an accepted trace: settings that are not refused, a size that 16 bits hold, and room for it.
-- Assumes nothing.
use Rattle.std.specs.Prelude.{ℕ, ◌≤◌, List, ◌≡◌, length}
use Rattle.frame.specs.Settings.{settings_refusal}
use Rattle.reader.specs.declared.accepted.Trace.{Trace}
use Rattle.trace.specs.Trace.{settings_of}
use Rattle.spelling.specs.Spelling.{spelled_size}

pub record Writable (trace : Trace) (out : List ℕ) : Type 0 where
  pub settings : settings_refusal (settings_of trace.bytes.now) ≡ 0
  pub short : spelled_size trace.records ≤ 65535
  pub room : spelled_size trace.records ≤ length out
