-- What the loop over the records of an accepted trace asks: a handset at subframe 0, and an output with room and no window in it.
-- Assumes nothing.
use Rattle.std.specs.Prelude.{◌*◌, ◌≤◌, ◌≡◌, length}
use Rattle.counting.specs.Windows.{windows_before}
use Rattle.handset.specs.declared.Handset.{Handset}
use Rattle.reader.specs.declared.accepted.Trace.{Trace}
use Rattle.replaying.specs.declared.windows.Windows.{Windows}

pub record Ready (trace : Trace) (start : Handset) (windows : Windows) : Type 0 where
  pub begins : start.next ≡ 0
  pub none : windows.written ≡ 0
  pub room : 8 * windows_before start.settings.config trace.records ≤ length windows.out.now
