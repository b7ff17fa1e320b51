-- `replaying::feeding::feed_window` meets its contract: what a feed that is not refused gives goes into bytes. Assumes nothing.
use Rattle.replaying.proofs.Feeds.{fits_window}
use Rattle.replaying.proofs.feeding.feed_window.Goals as goal

pub window_bytes-requires : goal.window_bytes-requires
window_bytes-requires c = fits_window _ _ _ c.in_ok-answer.ensures.answer
