-- What a feed that is not refused answers: taken, no window, silent or a reply with bits 0 or 1.
-- Assumes nothing.
use Prim.Native.Nat.{ℕ}
use Rattle.frame.specs.declared.Settings.{Settings}
use Rattle.frame.specs.Layout.{downlink}
use Rattle.frame.proofs.Bools.{either}
use Rattle.heard.specs.declared.View.{View}
use Rattle.reply.proofs.Answered.{Told, window_told}
use Rattle.handset.specs.Feed.{answer_of}

module _ (s : Settings) (n : ℕ) (view : ℕ → View) where
  pub answer_told : Told (answer_of s n view)
  unfolding answer_of
  answer_told = either Told (downlink s.config n) _ _ tt (window_told s n view)
