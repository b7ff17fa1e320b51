-- The kinds of a reply, and their numbers.
-- Assumes nothing.
use Rattle.std.specs.Prelude.{ℕ}
use Rattle.reply.specs.declared.ReplyKind.{ReplyKind}
use Rattle.reply.specs.declared.ReplyKind.TheVariants.{Bundled, Multiplexed}

abbrev pub kind_bundled : ReplyKind
kind_bundled = Bundled

abbrev pub kind_multiplexed : ReplyKind
kind_multiplexed = Multiplexed

abbrev pub kind_number : ReplyKind → ℕ
kind_number Bundled = 1
kind_number Multiplexed = 2
