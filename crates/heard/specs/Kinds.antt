-- The kinds of a remembered subframe, and their numbers.
-- Assumes nothing.
use Rattle.std.specs.Prelude.{ℕ, ◌<◌, ◌≡◌, Result, MatchResult}
use Rattle.heard.specs.declared.kind.SlotKind.{SlotKind}
use Rattle.heard.specs.declared.kind.SlotKind.TheVariants.{Nothing, Grant, Block, Release}
use Rattle.heard.specs.declared.kind.UnknownKind.{UnknownKind}

abbrev pub kind_number : SlotKind → ℕ
kind_number Nothing = 0
kind_number Grant = 1
kind_number Block = 2
kind_number Release = 3

-- The result is the kind with this number, or an error with a number that no kind has.
abbrev pub Decodes : ℕ → Result SlotKind UnknownKind → Type 0
Decodes number r = MatchResult r (λ kind. kind_number kind ≡ number) (λ e. (e.0 ≡ number) × (3 < number))
