-- How much the replay of a trace writes, worked out beforehand: document 02, U14, whose sentences stand above the definitions.
-- Assumes nothing.
use Rattle.std.specs.Prelude.{ℕ, ◌*◌, List, Result}
use Rattle.frame.specs.Refusals.{unless_refused}
use Rattle.frame.specs.Settings.{or_else, settings_refusal}
use Rattle.counting.specs.Windows.{windows_before}
use Rattle.trace.specs.Trace.{header_of, settings_of, parts_refusal}
use Rattle.sizing.specs.declared.ReplaySize.{ReplaySize}

-- "21, 22 (kinds apart) and those on settings apply."
unfoldable pub size_refusal : List ℕ → ℕ
size_refusal l = or_else (parts_refusal l) (settings_refusal (settings_of l))

-- The windows that the records of the header complete.
abbrev pub windows_completed : List ℕ → ℕ
windows_completed l = windows_before (settings_of l).config (header_of l).records

-- "From the header and settings alone work out the windows answered and the output bytes": eight for each window.
unfoldable pub figures_in : List ℕ → ReplaySize
figures_in l = record { windows = windows_completed l; bytes = 8 * windows_completed l }

unfoldable pub size_of : List ℕ → Result ReplaySize ℕ
size_of l = unless_refused (size_refusal l) (figures_in l)
