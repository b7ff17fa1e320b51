-- The mode of a window on numbers: `window_mode` of specs/Run.antt (document 02, U8), in lists of feeds and changes. N_RB 50, N1 10, one
-- block, no scheduled resource, and special subframes that carry data.
-- Assumes nothing.
use Prim.Native.Nat.{ℕ, zero, suc}
use mathlib.Core.Bool.{true}
use mathlib.Core.List.{List, [], ◌∷◌}
use mathlib.Core.Path.{◌≡◌, refl}
use Rattle.frame.specs.declared.Settings.{Settings}
use Rattle.frame.specs.Layout.{layouts, letter_of, downlink, is_special}
use Rattle.frame.specs.Settings.{no_resource, new_mode_refusal, mode_refusal, has_second_port, ports_mode_refusal, has_scheduled}
use Rattle.frame.specs.Special.{no_pdsch, too_short}
use Rattle.frame.specs.Table.{table, window_of}
use Rattle.heard.specs.declared.Heard.TheVariants.{Nothing, Scheduled}
use Rattle.heard.specs.Heard.{uplink_refusal, short_refusal, data_refusal, carried_refusal, unset_refusal, heard_refusal, second_refusal, cause_of}
use Rattle.agreement.specs.Run.{Item, feed, change, window_mode}

-- made in this mode
abbrev cell : ℕ → ℕ → Settings
cell config mode = record { config = config; nrb = 50; n1 = 10; mode = mode; blocks = 1; scheduled = no_resource; prefix = 0; special = 7; ports = 1 }

-- n feeds of nothing, then the rest of a list; a feed that is refused 18
abbrev feeds : ℕ → List Item → List Item
feeds zero items = items
feeds (suc n) items = feed Nothing ∷ feeds n items

abbrev refused_feed : Item
refused_feed = feed (Scheduled (record { blocks = 1; first = true; second = true }))

-- Configuration 3: the window of 12 is 5, 6 and 1, that of 13 is 7 and 8, that of 14 is 9 and 10. Mode 1 stands from 2 to 8. The earliest
-- subframes are 1, 7 and 9.
abbrev between : List Item
between = feeds 2 (change 1 ∷ feeds 7 (change 0 ∷ feeds 6 []))

pub between_windows_holds : (window_mode (cell 3 0) between 12 ≡ 0) × (window_mode (cell 3 0) between 13 ≡ 1) × (window_mode (cell 3 0) between 14 ≡ 0)
unfolding table window_of new_mode_refusal mode_refusal has_second_port ports_mode_refusal heard_refusal second_refusal cause_of
between_windows_holds = (refl, refl, refl)

-- Configuration 2: the window of 7 is -1, 0, 3 and 1, which begins before the start; that of 12 is 4, 5, 8 and 6.
pub before_the_start : (window_mode (cell 2 1) (change 0 ∷ feeds 13 []) 7 ≡ 1) × (window_mode (cell 2 1) (change 0 ∷ feeds 13 []) 12 ≡ 0)
unfolding table window_of new_mode_refusal mode_refusal has_second_port ports_mode_refusal heard_refusal second_refusal cause_of
before_the_start = (refl, refl)

-- Refused changes count for nothing: 5 in configuration 5, 4 in configuration 1, whose window of 7 is 0 and 1.
pub refused_changes_holds : (window_mode (cell 5 0) (feeds 9 (change 1 ∷ feeds 14 [])) 22 ≡ 0) × (window_mode (cell 1 1) (change 2 ∷ feeds 8 []) 7 ≡ 1)
unfolding table window_of new_mode_refusal mode_refusal has_second_port ports_mode_refusal heard_refusal second_refusal cause_of
refused_changes_holds = (refl, refl)

-- Nor does a refused feed: subframe 0 is fed after the change.
pub refused_feed_holds : window_mode (cell 1 0) (refused_feed ∷ change 1 ∷ feeds 8 []) 7 ≡ 1
unfolding layouts letter_of downlink is_special table window_of new_mode_refusal mode_refusal has_second_port ports_mode_refusal has_scheduled no_pdsch too_short uplink_refusal short_refusal data_refusal carried_refusal unset_refusal heard_refusal second_refusal cause_of
refused_feed_holds = refl
