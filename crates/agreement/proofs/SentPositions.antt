-- The positions of a window at which something was sent, on numbers: `sent_there` of specs/Confirmation.antt says no more than that.
-- Assumes nothing.
use Prim.Native.Nat.{ℕ}
use mathlib.Core.Bool.{true, false}
use mathlib.Core.List.{[], ◌∷◌}
use mathlib.Core.Path.{◌≡◌, refl}
use lib.ListN.{get_or}
use Rattle.frame.specs.declared.Settings.{Settings}
use Rattle.frame.specs.Table.{table, window_of}
use Rattle.confirmation.specs.declared.Send.{Send}
use Rattle.confirmation.specs.declared.Send.TheVariants.{Nothing, Granted, Scheduled, Released}
use Rattle.agreement.specs.Confirmation.{sent_there}

-- Configuration 2, multiplexing. A release is sent in subframe 4, a scheduled block in 5, a grant in 8.
abbrev set : Settings
set = record { config = 2; nrb = 50; n1 = 10; mode = 1; blocks = 1; scheduled = 7; prefix = 0; special = 7; ports = 1 }

abbrev sent : ℕ → Send
sent s =
    get_or
    (Nothing ∷ Nothing ∷ Nothing ∷ Nothing ∷ Released (record { cce = record { 0 = 0 }; dai = 1 }) ∷ Scheduled (record { blocks = 1 }) ∷ Nothing ∷ Nothing
    ∷ Granted (record { blocks = 1; cce = record { 0 = 3 }; dai = 2 }) ∷ [])
    s Nothing

-- The window of subframe 12 is 4, 5, 8 and 6: something was sent at positions 0, 1 and 2, and nothing at 3 or beyond the window.
pub three_of_four : (sent_there set sent 12 0 ≡ true) × (sent_there set sent 12 1 ≡ true) × (sent_there set sent 12 2 ≡ true)
    × (sent_there set sent 12 3 ≡ false) × (sent_there set sent 12 4 ≡ false)
unfolding table window_of
three_of_four = (refl, refl, refl, refl, refl)
