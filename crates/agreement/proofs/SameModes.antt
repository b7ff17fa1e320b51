-- Document 02, U8, moved nothing for a run without changes of mode: every window's mode is the one that the handset was made with.
-- Assumes nothing.
use Prim.Native.Nat.{ℕ, zero, suc, ◌-◌}
use mathlib.Core.List.{List, [], ◌∷◌}
use mathlib.Core.Path.{◌≡◌, refl, ap}
use lib.Dec.{eqb, leb}
use lib.ListN.{get_or}
use Rattle.frame.specs.declared.Settings.{Settings}
use Rattle.frame.specs.Settings.{in_mode}
use Rattle.frame.proofs.Bools.{either}
use Rattle.heard.specs.declared.Heard.{Heard}
use Rattle.agreement.specs.Run.{Item, feed, change, cause_after, modes_from, modes_in_run, largest, window_at, window_mode, settings_in}

-- Every item is a feed.
abbrev pub AllFeeds : List Item → Type 0
AllFeeds [] = Unit {0}
AllFeeds (feed x ∷ items) = AllFeeds items
AllFeeds (change m ∷ items) = ⊥

one_mode : (set : Settings) (m : ℕ) (items : List Item) (past : List Heard) → AllFeeds items → (i : ℕ) → get_or (modes_from set past m items) i m ≡ m
one_mode set m [] past feeds i = refl
one_mode set m (feed x ∷ items) past feeds i =
    either (λ (ms : List ℕ). get_or ms i m ≡ m) (eqb (cause_after set past x) 0) (m ∷ modes_from set (x ∷ past) m items) (modes_from set past m items)
    (first i (one_mode set m items (x ∷ past) feeds)) (one_mode set m items past feeds i)
  where
    first : (i : ℕ) → ((j : ℕ) → get_or (modes_from set (x ∷ past) m items) j m ≡ m) → get_or (m ∷ modes_from set (x ∷ past) m items) i m ≡ m
    first zero rest = refl
    first (suc i) rest = rest i
one_mode set m (change new ∷ items) past feeds i = absurd feeds

pub made_mode : (set : Settings) (items : List Item) → AllFeeds items → (s : ℕ) → window_mode set items s ≡ set.mode
made_mode set items feeds s =
    let k : ℕ = largest (window_at set s) in
    either (λ (m : ℕ). m ≡ set.mode) (leb k s) (get_or (modes_in_run set items) (s - k) set.mode) set.mode (one_mode set set.mode items [] feeds (s - k)) refl

-- So it is answered and read in the handset's own settings.
pub made_settings : (set : Settings) (items : List Item) → AllFeeds items → (s : ℕ) → settings_in set items s ≡ set
made_settings set items feeds s = ap (in_mode set) (made_mode set items feeds s)
