-- When a window's reply is silent: document 01, "The bundled reply" and "The multiplexed reply"; document 02, U1.
-- handset/proofs/Silences.antt shows that a handset is silent for these causes and no other.
-- Assumes nothing.
use Rattle.std.specs.Prelude.{Ok, ℕ, ◌<◌, ◌≤◌, true, false, ◌⊎◌, ◌≡◌, get_or}
use Rattle.frame.specs.declared.Settings.{Settings}
use Rattle.frame.specs.Settings.{bundles}
use Rattle.frame.specs.Table.{window_of}
use Rattle.resource.specs.declared.Resource.{Resource}
use Rattle.resource.specs.Calls.{size_of, resource_of}
use Rattle.symbols.specs.Selection.{AllDtx}
use Rattle.heard.specs.declared.Control.{Control}
use Rattle.fold.specs.declared.Seen.{Seen}
use Rattle.heard.specs.declared.View.{View}
use Rattle.heard.specs.declared.View.TheVariants.{Pdcch}
use Rattle.fold.specs.Fold.{seen_of}
use Rattle.reply.specs.Replies.{miss_shown, window_state}

-- Every heard PDCCH of subframe n's window has a resource: the resource call for it is not refused.
abbrev pub HeardMapped : Settings → ℕ → (ℕ → View) → Type 0
HeardMapped s n view =
    (m : ℕ) (g : Control) → m < size_of s n → view (get_or (window_of s.config n) m 0) ≡ Pdcch g
    → (r : Resource) × (resource_of s n m g.cce.0 ≡ Ok r)

-- "U = 0: silent", where no scheduled block was heard either; and "a miss is shown, and the product stays silent".
abbrev pub NoneOrMissed : Settings → Seen → Type 0
NoneOrMissed s seen = ((seen.u ≡ 0) × (seen.scheduled ≡ false)) ⊎ ((1 ≤ seen.u) × (miss_shown s seen ≡ true))

-- The causes that the window of subframe n has, where k ago stood what `view` says: bundled, the two above; multiplexed, "All D:
-- silent".
pub record SilentCause (s : Settings) (n : ℕ) (view : ℕ → View) : Type 0 where
  pub bundled : bundles s (size_of s n) ≡ true → NoneOrMissed s (seen_of view (window_of s.config n))
  pub multiplexed : bundles s (size_of s n) ≡ false → AllDtx (window_state view (window_of s.config n))
