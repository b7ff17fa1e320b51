-- U, V and what else a bundled reply needs of a window: document 01, "The bundled reply"; document 02, U1.
-- Assumes nothing.
use Rattle.std.specs.Prelude.{ℕ, ◌+◌, ◌-◌, ◌%◌, true, false, ◌&&◌, List, [], ◌∷◌, get_or}
use Rattle.frame.specs.Order.{order_of}
use Rattle.fold.specs.declared.Seen.{Seen}
use Rattle.heard.specs.declared.View.{View}
use Rattle.heard.specs.declared.View.TheVariants.{Unheard, Pdcch, Block}

-- Before the first subframe of the window.
abbrev pub unseen : Seen
unseen = record { u = 0; v = 0; position = 0; cce = record { 0 = 0 }; first = true; second = true; scheduled = false }

-- One subframe more, at position m. A heard PDCCH counts in U, and V, position and first CCE are the latest one's; a block's
-- result joins the AND. "A scheduled block joins the AND but not U or V."
unfoldable pub step_of : Seen → ℕ → View → Seen
step_of seen m Unheard = seen
step_of seen m (Pdcch g) =
    record {
      u = seen.u + 1;
      v = g.dai;
      position = m;
      cce = g.cce;
      first = seen.first && g.first;
      second = seen.second && g.second;
      scheduled = seen.scheduled;
    }
step_of seen m (Block b) =
    record {
      u = seen.u;
      v = seen.v;
      position = seen.position;
      cce = seen.cce;
      first = seen.first && b.first;
      second = seen.second && b.second;
      scheduled = true;
    }

-- The positions of a window one after the other; k ago stands what `view` says.
unfoldable pub seen_from : (ℕ → View) → List ℕ → List ℕ → Seen → Seen
seen_from view ks [] seen = seen
seen_from view ks (m ∷ ms) seen = seen_from view ks ms (step_of seen m (view (get_or ks m 0)))

-- The window with the printed K, in time order.
unfoldable pub seen_of : (ℕ → View) → List ℕ → Seen
seen_of view ks = seen_from view ks (order_of ks) unseen

-- The DAI that the last of U PDCCHs has where none was missed: ((U − 1) mod 4) + 1.
unfoldable pub expected : ℕ → ℕ
expected u = (u - 1) % 4 + 1
