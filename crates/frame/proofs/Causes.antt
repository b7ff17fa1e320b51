-- Laws of refusals: which one of two is answered, and what an accepted settings' fields are.
-- Assumes nothing.
use Prim.Native.Nat.{ℕ, zero, suc, ◌<◌}
use mathlib.Core.Path.{◌≡◌}
use native.Mathlib.Omega.{arith}
use lib.ListN.{length}
use borrow.Author.Tests.{lt-ltb, le-ltb, le-leb, lt-leb, eq-eqb, ne_eqb}
use Rattle.frame.specs.declared.Settings.{Settings}
use Rattle.frame.specs.Settings.{or_else, settings_refusal, no_window_refusal, window_refusal}
use Rattle.frame.specs.Table.{window_of}

-- From a number's place to the value of a test on it.
pub ruleset decided = (lt-ltb, le-ltb, le-leb, lt-leb, eq-eqb, ne_eqb)

-- A refusal that is met is answered.
pub refused_first : (r k next : ℕ) → r ≡ k → (r ≡ 0 → ⊥) → r ≡ or_else k next
refused_first r zero next e h = absurd (h e)
refused_first r (suc k) next e h = e

-- Where there is none, the next one is asked.
pub refused_next : (r k x next : ℕ) → r ≡ k → r ≡ 0 → x ≡ next → x ≡ or_else k next
refused_next r zero x next e h f = f
refused_next r (suc k) x next e h f = absurd (omega arith)

-- A subframe with a window is not refused where the settings are not.
pub window_accepted : (s : Settings) (n : ℕ) → settings_refusal s ≡ 0 → 0 < length (window_of s.config n) → window_refusal s n ≡ 0
unfolding window_refusal no_window_refusal
window_accepted s n e some = rw (e, ne_eqb (length (window_of s.config n)) 0 (λ z. omega arith))
