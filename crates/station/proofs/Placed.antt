-- A reading is the place of its reply, read with its bits.
-- Assumes nothing.
use Prim.Native.Nat.{ℕ, zero, suc}
use mathlib.Core.Bool.{Bool, true, false, cond}
use mathlib.Core.Path.{◌≡◌, refl, sym, ◌∙◌}
use lib.Dec.{eqb}
use Rattle.std.proofs.Common.{Option, Some, None, Result, Ok, Err}
use Rattle.frame.specs.declared.Settings.{Settings}
use Rattle.frame.specs.declared.refusal.Refusal.{Refusal}
use Rattle.frame.specs.Refusals.{number_of, refusal_in, numbered, refused_or}
use Rattle.frame.specs.Settings.{or_else, window_refusal}
use Rattle.frame.proofs.Refused.{from_one}
use Rattle.resource.specs.declared.Cce.{Cce}
use Rattle.resource.specs.Calls.{size_of, inverse_in, inverse_of}
use Rattle.resource.proofs.Mapped.{inverse_mapped}
use Rattle.station.specs.declared.Place.{Place}
use Rattle.station.specs.declared.Place.TheVariants.{Pdcch, Block}
use Rattle.station.specs.declared.Reading.{Reading}
use Rattle.station.specs.Coded.{pdcch_place, place_on, place_of}
use Rattle.station.specs.Readings.{read_at, read_inverted, dynamic_reading, told_refusal, read_on, read_of}

-- the reading at a place, or its refusal
abbrev read_placed : Settings → ℕ → Result Place ℕ → ℕ → ℕ → Result Reading ℕ
read_placed s size (Ok place) b0 b1 = read_at s size place b0 b1
read_placed s size (Err k) b0 b1 = Err k

module _ (s : Settings) (n r b0 b1 : ℕ) where
  inverted_place : (i : Result (ℕ × Cce) ℕ) → read_placed s (size_of s n) (pdcch_place i) b0 b1 ≡ read_inverted s (size_of s n) i b0 b1
  inverted_place (Ok (m, c)) = refl
  inverted_place (Err k) = refl

  on_place : (told : Option ℕ) → read_placed s (size_of s n) (place_on s n told r) b0 b1 ≡ read_on s n told r b0 b1
  unfolding read_on dynamic_reading
  on_place None = inverted_place (inverse_of s n r)
  on_place (Some m) = go (eqb r s.scheduled)
    where
      go : (b : Bool) → read_placed s (size_of s n) (cond b (Ok (Block m)) (pdcch_place (inverse_of s n r))) b0 b1
          ≡ cond b (read_at s (size_of s n) (Block m) b0 b1) (read_inverted s (size_of s n) (inverse_of s n r) b0 b1)
      go true = refl
      go false = inverted_place (inverse_of s n r)

  of_place : (told : Option ℕ) → read_placed s (size_of s n) (place_of s n told r) b0 b1 ≡ read_of s n told r b0 b1
  unfolding place_of read_of
  of_place told = go (or_else (window_refusal s n) (told_refusal s n told))
    where
      go : (k : ℕ) → read_placed s (size_of s n) (refused_or k (place_on s n told r)) b0 b1 ≡ refused_or k (read_on s n told r b0 b1)
      go zero = on_place told
      go (suc k) = refl

  -- The reply's place as the code finds it.
  module _ (told : Option ℕ) (asked : Result Place Refusal) (found : numbered asked ≡ place_of s n told r) where
    pub place_refused : (e : Refusal) → asked ≡ Err e → read_of s n told r b0 b1 ≡ Err (number_of e)
    place_refused e at = sym (of_place told) ∙ rw (← found, at)

    pub place_read : (place : Place) → asked ≡ Ok place → read_of s n told r b0 b1 ≡ read_at s (size_of s n) place b0 b1
    place_read place at = sym (of_place told) ∙ rw (← found, at)

-- The inverse of a map by its numbers.
pub inverse_of_map : {nrb n1 size nrb' n1' size' : ℕ} (r : ℕ) (i : Result (ℕ × Cce) Refusal) → nrb ≡ nrb' → n1 ≡ n1' → size ≡ size'
    → numbered i ≡ inverse_in nrb n1 size r → numbered i ≡ inverse_in nrb' n1' size' r
inverse_of_map r i p q s e = rw (← p, ← q, ← s) e

-- The place of a dynamic resource, by the map of a window that was tested.
module _ (s : Settings) (n size r : ℕ) (good : window_refusal s n ≡ 0) (looked : size ≡ size_of s n)
    (asked : Result (ℕ × Cce) Refusal) (found : numbered asked ≡ inverse_in s.nrb s.n1 size r) where
  pub dynamic_refused : (e : Refusal) → asked ≡ Err e → pdcch_place (inverse_of s n r) ≡ Err (number_of e)
  dynamic_refused e at = rw (← inverse_mapped s n size r good looked, ← found, at)

  pub dynamic_placed : (m : ℕ) (c : Cce) → asked ≡ Ok (m, c) → pdcch_place (inverse_of s n r) ≡ Ok (Pdcch m c)
  dynamic_placed m c at = rw (← inverse_mapped s n size r good looked, ← found, at)

-- The place of a reply, where neither settings nor subframe is refused; and the reading where one is.
pub place_tested : (s : Settings) (n r : ℕ) (told : Option ℕ) → window_refusal s n ≡ 0 → place_of s n told r ≡ refused_or (told_refusal s n told) (place_on s n told r)
unfolding place_of
place_tested s n r told good = rw good

pub window_refused : {T : Type 0} (asked : Result T Refusal) (e : Refusal) (s : Settings) (n : ℕ) → asked ≡ Err e → refusal_in asked ≡ window_refusal s n
    → (told : Option ℕ) (r b0 b1 : ℕ) → read_of s n told r b0 b1 ≡ Err (number_of e)
unfolding read_of
window_refused asked e s n at found told r b0 b1 = let one = from_one e in cc
