-- The numbers of feedback_reading lose nothing: no reading is refused with 0.
-- Assumes nothing.
use Rattle.std.proofs.Common.{Option, Some, None, Result, Ok, Err}
use Rattle.resource.specs.declared.Cce.{Cce}
use Prim.Native.Nat.{ℕ, zero, suc}
use mathlib.Core.Bool.{not}
use mathlib.Core.Path.{◌≡◌, refl, sym, ap}
use native.Mathlib.Omega.{arith}
use lib.Dec.{eqb, eqb-suc-zero}
use Rattle.frame.specs.Refusals.{refused_or}
use Rattle.frame.specs.declared.Settings.{Settings}
use Rattle.frame.specs.Settings.{or_else, window_refusal, bundles}
use Rattle.frame.proofs.Bools.{either}
use Rattle.resource.specs.Calls.{size_of, inverse_of}
use Rattle.symbols.specs.Delivered.{delivery_of}
use Rattle.station.specs.declared.Place.{Place}
use Rattle.station.specs.declared.Place.TheVariants as place
use Rattle.station.specs.declared.Reading.{Reading}
use Rattle.station.specs.Readings.{place_position, bad_bits, bundled_reading, multiplexed_reading, read_at, read_inverted, dynamic_reading, told_refusal, read_on, read_of}
use Rattle.numbers.specs.Answers.{inverse_answer, reading_answer}
use Rattle.numbers.specs.Back.{inverted_in, reading_in, KindFor}
use Rattle.reply.specs.Kinds.{kind_multiplexed, kind_number}
use Rattle.numbers.proofs.InverseKept.{inverse_back}

-- A reading comes back from its numbers, and its kind is one that there is, 0 where it is refused.
abbrev pub ReadingKept : Result Reading ℕ → Type 0
ReadingKept x = (reading_in (reading_answer x) ≡ x) × KindFor (kind_number kind_multiplexed) (reading_answer x).kind (reading_answer x).refusal

module _ (s : Settings) (b0 b1 : ℕ) where
  bundled_kept : (p : Place) → ReadingKept (bundled_reading s p b0 b1)
  unfolding bundled_reading
  bundled_kept (place.Pdcch m c) = either ReadingKept (bad_bits s b0 b1) _ _ (refl, (refl, refl)) (refl, (refl, refl))
  bundled_kept (place.Block m) = either ReadingKept (bad_bits s b0 b1) _ _ (refl, (refl, refl)) (refl, (refl, refl))

  multiplexed_kept : (p : Place) (d : Option ℕ) → ReadingKept (multiplexed_reading p d)
  unfolding multiplexed_reading
  multiplexed_kept (place.Pdcch m c) (Some positions) = (refl, (refl, refl))
  multiplexed_kept (place.Block m) (Some positions) = (refl, (refl, refl))
  multiplexed_kept p None = (refl, (refl, refl))

  read_at_kept : (size : ℕ) (p : Place) → ReadingKept (read_at s size p b0 b1)
  unfolding read_at
  read_at_kept size p = either ReadingKept (bundles s size) _ _ (bundled_kept p) (multiplexed_kept p (delivery_of size (place_position p) b0 b1))

  -- The inverse call that it stands on does not refuse with 0.
  read_inverted_kept : (size : ℕ) (x : Result (ℕ × Cce) ℕ) → inverted_in (inverse_answer x) ≡ x → ReadingKept (read_inverted s size x b0 b1)
  read_inverted_kept size (Ok (m, c)) back = read_at_kept size (place.Pdcch m c)
  read_inverted_kept size (Err zero) back = let z : ◌≡◌ {A = ℕ} 0 1 = cc in absurd (omega arith)
  read_inverted_kept size (Err (suc k)) back = (refl, (sym (ap not (eqb-suc-zero k)), refl))

  dynamic_kept : (n r : ℕ) → ReadingKept (dynamic_reading s n r b0 b1)
  unfolding dynamic_reading
  dynamic_kept n r = read_inverted_kept (size_of s n) (inverse_of s n r) (inverse_back s n r)

  read_on_kept : (n : ℕ) (t : Option ℕ) (r : ℕ) → ReadingKept (read_on s n t r b0 b1)
  unfolding read_on
  read_on_kept n None r = dynamic_kept n r
  read_on_kept n (Some m) r = either ReadingKept (eqb r s.scheduled) _ _ (read_at_kept (size_of s n) (place.Block m)) (dynamic_kept n r)

  refused_or_kept : (k : ℕ) (x : Result Reading ℕ) → ReadingKept x → ReadingKept (refused_or k x)
  refused_or_kept zero x kept = kept
  refused_or_kept (suc k) x kept = (refl, (sym (ap not (eqb-suc-zero k)), refl))

pub reading_kept : (s : Settings) (n : ℕ) (t : Option ℕ) (r b0 b1 : ℕ) → ReadingKept (read_of s n t r b0 b1)
unfolding read_of
reading_kept s n t r b0 b1 =
    refused_or_kept s b0 b1 (or_else (window_refusal s n) (told_refusal s n t)) (read_on s n t r b0 b1) (read_on_kept s b0 b1 n t r)
