-- The station's reading names what `ours` names.
-- Assumes nothing.
use Rattle.std.proofs.Common.{Option, Some, None, Result, Ok, Err}
use Rattle.resource.specs.declared.Cce.{Cce}
use Prim.Native.Nat.{ℕ, zero, suc, ◌/◌, ◌%◌, ◌^◌, ◌<◌}
use mathlib.Core.Bool.{Bool, true, false, cond, ◌&&◌, and-false}
use mathlib.Core.Path.{◌≡◌, refl, sym}
use native.Mathlib.Decide.{dec_lt}
use native.Mathlib.Nat.{div-eq_of_lt, pow-le-pow_right}
use native.Mathlib.Omega.{arith}
use lib.Dec.{eqb, ltb}
use borrow.Author.Tests.{eqb-true, lt-ltb}
use Rattle.frame.specs.Refusals.{refused_or}
use Rattle.frame.specs.declared.Settings.{Settings}
use Rattle.frame.specs.Settings.{or_else, window_refusal, bundles}
use Rattle.frame.proofs.Bools.{either}
use Rattle.resource.specs.Calls.{size_of, inverse_of}
use Rattle.symbols.specs.Delivered.{in_some_row, delivered_at, delivered_set, delivery_of}
use Rattle.symbols.proofs.Reading.{set_below}
use Rattle.station.specs.declared.Place.{Place}
use Rattle.station.specs.declared.Place.TheVariants.{Pdcch, Block}
use Rattle.station.specs.declared.Reading.{Reading}
use Rattle.station.specs.declared.Reading.TheVariants.{Multiplexed}
use Rattle.station.specs.Readings.{place_position, bad_bits, bundled_reading, multiplexed_reading, read_at, read_inverted, dynamic_reading, told_refusal, read_on, read_of}
use Rattle.limit.specs.Rules.{in_set, ours}
use Rattle.limit.specs.Station.{ReadingIsOurs}

-- What a multiplexed reading delivers is what the symbol at its place delivers.
abbrev Delivers : ℕ → ℕ → ℕ → Result Reading ℕ → Type 0
Delivers size b0 b1 x = (named : Place) (set : ℕ) → x ≡ Ok (Multiplexed named set) → delivery_of size (place_position named) b0 b1 ≡ Some set

-- So it is of each step by which the reading is made.
refused_delivers : (size b0 b1 k : ℕ) → Delivers size b0 b1 (Err k)
refused_delivers size b0 b1 k named set e = let z : ◌≡◌ {A = ℕ} 0 1 = cc in absurd (omega arith)

bundled_delivers : (s : Settings) (size : ℕ) (place : Place) (b0 b1 : ℕ) → Delivers size b0 b1 (bundled_reading s place b0 b1)
unfolding bundled_reading
bundled_delivers s size place b0 b1 =
    either (Delivers size b0 b1) (bad_bits s b0 b1) _ _ (refused_delivers size b0 b1 14)
    (λ named set e. let z : ◌≡◌ {A = ℕ} 0 1 = cc in absurd (omega arith))

multiplexed_delivers : (size : ℕ) (place : Place) (b0 b1 : ℕ) (d : Option ℕ) → delivery_of size (place_position place) b0 b1 ≡ d
    → Delivers size b0 b1 (multiplexed_reading place d)
unfolding multiplexed_reading
multiplexed_delivers size place b0 b1 (Some set) is named other e =
    let at : place ≡ named = cc in
    let same : set ≡ other = cc in
    rw (← at, is, same)
multiplexed_delivers size place b0 b1 None is named other e = refused_delivers size b0 b1 14 named other e

at_delivers : (s : Settings) (size : ℕ) (place : Place) (b0 b1 : ℕ) → Delivers size b0 b1 (read_at s size place b0 b1)
unfolding read_at
at_delivers s size place b0 b1 =
    either (Delivers size b0 b1) (bundles s size) _ _ (bundled_delivers s size place b0 b1) (multiplexed_delivers size place b0 b1 _ refl)

inverted_delivers : (s : Settings) (size : ℕ) (x : Result (ℕ × Cce) ℕ) (b0 b1 : ℕ) → Delivers size b0 b1 (read_inverted s size x b0 b1)
inverted_delivers s size (Ok (m, c)) b0 b1 = at_delivers s size (Pdcch m c) b0 b1
inverted_delivers s size (Err k) b0 b1 = refused_delivers size b0 b1 k

on_delivers : (s : Settings) (n : ℕ) (t : Option ℕ) (r b0 b1 : ℕ) → Delivers (size_of s n) b0 b1 (read_on s n t r b0 b1)
unfolding read_on dynamic_reading
on_delivers s n None r b0 b1 = inverted_delivers s (size_of s n) (inverse_of s n r) b0 b1
on_delivers s n (Some m) r b0 b1 =
    either (Delivers (size_of s n) b0 b1) (eqb r s.scheduled) _ _ (at_delivers s (size_of s n) (Block m) b0 b1)
    (inverted_delivers s (size_of s n) (inverse_of s n r) b0 b1)

as_delivers : (size b0 b1 k : ℕ) (x : Result Reading ℕ) → Delivers size b0 b1 x → Delivers size b0 b1 (refused_or k x)
as_delivers size b0 b1 zero x d = d
as_delivers size b0 b1 (suc k) x d = refused_delivers size b0 b1 (suc k)

read_delivers : (s : Settings) (n : ℕ) (t : Option ℕ) (r b0 b1 : ℕ) → Delivers (size_of s n) b0 b1 (read_of s n t r b0 b1)
unfolding read_of
read_delivers s n t r b0 b1 =
    as_delivers (size_of s n) b0 b1 (or_else (window_refusal s n) (told_refusal s n t)) (read_on s n t r b0 b1) (on_delivers s n t r b0 b1)

-- A bit that is set in a number below 2^n is one of the n lowest.
bit_below : (n x p : ℕ) → x < 2 ^ n → in_set x p ≡ true → p < n
bit_below n x p small e = go (dec_lt p n)
  where
    go : Dec (p < n) → p < n
    go (yes h) = h
    go (no h) =
        let none : x / 2 ^ p ≡ 0 = div-eq_of_lt (omega (arith, pow-le-pow_right {n = 2} (omega arith) {i = n} {j = p} (omega arith))) in
        absurd (omega (arith, rw none at (eqb-true (x / 2 ^ p % 2) 1 e)))

-- A delivered set has only positions of the window.
set_inside : (size i b0 b1 set p : ℕ) → delivery_of size i b0 b1 ≡ Some set → in_set set p ≡ true → p < size
unfolding delivery_of delivered_set
set_inside size i b0 b1 set p is e = go (in_some_row size i b0 b1) is
  where
    go : (b : Bool) → cond b (Some (delivered_set size i b0 b1)) None ≡ Some set → p < size
    go true is =
        let same : delivered_set size i b0 b1 ≡ set = cc in
        bit_below size set p (rw (← same) (set_below size (delivered_at size i b0 b1))) e
    go false is = let z : ◌≡◌ {A = ℕ} 0 1 = cc in absurd (omega arith)

pub reading_is_ours : ReadingIsOurs
unfolding ours
reading_is_ours s n t r b0 b1 named set e sent p =
    let is = read_delivers s n t r b0 b1 named set e in
    rw is (go (in_set set p) refl (set_inside (size_of s n) (place_position named) b0 b1 set p is))
  where
    go : (b : Bool) → in_set set p ≡ b → (in_set set p ≡ true → p < size_of s n) → in_set set p ≡ (ltb p (size_of s n) && in_set set p)
    go true is inside = rw (lt-ltb p (size_of s n) (inside is))
    go false is inside = rw is (sym (and-false (ltb p (size_of s n))))
