-- That both forms of the scratch keep the laws of a form: proofs, which stand here since src/ names them.
-- Assumes nothing.
use Prim.Native.Nat.{ℕ, zero, suc, ◌+◌, ◌*◌, ◌/◌, ◌%◌, ◌^◌, ◌<◌, max}
use mathlib.Core.Bool.{Bool, true, false, cond, not}
use mathlib.Core.List.{List, map}
use mathlib.Core.Path.{◌≡◌, refl, sym, ap, ◌∙◌}
use native.Mathlib.Decide.{ℕ_discrete}
use native.Mathlib.Nat.{add-zero, add-suc, suc-add, pow-succ', not-suc-le-zero, le_of_suc-le-suc}
use native.Mathlib.Omega.{arith}
use lib.Bits.{bit_or}
use lib.Dec.{eqb}
use lib.ListN.{length, get_or, set, replicate, length-set, length-replicate}
use lib.Seq.{get_or-set_same, get_or-set_other}
use borrow.Author.Tests.{eq-eqb, ne_eqb}
use Rattle.std.proofs.Math.Pow.{pow-lt}
use Rattle.std.proofs.lemmas.List.{get_or-replicate}
use Rattle.std.proofs.lemmas.List.FromFn.{length-map-range_with_len, get_or-map-range_with_len, fill_by_all}
use Rattle.std.proofs.lemmas.Nat.{or_lt}
use Rattle.std.proofs.lemmas.Nat.Bits.{bit_at_lowest, bit_at-suc, bit_at_or, bit_at-pow_same, bit_at-pow_other, bit_at-lt, same_from_bits_below}
use Rattle.std.specs.Int.{bit_at}
use Rattle.std.specs.List.{range_with_len}
use Rattle.frame.proofs.Bools.{bit_small}
use Rattle.claims.specs.Bits.{bits_from}
use Rattle.claims.specs.Form.{byte_room, byte_is_marked, byte_with_mark, bytes_laid, bit_room, bit_is_marked, bit_with_mark, bits_laid, or_at, FormLaws}

-- f 0, f 1, .., `count` of them.
abbrev row : (ℕ → ℕ) → ℕ → List ℕ
row f count = map f (range_with_len 0 count)

zeros : (count : ℕ) → replicate count 0 ≡ row (λ (k : ℕ). 0) count
zeros count = fill_by_all (λ (k : ℕ). 0) (replicate count 0) count 0 (length-replicate count 0) λ k h. get_or-replicate count k 0 0 h

module _ (f : ℕ → ℕ) (count t : ℕ) (h : t < count) where
  row_at : get_or (row f count) t 0 ≡ f t
  row_at = get_or-map-range_with_len f 0 count t t 0 h (omega arith)

  row_set : (g : ℕ → ℕ) (x : ℕ) → x ≡ g t → ((k : ℕ) → (k ≡ t → ⊥) → f k ≡ g k) → set (row f count) t x ≡ row g count
  row_set g x here others =
      fill_by_all g (set (row f count) t x) count 0 (simp (length-set, length-map-range_with_len)) λ k below. go k below (ℕ_discrete k t)
    where
      go : (k : ℕ) → k < count → Dec (k ≡ t) → get_or (set (row f count) t x) k 0 ≡ g k
      go k below (yes same) =
          rw (same, ← here) (get_or-set_same (row f count) t x 0 (omega (arith, length-map-range_with_len f 0 count)))
      go k below (no other) =
          get_or-set_other (row f count) t k x 0 other ∙ get_or-map-range_with_len f 0 count k k 0 below (omega arith) ∙ others k other

-- A mark as the number that it is.
abbrev mark : Bool → ℕ
mark b = cond b 1 0

is_set : (b : Bool) → not (eqb (mark b) 0) ≡ b
is_set true = refl
is_set false = refl

module _ (test : ℕ → Bool) (t : ℕ) where
  mark_here : mark (or_at test t t) ≡ 1
  mark_here = rw (eq-eqb t t refl)

  mark_other : (k : ℕ) → (k ≡ t → ⊥) → mark (test k) ≡ mark (or_at test t k)
  mark_other k other = rw (ne_eqb t k (λ e. other (sym e)))

pub marks_length : (test : ℕ → Bool) (count : ℕ) → length (bytes_laid test count) ≡ count
marks_length test count = length-map-range_with_len _ 0 count

pub mark_at : (test : ℕ → Bool) (count t : ℕ) → t < count → get_or (bytes_laid test count) t 0 ≡ mark (test t)
mark_at test = row_at (λ k. mark (test k))

pub byte_laws : FormLaws byte_room byte_is_marked byte_with_mark bytes_laid
byte_laws =
    record {
      within = λ t count h. omega arith;
      cleared = zeros;
      read = λ test count t h. rw (mark_at test count t h) (is_set (test t));
      marked = λ test count t h. row_set (λ k. mark (test k)) count t h (λ k. mark (or_at test t k)) 1 (sym (mark_here test t)) (mark_other test t);
    }

-- The bits of a number are the test's.
module _ (test : ℕ → Bool) where
  pub bits_below : (count t : ℕ) → bits_from test count t < 2 ^ count
  bits_below zero t = omega arith
  bits_below (suc count) t = omega (arith, pow-succ' 2 count, bits_below count (suc t), bit_small (test t))

  half : (count t : ℕ) → bits_from test (suc count) t / 2 ≡ bits_from test count (suc t)
  half count t = omega (arith, bit_small (test t))

  pub bit_of : (count t b : ℕ) → b < count → bit_at (bits_from test count t) b ≡ mark (test (t + b))
  bit_of zero t b h = absurd (not-suc-le-zero h)
  bit_of (suc count) t zero h = rw (bit_at_lowest (bits_from test (suc count) t), add-zero) (omega (arith, bit_small (test t)))
  bit_of (suc count) t (suc b) h =
      bit_at-suc (bits_from test (suc count) t) b ∙ ap (λ (x : ℕ). bit_at x b) (half count t)
      ∙ bit_of count (suc t) b (le_of_suc-le-suc h) ∙ rw (suc-add, add-suc)

  -- No other number below 2 ^ count has these bits.
  pub bits_only : (count t x : ℕ) → x < 2 ^ count → ((b : ℕ) → b < count → bit_at x b ≡ mark (test (t + b))) → x ≡ bits_from test count t
  bits_only count t x small same =
      same_from_bits_below count x (bits_from test count t) small (bits_below count t) λ b h. same b h ∙ sym (bit_of count t b h)

module _ (test : ℕ → Bool) where
  -- A byte with bit b set.
  byte_more : (t b : ℕ) → b < 8 → bit_or (bits_from test 8 t) (2 ^ b) ≡ bits_from (or_at test (t + b)) 8 t
  byte_more t b h =
      bits_only (or_at test (t + b)) 8 t _ (or_lt 8 _ _ (bits_below test 8 t) (pow-lt h)) λ i below.
      bit_at_or (bits_from test 8 t) (2 ^ b) i ∙ go i below (ℕ_discrete i b)
    where
      go : (i : ℕ) → i < 8 → Dec (i ≡ b) → max (bit_at (bits_from test 8 t) i) (bit_at (2 ^ b) i) ≡ mark (or_at test (t + b) (t + i))
      go i below (yes same) =
          rw (same, bit_at-pow_same b, mark_here test (t + b)) (omega (arith, bit_at-lt (bits_from test 8 t) b))
      go i below (no other) =
          rw (bit_at-pow_other b i other, ← mark_other test (t + b) (t + i) (λ e. other (omega arith)), bit_of test 8 t i below) (omega arith)

  -- A byte without bit t.
  byte_other : (t j : ℕ) → (j ≡ t / 8 → ⊥) → bits_from test 8 (8 * j) ≡ bits_from (or_at test t) 8 (8 * j)
  byte_other t j other =
      bits_only (or_at test t) 8 (8 * j) _ (bits_below test 8 (8 * j)) λ i below.
      bit_of test 8 (8 * j) i below ∙ mark_other test t (8 * j + i) (λ e. other (omega arith))

-- Every mark has its byte in the room.
pub byte_in_room : (count t : ℕ) → t < count → t / 8 < bit_room count
byte_in_room count t h = omega arith

module _ (test : ℕ → Bool) (count : ℕ) where
  pub bytes_length : length (bits_laid test count) ≡ bit_room count
  bytes_length = length-map-range_with_len _ 0 (bit_room count)

  pub byte_at : (j : ℕ) → j < bit_room count → get_or (bits_laid test count) j 0 ≡ bits_from test 8 (8 * j)
  byte_at = row_at (λ k. bits_from test 8 (8 * k)) (bit_room count)

  -- Bit t is 1 where the test passes.
  pub bit_at_holds : (t : ℕ) → t / 8 < bit_room count → bit_at (get_or (bits_laid test count) (t / 8) 0) (t % 8) ≡ mark (test t)
  bit_at_holds t h =
      let whole : 8 * (t / 8) + t % 8 ≡ t = omega arith in
      ap (λ (x : ℕ). bit_at x (t % 8)) (byte_at (t / 8) h) ∙ bit_of test 8 (8 * (t / 8)) (t % 8) (omega arith)
      ∙ ap (λ (k : ℕ). mark (test k)) whole

  bits_more : (t : ℕ) → t < count → bit_with_mark (bits_laid test count) t ≡ bits_laid (or_at test t) count
  bits_more t h =
      let whole : 8 * (t / 8) + t % 8 ≡ t = omega arith in
      row_set (λ k. bits_from test 8 (8 * k)) (bit_room count) (t / 8) (byte_in_room count t h)
      (λ k. bits_from (or_at test t) 8 (8 * k)) _
      (rw (byte_at (t / 8) (byte_in_room count t h)) (byte_more test (8 * (t / 8)) (t % 8) (omega arith) ∙ ap (λ (k : ℕ). bits_from (or_at test k) 8 (8 * (t / 8))) whole))
      (λ k other. byte_other test t k other)

pub bit_laws : FormLaws bit_room bit_is_marked bit_with_mark bits_laid
bit_laws =
    record {
      within = λ t count h. omega arith;
      cleared = λ count. zeros (bit_room count);
      read = λ test count t h. rw (bit_at_holds test count t (byte_in_room count t h)) (is_set (test t));
      marked = bits_more;
    }
