-- Texts put on a line one after the other are the text put on it together.
-- Assumes nothing.
use Rattle.std.proofs.Common.{ℕ, zero, suc, ◌+◌, ◌-◌, ◌≤◌, ◌≡◌, min, List, [], ◌∷◌, ◌++◌, length, take, drop, set, replicate, get_or, ◌<◌, refl, sym, ap, ◌∙◌, arith, append_assoc, length-append, length-take-le, drop_at, decimal, add-one, drop-cons}
use Rattle.std.proofs.lemmas.Fmt.{length-decimal-le}
use Rattle.std.proofs.lemmas.List.{take_all, take_min, take_more_set, length-take, append-nil, drop_all, drop-replicate}
use Rattle.std.proofs.lemmas.Slice.{take-put_mid}
use native.Mathlib.Nat.{suc-sub-suc, sub-zero, zero-sub}
use borrow.Rule.Slice.PartMut.{put_mid}
use Rattle.line.specs.Line.{added, padded, listed}

take-nil : (n : ℕ) → take {A = ℕ} n [] ≡ []
take-nil n = take_all n [] (omega arith)

take-append : (n : ℕ) (a b : List ℕ) → take n (a ++ b) ≡ take n a ++ take (n - length a) b
take-append zero a b = rw zero-sub
take-append (suc n) [] b = rw sub-zero
take-append (suc n) (x ∷ a) b = ap (λ l. x ∷ l) (rw suc-sub-suc (take-append n a b))

-- A text written over the zeros after a line's own bytes, as much of it as there is room for.
module _ (bytes text : List ℕ) (size end : ℕ) (start : size ≤ end) (room : end ≤ 100) (whole : length bytes ≡ 100)
    (fits : length text ≡ end - size) where
  pub taken_written : take end (put_mid size (end - size) bytes text) ≡ take size bytes ++ text
  taken_written = take-put_mid size (end - size) bytes text end (omega arith) (omega arith)

  pub padded_written : padded (take size bytes) ≡ bytes
      → padded (take end (put_mid size (end - size) bytes text)) ≡ put_mid size (end - size) bytes text
  padded_written zeros =
      let before : length (take size bytes) ≡ size = length-take-le size bytes (omega arith) in
      let after : drop size bytes ≡ replicate (100 - size) 0 =
      ap (drop size) (sym zeros) ∙ drop_at (take size bytes) _ size before ∙ ap (λ k. replicate (100 - k) 0) before in
      let left : 100 - length (take size bytes ++ text) ≡ 100 - size - (end - size) = simp length-append (omega (arith, before, fits)) in
      rw (taken_written, append_assoc, left, after, drop-replicate {X = ℕ} (end - size) (100 - size) 0)

-- The part of a text that there is room for.
pub added_part : (line text : List ℕ) → line ++ take (min (100 - length line) (length text)) text ≡ added line text
unfolding added
added_part line text = ap (λ l. line ++ l) (take_min (100 - length line) text)

-- A byte written over the first of the zeros.
pub added_byte : (bytes line : List ℕ) (size b : ℕ) → length bytes ≡ 100 → take size bytes ≡ line → size < 100
    → take (size + 1) (set bytes size b) ≡ added line (b ∷ [])
unfolding added
added_byte bytes line size b whole text room =
    let before : length line ≡ size = ap length (sym text) ∙ length-take-le size bytes (omega arith) in
    take_more_set bytes size b (omega arith)
    ∙ ap (λ l. l ++ b ∷ []) text
    ∙ ap (λ l. line ++ l) (sym (take_all (100 - length line) (b ∷ []) (omega arith)))

-- A full line stays as it is.
pub added_full : (bytes line text : List ℕ) (size : ℕ) → take size bytes ≡ line → length bytes ≡ 100 → 100 ≤ size → line ≡ added line text
unfolding added
added_full bytes line text size e whole full =
    let none : 100 - length line ≡ 0 = omega (arith, ap length (sym e), length-take size bytes) in
    sym (rw none (append-nil line))

-- No text.
pub added_none : (line : List ℕ) → added line [] ≡ line
unfolding added
added_none line = rw (take-nil (100 - length line), append-nil)

-- Two texts, one after the other.
pub added_append : (line a b : List ℕ) → added (added line a) b ≡ added line (a ++ b)
unfolding added
added_append line a b =
    let n = 100 - length line in
    let left : 100 - length (line ++ take n a) ≡ n - length a = simp (length-append, length-take) (omega arith) in
    rw (left, take-append n a b, append_assoc)

-- A text that has room on an empty line.
pub added_alone : (text : List ℕ) → length text ≤ 100 → added [] text ≡ text
unfolding added
added_alone text room = take_all 100 text room

-- A text that has room on an empty line, and its newline after it.
pub added_ended : (text : List ℕ) → length text ≤ 99 → added (added [] text) (10 ∷ []) ≡ text ++ 10 ∷ []
added_ended text room = added_append [] text (10 ∷ []) ∙ added_alone (text ++ 10 ∷ []) (simp length-append (omega (arith, room)))

-- A number below 100,000 has at most five digits.
pub five_digits : (x : ℕ) → x < 100000 → length (decimal x) ≤ 5
five_digits x h = length-decimal-le 5 x (omega arith) h (omega arith)

-- The next number of a list, then those after it.
pub listed_more : (line new text xs : List ℕ) (i : ℕ) → i < length xs → new ≡ added line (text ++ decimal (get_or xs i 0))
    → added new (listed text (drop (i + 1) xs)) ≡ added line (listed text (drop i xs))
unfolding listed
listed_more line new text xs i h e =
    rw (e, add-one, drop-cons xs i 0, added_append)

-- No number is left.
pub listed_all : (line text xs : List ℕ) (i : ℕ) → length xs ≤ i → added line (listed text (drop i xs)) ≡ line
unfolding listed
listed_all line text xs i h = rw (drop_all i xs h) (added_none line)

-- Numbers, then more numbers.
pub listed_append : (text xs ys : List ℕ) → listed text (xs ++ ys) ≡ listed text xs ++ listed text ys
unfolding listed
listed_append text [] ys = refl
listed_append text (x ∷ xs) ys = rw (listed_append text xs ys) (simp append_assoc)
