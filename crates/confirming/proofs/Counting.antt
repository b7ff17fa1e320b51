-- What is counted among the records of a window, whatever their order: the PDCCHs sent up to and with one of them.
-- Assumes nothing.
use Prim.Native.Nat.{ℕ, zero, suc, ◌+◌, ◌<◌, ◌≤◌}
use mathlib.Core.Bool.{Bool, true, false, cond, not, ◌&&◌, ◌||◌}
use mathlib.Core.List.{List, [], ◌∷◌, map}
use mathlib.Core.Path.{◌≡◌, refl, sym, ◌∙◌}
use native.Mathlib.Omega.{arith}
use lib.Dec.{T, eqb, leb, ltb}
use lib.Ieee.Bits.{is_true}
use lib.ListN.{length}
use borrow.Author.Tests.{eqb-true, eqb-false, ne_eqb, ltb-true, leb-true}
use Rattle.std.specs.List.{sum_by, zip}
use Rattle.std.proofs.lemmas.List.Sums.{sum_by-cons}
use Rattle.std.proofs.lemmas.Bool.{and_parts, not-true}
use Rattle.frame.specs.Order.{member, falling, times_of}
use Rattle.frame.specs.Table.{table, window_of}
use Rattle.frame.proofs.Windows.{every_row, window_passes}
use Rattle.confirmation.specs.declared.Send.{Send}
use Rattle.confirmation.specs.Confirmed.{sent_up_to}
use Rattle.confirmation.specs.Sent.{is_pdcch}
use Rattle.confirming.specs.declared.Sent.{Sent}
use Rattle.confirming.specs.declared.SentIn.{SentIn}
use Rattle.confirming.specs.Coded.{k_in, records_in, send_in}
use Rattle.confirming.specs.Records.{send_of}
use Rattle.confirming.proofs.Pairs.{pairs_in}
use Rattle.confirming.proofs.Records.{sent_list}

-- A list with numbers from 1 to n, none of them twice.
abbrev apart : ℕ → List ℕ → Bool
apart n [] = true
apart n (x ∷ xs) = (ltb 0 x && (leb x n && not (member x xs))) && apart n xs

apart_tested : T (every_row (λ (c n : ℕ) (ks : List ℕ). apart 13 ks) table)
unfolding table
apart_tested = tt

module _ (sent : ℕ → Send) (k : ℕ) where
  -- What one k adds to the count.
  abbrev one : ℕ → ℕ
  one j = cond (leb k j && is_pdcch (sent j)) 1 0

  -- A number over n is not listed up to n.
  beyond : (n x : ℕ) (xs : List ℕ) → n < x → falling n (x ∷ xs) ≡ falling n xs
  beyond zero x xs h = refl
  beyond (suc n) x xs h = rw (ne_eqb x (suc n) (λ e. omega arith), beyond n x xs (omega arith))

  -- One more number adds what it adds, wherever it falls.
  falling_more : (n x : ℕ) (xs : List ℕ) → 0 < x → x ≤ n → member x xs ≡ false
      → sent_up_to sent k (falling n (x ∷ xs)) ≡ one x + sent_up_to sent k (falling n xs)
  falling_more zero x xs low high out = absurd (omega arith)
  falling_more (suc n) x xs low high out = go (eqb x (suc n)) refl (λ h. falling_more n x xs low h out)
    where
      next : (b : Bool) → sent_up_to sent k (falling n (x ∷ xs)) ≡ one x + sent_up_to sent k (falling n xs)
          → sent_up_to sent k (cond b (suc n ∷ falling n (x ∷ xs)) (falling n (x ∷ xs))) ≡ one x + sent_up_to sent k (cond b (suc n ∷ falling n xs) (falling n xs))
      next true rest = omega (arith, rest)
      next false rest = rest

      go : (b : Bool) → eqb x (suc n) ≡ b → (x ≤ n → sent_up_to sent k (falling n (x ∷ xs)) ≡ one x + sent_up_to sent k (falling n xs))
          → sent_up_to sent k (cond (b || member (suc n) xs) (suc n ∷ falling n (x ∷ xs)) (falling n (x ∷ xs))) ≡ one x + sent_up_to sent k (cond (member (suc n) xs) (suc n ∷ falling n xs) (falling n xs))
      go true e rest =
          let same : x ≡ suc n = eqb-true x (suc n) e in
          rw (← same, out, beyond n x xs (omega arith))
      go false e rest = next (member (suc n) xs) (rest (omega (arith, eqb-false x (suc n) e)))

  falling_none : (n : ℕ) → falling n [] ≡ []
  falling_none zero = refl
  falling_none (suc n) = falling_none n

  falling_count : (n : ℕ) (xs : List ℕ) → apart n xs ≡ true → sent_up_to sent k (falling n xs) ≡ sent_up_to sent k xs
  falling_count n [] a = rw (falling_none n)
  falling_count n (x ∷ xs) a =
      let p = and_parts (ltb 0 x && (leb x n && not (member x xs))) (apart n xs) a in
      let q = and_parts (ltb 0 x) (leb x n && not (member x xs)) p.0 in
      let r = and_parts (leb x n) (not (member x xs)) q.1 in
      falling_more n x xs (ltb-true 0 x q.0) (leb-true x n r.0) (not-true (member x xs) r.1) ∙ rw (falling_count n xs p.1)

  -- The count of a window is the same in the order of the print.
  times_count : (c n : ℕ) → sent_up_to sent k (times_of (window_of c n)) ≡ sent_up_to sent k (window_of c n)
  unfolding times_of
  times_count c n = falling_count 13 (window_of c n) (is_true _ (window_passes _ apart_tested c n tt))

-- A PDCCH of a pair of a k and its record, as one of the count.
abbrev pub counts : ℕ → ℕ × Sent → ℕ
counts k p = cond (leb k p.0 && is_pdcch (send_of p.1)) 1 0

-- The PDCCHs among the pairs, where the records say what was sent.
module _ (sent : ℕ → Send) (k : ℕ) where
  pub pairs_counted : (ks : List ℕ) (xs : List Sent) → map sent ks ≡ map send_of xs → sum_by (counts k) (zip ks xs) ≡ sent_up_to sent k ks
  pairs_counted [] xs e = refl
  pairs_counted (j ∷ ks) [] e = absurd (cc)
  pairs_counted (j ∷ ks) (x ∷ xs) e =
      let here : sent j ≡ send_of x = cc in
      let rest : map sent ks ≡ map send_of xs = cc in
      sum_by-cons (counts k) (j, x) (zip ks xs) ∙ rw (here, pairs_counted ks xs rest) refl

pub up_to_counted : (w : SentIn) (k : ℕ) → length (records_in w) ≡ length (k_in w)
    → sum_by (counts k) (pairs_in w) ≡ sent_up_to (send_in w) k (times_of (k_in w))
up_to_counted w k size =
    pairs_counted (send_in w) k (k_in w) (records_in w) (sent_list w (records_in w) refl size) ∙ sym (times_count (send_in w) k w.settings.config w.n)
