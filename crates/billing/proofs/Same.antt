-- What a crediting call asks of what was sent it asks at the k of the window alone: two stations that sent the same there are told,
-- credited and refused alike.
-- Assumes nothing.
use Rattle.std.proofs.Common.{Result}
use Prim.Native.Nat.{ℕ, ◌+◌, ◌≤◌}
use mathlib.Core.Bool.{Bool, true, false, cond, not, ◌&&◌, false≢true, or-true}
use mathlib.Core.List.{List, [], ◌∷◌, map}
use mathlib.Core.Path.{◌≡◌, refl, fun_ext}
use native.Mathlib.Omega.{arith}
use lib.Dec.{T, eqb}
use lib.Ieee.Fits.{and_l, and_r}
use borrow.Author.Tests.{eq-eqb}
use Rattle.std.proofs.lemmas.Bool.{false_from_ne_true}
use Rattle.frame.specs.declared.Settings.{Settings}
use Rattle.frame.specs.Order.{member}
use Rattle.frame.specs.Table.{table, window_of}
use Rattle.frame.proofs.Windows.{every_row, window_passes}
use Rattle.station.specs.declared.Reading.{Reading}
use Rattle.confirmation.specs.declared.Send.{Send}
use Rattle.confirmation.specs.Sent.{is_block, told_of}
use Rattle.confirmation.proofs.Same.{told_same, confirmed_same}
use Rattle.confirming.specs.Refusals.{rank_of, earlier, lowest, refusal_ago, blocks_sent}
use Rattle.credit.specs.Credit.{credited}
use Rattle.agreement.proofs.Entries.{AllOf, all_of}

-- What the reading is told and what is credited.
module _ (c n : ℕ) (f g : ℕ → Send) (same : (k : ℕ) → member k (window_of c n) ≡ true → f k ≡ g k) where
  pub same_told : told_of (window_of c n) f ≡ told_of (window_of c n) g
  same_told = told_same f g (window_of c n) same

  pub same_credited : (read : Result Reading ℕ) → credited (window_of c n) f read ≡ credited (window_of c n) g read
  unfolding credited
  same_credited read = fun_ext (λ m. fun_ext (λ block. rw (confirmed_same f g c n same read m block)))

-- No k stands twice in a window.
abbrev once : List ℕ → Bool
once [] = true
once (k ∷ ks) = not (member k ks) && once ks

once_tested : T (every_row (λ c n ks. once ks) table)
unfolding table
once_tested = tt

not_member : (b : Bool) → T (not b) → b ≡ true → ⊥
not_member true t e = t
not_member false t e = false≢true e

module _ (f : ℕ → Send) where
  none_sent : (ks : List ℕ) → AllOf (λ (k : ℕ). is_block (f k) ≡ false) ks → blocks_sent f ks ≡ 0
  unfolding blocks_sent
  none_sent [] a = refl
  none_sent (k ∷ ks) a = rw (a.0, none_sent ks a.1)

  -- Where two scheduled blocks are never in two places, there is at most one.
  one_sent : (ks : List ℕ) → T (once ks)
      → ((i j : ℕ) → member i ks ≡ true → member j ks ≡ true → is_block (f i) ≡ true → is_block (f j) ≡ true → i ≡ j)
      → blocks_sent f ks ≤ 1
  unfolding blocks_sent
  one_sent [] t one = omega arith
  one_sent (k ∷ ks) t one = go (is_block (f k)) refl (one_sent ks (and_r (not (member k ks)) (once ks) t))
    where
      tail : (j : ℕ) → member j ks ≡ true → member j (k ∷ ks) ≡ true
      tail j e = rw e (or-true (eqb k j))

      alone : is_block (f k) ≡ true → (j : ℕ) → member j ks ≡ true → is_block (f j) ≡ false
      alone e j m =
          false_from_ne_true (is_block (f j))
          (λ x.
          let here : k ≡ j = one k j (rw (eq-eqb k k refl)) (tail j m) e x in
          not_member (member k ks) (and_l (not (member k ks)) (once ks) t) (rw here m))

      go : (b : Bool) → is_block (f k) ≡ b
          → (((i j : ℕ) → member i ks ≡ true → member j ks ≡ true → is_block (f i) ≡ true → is_block (f j) ≡ true → i ≡ j) → blocks_sent f ks ≤ 1)
          → cond b 1 0 + blocks_sent f ks ≤ 1
      go true e rest = rw (none_sent ks (all_of _ ks (alone e))) (omega arith)
      go false e rest = omega (arith, rest (λ i j p q. one i j (tail i p) (tail j q)))

  pub one_in_window : (c n : ℕ)
      → ((i j : ℕ) → member i (window_of c n) ≡ true → member j (window_of c n) ≡ true → is_block (f i) ≡ true → is_block (f j) ≡ true → i ≡ j)
      → blocks_sent f (window_of c n) ≤ 1
  one_in_window c n one = one_sent (window_of c n) (window_passes _ once_tested c n tt) one

  -- What is valid at each k is not refused.
  none_lowest : (s : Settings) (n : ℕ) (ks : List ℕ) → AllOf (λ (k : ℕ). refusal_ago s n f k ≡ 0) ks → lowest (map (refusal_ago s n f) ks) ≡ 0
  unfolding lowest earlier rank_of
  none_lowest s n [] a = refl
  none_lowest s n (k ∷ ks) a = rw (a.0, none_lowest s n ks a.1)

  pub none_refused : (s : Settings) (n : ℕ) → ((k : ℕ) → member k (window_of s.config n) ≡ true → refusal_ago s n f k ≡ 0)
      → lowest (map (refusal_ago s n f) (window_of s.config n)) ≡ 0
  none_refused s n each = none_lowest s n (window_of s.config n) (all_of _ (window_of s.config n) each)
