-- A station that sent the same in the subframes of a window is told the same position and confirms the same blocks there, whatever was
-- sent at other times.
-- Assumes nothing.
use Rattle.std.proofs.Common.{Result, Ok, Err}
use Prim.Native.Nat.{ℕ, zero, suc, ◌<◌}
use mathlib.Core.Bool.{true, or-true}
use mathlib.Core.List.{List, [], ◌∷◌}
use mathlib.Core.Path.{◌≡◌, refl, sym, ◌∙◌}
use native.Mathlib.Decide.{dec_lt}
use native.Mathlib.Nat.{le_of_suc-le-suc, not-suc-le-zero}
use native.Mathlib.Omega.{arith}
use lib.Dec.{eqb}
use lib.ListN.{length, get_or}
use borrow.Author.Tests.{eq-eqb, le-ltb}
use Rattle.frame.specs.Order.{member, times_of}
use Rattle.frame.specs.Table.{window_of}
use Rattle.frame.proofs.Times.{in_time_order}
use Rattle.station.specs.declared.Place.{Place}
use Rattle.station.specs.declared.Place.TheVariants as place
use Rattle.station.specs.declared.Reading.{Reading}
use Rattle.station.specs.declared.Reading.TheVariants as reading
use Rattle.confirmation.specs.declared.Send.{Send}
use Rattle.confirmation.specs.Confirmed.{named_sent, sent_up_to, holds_for, confirmed}
use Rattle.confirmation.specs.Sent.{told_from, told_of}

-- What stands at a position of a list is a member of it.
pub member_at : (ks : List ℕ) (m : ℕ) → m < length ks → member (get_or ks m 0) ks ≡ true
member_at [] m h = absurd (not-suc-le-zero h)
member_at (k ∷ ks) zero h = rw (eq-eqb k k refl)
member_at (k ∷ ks) (suc m) h = rw (member_at ks m (le_of_suc-le-suc h)) (or-true (eqb k (get_or ks m 0)))

module _ (sent other : ℕ → Send) where
  told_on : (i : ℕ) (ks : List ℕ) → ((k : ℕ) → member k ks ≡ true → sent k ≡ other k) → told_from i ks sent ≡ told_from i ks other
  told_on i [] same = refl
  told_on i (k ∷ ks) same =
      rw (same k (rw (eq-eqb k k refl)), told_on (suc i) ks (λ j e. same j (rw e (or-true (eqb k j)))))

  count_on : (k : ℕ) (ts : List ℕ) → ((j : ℕ) → member j ts ≡ true → sent j ≡ other j) → sent_up_to sent k ts ≡ sent_up_to other k ts
  count_on k [] same = refl
  count_on k (j ∷ ts) same =
      rw (same j (rw (eq-eqb j j refl)), count_on k ts (λ i e. same i (rw e (or-true (eqb j i)))))

  -- The position that the reading is told.
  pub told_same : (ks : List ℕ) → ((k : ℕ) → member k ks ≡ true → sent k ≡ other k) → told_of ks sent ≡ told_of ks other
  told_same ks same = told_on 0 ks same

  module _ (c n : ℕ) (same : (k : ℕ) → member k (window_of c n) ≡ true → sent k ≡ other k) where
    abbrev K : List ℕ
    K = window_of c n

    at : (m : ℕ) → m < length K → sent (get_or K m 0) ≡ other (get_or K m 0)
    at m h = same (get_or K m 0) (member_at K m h)

    count_same : (k : ℕ) → sent_up_to sent k (times_of K) ≡ sent_up_to other k (times_of K)
    count_same k = count_on k (times_of K) (λ j e. same j (sym ((in_time_order c n).same j) ∙ e))

    named_same : (p : Place) → named_sent K sent p ≡ named_sent K other p
    named_same (place.Pdcch m c) = go (dec_lt m (length K))
      where
        go : Dec (m < length K) → named_sent K sent (place.Pdcch m c) ≡ named_sent K other (place.Pdcch m c)
        go (yes h) = rw (at m h)
        go (no h) = rw (le-ltb m (length K) (omega arith))
    named_same (place.Block m) = go (dec_lt m (length K))
      where
        go : Dec (m < length K) → named_sent K sent (place.Block m) ≡ named_sent K other (place.Block m)
        go (yes h) = rw (at m h)
        go (no h) = rw (le-ltb m (length K) (omega arith))

    holds_same : (p : Place) (m : ℕ) → m < length K → holds_for K sent p (get_or K m 0) ≡ holds_for K other p (get_or K m 0)
    holds_same (place.Pdcch j c) m h = rw (count_same (get_or K j 0), at m h)
    holds_same (place.Block j) m h = refl

    -- The blocks that a reading confirms.
    pub confirmed_same : (read : Result Reading ℕ) (m block : ℕ) → confirmed K sent read m block ≡ confirmed K other read m block
    unfolding confirmed
    confirmed_same read m block = go (dec_lt m (length K)) read
      where
        go : Dec (m < length K) → (read : Result Reading ℕ) → confirmed K sent read m block ≡ confirmed K other read m block
        go (no h) read = rw (le-ltb m (length K) (omega arith))
        go (yes h) (Ok (reading.Bundled p b0 b1)) = rw (named_same p, holds_same p m h, at m h)
        go (yes h) (Ok (reading.Multiplexed p positions)) = rw (named_same p, at m h)
        go (yes h) (Err k) = rw (at m h)
