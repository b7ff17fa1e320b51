-- The laws of the table. One test, which antt computes at each of the 2,970 entries, says that the flat list has the printed size
-- there, and that the size is a multiple of 8 from 16 to 75,376.
-- Assumes nothing.
use Prim.Native.Nat.{ℕ, ◌+◌, ◌*◌, ◌-◌, ◌/◌, ◌%◌, ◌<◌, ◌≤◌}
use mathlib.Core.Bool.{Bool, true, false, cond, ◌&&◌}
use mathlib.Core.Path.{◌≡◌, refl}
use native.Mathlib.Omega.{arith}
use lib.Dec.{T, eqb, leb, eqb→eq, leb→le}
use lib.Ieee.Fits.{and_l, and_r}
use lib.ListN.{get_or}
use borrow.Author.Tests.{le-leb}
use Rattle.sizes.specs.Table.{blocks, printed, in_table, block_size, flat, size_in, Regular, EachRegular}
use Rattle.sizes.proofs.Entries.{every, at}

-- the size at place k is the printed one
abbrev as_printed : ℕ → ℕ → Bool
as_printed k x = eqb x (printed (k / 110) (k % 110))

-- the size is a multiple of 8 from 16 to 75,376
abbrev ruled : ℕ → Bool
ruled x = eqb (x % 8) 0 && (leb 16 x && leb x 75376)

right : ℕ → ℕ → Bool
right k x = as_printed k x && ruled x

tested : T (every right 0 flat)
unfolding blocks printed flat right
tested = tt

module _ (k : ℕ) (h : k < 2970) where
  passes : T (right k (get_or flat k 0))
  unfolding blocks flat
  passes = at right flat tested k h

  flat_printed : get_or flat k 0 ≡ printed (k / 110) (k % 110)
  unfolding right
  flat_printed =
      let x = get_or flat k 0 in
      eqb→eq x (printed (k / 110) (k % 110)) (and_l (as_printed k x) (ruled x) passes)

  entry_ruled : T (ruled (get_or flat k 0))
  unfolding right
  entry_ruled = let x = get_or flat k 0 in and_r (as_printed k x) (ruled x) passes

-- What `in_table` tests, and what it shows.
in_table_holds : (i n : ℕ) → i < 27 → 0 < n → n < 111 → in_table i n ≡ true
in_table_holds i n hi l h = rw (le-leb i 26 (omega arith), le-leb 1 n (omega arith), le-leb n 110 (omega arith))

within : (i n : ℕ) → T (in_table i n) → (i < 27) × (0 < n) × (n < 111)
within i n t =
    let s = and_r (leb i 26) (leb 1 n && leb n 110) t in
    let hi : i ≤ 26 = leb→le i 26 (and_l (leb i 26) (leb 1 n && leb n 110) t) in
    let l : 1 ≤ n = leb→le 1 n (and_l (leb 1 n) (leb n 110) s) in
    let h : n ≤ 110 = leb→le n 110 (and_r (leb 1 n) (leb n 110) s) in
    (omega arith, omega arith, omega arith)

-- Where the flat list has the printed size of I_TBS i and N_PRB n.
module _ (i n : ℕ) (hi : i < 27) (l : 0 < n) (h : n < 111) where
  place : 110 * i + n - 1 < 2970
  place = omega arith

  entry_printed : get_or flat (110 * i + n - 1) 0 ≡ printed i (n - 1)
  entry_printed =
      let q : (110 * i + n - 1) / 110 ≡ i = omega arith in
      let r : (110 * i + n - 1) % 110 ≡ n - 1 = omega arith in
      rw (q, r) at (flat_printed (110 * i + n - 1) place)

  -- Each size of the table is a multiple of 8 from 16 to 75,376.
  pub regular : Regular (block_size i n)
  unfolding block_size
  regular =
      let x = get_or flat (110 * i + n - 1) 0 in
      let t = entry_ruled (110 * i + n - 1) place in
      let s = and_r (eqb (x % 8) 0) (leb 16 x && leb x 75376) t in
      let low : 16 ≤ x = leb→le 16 x (and_l (leb 16 x) (leb x 75376) s) in
      let high : x ≤ 75376 = leb→le x 75376 (and_r (leb 16 x) (leb x 75376) s) in
      let eight : x % 8 ≡ 0 = eqb→eq (x % 8) 0 (and_l (eqb (x % 8) 0) (leb 16 x && leb x 75376) t) in
      rw (in_table_holds i n hi l h, ← entry_printed) (record { eights = eight; least = omega arith; most = omega arith })

-- The flat list has the size of the table for every I_TBS and N_PRB.
pub size_in_flat : (i n : ℕ) → size_in flat i n ≡ block_size i n
unfolding size_in block_size
size_in_flat i n = go (in_table i n) refl
  where
    go : (b : Bool) → in_table i n ≡ b → cond b (get_or flat (110 * i + n - 1) 0) 0 ≡ cond b (printed i (n - 1)) 0
    go true e = let w = within i n (rw e tt) in entry_printed i n w.0 w.1 w.2
    go false e = refl

-- No size is over 75,376, for whatever I_TBS and N_PRB.
pub size_most_holds : (i n : ℕ) → block_size i n ≤ 75376
unfolding block_size
size_most_holds i n = go (in_table i n) refl
  where
    go : (b : Bool) → in_table i n ≡ b → cond b (printed i (n - 1)) 0 ≤ 75376
    go true e =
        let w = within i n (rw e tt) in
        let r = regular i n w.0 w.1 w.2 in
        rw e at r.most
    go false e = omega arith

-- Of the whole table.
pub each_regular : EachRegular
each_regular = regular
