-- Bytes put at a place of a list: what stands before and after them. Assumes nothing.
use Prim.Native.Nat.{ℕ, ◌+◌, ◌≤◌}
use mathlib.Core.List.{List, [], ◌++◌, append_assoc, append-nil}
use mathlib.Core.Path.{◌≡◌, sym}
use native.Mathlib.Nat.{add-zero}
use native.Mathlib.Omega.{arith}
use borrow.Rule.Slice.PartMut.{put_mid}
use lib.ListN.{length, take, drop, length-append, length-drop, take-append-drop}
use lib.Seq.{length-take-le, take_at, drop_at, drop-drop}
use Rattle.replaying.specs.Written.{put_at}

-- A part of a list that is written over.
pub part_put : (at k : ℕ) (l new : List ℕ) → length new ≡ k → put_mid at k l new ≡ put_at at new l
part_put at k l new e = rw (← e, append_assoc (take at l) new (drop (at + length new) l), drop-drop (length new) at l)

module _ (l : List ℕ) (at : ℕ) where
  -- Nothing put changes nothing.
  pub put_none : l ≡ put_at at [] l
  put_none = rw (append-nil, add-zero) (sym (take-append-drop at l))

  module _ (new : List ℕ) (inside : at + length new ≤ length l) where
    front : length (take at l ++ new) ≡ at + length new
    front = rw (length-append (take at l) new, length-take-le at l (omega arith))

    -- Up to their end, what stood before them, and they; after it, what stood there.
    pub take_put : take (at + length new) (put_at at new l) ≡ take at l ++ new
    take_put = take_at (take at l ++ new) (drop (at + length new) l) (at + length new) front

    pub drop_put : drop (at + length new) (put_at at new l) ≡ drop (at + length new) l
    drop_put = drop_at (take at l ++ new) (drop (at + length new) l) (at + length new) front

    pub length_put : length (put_at at new l) ≡ length l
    length_put =
        rw (length-append (take at l ++ new) (drop (at + length new) l), front, length-drop (at + length new) l) (omega arith)

    -- Bytes put behind them.
    pub put_more : (more : List ℕ) → at + length new + length more ≤ length l
        → put_at (at + length new) more (put_at at new l) ≡ put_at at (new ++ more) l
    put_more more p =
        let size : at + length new + length more ≡ at + length (new ++ more) = rw (length-append new more) (omega arith) in
        rw (take_put, append_assoc (take at l) new more, ← drop-drop (length more) (at + length new) (put_at at new l), drop_put, drop-drop (length more) (at + length new) l, size)
