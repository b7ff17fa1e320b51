-- A scratch with other bytes in front, as the one with the marks of the claims before an index.
-- Assumes nothing.
use Prim.Native.Nat.{ℕ, ◌<◌, ◌≤◌}
use mathlib.Core.Bool.{cond}
use mathlib.Core.List.{List, ◌++◌}
use mathlib.Core.Path.{◌≡◌, ◌∙◌}
use native.Mathlib.Omega.{arith}
use lib.ListN.{length, get_or, drop, length-append, length-drop, get_or-append}
use lib.Seq.{drop_at}
use Rattle.frame.specs.declared.Settings.{Settings}
use Rattle.claims.specs.Claims.{room_of, marked, marks_from, marked_up_to}
use Rattle.claims.specs.Laws.{marks_length, mark_at}

-- `room` bytes are other ones.
module _ (front old : List ℕ) (room : ℕ) (whole : length front ≡ room) where
  pub front_at : (j : ℕ) → j < room → get_or (front ++ drop room old) j 0 ≡ get_or front j 0
  front_at j h = get_or-append front (drop room old) 0 j (omega arith)

  pub tail_kept : drop room (front ++ drop room old) ≡ drop room old
  tail_kept = drop_at front (drop room old) room whole

  pub same_length : room ≤ length old → length (front ++ drop room old) ≡ length old
  same_length h = simp (length-append, length-drop) (omega arith)

-- The byte form's.
module _ (s : Settings) (n : ℕ) (claims old : List ℕ) (e : ℕ) where
  abbrev front : List ℕ
  front = marks_from (marked s n claims e) (room_of s n) 0

  pub byte_marked : (t : ℕ) → t < room_of s n → get_or (marked_up_to s n claims old e) t 0 ≡ cond (marked s n claims e t) 1 0
  unfolding marked_up_to
  byte_marked t h = front_at front old (room_of s n) (marks_length _ _) t h ∙ mark_at (marked s n claims e) (room_of s n) t h

  pub later_kept : drop (room_of s n) (marked_up_to s n claims old e) ≡ drop (room_of s n) old
  unfolding marked_up_to
  later_kept = tail_kept front old (room_of s n) (marks_length _ _)

  pub as_long : room_of s n ≤ length old → length (marked_up_to s n claims old e) ≡ length old
  unfolding marked_up_to
  as_long = same_length front old (room_of s n) (marks_length _ _)
