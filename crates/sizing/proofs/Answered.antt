-- A replay writes eight bytes for each window that its feeds answer. Assumes nothing.
use Prim.Native.Nat.{ℕ, zero, suc, ◌*◌}
use mathlib.Core.List.{List, [], ◌∷◌, ◌++◌}
use mathlib.Core.Path.{◌≡◌, refl}
use native.Mathlib.Omega.{arith}
use lib.ListN.{length, length-append}
use Rattle.std.proofs.Common.{Ok}
use Rattle.heard.specs.declared.Heard.{Heard}
use Rattle.reply.specs.declared.Answer.{Answer}
use Rattle.reply.specs.declared.Answer.TheVariants.{Taken, NoWindow, Silent, Sent}
use Rattle.handset.specs.declared.Handset.{Handset}
use Rattle.handset.specs.Feed.{next_answer, pushed, feed_refusal, fed_as, feed_of}
use Rattle.frame.specs.Refusals.{number_in}
use Rattle.replaying.specs.Replay.{after, stop_or, played}
use Rattle.replaying.specs.Written.{window_bytes, answer_bytes, bytes_of}
use Rattle.sizing.specs.Sizing.{with_answer, windows_answered}

-- An answer before those of the windows that come after it.
one_more : (n : ℕ) (a : Answer) (bytes : List ℕ) (more : ℕ) → length bytes ≡ 8 * more → length (answer_bytes n a ++ bytes) ≡ 8 * with_answer (Ok a) more
unfolding window_bytes
one_more n Taken bytes more e = e
one_more n NoWindow bytes more e = e
one_more n Silent bytes more e = rw (length-append (window_bytes n 0 0 0 0) bytes) (omega (arith, e))
one_more n (Sent r) bytes more e = omega (arith, e)

pub answered_bytes : (h : Handset) (i : ℕ) (xs : List Heard) → length (played h i xs).bytes ≡ 8 * windows_answered h xs
unfolding played windows_answered feed_of
answered_bytes h i [] = refl
answered_bytes h i (x ∷ xs) = go (feed_refusal h x) (answered_bytes (fed_as (feed_refusal h x) h x).handset (suc i) xs)
  where
    go : (k : ℕ) → length (played (fed_as k h x).handset (suc i) xs).bytes ≡ 8 * windows_answered (fed_as k h x).handset xs
        → length (stop_or (number_in (fed_as k h x).answer) i (after (bytes_of h.next (fed_as k h x).answer) (played (fed_as k h x).handset (suc i) xs))).bytes
        ≡ 8 * with_answer (fed_as k h x).answer (windows_answered (fed_as k h x).handset xs)
    go zero rest = one_more h.next (next_answer h) (played (pushed h x) (suc i) xs).bytes (windows_answered (pushed h x) xs) rest
    go (suc k) rest = refl
