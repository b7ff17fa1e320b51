-- The windows that a replay writes are those that its records complete: specs/Counts.antt, proved. Assumes nothing.
use Prim.Native.Nat.{ℕ, zero, suc, ◌+◌, ◌*◌, ◌%◌, ◌≤◌}
use mathlib.Core.List.{List, [], ◌∷◌}
use mathlib.Core.Path.{◌≡◌, refl, sym, ap, subst, ◌∙◌}
use native.Mathlib.Nat.{add-zero, zero-add}
use native.Mathlib.Omega.{arith}
use lib.ListN.{length, length-append}
use Rattle.frame.specs.Refusals.{number_in}
use Rattle.frame.specs.declared.Settings.{Settings}
use Rattle.counting.specs.Windows.{windows_before}
use Rattle.counting.proofs.Frames.{windows_rise}
use Rattle.heard.specs.declared.Heard.{Heard}
use Rattle.handset.specs.declared.Handset.{Handset}
use Rattle.handset.specs.Feed.{feed_of}
use Rattle.handset.specs.Make.{fresh, make_of}
use Rattle.trace.specs.Trace.{header_of, settings_of}
use Rattle.replaying.specs.Counts.{WindowsCounted}
use Rattle.replaying.specs.Replay.{brought_in, Played, after, stop_or, played, played_in, output_needed}
use Rattle.replaying.specs.Written.{bytes_of}
use Rattle.replaying.proofs.Brought.{brought_length}
use Rattle.replaying.proofs.Feeds.{taken_up, grows}

-- From subframe i on, where `count` more come.
record CountedFrom (c i count : ℕ) (p : Played) : Type 0 where
  all : p.refusal ≡ 0 → 8 * windows_before c i + length p.bytes ≡ 8 * windows_before c (i + count)
  stopped : (p.refusal ≡ 0 → ⊥) → 8 * windows_before c i + length p.bytes ≡ 8 * windows_before c p.number
  most : 8 * windows_before c i + length p.bytes ≤ 8 * windows_before c (i + count)

counted_from : (xs : List Heard) (h : Handset) (i : ℕ) → h.next ≡ i % 10
    → CountedFrom h.settings.config i (length xs) (played h i xs)
unfolding played
counted_from [] h i e = record { all = λ z. rw (add-zero i) (omega arith); stopped = λ some. absurd (some refl); most = rw (add-zero i) (omega arith) }
counted_from (x ∷ xs) h i e = go (number_in (feed_of h x).answer) refl (counted_from xs (feed_of h x).handset (suc i))
  where
    go : (k : ℕ) → number_in (feed_of h x).answer ≡ k
        → ((feed_of h x).handset.next ≡ suc i % 10
        → CountedFrom (feed_of h x).handset.settings.config (suc i) (length xs) (played (feed_of h x).handset (suc i) xs))
        → CountedFrom h.settings.config i (suc (length xs)) (stop_or k i (after (bytes_of h.next (feed_of h x).answer) (played (feed_of h x).handset (suc i) xs)))
    go zero none next =
        let t = taken_up h x none in
        let q = next (t.next ∙ rw e (omega arith)) in
        let new : List ℕ = bytes_of h.next (feed_of h x).answer in
        let old : List ℕ = (played (feed_of h x).handset (suc i) xs).bytes in
        let more : i + suc (length xs) ≡ suc i + length xs = omega arith in
        record {
          all = λ z. rw (more, length-append new old) (omega (arith, grows h x t i e, rw t.settings at (q.all z)));
          stopped = λ some. rw (length-append new old) (omega (arith, grows h x t i e, rw t.settings at (q.stopped some)));
          most = rw (more, length-append new old) (omega (arith, grows h x t i e, rw t.settings at q.most));
        }
    go (suc k) some next =
        record { all = λ z. absurd (omega arith); stopped = λ some. omega arith; most = omega (arith, windows_rise h.settings.config i (suc (length xs))) }

from_start : (s : Settings) (h : Handset) → h ≡ fresh s → (xs : List Heard) → CountedFrom s.config 0 (length xs) (played h 0 xs)
unfolding fresh
from_start s h e xs = subst (λ (g : Handset). CountedFrom s.config 0 (length xs) (played g 0 xs)) (sym e) (counted_from xs (fresh s) 0 refl)

pub windows_counted : (l : List ℕ) → (make_of (settings_of l)).refusal ≡ 0 → WindowsCounted l
unfolding played_in output_needed brought_in make_of windows_before
windows_counted l good =
    let counted = from_start (settings_of l) (make_of (settings_of l)).handset (rw good) (brought_in l) in
    let size = brought_length l 0 (header_of l).records in
    let windows = ap (windows_before (settings_of l).config) (zero-add (length (brought_in l)) ∙ size) in
    record {
      all = λ z. omega (arith, counted.all z, windows);
      stopped = λ some. omega (arith, counted.stopped some);
      most = omega (arith, counted.most, windows);
    }
