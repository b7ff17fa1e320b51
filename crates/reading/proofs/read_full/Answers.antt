-- A read fills the buffer on from where the last one stopped, and what stands before stays.
use Rattle.std.proofs.Common.{◌≡◌, ℕ, ◌+◌, ◌-◌, ◌≤◌, List, ◌++◌, rules, arith, length, take, length-take-le, ◌∙◌, ap}
use Rattle.std.proofs.lemmas.List.{take-append-le}
use Rattle.std.proofs.KnownBytes.{Consumes-trans}
use Rattle.std.proofs.Math.Seq.{take-append-add}
use borrow.Rule.Slice.PartMut.{put_mid, post_of}
use Rattle.reading.proofs.read_full.Goals as goal

-- The bytes that were read before, then the first n of those that are read now.
filled : (a k n : ℕ) (xs ys : List ℕ) → a ≤ length xs → n ≤ length ys → take (a + n) (put_mid a k xs ys) ≡ take a xs ++ take n ys
filled a k n xs ys within fits =
    let rest = ys ++ post_of a k xs in
    let before : length (take a xs) ≡ a = length-take-le a xs within in
    rw before at (take-append-add (take a xs) rest n) ∙ ap (λ l. take a xs ++ l) (take-append-le n ys (post_of a k xs) fits)

pub loop-done-preserved : goal.loop-done-preserved
loop-done-preserved g c =
    let l = c.loop-done in
    let all = filled l.done (length l.buf - l.done) c.in_ok-n.n l.buf c.read.new.buf (omega arith) c.in_ok-n.ensures.bound.0 in
    (search rules, search rules, rw all (Consumes-trans _ _ _ _ _ l.invariant.2 c.in_ok-n.ensures.bytes.0))
