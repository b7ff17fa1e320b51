-- The bytes that there is room for stand after the line's own, zeros after them.
use Rattle.std.proofs.Common.{rules, ◌≡◌, length, arith, sym, ap, ◌∙◌, length-take-le}
use Rattle.std.proofs.lemmas.Slice.{overwrites}
use Rattle.line.proofs.Adding.{taken_written, padded_written, added_part}
use Rattle.line.proofs.Line.extend_from_slice.Goals as goal

pub invariant_of-self : goal.invariant_of-self
invariant_of-self c =
    let s = c.self.inside in
    (omega arith, search (rules, overwrites), padded_written s.bytes _ s.size _ (omega arith) (omega arith) c.self.told (search rules) c.self.invariant.2)

pub returns : goal.returns
returns c =
    let s = c.self.inside in
    let before : length c.args.self.now ≡ s.size = ap length (sym c.self.view_is) ∙ length-take-le s.size s.bytes (omega arith) in
    taken_written s.bytes _ s.size _ (omega arith) (omega arith) c.self.told (search rules)
    ∙ (rw (c.self.view_is, c.copy_from_slice.ensures.after, c.min-count.ensures, ← before) (search (rules, overwrites, added_part)))
