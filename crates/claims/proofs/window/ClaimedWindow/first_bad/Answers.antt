-- `first_bad` meets its contract: what is left behind a piece without a bad claim, and at the end. Assumes nothing.
use mathlib.Core.Path.{sym, ap, ◌∙◌}
use native.Mathlib.Omega.{arith}
use borrow.Author.Rules.{rules}
use lib.ListN.{length, length-append, length-drop}
use Rattle.std.specs.Slice.Iter.{chunks_exact_rest}
use Rattle.claims.proofs.First.{counted_from, counted_on, left_behind, found_in_rest}
use Rattle.claims.proofs.window.ClaimedWindow.first_bad.Goals as goal

pub loop-piece-preserved : goal.loop-piece-preserved
loop-piece-preserved c =
    let steps = c.in-Some.ensures.steps in
    let left = c.loop-piece.invariant.left ∙ steps.1.0 in
    record {
      can_next = search rules;
      is_finite = tt;
      within = omega (arith, c.loop-piece.invariant.within, ap length left, length-append c.in-Some.piece.now (chunks_exact_rest c.next.new.self), length-drop c.loop-piece.good c.args.claims.now);
      left = left_behind _ _ _ _ left;
      found = c.loop-piece.invariant.found ∙ rw (steps.1.0, counted_on _ c.in-Some.piece.now, counted_from _ c.in-Some.piece.now, ← c.first_bad_in.ensures, c.in_default.is);
    }

pub returns-in_err-index : goal.returns-in_err-index
returns-in_err-index c =
    c.from_residual.ensures ∙ sym (found_in_rest _ _ _ _ c.loop-piece.invariant.left c.loop-piece.invariant.found ∙ rw (← c.first_bad_in-2.ensures, c.in_err-index.was))

pub returns : goal.returns
returns c = sym (found_in_rest _ _ _ _ c.loop-piece.invariant.left c.loop-piece.invariant.found ∙ rw (← c.first_bad_in-2.ensures, c.in_ok-index.was))
