-- Numbers put on a page one by one are a line of the text, and lines put on it one by one are the text.
-- Assumes nothing.
use Rattle.std.proofs.Common.{ℕ, ◌+◌, ◌≡◌, List, [], ◌∷◌, ◌++◌, length, append_assoc, add-one, decimal}
use borrow.Author.Tests.{eq-eqb, ne_eqb}
use Rattle.frame.specs.Table.{window_of}
use Rattle.line.proofs.Adding.{added_append, added_none, listed_append}
use Rattle.line.specs.Line.{added, listed}
use Rattle.listing.specs.Page.{line, line_of, lines_below}

joined : (page a b c d : List ℕ) → added (added (added (added page a) b) c) d ≡ added page (a ++ (b ++ c) ++ d)
joined page a b c d = simp (added_append, append_assoc)

-- A line, number by number.
pub added_line : (page : List ℕ) (c n : ℕ) → (length (window_of c n) ≡ 0 → ⊥) → let ks = window_of c n in
    added (added (added (added page (decimal c)) (listed (32 ∷ []) (n ∷ length ks ∷ []))) (listed (32 ∷ []) ks)) (10 ∷ [])
    ≡ added page (line_of c n)
unfolding line line_of
added_line page c n some =
    let ks = window_of c n in
    rw (ne_eqb _ _ some, listed_append (32 ∷ []) (n ∷ length ks ∷ []) ks)
    (joined page (decimal c) (listed (32 ∷ []) (n ∷ length ks ∷ [])) (listed (32 ∷ []) ks) (10 ∷ []))

-- No line.
pub no_line : (page : List ℕ) (c n : ℕ) → length (window_of c n) ≡ 0 → page ≡ added page (line_of c n)
unfolding line_of
no_line page c n none = rw (eq-eqb _ _ none, added_none)

-- The lines of the subframes below n, then that of n.
pub lines_more : (page : List ℕ) (c n : ℕ) → added (added page (lines_below n c)) (line_of c n) ≡ added page (lines_below (n + 1) c)
unfolding lines_below
lines_more page c n = rw add-one (added_append page (lines_below n c) (line_of c n))

-- The lines of no subframe.
pub lines_none : (page : List ℕ) (c : ℕ) → page ≡ added page (lines_below 0 c)
unfolding lines_below
lines_none page c = rw added_none
