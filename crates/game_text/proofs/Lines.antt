-- Each line of the text has room on a line.
-- Assumes nothing.
use Rattle.std.proofs.Common.{ℕ, zero, suc, ◌+◌, ◌*◌, ◌-◌, codes, ◌<◌, ◌≤◌, ◌≡◌, Bool, true, false, cond, List, [], ◌∷◌, length, length-append, refl, arith, add-one, append_assoc}
use lib.Dec.{leb, lit≤}
use borrow.Author.Tests.{ne_eqb, le-leb, lt-leb}
use Rattle.line.proofs.Adding.{added_append, added_alone, added_ended, five_digits}
use Rattle.line.specs.Line.{added}
use Rattle.playing.specs.Game.{game_of}
use Rattle.game_text.specs.Text.{refusal_line, letter, cells, row, title, unended_line, game_line}

-- The letters of a row one after the other.
pub cell_more : (line : List ℕ) (size grants losses : ℕ)
    → added (added (added line (cells size grants losses)) (32 ∷ [])) (letter (game_of size grants losses) ∷ [])
    ≡ added line (cells size grants (losses + 1))
unfolding cells
cell_more line size grants losses = rw (add-one losses) (simp (added_append, append_assoc))

-- A line after the heading is a row,
pub row_line : (size i : ℕ) → 3 ≤ i → i - 3 ≤ size → unended_line size i ≡ row size (i - 3)
unfolding unended_line
row_line size zero h room = absurd (omega arith)
row_line size (suc zero) h room = absurd (omega arith)
row_line size (suc (suc zero)) h room = absurd (omega arith)
row_line size (suc (suc (suc grants))) h room =
    let e : suc (suc (suc grants)) - 3 ≡ grants = omega arith in
    rw (e, le-leb grants size (rw e at room))

-- and the one after the rows is that for configuration 5.
pub last_line : (size i : ℕ) → 3 ≤ i → size < i - 3
    → codes "Configuration 5 (size 9): a reply hides 0, 4 or 8 losses; 0 with at most 4 grants or 3 losses" ≡ unended_line size i
unfolding unended_line
last_line size zero h past = absurd (omega arith)
last_line size (suc zero) h past = absurd (omega arith)
last_line size (suc (suc zero)) h past = absurd (omega arith)
last_line size (suc (suc (suc grants))) h past =
    let e : suc (suc (suc grants)) - 3 ≡ grants = omega arith in
    rw (lt-leb grants size (rw e at past))

-- Each line has room.
cells_length : (size grants losses : ℕ) → length (cells size grants losses) ≡ 2 * losses
unfolding cells
cells_length size grants zero = refl
cells_length size grants (suc losses) = simp length-append (omega (arith, cells_length size grants losses))

unended_room : (size i : ℕ) → size < 65536 → i < 65536 → length (unended_line size i) ≤ 99
unfolding unended_line title row
unended_room size zero s h = simp length-append (omega (arith, five_digits size (omega (arith, s))))
unended_room size (suc zero) s h = lit≤ tt
unended_room size (suc (suc zero)) s h = lit≤ tt
unended_room size (suc (suc (suc grants))) s h = go (leb grants size)
  where
    go : (b : Bool)
        → length (cond b (row size grants) (codes "Configuration 5 (size 9): a reply hides 0, 4 or 8 losses; 0 with at most 4 grants or 3 losses")) ≤ 99
    go true = simp length-append (omega (arith, five_digits grants (omega (arith, h)), cells_length size grants 10))
    go false = lit≤ tt

-- Line i, put on an empty line, its newline after it.
pub line_ended : (size i : ℕ) → size < 65536 → i < 65536 → i ≤ size + 4 → added (added [] (unended_line size i)) (10 ∷ []) ≡ game_line size i
unfolding game_line
line_ended size i s h inside =
    rw (le-leb i (size + 4) inside) (added_ended (unended_line size i) (unended_room size i s h))

-- There is no line after them.
pub past_last : (size i : ℕ) → size + 4 < i → game_line size i ≡ []
unfolding game_line
past_last size i h = rw (lt-leb i (size + 4) h)

-- The refusal, put on an empty line.
pub refused_line : (i : ℕ) → i ≡ 0 → added [] (codes "refused 27\n") ≡ refusal_line i
unfolding refusal_line
refused_line i e = rw e (added_alone (codes "refused 27\n") (lit≤ tt))

pub past_refusal : (i : ℕ) → (i ≡ 0 → ⊥) → refusal_line i ≡ []
unfolding refusal_line
past_refusal i h = rw (ne_eqb i 0 h)
