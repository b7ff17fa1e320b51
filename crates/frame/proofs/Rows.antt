-- Tables with a row for each configuration: what is looked up is what the definition says, where the rows are the definition's; also
-- outside the table, where the definition has what a lookup gives there.
-- Assumes nothing.
use Prim.Native.Nat.{ℕ, zero, suc, ◌≤◌, ◌<◌, zero-le, suc-le-suc}
use mathlib.Core.Bool.{false}
use mathlib.Core.List.{List, []}
use mathlib.Core.Path.{◌≡◌, refl, sym, ap, fun_ext, ◌∙◌}
use lib.ListN.{get_or}
use Rattle.frame.specs.declared.Answered.{Answered}
use Rattle.frame.specs.Coded.{digits, listed, grid, letter_byte, letter_in, list_in, row_in, coded_position, coded_answer, answer_in}
use Rattle.frame.specs.Layout.{letter_of, downlink}
use Rattle.frame.proofs.Layouts.{no_letter, outside_letters, outside_frame}

-- Of a list of values, of a row of a list of rows, and of a grid.
listed_at : {A : Type 0} (k : ℕ) (f : ℕ → A) (d : A) → ((i : ℕ) → k ≤ i → f i ≡ d) → (i : ℕ) → get_or (listed k f) i d ≡ f i
listed_at zero f d none i = sym (none i zero-le)
listed_at (suc k) f d none zero = refl
listed_at (suc k) f d none (suc i) = listed_at k (λ (i : ℕ). f (suc i)) d (λ i h. none (suc i) (suc-le-suc h)) i

in_row : {A : Type 0} (k : ℕ) (g : ℕ → List A) (n : ℕ) (d : A) → ((i : ℕ) → k ≤ i → get_or (g i) n d ≡ d) → (i : ℕ)
    → get_or (get_or (listed k g) i []) n d ≡ get_or (g i) n d
in_row zero g n d none i = sym (none i zero-le)
in_row (suc k) g n d none zero = refl
in_row (suc k) g n d none (suc i) = in_row k (λ (i : ℕ). g (suc i)) n d (λ i h. none (suc i) (suc-le-suc h)) i

pub grid_at : {A : Type 0} (f : ℕ → ℕ → A) (d : A) → ((c n : ℕ) → 6 < c → f c n ≡ d) → ((c n : ℕ) → 9 < n → f c n ≡ d) → (c n : ℕ)
    → get_or (get_or (grid f) c []) n d ≡ f c n
grid_at f d over outside c n =
    let at = λ (c : ℕ). listed_at 10 (f c) d (outside c) n in
    in_row 7 (λ (c : ℕ). listed 10 (f c)) n d (λ i h. at i ∙ over i n h) c ∙ at c

-- No subframe but a downlink one has an answer.
uplink_answer : (c d : ℕ) → downlink c d ≡ false → coded_answer c d ≡ record { n = 0; k = 0; position = 0 }
unfolding coded_answer coded_position
uplink_answer c d e = rw e

-- What the code's lookups read.
pub digits_at : (f : ℕ → ℕ → ℕ) (rows : List ℕ) (c r : ℕ) → r ≡ row_in rows c → rows ≡ listed 7 (λ c. digits 10 (f c))
    → ((c n : ℕ) → 6 < c → f c n ≡ 0) → r ≡ digits 10 (f c)
unfolding row_in
digits_at f rows c r read same over =
    rw (read, same) (listed_at 7 (λ (c : ℕ). digits 10 (f c)) 0 (λ c h. ap (digits 10) (fun_ext (λ n. over c n h))) c)

pub letter_at : (rows : List (List ℕ)) (c n l : ℕ) → l ≡ letter_in rows c n → rows ≡ grid (λ c n. letter_byte (letter_of c n)) → l ≡ letter_byte (letter_of c n)
unfolding letter_in
letter_at rows c n l read same =
    rw (read, same) (grid_at (λ c n. letter_byte (letter_of c n)) 85 (λ c n h. rw (no_letter c n h)) (λ c n h. rw (outside_letters c n h)) c n)

over_frame : (c d : ℕ) → 6 < c → downlink c d ≡ false
unfolding downlink
over_frame c d h = rw (no_letter c d h)

pub answer_at : (rows : List (List Answered)) (c d : ℕ) (a : Answered) → a ≡ answer_in rows c d → rows ≡ grid coded_answer → a ≡ coded_answer c d
unfolding answer_in
answer_at rows c d a read same =
    rw (read, same)
    (grid_at coded_answer (record { n = 0; k = 0; position = 0 }) (λ c d h. uplink_answer c d (over_frame c d h))
    (λ c d h. uplink_answer c d (sym (outside_frame c d h))) c d)

pub list_at : (f : ℕ → ℕ → List ℕ) (rows : List (List (List ℕ))) (c n : ℕ) (l : List ℕ) → l ≡ list_in rows c n → rows ≡ grid f
    → ((c n : ℕ) → 6 < c → f c n ≡ []) → ((c n : ℕ) → 9 < n → f c n ≡ []) → l ≡ f c n
unfolding list_in
list_at f rows c n l read same over outside = rw (read, same) (grid_at f [] over outside c n)
