-- Table 10.1-1 of TS 36.213 as document 01 prints it ("Frame and windows"): for each configuration and uplink subframe n the
-- set K = {k_0, k_1, .., k_(M-1)} in the print's order, which is not sorted.
-- Assumes nothing.
use Rattle.std.specs.Prelude.{ℕ, cond, ◌&&◌, List, [], ◌∷◌, eqb}

pub record Printed : Type 0 where
  pub config : ℕ
  pub n : ℕ
  pub k : List ℕ

abbrev pub row : ℕ → ℕ → List ℕ → Printed
row c n k = record { config = c; n = n; k = k }

-- configuration, n, K
unfoldable pub table : List Printed
table =
    row 0 2 (6 ∷ [])
    ∷ row 0 4 (4 ∷ [])
    ∷ row 0 7 (6 ∷ [])
    ∷ row 0 9 (4 ∷ [])
    ∷ row 1 2 (7 ∷ 6 ∷ [])
    ∷ row 1 3 (4 ∷ [])
    ∷ row 1 7 (7 ∷ 6 ∷ [])
    ∷ row 1 8 (4 ∷ [])
    ∷ row 2 2 (8 ∷ 7 ∷ 4 ∷ 6 ∷ [])
    ∷ row 2 7 (8 ∷ 7 ∷ 4 ∷ 6 ∷ [])
    ∷ row 3 2 (7 ∷ 6 ∷ 11 ∷ [])
    ∷ row 3 3 (6 ∷ 5 ∷ [])
    ∷ row 3 4 (5 ∷ 4 ∷ [])
    ∷ row 4 2 (12 ∷ 8 ∷ 7 ∷ 11 ∷ [])
    ∷ row 4 3 (6 ∷ 5 ∷ 4 ∷ 7 ∷ [])
    ∷ row 5 2 (13 ∷ 12 ∷ 9 ∷ 8 ∷ 7 ∷ 5 ∷ 4 ∷ 11 ∷ 6 ∷ [])
    ∷ row 6 2 (7 ∷ [])
    ∷ row 6 3 (7 ∷ [])
    ∷ row 6 4 (5 ∷ [])
    ∷ row 6 7 (7 ∷ [])
    ∷ row 6 8 (7 ∷ [])
    ∷ []

-- K of the row for configuration c and subframe n; the empty list where the rows have none.
abbrev pub find_in : List Printed → ℕ → ℕ → List ℕ
find_in [] c n = []
find_in (r ∷ rs) c n = cond (eqb r.config c && eqb r.n n) r.k (find_in rs c n)

-- The window of uplink subframe n in configuration c, as its K; M is its length. Empty: no window.
-- Position m of the window is the subframe n - k_m: the place in K as printed.
unfoldable pub window_of : ℕ → ℕ → List ℕ
window_of c n = find_in table c n
