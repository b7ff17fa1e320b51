-- The frame layouts: document 01, "Frame and windows" (TS 36.211 Table 4.2-2).
-- Assumes nothing.
use Rattle.std.specs.Prelude.{ℕ, Bool, true, false, List, [], ◌∷◌, get_or}

-- A subframe is downlink (D), special (S) or uplink (U).
pub data Letter : Type 0 where
  D S U : Letter

-- configurations 0 to 6, subframes 0 to 9
unfoldable pub layouts : List (List Letter)
layouts =
    (D ∷ S ∷ U ∷ U ∷ U ∷ D ∷ S ∷ U ∷ U ∷ U ∷ [])
    ∷ (D ∷ S ∷ U ∷ U ∷ D ∷ D ∷ S ∷ U ∷ U ∷ D ∷ [])
    ∷ (D ∷ S ∷ U ∷ D ∷ D ∷ D ∷ S ∷ U ∷ D ∷ D ∷ [])
    ∷ (D ∷ S ∷ U ∷ U ∷ U ∷ D ∷ D ∷ D ∷ D ∷ D ∷ [])
    ∷ (D ∷ S ∷ U ∷ U ∷ D ∷ D ∷ D ∷ D ∷ D ∷ D ∷ [])
    ∷ (D ∷ S ∷ U ∷ D ∷ D ∷ D ∷ D ∷ D ∷ D ∷ D ∷ [])
    ∷ (D ∷ S ∷ U ∷ U ∷ U ∷ D ∷ S ∷ U ∷ U ∷ D ∷ [])
    ∷ []

-- The letter of subframe n in configuration c; U outside the table.
unfoldable pub letter_of : ℕ → ℕ → Letter
letter_of c n = get_or (get_or layouts c []) n U

-- 01's "downlink": D or S, since a special subframe carries PDCCHs as a D does.
abbrev pub carries : Letter → Bool
carries D = true
carries S = true
carries U = false

unfoldable pub downlink : ℕ → ℕ → Bool
downlink c n = carries (letter_of c n)

-- A special subframe is one with the letter S.
abbrev pub is_s : Letter → Bool
is_s D = false
is_s S = true
is_s U = false

unfoldable pub is_special : ℕ → ℕ → Bool
is_special c n = is_s (letter_of c n)
