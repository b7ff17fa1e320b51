-- Special subframes too short for data: document 02, U2; TS 36.213, section 7.1.7.
-- Assumes nothing.
use Rattle.std.specs.Prelude.{ℕ, Bool, cond, ◌&&◌, ◌||◌, ltb, eqb}
use Rattle.frame.specs.declared.Settings.{Settings}
use Rattle.frame.specs.Layout.{is_special}

-- The prefix is "0 normal, 1 extended", the special configuration "0 to 8 normal, 0 to 6 extended": the last one with a prefix.
abbrev pub last_special : ℕ → ℕ
last_special prefix = cond (eqb prefix 0) 8 6

-- 19: "a special configuration or prefix out of its range".
unfoldable pub special_refusal : Settings → ℕ
special_refusal s = cond (ltb 1 s.prefix || ltb (last_special s.prefix) s.special) 19 0

-- TS 36.213, 7.1.7: "For the special subframe configurations 0 and 5 with normal downlink CP or configurations 0 and 4 with extended
-- downlink CP, shown in table 4.2-1 [3], there shall be no PDSCH transmission in DwPTS of the special subframe."
unfoldable pub no_pdsch : ℕ → ℕ → Bool
no_pdsch prefix special =
    (eqb prefix 0 && (eqb special 0 || eqb special 5)) || (eqb prefix 1 && (eqb special 0 || eqb special 4))

-- U2's subframe that is "too short for data": a special one, in a cell whose special configuration allows no PDSCH there. It stays in
-- its window, and a release is still heard there.
unfoldable pub too_short : Settings → ℕ → Bool
too_short s n = no_pdsch s.prefix s.special && is_special s.config n
