-- What a station sent in a subframe, by tests that every kind of it answers: document 01, "The runs of demand 3"; document 02, U1.
-- Assumes nothing.
use Rattle.std.specs.Prelude.{Option, Some, None, ℕ, suc, Bool, true, false, cond, ◌||◌, List, [], ◌∷◌, eqb}
use Rattle.confirmation.specs.declared.Send.{Send}
use Rattle.confirmation.specs.declared.Send.TheVariants.{Nothing, Granted, Scheduled, Released}
use Rattle.heard.specs.declared.Heard.{Heard}
use Rattle.heard.specs.declared.Heard.TheVariants as heard

-- A PDCCH was sent: a grant or a release.
abbrev pub is_pdcch : Send → Bool
is_pdcch Nothing = false
is_pdcch (Granted g) = true
is_pdcch (Scheduled b) = false
is_pdcch (Released p) = true

-- A scheduled block was sent.
abbrev pub is_block : Send → Bool
is_block Nothing = false
is_block (Granted g) = false
is_block (Scheduled b) = true
is_block (Released p) = false

-- Something was sent.
abbrev pub is_sent : Send → Bool
is_sent x = is_pdcch x || is_block x

-- The blocks it carries; a release carries none.
abbrev pub blocks_of : Send → ℕ
blocks_of Nothing = 0
blocks_of (Granted g) = g.blocks
blocks_of (Scheduled b) = b.blocks
blocks_of (Released p) = 0

-- The DAI of a PDCCH.
abbrev pub dai_of : Send → ℕ
dai_of Nothing = 0
dai_of (Granted g) = g.dai
dai_of (Scheduled b) = 0
dai_of (Released p) = p.dai

-- It is a PDCCH with first CCE c.
abbrev pub has_cce : Send → ℕ → Bool
has_cce Nothing c = false
has_cce (Granted g) c = eqb g.cce.0 c
has_cce (Scheduled b) c = false
has_cce (Released p) c = eqb p.cce.0 c

-- What was sent as 9 to 12, 18 and 20 look at it; they don't look at its decoding.
abbrev pub as_heard : Send → Heard
as_heard Nothing = heard.Nothing
as_heard (Granted g) = heard.Granted (record { blocks = g.blocks; first = false; second = false; cce = g.cce; dai = g.dai })
as_heard (Scheduled b) = heard.Scheduled (record { blocks = b.blocks; first = false; second = false })
as_heard (Released p) = heard.Released (record { cce = p.cce; dai = p.dai })

-- The position of the first scheduled block sent in the subframes of `ks`, counted from m; not told where there is none.
abbrev pub told_from : ℕ → List ℕ → (ℕ → Send) → Option ℕ
told_from m [] sent = None
told_from m (k ∷ ks) sent = cond (is_block (sent k)) (Some m) (told_from (suc m) ks sent)

-- "The station's reading is told the scheduled position, if any": that of the block sent in the window with K = ks.
abbrev pub told_of : List ℕ → (ℕ → Send) → Option ℕ
told_of ks sent = told_from 0 ks sent
