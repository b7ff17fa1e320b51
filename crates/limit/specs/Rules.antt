-- No reader could credit more: document 02, U7. Its sentences stand above the definitions that they give; proofs/Best.antt proves it.
-- It is about rules that know the window's size M, the positions at which something was sent and the reply's symbol, as 02 asks. A
-- rule that is told more, such as what was decoded, is no such rule, and so no counterexample.
-- Assumes nothing.
use Rattle.std.specs.Prelude.{ℕ, ◌/◌, ◌%◌, ◌^◌, Bool, true, false, ◌&&◌, List, ◌⊎◌, ◌≡◌, eqb, ltb, length, get_or, Option, Some, None}
use Rattle.symbols.specs.declared.State.{State}
use Rattle.symbols.specs.declared.State.TheVariants.{Ack, Dtx}
use Rattle.symbols.specs.Delivered.{delivery_of}
use Rattle.symbols.specs.Selection.{symbol_of, symbol}

-- A set of positions, by its test.
abbrev pub Positions : Type 0
Positions = ℕ → Bool

-- A "rule from window size, those positions, index and bits to a set of positions"; those are the ones "at which something was sent".
abbrev pub Rule : Type 0
Rule = (size : ℕ) → (sent : Positions) → (i b0 b1 : ℕ) → Positions

-- "Count only states that are D where nothing was sent": a state of M = size positions that is counted.
pub record Counted (size : ℕ) (sent : Positions) (ss : List State) : Type 0 where
  pub of_size : length ss ≡ size
  pub unsent : (p : ℕ) → sent p ≡ false → get_or ss p Dtx ≡ Dtx

-- "one of them sending that symbol"
pub record SentBy (size : ℕ) (sent : Positions) (i b0 b1 : ℕ) (ss : List State) : Type 0 where
  pub counted : Counted size sent ss
  pub symbol : symbol_of ss ≡ symbol i b0 b1

-- "the rule names no position that one of them sending that symbol doesn't have as A": each of them has it as A.
abbrev pub Sound : Rule → ℕ → Positions → ℕ → ℕ → ℕ → Type 0
Sound rule size sent i b0 b1 =
    (ss : List State) → SentBy size sent i b0 b1 ss → (p : ℕ) → rule size sent i b0 b1 p ≡ true → get_or ss p Dtx ≡ Ack

-- A set of positions that is a number: bit p is set for position p.
abbrev pub in_set : ℕ → Positions
in_set set p = eqb (set / 2 ^ p % 2) 1

abbrev pub named_by : Option ℕ → Positions
named_by (Some set) p = in_set set p
named_by None p = false

-- "ours": the positions of the window that `symbols::delivered` answers for the symbol, and with it the station's reading
-- (Station.antt). It does not look at what was sent.
unfoldable pub ours : Rule
ours size sent i b0 b1 p = ltb p size && named_by (delivery_of size i b0 b1) p

-- The other state differs from ss only in more that was lost, if at all.
abbrev pub LosesMore : List State → List State → Type 0
LosesMore ss other = (p : ℕ) → (get_or other p Dtx ≡ get_or ss p Dtx) ⊎ (get_or other p Dtx ≡ Dtx)

-- What makes a rule the best reader. Of every M: only windows of 2, 3 and 4 positions have symbols (`sent_size` in
-- symbols/proofs/Rows.antt), so this is one fact for these three.
pub record Best (best : Rule) : Type 0 where
  -- It is sound itself,
  pub sound : (size : ℕ) (sent : Positions) (i b0 b1 : ℕ) → Sound best size sent i b0 b1
  -- and, "take every other rule": "for each symbol that one of them sends", if the rule is sound, "it names only positions that ours
  -- names". Soundness is asked of this size, these positions and this symbol alone.
  pub most : (rule : Rule) (size : ℕ) (sent : Positions) (i b0 b1 : ℕ)
      → (ss : List State) → SentBy size sent i b0 b1 ss
      → Sound rule size sent i b0 b1
      → (p : ℕ) → rule size sent i b0 b1 p ≡ true → best size sent i b0 b1 p ≡ true
  -- Take a counted state and a position that is left out of its symbol. Some counted state, which differs from it only in more that was
  -- lost, sends the same symbol and does not have the position as A: what was sent there must be kept. So a rule that also knew
  -- whether a grant, a scheduled block or a release was sent could not name the position either, for each of these can be lost.
  pub left_out : (size : ℕ) (sent : Positions) (i b0 b1 : ℕ) (ss : List State) → SentBy size sent i b0 b1 ss
      → (p : ℕ) → best size sent i b0 b1 p ≡ false
      → (other : List State) × SentBy size sent i b0 b1 other × LosesMore ss other × (get_or other p Dtx ≡ Ack → ⊥)
