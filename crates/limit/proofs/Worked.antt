-- The statement on numbers: that its hypotheses can be met, that both are needed, and readers that it shuts out.
-- Assumes nothing.
use Prim.Native.Nat.{ℕ, zero, suc}
use mathlib.Core.Bool.{true, false, ◌&&◌, ◌||◌, false≢true}
use mathlib.Core.List.{List, [], ◌∷◌}
use mathlib.Core.Logic.{inl, inr, ⊎_elim}
use mathlib.Core.Path.{◌≡◌, refl, sym, ap}
use lib.Dec.{eqb, ltb}
use lib.ListN.{get_or}
use Rattle.std.proofs.lemmas.Bool.{false_from_ne_true}
use Rattle.symbols.specs.declared.State.{State}
use Rattle.symbols.specs.declared.State.TheVariants.{Ack, Nack, Dtx}
use Rattle.symbols.specs.Delivered.{is_ack, in_some_row, delivered_at, delivered_set, delivery_of}
use Rattle.symbols.specs.Selection.{table2, table3, table4, table_of, symbol_of}
use Rattle.symbols.proofs.Rows.{index_heard}
use Rattle.limit.specs.Rules.{Positions, Rule, SentBy, Sound, ours, LosesMore, Best}
use Rattle.limit.proofs.Best.{all_counted, ours_best}

-- A position that `ours` leaves out no sound rule names.
unnamed : (rule : Rule) (size : ℕ) (sent : Positions) (i b0 b1 : ℕ) (ss : List State) → SentBy size sent i b0 b1 ss
    → (p : ℕ) → ours size sent i b0 b1 p ≡ false → Sound rule size sent i b0 b1 → rule size sent i b0 b1 p ≡ false
unnamed rule size sent i b0 b1 ss by p left sound =
    let other = ours_best.left_out size sent i b0 b1 ss by p left in
    false_from_ne_true _ (λ e. other.3 (sound other.0 other.1 p e))

-- Something was sent at every position, and at positions 0, 1 and 2.
abbrev all_sent : Positions
all_sent p = true

abbrev three_sent : Positions
three_sent p = ltb p 3

-- M = 2: A,N sends (0, 01), and no sound rule names position 1. M = 3: A,N,A sends (0, 11), and none names position 1.
one_of_two : (rule : Rule) → Sound rule 2 all_sent 0 0 1 → rule 2 all_sent 0 0 1 1 ≡ false
unfolding ours delivery_of in_some_row delivered_set delivered_at symbol_of table_of table2
one_of_two rule = unnamed rule 2 all_sent 0 0 1 (Ack ∷ Nack ∷ []) (all_counted (Ack ∷ Nack ∷ []) refl refl) 1 refl

two_of_three_holds : (rule : Rule) → Sound rule 3 all_sent 0 1 1 → rule 3 all_sent 0 1 1 1 ≡ false
unfolding ours delivery_of in_some_row delivered_set delivered_at symbol_of table_of table3
two_of_three_holds rule = unnamed rule 3 all_sent 0 1 1 (Ack ∷ Nack ∷ Ack ∷ []) (all_counted (Ack ∷ Nack ∷ Ack ∷ []) refl refl) 1 refl

-- M = 4: A,A,A,D is counted where three were sent, and sends (1, 10), as A,A,N,D and A,A,D,D do.
three_acked : SentBy 4 three_sent 1 1 0 (Ack ∷ Ack ∷ Ack ∷ Dtx ∷ [])
unfolding symbol_of table_of table4
three_acked = record { counted = record { of_size = refl; unsent = at }; symbol = refl }
  where
    at : (p : ℕ) → three_sent p ≡ false → get_or (Ack ∷ Ack ∷ Ack ∷ Dtx ∷ []) p Dtx ≡ Dtx
    at zero e = absurd (false≢true (sym e))
    at (suc zero) e = absurd (false≢true (sym e))
    at (suc (suc zero)) e = absurd (false≢true (sym e))
    at (suc (suc (suc zero))) e = refl
    at (suc (suc (suc (suc p)))) e = refl

-- So no sound rule names position 2 there, though it was decoded: a reader can't know that, told where something was sent or not told.
two_of_four : (rule : Rule) → Sound rule 4 three_sent 1 1 0 → rule 4 three_sent 1 1 0 2 ≡ false
unfolding ours delivery_of in_some_row delivered_set delivered_at symbol_of table_of table4
two_of_four rule = unnamed rule 4 three_sent 1 1 0 (Ack ∷ Ack ∷ Ack ∷ Dtx ∷ []) three_acked 2 refl

-- What more lost means: A,A,D,D is A,A,A,D with more lost, and A,A is not A,N with more lost.
more_lost : LosesMore (Ack ∷ Ack ∷ Ack ∷ Dtx ∷ []) (Ack ∷ Ack ∷ Dtx ∷ Dtx ∷ [])
more_lost zero = inl refl
more_lost (suc zero) = inl refl
more_lost (suc (suc zero)) = inr refl
more_lost (suc (suc (suc p))) = inl refl

not_more_lost : LosesMore (Ack ∷ Nack ∷ []) (Ack ∷ Ack ∷ []) → ⊥
not_more_lost more = ⊎_elim (λ e. false≢true (ap is_ack (sym e))) (λ e. false≢true (ap is_ack (sym e))) (more 1)

-- Where nothing was sent no counted state sends anything, and every rule is sound. So the conclusion is for symbols that one sends:
-- the rule that names every position names more than `ours` for (0, 01) of M = 2.
nothing_sent_holds : (rule : Rule) (size i b0 b1 : ℕ) → Sound rule size (λ p. false) i b0 b1
nothing_sent_holds rule size i b0 b1 ss by p e = absurd ((index_heard ss i b0 b1 by.symbol).1 (by.counted.unsent i refl))

names_less : ours 2 (λ p. false) 0 0 1 1 ≡ false
unfolding ours delivery_of in_some_row delivered_set delivered_at symbol_of table_of table2
names_less = refl

-- Readers that the statement shuts out. One that names nothing is sound, and not the best: of A,A,A,D `ours` names position 0.
abbrev nothing : Rule
nothing size sent i b0 b1 p = false

not_nothing : Best nothing → ⊥
unfolding ours delivery_of in_some_row delivered_set delivered_at symbol_of table_of table4
not_nothing best =
    false≢true (best.most ours 4 three_sent 1 1 0 (Ack ∷ Ack ∷ Ack ∷ Dtx ∷ []) three_acked (ours_best.sound 4 three_sent 1 1 0) 0 refl)

-- One that takes (1, 10) of M = 4 for the row A,A,A,- alone, which is right of A,A,A,D, is not sound: of A,A,D,D it names position 2.
abbrev one_row : Rule
one_row size sent i b0 b1 p = ours size sent i b0 b1 p || (eqb size 4 && eqb i 1 && eqb b0 1 && eqb b1 0 && eqb p 2)

not_one_row : Best one_row → ⊥
unfolding ours delivery_of in_some_row delivered_set delivered_at symbol_of table_of table4
not_one_row best = false≢true (ap is_ack (best.sound 4 all_sent 1 1 0 (Ack ∷ Ack ∷ Dtx ∷ Dtx ∷ []) (all_counted (Ack ∷ Ack ∷ Dtx ∷ Dtx ∷ []) refl refl) 2 refl))

-- Nor is soundness too much to ask: that rule names a position more than `ours` for a symbol that is sent.
one_row_more : (one_row 4 all_sent 1 1 0 2 ≡ true) × (ours 4 all_sent 1 1 0 2 ≡ false)
unfolding ours delivery_of in_some_row delivered_set delivered_at symbol_of table_of table4
one_row_more = (refl, refl)
