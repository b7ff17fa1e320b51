-- No reader could credit more: document 02, U7. The witness against a rule that names a position too many is the state at hand with
-- every A that `ours` does not name turned into D: it sends the same symbol, it is D wherever nothing was sent, and `ours` names its
-- A's. What the tables decide antt tests at every state, in the declarations named `..-tested`.
-- Assumes nothing.
use Prim.Native.Nat.{ℕ, zero, suc, ◌<◌}
use mathlib.Core.Bool.{Bool, true, false, cond, not, ◌&&◌, ◌||◌, false≢true}
use mathlib.Core.List.{List, [], ◌∷◌}
use mathlib.Core.Logic.{◌⊎◌, inl, inr, ⊎_elim}
use mathlib.Core.Path.{◌≡◌, refl, sym, ap, ◌∙◌}
use native.Mathlib.Nat.{le_of_suc-le-suc, not-suc-le-zero}
use native.Mathlib.Omega.{arith}
use lib.Dec.{T, ltb}
use lib.Ieee.Fits.{and_l, and_r}
use lib.ListN.{length, get_or}
use borrow.Author.Tests.{ltb-true}
use Rattle.std.proofs.lemmas.Bool.{and_parts}
use Rattle.symbols.specs.declared.State.{State}
use Rattle.symbols.specs.declared.State.TheVariants.{Ack, Nack, Dtx}
use Rattle.symbols.specs.Delivered.{is_symbol, is_ack, in_some_row, delivered_at, delivered_set, delivery_of}
use Rattle.symbols.specs.Selection.{table2, table3, table4, table_of, symbol_of, symbol}
use Rattle.symbols.proofs.Reading.{is_symbol_holds, is_ack_holds}
use Rattle.symbols.proofs.States.{every_window, every_sent, sent_passes}
use Rattle.limit.specs.Rules.{Positions, Rule, SentBy, Sound, ours, LosesMore, Best}

-- `ours` is told what was sent, and does not look at it.
pub untold : (size i b0 b1 p : ℕ) (sent other : Positions) → ours size sent i b0 b1 p ≡ ours size other i b0 b1 p
unfolding ours
untold size i b0 b1 p sent other = refl

-- a number that passes a test with a bound is below it
below : (a n : ℕ) (b : Bool) → (ltb a n && b) ≡ true → a < n
below a n b e = ltb-true a n (and_parts (ltb a n) b e).0

-- It names positions of the window.
inside : (size : ℕ) (sent : Positions) (i b0 b1 p : ℕ) → ours size sent i b0 b1 p ≡ true → p < size
unfolding ours
inside size sent i b0 b1 p e = omega (arith, below _ size _ e)

-- Where something was sent at every position each state is counted.
pub all_counted : {size i b0 b1 : ℕ} (ss : List State) → length ss ≡ size → symbol_of ss ≡ symbol i b0 b1
    → SentBy size (λ (p : ℕ). true) i b0 b1 ss
all_counted ss e sent =
    record { counted = record { of_size = e; unsent = λ p never. absurd (false≢true (sym never)) }; symbol = sent }

-- a set names only A's of a state
abbrev acks_only : Positions → List State → Bool
acks_only set [] = true
acks_only set (s ∷ ss) = (not (set zero) || is_ack s) && acks_only (λ (p : ℕ). set (suc p)) ss

acks_tested : (sent : Positions) → T (every_sent (λ t i b0 b1. acks_only (ours (length t) sent i b0 b1) t))
unfolding every_window every_sent table2 table3 table4 table_of symbol_of in_some_row delivered_at delivered_set delivery_of ours
acks_tested sent = tt

names_ack : (set : Positions) (ss : List State) → T (acks_only set ss) → (p : ℕ) → p < length ss → set p ≡ true → get_or ss p Dtx ≡ Ack
names_ack set [] t p h e = absurd (not-suc-le-zero h)
names_ack set (s ∷ ss) t zero h e = is_ack_holds s (rw e at (and_l (not (set zero) || is_ack s) (acks_only (λ (p : ℕ). set (suc p)) ss) t))
names_ack set (s ∷ ss) t (suc p) h e =
    names_ack (λ (p : ℕ). set (suc p)) ss (and_r (not (set zero) || is_ack s) (acks_only (λ (p : ℕ). set (suc p)) ss) t) p (le_of_suc-le-suc h) e

-- The state with every A outside a set turned into D.
abbrev turned : Bool → State → State
turned named Ack = cond named Ack Dtx
turned named Nack = Nack
turned named Dtx = Dtx

abbrev turned_outside : Positions → List State → List State
turned_outside set [] = []
turned_outside set (s ∷ ss) = turned (set zero) s ∷ turned_outside (λ (p : ℕ). set (suc p)) ss

turned_length : (set : Positions) (ss : List State) → length (turned_outside set ss) ≡ length ss
turned_length set [] = refl
turned_length set (s ∷ ss) = ap suc (turned_length (λ (p : ℕ). set (suc p)) ss)

-- Nothing changes but that more is lost.
turned_lost : (set : Positions) (ss : List State) → LosesMore ss (turned_outside set ss)
turned_lost set [] p = inl refl
turned_lost set (s ∷ ss) zero = go (set zero) s
  where
    go : (b : Bool) (s : State) → (turned b s ≡ s) ⊎ (turned b s ≡ Dtx)
    go true Ack = inl refl
    go false Ack = inr refl
    go b Nack = inl refl
    go b Dtx = inl refl
turned_lost set (s ∷ ss) (suc p) = turned_lost (λ (p : ℕ). set (suc p)) ss p

-- So what is D stays D.
lost_dtx : (ss other : List State) → LosesMore ss other → (p : ℕ) → get_or ss p Dtx ≡ Dtx → get_or other p Dtx ≡ Dtx
lost_dtx ss other more p e = ⊎_elim (λ same. same ∙ e) (λ dtx. dtx) (more p)

-- What is A is in the set.
turned_ack : (set : Positions) (ss : List State) (p : ℕ) → get_or (turned_outside set ss) p Dtx ≡ Ack → set p ≡ true
turned_ack set [] p e = absurd (false≢true (ap is_ack e))
turned_ack set (s ∷ ss) zero e = go (set zero) s e
  where
    go : (b : Bool) (s : State) → turned b s ≡ Ack → b ≡ true
    go true s e = refl
    go false Ack e = absurd (false≢true (ap is_ack e))
    go false Nack e = absurd (false≢true (ap is_ack e))
    go false Dtx e = absurd (false≢true (ap is_ack e))
turned_ack set (s ∷ ss) (suc p) e = turned_ack (λ (p : ℕ). set (suc p)) ss p e

symbol_tested : (sent : Positions) → T (every_sent (λ t i b0 b1. is_symbol (symbol_of (turned_outside (ours (length t) sent i b0 b1) t)) i b0 b1))
unfolding every_window every_sent table2 table3 table4 table_of symbol_of in_some_row delivered_at delivered_set delivery_of ours
symbol_tested sent = tt

module _ (size : ℕ) (sent : Positions) (i b0 b1 : ℕ) (ss : List State) (by : SentBy size sent i b0 b1 ss) where
  names_sound : (p : ℕ) → ours size sent i b0 b1 p ≡ true → get_or ss p Dtx ≡ Ack
  names_sound p e =
      names_ack (ours size sent i b0 b1) ss (rw by.counted.of_size at (sent_passes _ (acks_tested sent) ss i b0 b1 by.symbol)) p
      (rw by.counted.of_size (inside size sent i b0 b1 p e)) e

  -- the witness, and that it is counted and sends the symbol
  witness : List State
  witness = turned_outside (ours size sent i b0 b1) ss

  witness_sent : SentBy size sent i b0 b1 witness
  unfolding witness
  witness_sent =
      record {
        counted = record {
          of_size = turned_length (ours size sent i b0 b1) ss ∙ by.counted.of_size;
          unsent = λ p e. lost_dtx ss witness (turned_lost (ours size sent i b0 b1) ss) p (by.counted.unsent p e);
        };
        symbol = is_symbol_holds _ i b0 b1 (rw by.counted.of_size at (sent_passes _ (symbol_tested sent) ss i b0 b1 by.symbol));
      }

  left_out : (p : ℕ) → ours size sent i b0 b1 p ≡ false
      → (other : List State) × SentBy size sent i b0 b1 other × LosesMore ss other × (get_or other p Dtx ≡ Ack → ⊥)
  unfolding witness
  left_out p e = (
    witness,
    witness_sent,
    turned_lost (ours size sent i b0 b1) ss,
    λ ack. false≢true (sym e ∙ turned_ack (ours size sent i b0 b1) ss p ack),
  )

  names_most : (rule : Rule) → Sound rule size sent i b0 b1 → (p : ℕ) → rule size sent i b0 b1 p ≡ true → ours size sent i b0 b1 p ≡ true
  names_most rule sound p e = go (ours size sent i b0 b1 p) refl
    where
      go : (b : Bool) → ours size sent i b0 b1 p ≡ b → b ≡ true
      go true is = refl
      go false is = let other = left_out p is in absurd (other.3 (sound other.0 other.1 p e))

-- The reading that `symbols::delivered` gives is the best one.
pub ours_best : Best ours
ours_best =
    record {
      sound = names_sound;
      most = λ rule size sent i b0 b1 ss by. names_most size sent i b0 b1 ss by rule;
      left_out = left_out;
    }
