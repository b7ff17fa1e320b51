-- The tree of plays: the radio can force the outcome exactly where five grants are made and four may be lost, and the answer of the call.
-- Assumes nothing.
use Prim.Native.Nat.{ℕ, zero, suc, ◌+◌, ◌-◌, ◌<◌, ◌≤◌}
use mathlib.Core.Bool.{Bool, true, false, not, ◌&&◌, ◌||◌, or-true, false≢true}
use mathlib.Core.List.{List, [], ◌∷◌}
use mathlib.Core.Logic.{◌⊎◌, inl, inr}
use mathlib.Core.Path.{◌≡◌, refl, sym, ◌∙◌}
use native.Mathlib.Decide.{dec_le}
use native.Mathlib.Omega.{arith}
use lib.Dec.{leb, ltb}
use borrow.Author.Tests.{ltb-true, lt-ltb, le-ltb, le-leb, lt-leb}
use Rattle.std.proofs.lemmas.Bool.{and_parts}
use Rattle.std.proofs.Common.{Ok}
use Rattle.frame.specs.Settings.{outside}
use Rattle.playing.specs.Game.{Turn, held, passed, lost, grants_in, losses_in, won, radio_forces, game_refusal, game_of}
use Rattle.playing.proofs.Plays.{granted_are, won_needs, FirstLost, first_none, first_held, first_lost, first_passed, first_won}

either_true : (b c : Bool) → (b || c) ≡ true → (b ≡ true) ⊎ (c ≡ true)
either_true true c e = inl refl
either_true false c e = inr e

-- With so many subframes left, what the radio can force needs five grants and four losses.
abbrev Needs : ℕ → Type 0
Needs left =
    (owed losses : ℕ) (play : List Turn) → owed ≤ left → radio_forces left owed losses play ≡ true
    → (5 ≤ grants_in play + owed) × (4 ≤ losses_in play + losses)

needs : (left : ℕ) → Needs left
unfolding radio_forces
needs zero owed losses play h e = let w = won_needs play e in (omega (arith, w.0), omega (arith, w.1))
needs (suc left) owed losses play h e = go (dec_le owed left) (needs left)
  where
    wins_held : Bool
    wins_held = radio_forces left owed losses (held ∷ play)

    wins_passed : Bool
    wins_passed = radio_forces left (owed - 1) losses (passed ∷ play)

    wins_lost : Bool
    wins_lost = radio_forces left (owed - 1) (losses - 1) (lost ∷ play)

    both : ((not (leb owed left) || wins_held) ≡ true) × ((not (ltb 0 owed) || wins_passed || (ltb 0 losses && wins_lost)) ≡ true)
    both = and_parts _ _ e

    answered : (owed ≤ left → ⊥) → Needs left → (wins_passed ≡ true) ⊎ ((ltb 0 losses && wins_lost) ≡ true)
        → (5 ≤ grants_in play + owed) × (4 ≤ losses_in play + losses)
    answered full rest (inl p) = let n = rest (owed - 1) losses (passed ∷ play) (omega (arith, h)) p in (omega (arith, n.0, full), n.1)
    answered full rest (inr q) =
        let b = and_parts (ltb 0 losses) wins_lost q in
        let n = rest (owed - 1) (losses - 1) (lost ∷ play) (omega (arith, h)) b.1 in
        (omega (arith, n.0, full), omega (arith, n.1, ltb-true 0 losses b.0))

    go : Dec (owed ≤ left) → Needs left → (5 ≤ grants_in play + owed) × (4 ≤ losses_in play + losses)
    go (yes room) rest = rest owed losses (held ∷ play) room (rw (le-leb owed left room) at both.0)
    go (no full) rest = answered full rest (either_true _ _ (rw (lt-ltb 0 owed (omega (arith, full))) at both.1))

-- Where they can be had, the radio can force it from every play in which the first four were lost.
abbrev Forces : ℕ → Type 0
Forces left =
    (owed losses : ℕ) (play : List Turn) → owed ≤ left → FirstLost play
    → 5 ≤ grants_in play + owed → 4 ≤ losses_in play + losses → radio_forces left owed losses play ≡ true

forced : (left : ℕ) → Forces left
unfolding radio_forces
forced zero owed losses play h f five four = first_won play f (omega (arith, h, five))
forced (suc left) owed losses play h f five four =
    rw (hold (dec_le owed left) (forced left)) (grant (dec_le 1 owed) (dec_le 4 (grants_in play)) (forced left))
  where
    hold : Dec (owed ≤ left) → Forces left → (not (leb owed left) || radio_forces left owed losses (held ∷ play)) ≡ true
    hold (yes room) rest = rw (le-leb owed left room) (rest owed losses (held ∷ play) room (first_held play f) five four)
    hold (no full) rest = rw (lt-leb owed left (omega (arith, full)))

    grant : Dec (1 ≤ owed) → Dec (4 ≤ grants_in play) → Forces left
        → (not (ltb 0 owed)
        || radio_forces left (owed - 1) losses (passed ∷ play)
        || (ltb 0 losses && radio_forces left (owed - 1) (losses - 1) (lost ∷ play))) ≡ true
    grant (no none) p rest = rw (le-ltb 0 owed (omega (arith, none)))
    grant (yes some) (yes past) rest =
        let passes = rest (owed - 1) losses (passed ∷ play) (omega (arith, h)) (first_passed play past f) (omega (arith, five)) four in
        rw (lt-ltb 0 owed some, passes)
    grant (yes some) (no first) rest =
        let few : losses_in play ≤ grants_in play = omega (arith, granted_are play) in
        let loses =
        rest (owed - 1) (losses - 1) (lost ∷ play) (omega (arith, h)) (first_lost play (omega (arith, first)) f)
        (omega (arith, five)) (omega (arith, four, first, few)) in
        rw (lt-ltb 0 owed some, lt-ltb 0 losses (omega (arith, four, first, few)), loses) (or-true _)

pub forces_enough : (size grants losses : ℕ) → grants ≤ size → radio_forces size grants losses [] ≡ true → (5 ≤ grants) × (4 ≤ losses)
forces_enough size grants losses h e = let n = needs size grants losses [] h e in (omega (arith, n.0), omega (arith, n.1))

pub enough_forces : (size grants losses : ℕ) → grants ≤ size → 5 ≤ grants → 4 ≤ losses → radio_forces size grants losses [] ≡ true
enough_forces size grants losses h five four = forced size grants losses [] h first_none (omega (arith, five)) (omega (arith, four))

pub exactly : (size grants losses : ℕ) → grants ≤ size → radio_forces size grants losses [] ≡ (leb 5 grants && leb 4 losses)
exactly size grants losses h = go (dec_le 5 grants) (dec_le 4 losses) (radio_forces size grants losses []) refl
  where
    go : Dec (5 ≤ grants) → Dec (4 ≤ losses) → (b : Bool) → radio_forces size grants losses [] ≡ b → b ≡ (leb 5 grants && leb 4 losses)
    go (yes five) (yes four) b e = rw (le-leb 5 grants five, le-leb 4 losses four) (sym e ∙ enough_forces size grants losses h five four)
    go (yes five) (no n) true e = absurd (n (forces_enough size grants losses h e).1)
    go (yes five) (no n) false e = rw (le-leb 5 grants five, lt-leb 4 losses (omega (arith, n)))
    go (no n) four true e = absurd (n (forces_enough size grants losses h e).0)
    go (no n) four false e = rw (lt-leb 5 grants (omega (arith, n)))

-- A play of a game that the radio cannot force is not won.
pub not_won : (size grants losses : ℕ) → grants ≤ size → radio_forces size grants losses [] ≡ false
    → (play : List Turn) → grants_in play ≡ grants → losses_in play ≤ losses → won play ≡ false
not_won size grants losses h e play g l = go (won play) refl
  where
    go : (b : Bool) → won play ≡ b → won play ≡ false
    go false w = w
    go true w =
        let n = won_needs play w in
        absurd (false≢true (sym e ∙ enough_forces size grants losses h (omega (arith, n.0, g)) (omega (arith, n.1, l))))

-- The answer of a game that is not refused, where five grants are made and where not.
not_more : (size grants losses : ℕ) → game_refusal size grants losses ≡ 0 → grants ≤ size
unfolding game_refusal
not_more size grants losses e = go (dec_le grants size)
  where
    go : Dec (grants ≤ size) → grants ≤ size
    go (yes h) = h
    go (no n) = absurd (omega (arith, rw (lt-ltb size grants (omega (arith, n)), or-true (outside 1 9 size)) at e))

pub many_granted : (size grants losses : ℕ) → game_refusal size grants losses ≡ 0 → 5 ≤ grants → game_of size grants losses ≡ Ok (leb 4 losses)
unfolding game_of
many_granted size grants losses e h =
    rw (e, exactly size grants losses (not_more size grants losses e), le-leb 5 grants h)

pub few_granted : (size grants losses : ℕ) → game_refusal size grants losses ≡ 0 → grants < 5 → game_of size grants losses ≡ Ok (leb 5 grants)
unfolding game_of
few_granted size grants losses e h =
    rw (e, exactly size grants losses (not_more size grants losses e), lt-leb 5 grants h)
