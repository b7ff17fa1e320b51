-- What the handset has after a play, by what was passed and what was lost in it: which plays are won, and that one is won in which the
-- first four grants are lost and the others passed.
-- Assumes nothing.
use Prim.Native.Nat.{ℕ, suc, ◌+◌, ◌-◌, ◌%◌, ◌<◌, ◌≤◌}
use mathlib.Core.Bool.{Bool, true, false, cond, not, false≢true}
use mathlib.Core.List.{List, [], ◌∷◌}
use mathlib.Core.Logic.{◌↔◌}
use mathlib.Core.Path.{◌≡◌, refl, sym, ap, ◌∙◌}
use native.Mathlib.Decide.{dec_le}
use native.Mathlib.Omega.{arith}
use lib.Dec.{eqb, ltb}
use lib.ListN.{length}
use borrow.Author.Tests.{lt-ltb, le-ltb, eq-eqb, ne_eqb, eqb-true, eqb-false}
use Rattle.std.proofs.lemmas.Bool.{and_parts}
use Rattle.fold.specs.Fold.{expected, step_of}
use Rattle.playing.specs.Game.{Turn, held, passed, lost, count, grants_in, losses_in, seen_after, replied, some_lost, hidden, won}

unfoldable pub is_passed : Turn → Bool
is_passed held = false
is_passed passed = true
is_passed lost = false

-- the grants that were heard
unfoldable pub heard_in : List Turn → ℕ
heard_in = count is_passed

-- the grants lost before the last heard one
unfoldable pub lost_before : List Turn → ℕ
lost_before [] = 0
lost_before (held ∷ earlier) = lost_before earlier
lost_before (passed ∷ earlier) = losses_in earlier
lost_before (lost ∷ earlier) = lost_before earlier

-- A grant is heard or lost.
pub granted_are : (play : List Turn) → grants_in play ≡ heard_in play + losses_in play
unfolding heard_in is_passed
granted_are [] = refl
granted_are (held ∷ play) = granted_are play
granted_are (passed ∷ play) = omega (arith, granted_are play)
granted_are (lost ∷ play) = omega (arith, granted_are play)

pub grants_most : (play : List Turn) → grants_in play ≤ length play
grants_most [] = omega arith
grants_most (held ∷ play) = omega (arith, grants_most play)
grants_most (passed ∷ play) = omega (arith, grants_most play)
grants_most (lost ∷ play) = omega (arith, grants_most play)

pub u_is : (play : List Turn) → (seen_after play).u ≡ heard_in play
unfolding heard_in is_passed step_of
u_is [] = refl
u_is (held ∷ play) = u_is play
u_is (passed ∷ play) = omega (arith, u_is play)
u_is (lost ∷ play) = u_is play

-- V is the DAI of the last heard grant, which counts those before it, heard or lost.
pub v_is : (play : List Turn) → 1 ≤ heard_in play → (seen_after play).v ≡ (heard_in play + lost_before play - 1) % 4 + 1
unfolding heard_in is_passed lost_before expected step_of
v_is [] h = absurd (omega arith)
v_is (held ∷ play) h = v_is play h
v_is (passed ∷ play) h = omega (arith, granted_are play)
v_is (lost ∷ play) h = v_is play h

few_before : (play : List Turn) → lost_before play ≤ losses_in play
unfolding lost_before
few_before [] = omega arith
few_before (held ∷ play) = few_before play
few_before (passed ∷ play) = omega arith
few_before (lost ∷ play) = omega (arith, few_before play)

none_lost : (play : List Turn) → some_lost play ≡ false → losses_in play ≡ 0
none_lost [] e = refl
none_lost (held ∷ play) e = none_lost play e
none_lost (passed ∷ play) e = none_lost play e
none_lost (lost ∷ play) e = absurd (false≢true (sym e))

one_lost : (play : List Turn) → some_lost play ≡ true → 1 ≤ losses_in play
one_lost [] e = absurd (false≢true e)
one_lost (held ∷ play) e = one_lost play e
one_lost (passed ∷ play) e = one_lost play e
one_lost (lost ∷ play) e = omega arith

hides_some : (play : List Turn) → hidden play ≡ true → 1 ≤ lost_before play
unfolding lost_before
hides_some [] e = absurd (false≢true e)
hides_some (held ∷ play) e = hides_some play e
hides_some (passed ∷ play) e = one_lost play e
hides_some (lost ∷ play) e = hides_some play e

hides_none : (play : List Turn) → hidden play ≡ false → lost_before play ≡ 0
unfolding lost_before
hides_none [] e = refl
hides_none (held ∷ play) e = hides_none play e
hides_none (passed ∷ play) e = none_lost play e
hides_none (lost ∷ play) e = hides_none play e

-- A grant before the last heard one was lost exactly if some were.
pub hidden_is : (play : List Turn) → (hidden play ≡ true) ↔ (1 ≤ lost_before play)
hidden_is play = (hides_some play, λ some. go (hidden play) refl some)
  where
    go : (b : Bool) → hidden play ≡ b → 1 ≤ lost_before play → hidden play ≡ true
    go true e some = e
    go false e some = absurd (omega (arith, some, hides_none play e))

-- A reply is sent exactly where a grant was heard and four divides what was lost before the last one: 0, 4 or 8 in a window of nine.
pub replied_is : (play : List Turn) → (replied play ≡ true) ↔ ((1 ≤ heard_in play) × (lost_before play % 4 ≡ 0))
unfolding expected
replied_is play = (
  λ e.
      let r = and_parts (not (eqb (seen_after play).u 0)) (eqb (seen_after play).v (expected (seen_after play).u)) e in
      let some : 1 ≤ heard_in play = least (eqb (seen_after play).u 0) refl r.0 in
      let same : (heard_in play + lost_before play - 1) % 4 + 1 ≡ (heard_in play - 1) % 4 + 1 =
      sym (v_is play some) ∙ eqb-true _ _ r.1 ∙ ap (λ (u : ℕ). (u - 1) % 4 + 1) (u_is play) in
      (some, omega (arith, some, same)),
  λ p.
      let v : (seen_after play).v ≡ ((seen_after play).u - 1) % 4 + 1 = omega (arith, v_is play p.0, u_is play, p.0, p.1) in
      rw (ne_eqb (seen_after play).u 0 (λ z. omega (arith, p.0, u_is play)), eq-eqb (seen_after play).v (((seen_after play).u - 1) % 4 + 1) v),
)
  where
    least : (b : Bool) → eqb (seen_after play).u 0 ≡ b → not b ≡ true → 1 ≤ heard_in play
    least true e n = absurd (false≢true n)
    least false e n = omega (arith, eqb-false _ _ e, u_is play)

-- A play that is won has five grants and four losses: four divides what was lost before the last heard grant, and that is not 0.
pub won_needs : (play : List Turn) → won play ≡ true → (5 ≤ grants_in play) × (4 ≤ losses_in play)
won_needs play e =
    let w = and_parts (replied play) (hidden play) e in
    let r = (replied_is play).0 w.0 in
    let some = hides_some play w.1 in
    let fours : 4 ≤ lost_before play = omega (arith, r.1, some) in
    (omega (arith, granted_are play, few_before play, r.0, fours), omega (arith, few_before play, fours))

-- The first four grants were lost, or all of fewer, and the others passed.
pub record FirstLost (play : List Turn) : Type 0 where
  pub few : grants_in play ≤ 4 → heard_in play ≡ 0
  pub many : 5 ≤ grants_in play → (losses_in play ≡ 4) × (lost_before play ≡ 4)

pub first_none : FirstLost []
unfolding heard_in
first_none = record { few = λ h. refl; many = λ h. absurd (omega arith) }

pub first_held : (play : List Turn) → FirstLost play → FirstLost (held ∷ play)
unfolding heard_in is_passed lost_before
first_held play f = record { few = f.few; many = f.many }

pub first_lost : (play : List Turn) → grants_in play < 4 → FirstLost play → FirstLost (lost ∷ play)
unfolding heard_in is_passed lost_before
first_lost play h f = record { few = λ l. f.few (omega (arith, h)); many = λ l. absurd (omega (arith, h, l)) }

pub first_passed : (play : List Turn) → 4 ≤ grants_in play → FirstLost play → FirstLost (passed ∷ play)
unfolding heard_in is_passed lost_before
first_passed play h f = record { few = λ l. absurd (omega (arith, h, l)); many = λ l. let four = go (dec_le 5 (grants_in play)) in (four, four) }
  where
    go : Dec (5 ≤ grants_in play) → losses_in play ≡ 4
    go (yes more) = (f.many more).0
    go (no most) = omega (arith, granted_are play, f.few (omega arith))

-- The radio's answer to a grant is to lose it while fewer than four were made.
pub first_answered : (play : List Turn) → FirstLost play → FirstLost (cond (ltb (grants_in play) 4) lost passed ∷ play)
first_answered play f = go (dec_le 4 (grants_in play))
  where
    go : Dec (4 ≤ grants_in play) → FirstLost (cond (ltb (grants_in play) 4) lost passed ∷ play)
    go (yes past) = rw (le-ltb (grants_in play) 4 past) (first_passed play past f)
    go (no first) = rw (lt-ltb (grants_in play) 4 (omega (arith, first))) (first_lost play (omega (arith, first)) f)

-- Lost or passed, it is a grant more.
pub answered_grant : (lose : Bool) (play : List Turn) → grants_in (cond lose lost passed ∷ play) ≡ suc (grants_in play)
answered_grant true play = omega arith
answered_grant false play = omega arith

-- With five grants such a play is won.
pub first_won : (play : List Turn) → FirstLost play → 5 ≤ grants_in play → won play ≡ true
first_won play f h =
    let lost = f.many h in
    let some : 1 ≤ heard_in play = omega (arith, granted_are play, lost.0) in
    rw ((replied_is play).1 (some, omega (arith, lost.1))) ((hidden_is play).1 (omega (arith, lost.1)))
