-- What the answer comes to: a refusal of settings, subframe or scratch, else what the two passes over the claims found.
-- Assumes nothing.
use Prim.Native.Nat.{ℕ, zero, suc, ◌<◌, ◌≤◌}
use mathlib.Core.Bool.{Bool, true, false, cond, not, ◌&&◌, ◌||◌, true≢false}
use mathlib.Core.List.{List}
use mathlib.Core.Path.{◌≡◌, refl, sym, ap, ◌∙◌}
use lib.Dec.{eqb, ltb}
use lib.ListN.{length}
use borrow.Author.Tests.{ltb-false, lt-ltb, le-ltb}
use Rattle.std.proofs.Common.{Result, Ok, Err, Option, Some, None}
use Rattle.std.specs.List.{position}
use Rattle.frame.specs.declared.Settings.{Settings}
use Rattle.frame.specs.declared.refusal.Refusal.{Refusal}
use Rattle.frame.specs.Refusals.{number_of, refusal_in}
use Rattle.frame.specs.Settings.{or_else, outside, has_scheduled, has_second_port, cell_refusal, mode_refusal, blocks_refusal, scheduled_refusal, ports_mode_refusal, ports_refusal, later_refusal, settings_refusal, no_window_refusal, window_refusal}
use Rattle.frame.specs.Special.{last_special, special_refusal}
use Rattle.resource.specs.Calls.{size_of}
use Rattle.frame.proofs.Bools.{either}
use Rattle.frame.proofs.Refused.{from_one}
use Rattle.claims.specs.declared.RefusedClaims.TheVariants.{Refused}
use Rattle.claims.specs.Claims.{BadByIndex, is_bad, first_bad, first_clash, scratch_refusal, Checked, found, checked_on, checked_with}
use Rattle.claims.proofs.First.{position_bad}

-- The answer, given the first bad claim and the first clash.
abbrev pub answer_of : Option ℕ → Option ℕ → Checked
answer_of (Some bad) clash = Err (16, bad)
answer_of None clash = Ok clash

module _ (s : Settings) (n : ℕ) (claims : List ℕ) (room lent : ℕ) where
  -- 1 to 6, 17, 19, 24 and 7
  pub window_refused : {T : Type 0} (r : Result T Refusal) (e : Refusal) → r ≡ Err e → refusal_in r ≡ window_refusal s n
      → checked_with s n claims room lent ≡ Err (number_of e, 0)
  unfolding checked_with scratch_refusal
  window_refused r e is same = let one = from_one e in cc

  module _ (accepted : window_refusal s n ≡ 0) where
    -- 15
    pub scratch_refused : lent < room → checked_with s n claims room lent ≡ Err (15, 0)
    unfolding checked_with scratch_refusal
    scratch_refused h = rw (accepted, lt-ltb lent room h)

    pub answered : room ≤ lent → checked_with s n claims room lent ≡ answer_of (position (is_bad s n) claims) (found (first_clash s n claims) (length claims))
    unfolding checked_with scratch_refusal checked_on
    answered h = rw (accepted, le-ltb lent room h, position_bad s n claims) (go (ltb (first_bad s n claims) (length claims)))
      where
        go : (bad : Bool)
            → cond bad (Err (16, first_bad s n claims)) (Ok (found (first_clash s n claims) (length claims)))
            ≡ answer_of (cond bad (Some (first_bad s n claims)) None) (found (first_clash s n claims) (length claims))
        go true = refl
        go false = refl

-- Where the first pass finds none, no claim is bad.
pub none_bad : (s : Settings) (n : ℕ) (claims : List ℕ) → position (is_bad s n) claims ≡ None → length claims ≤ first_bad s n claims
none_bad s n claims none = go (ltb (first_bad s n claims) (length claims)) refl (sym (position_bad s n claims) ∙ none)
  where
    go : (b : Bool) → ltb (first_bad s n claims) (length claims) ≡ b → cond b (Some (first_bad s n claims)) None ≡ None → length claims ≤ first_bad s n claims
    go true e h = absurd (cc h)
    go false e h = ltb-false (first_bad s n claims) (length claims) e

-- No refusal of settings or subframe is that of a bad claim.
abbrev Other : ℕ → Type 0
Other k = eqb k 16 ≡ false

or_other : (a b : ℕ) → Other a → Other b → Other (or_else a b)
or_other zero b p q = q
or_other (suc a) b p q = p

-- one refusal where a test passes, else the next
met : (b : Bool) (k next : ℕ) → Other k → Other next → Other (cond b k next)
met b k next p q = either Other b k next p q

cell_other : (s : Settings) → Other (cell_refusal s)
unfolding cell_refusal
cell_other s =
    met (ltb 6 s.config) 1 (cond (outside 6 110 s.nrb) 2 (cond (ltb 2047 s.n1) 3 0)) refl
    (met (outside 6 110 s.nrb) 2 (cond (ltb 2047 s.n1) 3 0) refl (met (ltb 2047 s.n1) 3 0 refl refl))

mode_other : (s : Settings) → Other (mode_refusal s)
unfolding mode_refusal
mode_other s =
    met (ltb 1 s.mode) 4 (cond (eqb s.mode 1 && eqb s.config 5) 5 0) refl (met (eqb s.mode 1 && eqb s.config 5) 5 0 refl refl)

blocks_other : (s : Settings) → Other (blocks_refusal s)
unfolding blocks_refusal
blocks_other s = met (outside 1 2 s.blocks) 6 0 refl refl

scheduled_other : (s : Settings) → Other (scheduled_refusal s)
unfolding scheduled_refusal
scheduled_other s = met (has_scheduled s && not (ltb s.scheduled s.n1)) 17 0 refl refl

special_other : (s : Settings) → Other (special_refusal s)
unfolding special_refusal
special_other s = met (ltb 1 s.prefix || ltb (last_special s.prefix) s.special) 19 0 refl refl

ports_mode_other : (s : Settings) → Other (ports_mode_refusal s)
unfolding ports_mode_refusal
ports_mode_other s = met (eqb s.mode 1 && has_second_port s) 24 0 refl refl

ports_other : (s : Settings) → Other (ports_refusal s)
unfolding ports_refusal
ports_other s =
    met (outside 1 2 s.ports || (has_second_port s && has_scheduled s)) 24 (ports_mode_refusal s) refl (ports_mode_other s)

window_other : (s : Settings) (n : ℕ) → Other (window_refusal s n)
unfolding window_refusal no_window_refusal settings_refusal later_refusal
window_other s n =
    let later = or_other (scheduled_refusal s) (or_else (special_refusal s) (ports_refusal s)) (scheduled_other s)
    (or_other (special_refusal s) (ports_refusal s) (special_other s) (ports_other s)) in
    let blocks = or_other (blocks_refusal s) (later_refusal s) (blocks_other s) later in
    let mode = or_other (mode_refusal s) (or_else (blocks_refusal s) (later_refusal s)) (mode_other s) blocks in
    or_other (settings_refusal s) (cond (eqb (size_of s n) 0) 7 0)
    (or_other (cell_refusal s) (or_else (mode_refusal s) (or_else (blocks_refusal s) (later_refusal s))) (cell_other s) mode)
    (met (eqb (size_of s n) 0) 7 0 refl refl)

pub no_claim : (s : Settings) (n : ℕ) {T : Type 0} (r : Result T Refusal) (e : Refusal) → r ≡ Err e → refusal_in r ≡ window_refusal s n → BadByIndex (Refused e)
no_claim s n r e is same bad = let other = window_other s n in let met : window_refusal s n ≡ 16 = sym same ∙ ap refusal_in is ∙ ap number_of bad in absurd (true≢false (rw met at other))
