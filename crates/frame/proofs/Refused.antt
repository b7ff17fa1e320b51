-- Refusals and their numbers, and which refusal a result has.
-- Assumes nothing.
use Prim.Native.Nat.{ℕ, zero, suc}
use mathlib.Core.List.{List, [], ◌∷◌}
use mathlib.Core.Path.{◌≡◌, refl, sym, ap, ◌∙◌}
use lib.Dec.{eqb-suc-zero}
use lib.ListN.{get_or}
use Rattle.std.proofs.Common.{eqb, not, is_ok, is_err, Result, Ok, Err, IsErrAnd}
use Rattle.std.proofs.lemmas.Result.{err_from_is_err_and}
use Rattle.frame.specs.declared.refusal.Refusal.{Refusal}
use Rattle.frame.specs.declared.refusal.Refusal.TheVariants as refusal
use Rattle.frame.specs.Refusals.{number_of, refusal_in, numbered, refused_or, unless_refused, NumbersApart}
use Rattle.frame.specs.Settings.{or_else}

-- the refusals in the order of their numbers, from 1
in_order : List Refusal
in_order =
    refusal.Configuration
    ∷ refusal.Bandwidth
    ∷ refusal.N1
    ∷ refusal.Mode
    ∷ refusal.Multiplexing
    ∷ refusal.Blocks
    ∷ refusal.Subframe
    ∷ refusal.State
    ∷ refusal.Uplink
    ∷ refusal.Carried
    ∷ refusal.Cce
    ∷ refusal.Dai
    ∷ refusal.Resource
    ∷ refusal.Bits
    ∷ refusal.Scratch
    ∷ refusal.Claim
    ∷ refusal.ScheduledResource
    ∷ refusal.Scheduled
    ∷ refusal.Special
    ∷ refusal.Short
    ∷ refusal.TraceLength
    ∷ refusal.TraceParts
    ∷ refusal.Output
    ∷ refusal.Ports
    ∷ refusal.SizeOrAccount
    ∷ refusal.Total
    ∷ refusal.Game
    ∷ refusal.Command
    ∷ refusal.RegisterBlock
    ∷ []

-- the refusal with a number
with_number : ℕ → Refusal
with_number zero = refusal.Configuration
with_number (suc n) = get_or in_order n refusal.Configuration

-- A refusal's number leads back to it, and is one more than another number.
found_again : (r : Refusal) → with_number (number_of r) ≡ r
unfolding with_number in_order
found_again refusal.Configuration = refl
found_again refusal.Bandwidth = refl
found_again refusal.N1 = refl
found_again refusal.Mode = refl
found_again refusal.Multiplexing = refl
found_again refusal.Blocks = refl
found_again refusal.Subframe = refl
found_again refusal.State = refl
found_again refusal.Uplink = refl
found_again refusal.Carried = refl
found_again refusal.Cce = refl
found_again refusal.Dai = refl
found_again refusal.Resource = refl
found_again refusal.Bits = refl
found_again refusal.Scratch = refl
found_again refusal.Claim = refl
found_again refusal.ScheduledResource = refl
found_again refusal.Scheduled = refl
found_again refusal.Special = refl
found_again refusal.Short = refl
found_again refusal.TraceLength = refl
found_again refusal.TraceParts = refl
found_again refusal.Output = refl
found_again refusal.Ports = refl
found_again refusal.SizeOrAccount = refl
found_again refusal.Total = refl
found_again refusal.Game = refl
found_again refusal.Command = refl
found_again refusal.RegisterBlock = refl

pub from_one : (r : Refusal) → (k : ℕ) × (number_of r ≡ suc k)
from_one refusal.Configuration = (0, refl)
from_one refusal.Bandwidth = (1, refl)
from_one refusal.N1 = (2, refl)
from_one refusal.Mode = (3, refl)
from_one refusal.Multiplexing = (4, refl)
from_one refusal.Blocks = (5, refl)
from_one refusal.Subframe = (6, refl)
from_one refusal.State = (7, refl)
from_one refusal.Uplink = (8, refl)
from_one refusal.Carried = (9, refl)
from_one refusal.Cce = (10, refl)
from_one refusal.Dai = (11, refl)
from_one refusal.Resource = (12, refl)
from_one refusal.Bits = (13, refl)
from_one refusal.Scratch = (14, refl)
from_one refusal.Claim = (15, refl)
from_one refusal.ScheduledResource = (16, refl)
from_one refusal.Scheduled = (17, refl)
from_one refusal.Special = (18, refl)
from_one refusal.Short = (19, refl)
from_one refusal.TraceLength = (20, refl)
from_one refusal.TraceParts = (21, refl)
from_one refusal.Output = (22, refl)
from_one refusal.Ports = (23, refl)
from_one refusal.SizeOrAccount = (24, refl)
from_one refusal.Total = (25, refl)
from_one refusal.Game = (26, refl)
from_one refusal.Command = (27, refl)
from_one refusal.RegisterBlock = (28, refl)

pub numbers_apart : NumbersApart
numbers_apart =
    record {
      apart = λ r s e. sym (found_again r) ∙ ap with_number e ∙ found_again s;
      not_zero = λ r e. let p = from_one r in absurd (cc);
    }

-- A result that is refused: its refusal comes before the next one, and in place of a value.
pub first_refused : {T : Type 0} (r : Result T Refusal) (e : Refusal) (k next : ℕ) → r ≡ Err e → refusal_in r ≡ k → or_else k next ≡ number_of e
first_refused r e k next p q = let one = from_one e in cc

pub first_accepted : {T : Type 0} (r : Result T Refusal) (x : T) (k next : ℕ) → r ≡ Ok x → refusal_in r ≡ k → or_else k next ≡ next
first_accepted r x k next p q = cc

pub value_refused : {T X : Type 0} (r : Result T Refusal) (e : Refusal) (k : ℕ) (x : X) → r ≡ Err e → refusal_in r ≡ k → unless_refused k x ≡ Err (number_of e)
value_refused r e k x p q = let one = from_one e in cc

pub value_accepted : {T X : Type 0} (r : Result T Refusal) (y : T) (k : ℕ) (x : X) → r ≡ Ok y → refusal_in r ≡ k → unless_refused k x ≡ Ok x
value_accepted r y k x p q = cc

-- The same of a refusal that comes before the next one, in place of a value.
pub chain_refused : {T X : Type 0} (r : Result T Refusal) (e : Refusal) (k next : ℕ) (x : X) → r ≡ Err e → refusal_in r ≡ k
    → unless_refused (or_else k next) x ≡ Err (number_of e)
chain_refused r e k next x p q = let one = from_one e in cc

-- The same before another result.
pub result_refused : {T X : Type 0} (r : Result T Refusal) (e : Refusal) (k : ℕ) (x : Result X ℕ) → r ≡ Err e → refusal_in r ≡ k
    → refused_or k x ≡ Err (number_of e)
result_refused r e k x p q = let one = from_one e in cc

pub result_accepted : {T X : Type 0} (r : Result T Refusal) (y : T) (k : ℕ) (x : Result X ℕ) → r ≡ Ok y → refusal_in r ≡ k → refused_or k x ≡ x
result_accepted r y k x p q = cc

-- What the exit of a `?` returns has the refusal of its result.
pub passed_on : {X : Type 0} (r : Result X Refusal) (e : Refusal) (x : Result X ℕ) → IsErrAnd r (λ y. y ≡ e) → x ≡ Err (number_of e) → numbered r ≡ x
passed_on r e x is same = let p = err_from_is_err_and r is in rw (p.1, p.2) (sym same)

-- Whether a result is accepted, by its number.
pub accepted_test : {T : Type 0} (r : Result T Refusal) (k : ℕ) → refusal_in r ≡ k → is_ok r ≡ eqb k 0
accepted_test (Ok x) k e = rw (← e)
accepted_test (Err r) k e = let one = from_one r in rw (← e, one.1, eqb-suc-zero one.0)

pub refused_test : {T : Type 0} (r : Result T Refusal) (k : ℕ) → refusal_in r ≡ k → is_err r ≡ not (eqb k 0)
refused_test (Ok x) k e = rw (← e)
refused_test (Err r) k e = let one = from_one r in rw (← e, one.1, eqb-suc-zero one.0)
