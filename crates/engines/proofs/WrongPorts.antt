-- Handsets whose replies go wrong with their antenna ports (document 02, U9), with one fault each, and the field of the statement that
-- shuts each of them out; WrongEngines.antt lists them.
-- Assumes nothing.
use Rattle.std.proofs.Common.{Option, Some, None, Result, Ok}
use Rattle.resource.specs.declared.Resource.{Resource}
use Prim.Native.Nat.{ℕ, ◌+◌}
use mathlib.Core.Path.{refl, ap}
use native.Mathlib.Omega.{arith}
use Rattle.reply.specs.declared.Answer.{Answer}
use Rattle.reply.specs.declared.Answer.TheVariants as answer
use Rattle.reply.specs.declared.Reply.{Reply}
use Rattle.agreement.specs.Demand3.{Engine, Demand3}
use Rattle.engines.proofs.Computing.{schedules}
use Rattle.engines.proofs.PortRuns.{release_on_two, release_on_two_holds}
use Rattle.engines.proofs.Worked.{answer_at, all_heard, all_heard_holds, shared, symbol_shared}
use Rattle.engines.proofs.WrongEngines.{answers_by, replying, replying_in, BundledIn, bundled_in, in_all_heard, in_shared}

-- Answered at 12: a grant and then a release are heard by a handset with two ports.
module _ (e : Engine) (d : Demand3 e) where
  in_two_ports : BundledIn e release_on_two 12
  unfolding schedules
  in_two_ports = bundled_in e d release_on_two release_on_two_holds 12 (omega arith) refl refl tt (omega arith) refl

-- A reply with another resource of the second port.
abbrev with_second : Option Resource → Reply → Result Answer ℕ
with_second second r = Ok (answer.Sent (record { kind = r.kind; resource = r.resource; b0 = r.b0; b1 = r.b1; second = second }))

-- A resource for the second port, where there is one.
abbrev moved_to : Option Resource → ℕ → Option Resource
moved_to None r = None
moved_to (Some second) r = Some (record { 0 = r })

-- The second port's resource as a number, 0 for none: what two replies differ in.
abbrev number : Option Resource → ℕ
number None = 0
number (Some second) = second.0

-- The second port is two above the first.
abbrev pub two_above : Result Answer ℕ → Result Answer ℕ
two_above = replying (λ (r : Reply). with_second (moved_to r.second (r.resource.0 + 2)) r)

pub not_two_above : Demand3 (answers_by two_above) → ⊥
unfolding schedules
not_two_above d =
    omega (arith, ap number (((in_two_ports (answers_by two_above) d).1 _ (ap two_above (answer_at release_on_two release_on_two_holds 12))).ports.0 refl))

-- Both ports send on one resource.
abbrev pub on_first_twice : Result Answer ℕ → Result Answer ℕ
on_first_twice = replying (λ (r : Reply). with_second (moved_to r.second r.resource.0) r)

pub not_on_first_twice : Demand3 (answers_by on_first_twice) → ⊥
unfolding schedules
not_on_first_twice d =
    omega (arith, ap number (((in_two_ports (answers_by on_first_twice) d).1 _ (ap on_first_twice (answer_at release_on_two release_on_two_holds 12))).ports.0 refl))

-- The second port is silent.
abbrev pub first_alone : Result Answer ℕ → Result Answer ℕ
first_alone = replying (with_second None)

pub not_first_alone : Demand3 (answers_by first_alone) → ⊥
unfolding schedules
not_first_alone d =
    omega (arith, ap number (((in_two_ports (answers_by first_alone) d).1 _ (ap first_alone (answer_at release_on_two release_on_two_holds 12))).ports.0 refl))

-- A handset of one port names a second resource, in a bundled reply or in a multiplexed one.
abbrev pub always_two : ℕ → Result Answer ℕ → Result Answer ℕ
always_two kind = replying_in kind (λ (r : Reply). with_second (Some (record { 0 = r.resource.0 + 1 })) r)

pub not_always_two : Demand3 (answers_by (always_two 1)) → ⊥
unfolding schedules
not_always_two d =
    omega (arith, ap number (((in_all_heard (answers_by (always_two 1)) d).1 _ (ap (always_two 1) (answer_at all_heard all_heard_holds 7))).ports.1 refl))

pub not_always_two_multiplexed : Demand3 (answers_by (always_two 2)) → ⊥
unfolding schedules
not_always_two_multiplexed d =
    omega (arith, ap number (((in_shared (answers_by (always_two 2)) d).1 _ (ap (always_two 2) (answer_at shared symbol_shared 12))).one_port))
