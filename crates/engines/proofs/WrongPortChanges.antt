-- Handsets of two ports that go wrong where the mode changes (document 02, U9), with one fault each, and the field of the statement that
-- shuts each of them out; WrongEngines.antt lists them.
-- Assumes nothing.
use Prim.Native.Nat.{ℕ}
use mathlib.Core.Bool.{cond}
use mathlib.Core.Path.{refl, ap}
use native.Mathlib.Omega.{arith}
use lib.Dec.{eqb}
use Rattle.frame.specs.Settings.{has_second_port}
use Rattle.handset.specs.Change.{Changed}
use Rattle.handset.specs.declared.Handset.{Handset}
use Rattle.handset.specs.Change.{in_new_mode, change_of}
use Rattle.agreement.specs.Demand3.{Demand3}
use Rattle.engines.proofs.Computing.{handsets}
use Rattle.engines.proofs.PortRuns.{on_two_ports, on_two_ports_holds, four_lost_on_two, four_lost_on_two_holds}
use Rattle.engines.proofs.WrongChanges.{says_instead}
use Rattle.engines.proofs.WrongEngines.{changed_by, holds_in}

-- 24 is not answered: a change to mode 1 with two ports leaves the handset and answers 0.
abbrev pub accepts_twenty_four : Handset → ℕ → Changed
accepts_twenty_four = says_instead (λ (k : ℕ). cond (eqb k 24) 0 k)

pub not_accepts_twenty_four : Demand3 (changed_by accepts_twenty_four) → ⊥
unfolding handsets
not_accepts_twenty_four d =
    omega (arith, (holds_in (changed_by accepts_twenty_four) d on_two_ports on_two_ports_holds).changed_exactly 0 1 (record { inside = omega arith; changes = refl }))

-- 24 before 5: with two ports a change to mode 1 answers 24 in configuration 5 too.
abbrev pub twenty_four_first : Handset → ℕ → Changed
twenty_four_first h m =
    record { refusal = cond (has_second_port h.settings) (cond (eqb m 1) 24 (change_of h m).refusal) (change_of h m).refusal; handset = (change_of h m).handset }

pub not_twenty_four_first : Demand3 (changed_by twenty_four_first) → ⊥
unfolding handsets
not_twenty_four_first d =
    omega (arith, (holds_in (changed_by twenty_four_first) d four_lost_on_two four_lost_on_two_holds).changed_exactly 5 1 (record { inside = omega arith; changes = refl }))

-- A change that is refused 24 is kept: mode 1 stands.
abbrev pub keeps_twenty_four : Handset → ℕ → Changed
keeps_twenty_four h m =
    record { refusal = (change_of h m).refusal; handset = cond (eqb (change_of h m).refusal 24) (in_new_mode h m) (change_of h m).handset }

pub not_keeps_twenty_four : Demand3 (changed_by keeps_twenty_four) → ⊥
unfolding handsets
not_keeps_twenty_four d =
    let l = (holds_in (changed_by keeps_twenty_four) d on_two_ports on_two_ports_holds).change_leaves 0 1 (record { inside = omega arith; changes = refl }) (λ e. omega arith) in
    omega (arith, ap (λ (h : Handset). h.settings.mode) l)
