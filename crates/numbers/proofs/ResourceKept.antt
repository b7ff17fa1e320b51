-- The numbers of feedback_resource lose nothing.
-- Assumes nothing.
use Rattle.std.proofs.Common.{Some, None}
use Prim.Native.Nat.{ℕ, zero, suc, ◌+◌}
use mathlib.Core.Bool.{Bool, true, false, cond, ◌&&◌}
use mathlib.Core.Path.{◌≡◌, refl}
use native.Mathlib.Omega.{arith}
use lib.Dec.{ltb}
use borrow.Author.Tests.{ne_eqb}
use Rattle.frame.specs.Settings.{has_second_port}
use Rattle.frame.specs.declared.Settings.{Settings}
use Rattle.frame.specs.Refusals.{unless_refused}
use Rattle.resource.specs.declared.Resource.{Resource}
use Rattle.resource.specs.Ports.{second_port, on_ports, ports_of}
use Rattle.resource.proofs.Forms.{resource_form}
use Rattle.numbers.specs.Answers.{second_number, resource_answer}
use Rattle.numbers.specs.Back.{second_in, mapped_in}

-- A second port's resource is one above the first's, and so not 0, as which none is told.
pub second_back : (s : Settings) (r : ℕ) → second_in (second_number (second_port s r)) ≡ second_port s r
unfolding second_port
second_back s r = go (has_second_port s && ltb r 65535)
  where
    go : (b : Bool) → second_in (second_number (cond b (Some (record { 0 = r + 1 })) None)) ≡ cond b (Some (record { 0 = r + 1 })) None
    go true = rw (ne_eqb (r + 1) 0 (λ z. omega arith))
    go false = refl

ports_back : (s : Settings) (k : ℕ) (r : Resource) → mapped_in (resource_answer (on_ports s (unless_refused k r))) ≡ on_ports s (unless_refused k r)
ports_back s zero r = rw (second_back s r.0)
ports_back s (suc k) r = refl

pub resource_back : (s : Settings) (n m c : ℕ) → mapped_in (resource_answer (ports_of s n m c)) ≡ ports_of s n m c
unfolding ports_of
resource_back s n m c =
    let f = resource_form s n m c in
    rw f.2 (ports_back s f.0 (record { 0 = f.1 }))
