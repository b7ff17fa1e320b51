-- The resources of two antenna ports: specs/Ports.antt, proved.
-- Assumes nothing.
use Rattle.std.proofs.Common.{Some, None, Ok}
use Prim.Native.Nat.{ℕ, ◌+◌, ◌≤◌, ◌<◌}
use mathlib.Core.Bool.{true, false}
use mathlib.Core.Path.{◌≡◌}
use native.Mathlib.Omega.{arith}
use borrow.Author.Tests.{lt-ltb}
use Rattle.frame.specs.declared.Settings.{Settings}
use Rattle.frame.specs.Settings.{has_second_port}
use Rattle.frame.proofs.Accepted.{answered}
use Rattle.frame.proofs.Ports.{two_have_second, one_has_none}
use Rattle.resource.specs.Calls.{resource_of}
use Rattle.resource.specs.Ports.{second_port, ports_of, SecondPort}
use Rattle.resource.proofs.Counts.{window_resources}
use Rattle.resource.proofs.OneToOne.{call_accepted, resource_range}

-- One port has no second resource.
pub one_port_holds : (s : Settings) (r : ℕ) → has_second_port s ≡ false → second_port s r ≡ None
unfolding second_port
one_port_holds s r one = rw one

-- Two ports have one, above every resource but the last.
pub two_ports_holds : (s : Settings) (r : ℕ) → has_second_port s ≡ true → r < 65535 → second_port s r ≡ Some (record { 0 = r + 1 })
unfolding second_port
two_ports_holds s r two low = rw (two, lt-ltb r 65535 low)

-- By the number of ports.
pub port_above : (s : Settings) (r : ℕ) → s.ports ≡ 2 → r < 65535 → second_port s r ≡ Some (record { 0 = r + 1 })
port_above s r two low = two_ports_holds s r (two_have_second s two) low

pub port_none : (s : Settings) (r : ℕ) → s.ports ≡ 1 → second_port s r ≡ None
port_none s r one = one_port_holds s r (one_has_none s one)

module _ (s : Settings) (n m c : ℕ) where
  -- A resource that the call gives.
  pub call_most : (r : ℕ) → resource_of s n m c ≡ Ok (record { 0 = r }) → r ≤ 3252
  call_most r there =
      let good = call_accepted s n m c (record { 0 = r }) there in
      omega (arith, (resource_range s n good m c r there).1, window_resources s n good, (answered s n good).0.n1)

  pub second_port_holds : SecondPort s n m c
  unfolding ports_of
  second_port_holds =
      record {
        refused = λ k refused. rw refused;
        two = λ e r there. rw (there, port_above s r e (omega (arith, call_most r there)));
        one = λ e r there. rw (there, port_none s r e);
        most = call_most;
      }
