-- The resources of two antenna ports: document 02, U9, "Source document 000 gives a handset with two ports a second resource, one above
-- the first." Document 000, section 10.1.3.1: the first port is p0, the second, one above it, is p1. One to one, the inverse and the
-- reading mean the first port: they are over `resource_of` (Calls.antt) as they were.
-- Assumes nothing.
use Rattle.std.specs.Prelude.{Option, Some, None, ℕ, ◌+◌, ◌≤◌, cond, ◌&&◌, ◌≡◌, ltb, Result, Ok, Err}
use Rattle.frame.specs.declared.Settings.{Settings}
use Rattle.frame.specs.Settings.{has_second_port}
use Rattle.resource.specs.declared.Resource.{Resource}
use Rattle.resource.specs.declared.ports.OnPorts.{OnPorts}
use Rattle.resource.specs.Calls.{resource_of}

-- The second port's resource, where the first port's is r: one above it; none where there is one port. (65535 is the last number that
-- there is, and has none above it. No resource of the call is near it: SecondPort.)
unfoldable pub second_port : Settings → ℕ → Option Resource
second_port s r = cond (has_second_port s && ltb r 65535) (Some (record { 0 = r + 1 })) None

-- The answer of the resource call with the second port's resource beside the first's.
abbrev pub on_ports : Settings → Result Resource ℕ → Result OnPorts ℕ
on_ports s (Ok r) = Ok (record { first = r; second = second_port s r.0 })
on_ports s (Err k) = Err k

-- "the resource call and replies carry both": its refusals are those of the first port's.
unfoldable pub ports_of : Settings → ℕ → ℕ → ℕ → Result OnPorts ℕ
ports_of s n m c = on_ports s (resource_of s n m c)

-- What the call answers, port by port.
pub record SecondPort (s : Settings) (n m c : ℕ) : Type 0 where
  -- it refuses as the first port's does
  pub refused : (k : ℕ) → resource_of s n m c ≡ Err k → ports_of s n m c ≡ Err k
  -- with two ports the second one's is the next
  pub two : s.ports ≡ 2 → (r : ℕ) → resource_of s n m c ≡ Ok (record { 0 = r }) → ports_of s n m c ≡ Ok (record { first = record { 0 = r }; second = Some (record { 0 = r + 1 }) })
  -- with one there is none
  pub one : s.ports ≡ 1 → (r : ℕ) → resource_of s n m c ≡ Ok (record { 0 = r }) → ports_of s n m c ≡ Ok (record { first = record { 0 = r }; second = None })
  -- the first port's is at most 3,252, and so the second's at most 3,253
  pub most : (r : ℕ) → resource_of s n m c ≡ Ok (record { 0 = r }) → r ≤ 3252
