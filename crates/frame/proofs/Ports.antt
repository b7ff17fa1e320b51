-- A handset has a second antenna port exactly if it has two.
-- Assumes nothing.
use mathlib.Core.Bool.{true, false}
use mathlib.Core.Path.{◌≡◌}
use borrow.Author.Tests.{eqb-true, eq-eqb}
use Rattle.frame.specs.declared.Settings.{Settings}
use Rattle.frame.specs.Settings.{has_second_port}

module _ (s : Settings) where
  pub second_of_two : has_second_port s ≡ true → s.ports ≡ 2
  unfolding has_second_port
  second_of_two e = eqb-true s.ports 2 e

  pub two_have_second : s.ports ≡ 2 → has_second_port s ≡ true
  unfolding has_second_port
  two_have_second e = eq-eqb s.ports 2 e

  pub one_has_none : s.ports ≡ 1 → has_second_port s ≡ false
  unfolding has_second_port
  one_has_none e = rw e
