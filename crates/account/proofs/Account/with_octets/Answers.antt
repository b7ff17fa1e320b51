-- `account::Account::with_octets` meets its contract: of the octets in whole millions and a rest, quotient and remainder of the whole
-- product are those that were put together. Assumes nothing.
use native.Mathlib.Omega.{arith}
use lib.Dec.{lit<}
use Rattle.account.specs.Account.{account_at}
use Rattle.account.proofs.Products.{whole, rest, part_most, whole_most}
use Rattle.account.proofs.Account.with_octets.Goals as goal

pub overflow_mul-part : goal.overflow_mul-part
overflow_mul-part c = record { fits = omega (arith, part_most 1000000 (lit< tt) c.args.octets c.from-price.result (omega arith)) }

pub overflow_mul-result : goal.overflow_mul-result
overflow_mul-result c = record { fits = omega (arith, whole_most 1000000 (lit< tt) c.args.octets c.from-price.result (omega arith)) }

pub overflow_add-result : goal.overflow_add-result
overflow_add-result c = record { fits = omega (arith, whole_most 1000000 (lit< tt) c.args.octets c.from-price.result (omega arith)) }

pub returns : goal.returns
unfolding account_at
returns c =
    rw (c.from-price.ensures, whole 1000000 (lit< tt) c.args.octets c.args.self.now.price, rest 1000000 (lit< tt) c.args.octets c.args.self.now.price)
