-- What document 02, U10, says of one account: when 25 and 26 are met, and what a call that neither refuses leaves.
-- Assumes nothing.
use Rattle.std.specs.Prelude.{ℕ, ◌+◌, ◌*◌, ◌<◌, ◌≤◌, ◌⊎◌, ◌↔◌, ◌≡◌}
use Rattle.account.specs.declared.Account.{Account}
use Rattle.account.specs.Account.{account_refusal, open_of, account_at, add_of}

-- "octets × price = 1,000,000 × charged + carry, the carry below 1,000,000", at a price of "0 to 1,000,000".
pub record InOrder (a : Account) : Type 0 where
  pub price : a.price ≤ 1000000
  pub carry : a.carry < 1000000
  pub equation : a.octets * a.price ≡ 1000000 * a.charged + a.carry

-- `b` is the account `a` with `more` octets, at the same price.
pub record Grown (a : Account) (more : ℕ) (b : Account) : Type 0 where
  pub accepted : account_refusal b ≡ 0
  pub octets : b.octets ≡ a.octets + more
  pub most : b.octets ≤ 1000000000000
  pub price : b.price ≡ a.price

pub record Accounts : Type 0 where
  -- 25 is met exactly by an account that is not in order, whatever its numbers
  pub accepted : (a : Account) → (account_refusal a ≡ 0) ↔ InOrder a
  pub refused : (a : Account) → (account_refusal a ≡ 25) ↔ (InOrder a → ⊥)
  -- one in order has no other charge and carry at its octets and price; and with any octets there is one
  pub only : (a : Account) → account_refusal a ≡ 0 → a ≡ account_at a.price a.octets
  pub some : (price octets : ℕ) → price ≤ 1000000 → account_refusal (account_at price octets) ≡ 0
  -- a new account; beside a refusal stands one that is refused too
  pub opened : (price : ℕ) → price ≤ 1000000 → ((open_of price).refusal ≡ 0) × (account_refusal (open_of price).account ≡ 0)
  pub unopened : (price : ℕ) → 1000000 < price → ((open_of price).refusal ≡ 25) × (account_refusal (open_of price).account ≡ 25)
  -- 25 comes first, and is not met by an account in order
  pub first : (a : Account) (octets : ℕ) → ((add_of a octets).refusal ≡ 25) ↔ (account_refusal a ≡ 25)
  pub never25 : (a : Account) (octets : ℕ) → account_refusal a ≡ 0 → (add_of a octets).refusal ≡ 25 → ⊥
  -- 26 is met exactly where the total would pass 1,000,000,000,000 octets
  pub over : (a : Account) (octets : ℕ) → account_refusal a ≡ 0 → ((add_of a octets).refusal ≡ 26) ↔ (1000000000000 < a.octets + octets)
  -- no other refusal is met, a refusal credits nothing, and else the octets are added
  pub only_these : (a : Account) (octets : ℕ) → ((add_of a octets).refusal ≡ 0 → ⊥) → ((add_of a octets).refusal ≡ 25) ⊎ ((add_of a octets).refusal ≡ 26)
  pub nothing : (a : Account) (octets : ℕ) → ((add_of a octets).refusal ≡ 0 → ⊥) → (add_of a octets).account ≡ a
  pub grown : (a : Account) (octets : ℕ) → (add_of a octets).refusal ≡ 0 → Grown a octets (add_of a octets).account
