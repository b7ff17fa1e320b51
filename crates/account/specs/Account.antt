-- The account and its refusals: document 02, U10.
-- Assumes nothing.
use Rattle.std.specs.Prelude.{ℕ, ◌+◌, ◌*◌, ◌/◌, ◌%◌, Bool, cond, not, ◌||◌, ltb, leb, eqb}
use Rattle.frame.specs.Settings.{or_else}
use Rattle.account.specs.declared.Account.{Account}

-- "octets × price = 1,000,000 × charged + carry".
unfoldable pub balanced : Account → Bool
balanced a = eqb (a.octets * a.price) (1000000 * a.charged + a.carry)

-- "a price, out of range, or an account off that equation or its carry's bound". The price is "0 to 1,000,000", "the carry below
-- 1,000,000".
unfoldable pub out_of_order : Account → Bool
out_of_order a = ltb 1000000 a.price || leb 1000000 a.carry || not (balanced a)

-- 25 of an account.
unfoldable pub account_refusal : Account → ℕ
account_refusal a = cond (out_of_order a) 25 0

-- What opening an account and adding to it give: the refusal, 0 for none, and the account.
pub record AccountAnswer : Type 0 where
  pub refusal : ℕ
  pub account : Account

-- A new account has no octets, nothing charged and nothing left over. 25 is "a price, out of range"; the account beside it has that
-- price, so that 25 is met by it too.
unfoldable pub open_of : ℕ → AccountAnswer
open_of price =
    record { refusal = cond (ltb 1000000 price) 25 0; account = record { octets = 0; charged = 0; price = price; carry = 0 } }

-- The account with these octets at this price: as many whole coins as octets × price / 1,000,000 has, and the rest as the carry.
unfoldable pub account_at : ℕ → ℕ → Account
account_at price octets =
    record { octets = octets; charged = octets * price / 1000000; price = price; carry = octets * price % 1000000 }

-- 26, after 25: "a total that would pass 1,000,000,000,000 octets".
unfoldable pub add_refusal : Account → ℕ → ℕ
add_refusal a octets = or_else (account_refusal a) (cond (ltb 1000000000000 (a.octets + octets)) 26 0)

-- Octets added to an account; "with nothing credited" where there is a refusal.
unfoldable pub add_of : Account → ℕ → AccountAnswer
add_of a octets =
    record {
      refusal = add_refusal a octets;
      account = cond (eqb (add_refusal a octets) 0) (account_at a.price (a.octets + octets)) a;
    }
