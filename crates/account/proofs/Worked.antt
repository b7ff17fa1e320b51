-- Accounts on numbers, and the law over a list where the calls are plain additions.
-- Assumes nothing.
use Prim.Native.Nat.{ℕ}
use mathlib.Core.List.{List, [], ◌∷◌}
use mathlib.Core.Path.{◌≡◌, refl}
use lib.Dec.{lit≤}
use Rattle.account.specs.declared.Account.{Account}
use Rattle.account.specs.Account.{balanced, out_of_order, account_refusal, open_of, account_at, add_refusal, add_of}
use Rattle.account.specs.Credits.{Credited, Booked, after, credited_in, Charged}
use Rattle.account.proofs.Credits.{added_booked, over_any_list}

-- A call that asks for octets to be added, refused or not.
abbrev pub adding : ℕ → Account → Credited
adding octets a = record { refusal = (add_of a octets).refusal; octets = octets; account = (add_of a octets).account }

pub adding_booked : (octets : ℕ) (a : Account) → Booked a (adding octets a)
adding_booked octets a = added_booked a octets (adding octets a) refl refl λ _. refl

abbrev pub account_of : ℕ → ℕ → ℕ → ℕ → Account
account_of octets charged price carry = record { octets = octets; charged = charged; price = price; carry = carry }

pub record OnNumbers : Type 0 where
  -- the price's bound, the carry's, with the equation kept, and the equation
  pub prices : (account_refusal (account_of 0 0 1000000 0) ≡ 0) × (account_refusal (account_of 0 0 1000001 0) ≡ 25)
  pub carries : (account_refusal (account_of 8 2 300000 400000) ≡ 0) × (account_refusal (account_of 8 1 300000 1400000) ≡ 25)
  pub equations : (account_refusal (account_of 8 2 300000 400001) ≡ 25) × (account_refusal (account_of 8 3 300000 400000) ≡ 25)
  -- the most octets that 64 bits hold, and 2 ^ 63 octets at price 2, which cost nothing only in 64 bits
  pub wide : (account_refusal (account_of 18446744073709551615 18446744073709551615 1000000 0) ≡ 0)
      × (account_refusal (account_of 9223372036854775808 0 2 0) ≡ 25)
  -- 1,000,000,000,000 octets are not passed by as many; an account beyond them is refused even for no octets, and 25 comes first
  pub bound : (add_of (account_at 7 999999999999) 1 ≡ record { refusal = 0; account = account_of 1000000000000 7000000 7 0 })
      × (add_of (account_at 7 999999999999) 2 ≡ record { refusal = 26; account = account_of 999999999999 6999999 7 999993 })
  pub beyond : ((add_of (account_at 0 1000000000001) 0).refusal ≡ 26) × ((add_of (account_of 1000000000001 1 0 0) 0).refusal ≡ 25)

pub on_numbers : OnNumbers
unfolding balanced out_of_order account_refusal account_at add_refusal add_of
on_numbers =
    record {
      prices = (refl, refl);
      carries = (refl, refl);
      equations = (refl, refl);
      wide = (refl, refl);
      bound = (refl, refl);
      beyond = (refl, refl);
    }

-- 3 octets, then 1,000,000,000,000, which are refused, then 5.
abbrev pub three : List ℕ
three = 3 ∷ 1000000000000 ∷ 5 ∷ []

-- At 300,000 smallest coins per million octets the 8 octets credited cost 2 and 400,000 millionths.
pub record OnAList : Type 0 where
  pub new : open_of 300000 ≡ record { refusal = 0; account = account_of 0 0 300000 0 }
  pub refused : add_of (account_of 3 0 300000 900000) 1000000000000 ≡ record { refusal = 26; account = account_of 3 0 300000 900000 }
  pub end : after adding (open_of 300000).account three ≡ account_of 8 2 300000 400000
  pub credited : credited_in adding (open_of 300000).account three ≡ 8
  -- the law, on this list
  pub law : Charged adding 300000 three

pub on_a_list : OnAList
unfolding balanced out_of_order account_refusal open_of account_at add_refusal add_of
on_a_list =
    record {
      new = refl;
      refused = refl;
      end = refl;
      credited = refl;
      law = over_any_list ℕ adding adding_booked 300000 (lit≤ tt) three;
    }
