-- The credit of a call: what is refused before the reply is read, the reading, and the octets added to the account.
-- Assumes nothing.
use Rattle.std.proofs.Common.{Result, Ok, Err, Option, IsErrAnd}
use Prim.Native.Nat.{ℕ, zero, suc}
use mathlib.Core.List.{List}
use mathlib.Core.Path.{◌≡◌, refl, sym, ◌∙◌}
use lib.Dec.{eqb-suc-zero}
use lib.ListN.{length}
use Rattle.std.proofs.lemmas.Result.{err_from_is_err_and}
use Rattle.frame.specs.declared.Settings.{Settings}
use Rattle.frame.specs.declared.refusal.Refusal.{Refusal}
use Rattle.frame.specs.Refusals.{number_of, refusal_in, numbered, unless_refused, number_in}
use Rattle.frame.specs.Settings.{or_else}
use Rattle.frame.specs.Table.{window_of}
use Rattle.frame.proofs.Refused.{from_one}
use Rattle.station.specs.declared.Reading.{Reading}
use Rattle.station.specs.Readings.{read_of}
use Rattle.confirmation.specs.Sent.{told_of}
use Rattle.confirming.specs.declared.SentWindow.{SentWindow}
use Rattle.confirming.specs.Blocks.{checked_of}
use Rattle.confirming.specs.Records.{sent_in}
use Rattle.confirming.specs.Refusals.{call_refusal}
use Rattle.account.specs.declared.Account.{Account}
use Rattle.account.specs.Account.{account_refusal, add_of}
use Rattle.account.specs.Credits.{Credited}
use Rattle.credit.specs.Credit.{credited_as, sizes_refusal, prior_refusal, credited_octets, added_of, credit_by, credit_reading, credit_of}

-- What is answered beside a refusal.
abbrev refused : Refusal → Account → Credited
refused e a = credited_as (Err e) a

-- The exit of a `?` answers its refusal.
pub refused_as : (x : Result ℕ Refusal) (e : Refusal) (a : Account) (c : Credited) → IsErrAnd x (λ y. y ≡ e) → c ≡ refused e a → credited_as x a ≡ c
refused_as x e a c is same = let p = err_from_is_err_and x is in rw (p.1, p.2) (sym same)

first_met : (e : Refusal) (next : ℕ) → or_else (number_of e) next ≡ number_of e
first_met e next = let p = from_one e in rw p.1

met : {T : Type 0} (k j : ℕ) (x : T) → unless_refused k x ≡ Err j → k ≡ j
met zero j x e = absurd (cc)
met (suc k) j x e = cc

unmet : {T : Type 0} (k : ℕ) (x y : T) → unless_refused k x ≡ Ok y → (k ≡ 0) × (x ≡ y)
unmet zero x y e = (refl, cc)
unmet (suc k) x y e = absurd (cc)

module _ (s : Settings) (n : ℕ) (w : SentWindow) (r b0 b1 : ℕ) (a : Account) where
  abbrev K : List ℕ
  K = window_of s.config n

  abbrev answer : Credited
  answer = credit_of s n w r b0 b1 a

  prior_refused : (e : Refusal) → prior_refusal s n w a ≡ number_of e → answer ≡ refused e a
  unfolding credit_of credit_reading credit_by
  prior_refused e is = let p = from_one e in rw (is, p.1)

  prior_free : prior_refusal s n w a ≡ 0 → answer ≡ credit_by s.config n w (read_of s n (told_of K (sent_in K w)) r b0 b1) a
  unfolding credit_of credit_reading
  prior_free is = rw is

  -- What was sent, as the code checks it.
  module _ (asked : Result (Option ℕ) Refusal) (checked : numbered asked ≡ checked_of s n w) where
    pub sent_refused : (e : Refusal) → asked ≡ Err e → answer ≡ refused e a
    unfolding prior_refusal checked_of
    sent_refused e is =
        let first : call_refusal s n w ≡ number_of e = met _ _ (told_of K (sent_in K w)) (sym checked ∙ rw is) in
        prior_refused e (rw first (first_met e _))

    -- The sizes, the price and the account.
    module _ (told : Option ℕ) (sent : asked ≡ Ok told) {T : Type 0} (charge : Result T Refusal)
        (charged : refusal_in charge ≡ or_else (sizes_refusal (length K) w) (account_refusal a)) where
      none : (call_refusal s n w ≡ 0) × (told_of K (sent_in K w) ≡ told)
      unfolding checked_of
      none = unmet _ (told_of K (sent_in K w)) told (sym checked ∙ rw sent)

      pub charge_refused : (e : Refusal) → charge ≡ Err e → answer ≡ refused e a
      unfolding prior_refusal
      charge_refused e is = prior_refused e (rw (none.0, ← charged, is))

      -- The reading, and the octets that it credits.
      module _ (x : T) (free : charge ≡ Ok x) (reading : Result Reading Refusal) (reads : numbered reading ≡ read_of s n told r b0 b1)
          (counted : Result ℕ Refusal) (counts : numbered counted ≡ unless_refused (number_in (numbered reading)) (credited_octets s.config n w (numbered reading))) where
        read_answer : answer ≡ credit_by s.config n w (numbered reading) a
        unfolding prior_refusal
        read_answer = prior_free (rw (none.0, ← charged, free)) ∙ rw (none.1, reads)

        pub reading_refused : (e : Refusal) → counted ≡ Err e → answer ≡ refused e a
        unfolding credit_by
        reading_refused e is =
            let p = from_one e in
            let first : number_in (numbered reading) ≡ number_of e = met _ _ (credited_octets s.config n w (numbered reading)) (sym counts ∙ rw is) in
            read_answer ∙ rw (first, p.1)

        -- The octets, added to the account.
        module _ (octets : ℕ) (is : counted ≡ Ok octets) {U : Type 0} (sum : Result U Refusal) (added : refusal_in sum ≡ (add_of a octets).refusal) where
          added_answer : answer ≡ added_of a octets
          unfolding credit_by
          added_answer =
              let free = unmet _ (credited_octets s.config n w (numbered reading)) octets (sym counts ∙ rw is) in read_answer ∙ rw (free.0, free.1)

          pub sum_refused : (e : Refusal) → sum ≡ Err e → (b : Account) → b ≡ (add_of a octets).account → answer ≡ refused e b
          sum_refused e over b after =
              let p = from_one e in
              let is : (add_of a octets).refusal ≡ number_of e = sym added ∙ rw over in
              added_answer ∙ rw (is, p.1, eqb-suc-zero p.0, after)

          pub sum_credited : (x : U) → sum ≡ Ok x → (b : Account) → b ≡ (add_of a octets).account → credited_as (Ok octets) b ≡ answer
          sum_credited x given b after =
              let is : (add_of a octets).refusal ≡ 0 = sym added ∙ rw given in
              sym (added_answer ∙ rw (is, after))
