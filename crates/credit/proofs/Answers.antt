-- What one call answers is what the words of specs/Exactly.antt say: refusals in their order, and the credit.
-- Assumes nothing.
use Rattle.std.proofs.Common.{Result}
use Prim.Native.Nat.{ℕ, zero, suc, ◌+◌, ◌<◌, ◌≤◌}
use mathlib.Core.Bool.{Bool, true, false, cond}
use mathlib.Core.Logic.{◌⊎◌, inl, inr, ◌↔◌, ⊎_elim}
use mathlib.Core.Path.{◌≡◌, refl, sym, ap, ◌∙◌}
use native.Mathlib.Omega.{arith}
use lib.ListN.{length, take}
use borrow.Author.Tests.{ne_eqb}
use Rattle.std.proofs.Common.{Result}
use Rattle.frame.specs.Refusals.{number_in}
use Rattle.frame.specs.declared.Settings.{Settings}
use Rattle.frame.specs.Settings.{or_else}
use Rattle.frame.specs.Table.{window_of}
use Rattle.station.specs.declared.Reading.{Reading}
use Rattle.confirming.specs.declared.SentWindow.{SentWindow}
use Rattle.confirming.specs.Exactly.{reply_read}
use Rattle.confirming.specs.Refusals.{call_refusal}
use Rattle.confirming.proofs.Answers.{blocks_confirmed}
use Rattle.account.specs.declared.Account.{Account}
use Rattle.account.specs.Account.{account_refusal, add_refusal, add_of}
use Rattle.account.specs.Laws.{InOrder, Grown}
use Rattle.account.proofs.Equation.{one_or_none}
use Rattle.account.proofs.Totals.{accounts, within}
use Rattle.account.specs.Credits.{Credited}
use Rattle.credit.specs.Credit.{bad_records, sizes_refusal, prior_refusal, credited_octets, added_of, refused_or, credit_by, credit_reading, credit_of}
use Rattle.credit.specs.Exactly.{SizeOut, CreditAnswers}
use Rattle.credit.proofs.OutOfRange.{size_says, says_size}
use Rattle.credit.proofs.Same.{credit_same}

module _ (s : Settings) (n : ℕ) (w : SentWindow) (r b0 b1 : ℕ) (a : Account) where
  abbrev M : ℕ
  M = length (window_of s.config n)

  abbrev read : Result Reading ℕ
  read = reply_read s n w r b0 b1

  abbrev answer : Credited
  answer = credit_of s n w r b0 b1 a

  prior_refused : (k : ℕ) → prior_refusal s n w a ≡ suc k → answer ≡ record { refusal = suc k; octets = 0; account = a }
  unfolding credit_of credit_reading credit_by
  prior_refused k e = rw e

  prior_free : prior_refusal s n w a ≡ 0 → answer ≡ refused_or (number_in read) a (added_of a (credited_octets s.config n w read))
  unfolding credit_of credit_reading credit_by
  prior_free e = rw e

  sent_first : (call_refusal s n w ≡ 0 → ⊥) → answer.refusal ≡ call_refusal s n w
  unfolding prior_refusal
  sent_first not = go (call_refusal s n w) refl
    where
      go : (k : ℕ) → call_refusal s n w ≡ k → answer.refusal ≡ k
      go zero e = absurd (not e)
      go (suc k) e = ap (λ (c : Credited). c.refusal) (prior_refused k (rw e))

  -- 25 in one of its two places.
  charged_25 : call_refusal s n w ≡ 0 → or_else (sizes_refusal M w) (account_refusal a) ≡ 25 → answer.refusal ≡ 25
  unfolding prior_refusal
  charged_25 none e = ap (λ (c : Credited). c.refusal) (prior_refused 24 (rw (none, e)))

  free : call_refusal s n w ≡ 0 → bad_records (take M w.at) ≡ false → account_refusal a ≡ 0 → prior_refusal s n w a ≡ 0
  unfolding prior_refusal sizes_refusal
  free none sizes account = rw (none, sizes, account)

  sizes_25 : SizeOut M w → or_else (sizes_refusal M w) (account_refusal a) ≡ 25
  unfolding sizes_refusal
  sizes_25 out = rw (says_size M w out)

  account_25 : account_refusal a ≡ 25 → or_else (sizes_refusal M w) (account_refusal a) ≡ 25
  unfolding sizes_refusal
  account_25 e = rw e (go (bad_records (take M w.at)))
    where
      go : (b : Bool) → or_else (cond b 25 0) 25 ≡ 25
      go true = refl
      go false = refl

  in_range : (SizeOut M w → ⊥) → bad_records (take M w.at) ≡ false
  in_range not = go (bad_records (take M w.at)) refl
    where
      go : (b : Bool) → bad_records (take M w.at) ≡ b → bad_records (take M w.at) ≡ false
      go true e = absurd (not (size_says M w e))
      go false e = e

  -- The reading of a reply is not refused, or by 13 or 14.
  left : call_refusal s n w ≡ 0 → (number_in read ≡ 0) ⊎ ((number_in read ≡ 13) ⊎ (number_in read ≡ 14))
  left none =
      let b = blocks_confirmed s n w r b0 b1 in
      rw (b.reading none) at (b.left none)

  refused_reading : prior_refusal s n w a ≡ 0 → (k : ℕ) → number_in read ≡ suc k → answer.refusal ≡ suc k
  refused_reading e k is = rw (prior_free e, is)

  added_answer : prior_refusal s n w a ≡ 0 → number_in read ≡ 0 → answer ≡ added_of a (credited_octets s.config n w read)
  added_answer e is = prior_free e ∙ rw is

  not_25 : call_refusal s n w ≡ 0 → prior_refusal s n w a ≡ 0 → account_refusal a ≡ 0 → answer.refusal ≡ 25 → ⊥
  not_25 none e account is =
      ⊎_elim
      (λ zero. accounts.never25 a (credited_octets s.config n w read) account (sym (ap (λ (c : Credited). c.refusal) (added_answer e zero)) ∙ is))
      (⊎_elim (λ p. omega (arith, refused_reading e 12 p)) (λ p. omega (arith, refused_reading e 13 p)))
      (left none)

  charge : call_refusal s n w ≡ 0 → (answer.refusal ≡ 25) ↔ (SizeOut M w ⊎ (InOrder a → ⊥))
  charge none = (λ is. go is (bad_records (take M w.at)) refl, ⊎_elim (λ out. charged_25 none (sizes_25 out)) (λ off. charged_25 none (account_25 ((accounts.refused a).1 off))))
    where
      go : answer.refusal ≡ 25 → (b : Bool) → bad_records (take M w.at) ≡ b → SizeOut M w ⊎ (InOrder a → ⊥)
      go is true e = inl (size_says M w e)
      go is false e =
          ⊎_elim (λ account. absurd (not_25 none (free none e account) account is)) (λ account. inr ((accounts.refused a).0 account)) (one_or_none a)

  accepted : call_refusal s n w ≡ 0 → (SizeOut M w → ⊥) → InOrder a → prior_refusal s n w a ≡ 0
  accepted none sizes account = free none (in_range sizes) ((accounts.accepted a).1 account)

  reply : call_refusal s n w ≡ 0 → (SizeOut M w → ⊥) → InOrder a → (number_in read ≡ 0 → ⊥) → answer.refusal ≡ number_in read
  reply none sizes account not = go (number_in read) refl
    where
      go : (k : ℕ) → number_in read ≡ k → answer.refusal ≡ k
      go zero e = absurd (not e)
      go (suc k) e = refused_reading (accepted none sizes account) k e

  total : call_refusal s n w ≡ 0 → (SizeOut M w → ⊥) → InOrder a → number_in read ≡ 0
      → let octets : ℕ = credited_octets s.config n w read in
      ((answer.refusal ≡ 26) ↔ (1000000000000 < a.octets + octets))
      × (a.octets + octets ≤ 1000000000000 → (answer.refusal ≡ 0) × (answer.octets ≡ octets) × Grown a octets answer.account)
  unfolding add_of
  total none sizes account is =
      let octets : ℕ = credited_octets s.config n w read in
      let order : account_refusal a ≡ 0 = (accounts.accepted a).1 account in
      let added : answer ≡ added_of a octets = added_answer (accepted none sizes account) is in (
        rw added (accounts.over a octets order),
        λ few.
            let free : add_refusal a octets ≡ 0 = within a octets order few in
            rw added (free, rw free, accounts.grown a octets free),
      )

  leaves : (answer.refusal ≡ 0 → ⊥) → (answer.octets ≡ 0) × (answer.account ≡ a)
  unfolding credit_of credit_by
  leaves not = go (number_in (credit_reading s n w r b0 b1 a)) not
    where
      added : (octets : ℕ) → ((add_of a octets).refusal ≡ 0 → ⊥) → ((added_of a octets).octets ≡ 0) × ((added_of a octets).account ≡ a)
      added octets not = (rw (ne_eqb (add_of a octets).refusal 0 not), accounts.nothing a octets not)

      go : (k : ℕ) → ((refused_or k a (added_of a (credited_octets s.config n w (credit_reading s n w r b0 b1 a)))).refusal ≡ 0 → ⊥)
          → ((refused_or k a (added_of a (credited_octets s.config n w (credit_reading s n w r b0 b1 a)))).octets ≡ 0)
          × ((refused_or k a (added_of a (credited_octets s.config n w (credit_reading s n w r b0 b1 a)))).account ≡ a)
      go zero not = added (credited_octets s.config n w (credit_reading s n w r b0 b1 a)) not
      go (suc k) not = (refl, refl)

  pub credit_answers : CreditAnswers s n w r b0 b1 a
  credit_answers =
      record {
        sent = sent_first;
        charge = charge;
        reply = reply;
        total = total;
        leaves = leaves;
        same = λ v says. credit_same s n w v says r b0 b1 a;
      }
