-- What is charged was decoded (specs/Billing.antt), of the engine of this repository and its crediting call.
-- Assumes nothing.
use Rattle.std.proofs.Common.{Result}
use Prim.Native.Nat.{ℕ, zero, suc, ◌+◌, ◌-◌, ◌*◌, ◌%◌, ◌<◌, ◌≤◌}
use mathlib.Core.Bool.{Bool, true, false, cond}
use mathlib.Core.List.{List, [], ◌∷◌}
use mathlib.Core.Logic.{◌⊎◌, inl, inr, ⊎_elim}
use mathlib.Core.Path.{◌≡◌, refl, sym, ap, ◌∙◌}
use native.Mathlib.Decide.{ℕ_discrete, dec_le, dec_lt}
use native.Mathlib.Nat.{add-le-add, mul-le-mul_right}
use native.Mathlib.Omega.{arith}
use lib.Dec.{eqb}
use lib.ListN.{length, take}
use borrow.Author.Tests.{le-leb, lt-leb, le-ltb}
use Rattle.std.proofs.lemmas.Bool.{and_parts}
use Rattle.frame.specs.declared.Settings.{Settings}
use Rattle.frame.specs.Distance.{before}
use Rattle.frame.specs.Order.{member, position_of}
use Rattle.frame.specs.Refusals.{refused_or, number_in}
use Rattle.frame.specs.Settings.{or_else, settings_refusal}
use Rattle.frame.specs.Table.{window_of}
use Rattle.frame.proofs.Accepted.{accepted}
use Rattle.frame.proofs.Causes.{window_accepted}
use Rattle.frame.proofs.Windows.{position_window}
use Rattle.heard.specs.declared.Heard.{Heard}
use Rattle.heard.specs.declared.Heard.TheVariants.{Nothing}
use Rattle.heard.specs.Heard.{heard_refusal}
use Rattle.reply.specs.declared.Answer.{Answer}
use Rattle.station.specs.declared.Reading.{Reading}
use Rattle.confirmation.specs.declared.Send.{Send}
use Rattle.confirmation.specs.Sent.{as_heard}
use Rattle.confirming.specs.declared.SentWindow.{SentWindow}
use Rattle.confirming.specs.Records.{sent_in}
use Rattle.confirming.specs.Refusals.{blocks_sent, sent_refusal, call_refusal}
use Rattle.account.specs.declared.Account.{Account}
use Rattle.account.specs.Account.{account_refusal, open_of, add_refusal, add_of}
use Rattle.account.specs.Credits.{Booked, credited_in, from_new}
use Rattle.account.proofs.Credits.{over_any_list}
use Rattle.account.proofs.Equation.{one_or_none}
use Rattle.account.proofs.Totals.{accounts, past, within, added}
use Rattle.credit.specs.Credit.{own_bit, credited, bad_records, sizes_refusal, prior_refusal, sum_below, octets_at, octets_where, credited_octets, added_of, credit_by, credit_reading, credit_of}
use Rattle.agreement.specs.Confirmation.{reading_at}
use Rattle.agreement.specs.Demand3.{Engine, feedback_engine, fed_at, reading_in, HoldsAfter}
use Rattle.agreement.specs.Run.{heard_in_run, sent_ago, heard_ago, window_at, window_mode, settings_in, Schedule, Brings}
use Rattle.agreement.specs.Window.{in_time, Bundled}
use Rattle.agreement.proofs.Conclusions.{has_window_holds, scheduler_may_conclude}
use Rattle.agreement.proofs.Confirmation.{last_read}
use Rattle.agreement.proofs.Demand3.{demand3}
use Rattle.agreement.proofs.Feeds.{ago_brings}
use Rattle.agreement.proofs.Modes.{schedule_in, window_good}
use Rattle.billing.specs.Billing.{Crediting, Billable, size, credit_at, credited_there, decoded_there, octets_there, off, Bill, answered, decoded_in, BilledOver, Billed}
use Rattle.billing.proofs.Same.{same_told, same_credited, one_in_window, none_refused}

-- More blocks have no fewer octets.
module _ (config n : ℕ) (w : SentWindow) (p q : ℕ → ℕ → Bool) (more : (m block : ℕ) → p m block ≡ true → q m block ≡ true) where
  chosen : (m block x : ℕ) → cond (p m block) x 0 ≤ cond (q m block) x 0
  chosen m block x = go (p m block) refl
    where
      go : (b : Bool) → p m block ≡ b → cond b x 0 ≤ cond (q m block) x 0
      go true e = rw (more m block e) (omega arith)
      go false e = omega arith

  at_most : (m : ℕ) → octets_at config n w p m ≤ octets_at config n w q m
  unfolding octets_at
  at_most m = add-le-add (chosen m 0 _) (chosen m 1 _)

  below_most : (m : ℕ) → sum_below m (octets_at config n w p) ≤ sum_below m (octets_at config n w q)
  unfolding sum_below
  below_most zero = omega arith
  below_most (suc m) = omega (arith, below_most m, at_most m)

  where_most : octets_where config n w p ≤ octets_where config n w q
  unfolding octets_where
  where_most = below_most (length (window_of config n))

-- Where nothing is off, the account is not.
account_fine : {e : Engine} (b : Billable e) (a : Account) → off b a ≡ 0 → account_refusal a ≡ 0
account_fine b a e = go (sizes_refusal (size b) b.w) e
  where
    go : (k : ℕ) → or_else k (account_refusal a) ≡ 0 → account_refusal a ≡ 0
    go zero e = e
    go (suc k) e = absurd (omega arith)

nothing_refused : (s : Settings) (n : ℕ) → heard_refusal s n Nothing ≡ 0
unfolding heard_refusal
nothing_refused s n = refl

-- A reply of a run of demand 3, with the records of its window.
module _ (b : Billable feedback_engine) where
  abbrev set : Settings
  set = b.set

  abbrev pub n : ℕ
  n = b.s % 10

  abbrev pub K : List ℕ
  K = window_at b.set b.s

  -- What was sent k ago, by the schedule and by the records.
  abbrev pub sent : ℕ → Send
  sent = sent_ago b.sent b.s

  abbrev pub recorded : ℕ → Send
  recorded = sent_in K b.w

  -- The settings of the window, which are accepted, and what may be sent is the same in them.
  abbrev pub own : Settings
  own = settings_in b.set b.items b.s

  good : settings_refusal own ≡ 0
  good = window_good b.set b.replied.accepted b.items b.s

  schedule : Schedule own b.sent
  schedule = schedule_in b.set (window_mode b.set b.items b.s) b.sent b.replied.schedule

  holds : HoldsAfter feedback_engine b.set b.sent b.items
  holds = demand3.run b.set b.replied.accepted b.sent b.replied.schedule b.items b.replied.brings

  -- A subframe that was answered with a reply has a window.
  windowed : 0 < length K
  windowed = has_window_holds feedback_engine demand3 b.set b.sent b.items b.s b.r b.replied

  -- The records say at each k of the window what was sent.
  pub same : (k : ℕ) → member k K ≡ true → recorded k ≡ sent k
  same k e =
      let p = position_window set.config n k e in
      b.says (position_of k K) p.0 ∙ ap sent p.1

  -- What was sent k ago is valid there.
  valid : (k : ℕ) → heard_refusal own (before n k) (as_heard (sent k)) ≡ 0
  valid k = go (dec_le k b.s)
    where
      go : Dec (k ≤ b.s) → heard_refusal own (before n k) (as_heard (sent k)) ≡ 0
      go (yes h) =
          let there : (b.s % 10 + 9 * k) % 10 ≡ (b.s - k) % 10 = omega arith in
          rw (le-leb k b.s h, there) (schedule.valid (b.s - k))
      go (no h) = rw (lt-leb k b.s (omega arith)) (nothing_refused own (before n k))

  -- So no truthful record is refused.
  pub none_called : call_refusal own n b.w ≡ 0
  unfolding call_refusal sent_refusal
  none_called =
      rw (
        window_accepted own n good windowed,
        none_refused recorded own n (λ k e. rw (same k e) (valid k)),
        le-ltb 1 (blocks_sent recorded K)
            (one_in_window recorded set.config n
            (λ i j p q f g. schedule.one b.s i j p q (rw (same i p) at f) (rw (same j q) at g))),
      )

  -- The station's reading of the reply is not refused either.
  abbrev H : ℕ → Heard
  H = heard_ago (heard_in_run b.set b.items) b.s

  brought : (k : ℕ) → Brings (sent k) (H k)
  brought k = ago_brings b.sent (heard_in_run b.set b.items) b.replied.brings b.s k

  abbrev pub read : Result Reading ℕ
  read = reading_at feedback_engine b.set b.sent b.items b.s b.r

  abbrev answer : Result Answer ℕ
  answer = (fed_at feedback_engine b.set b.items b.replied.item b.replied.brought).answer

  bundled_read_holds : Bundled own (feedback_engine.resource own n) (reading_in feedback_engine own b.sent b.s) K (in_time sent H K) answer
      → number_in read ≡ 0
  bundled_read_holds window =
      ⊎_elim (λ l. ap number_in l.is_read) (λ l. ap number_in l.is_read)
      (last_read own good b.sent schedule b.s H brought b.r (feedback_engine.resource own n) (reading_in feedback_engine own b.sent b.s) _ window b.replied.answered)

  pub never_refused : number_in read ≡ 0
  never_refused = go (ℕ_discrete own.mode 0) (ℕ_discrete (length K) 1)
    where
      go : Dec (own.mode ≡ 0) → Dec (length K ≡ 1) → number_in read ≡ 0
      go (yes mode) size =
          bundled_read_holds (holds.bundled b.replied.item b.s b.replied.brought b.replied.subframe windowed (inl mode))
      go (no mode) (yes size) =
          bundled_read_holds (holds.bundled b.replied.item b.s b.replied.brought b.replied.subframe windowed (inr size))
      go (no mode) (no size) =
          ap number_in
          ((holds.multiplexed b.replied.item b.s b.replied.brought b.replied.subframe windowed (omega (arith, (accepted own good).mode)) size
          ).1 b.r b.replied.answered).is_read

  -- So the call reads what the station reads, unless a size or the account is off.
  reads : (a : Account) → credit_reading own n b.w b.r.resource.0 b.r.b0 b.r.b1 a ≡ refused_or (off b a) read
  unfolding credit_reading prior_refusal
  reads a = rw (none_called, same_told set.config n recorded sent same)

  -- The octets of what it credits are those of what 02 credits.
  credits : credited_octets set.config n b.w read ≡ octets_there b (credited_there b)
  unfolding credited_octets
  credits = ap (octets_where set.config n b.w) (same_credited set.config n recorded sent same read)

  -- What is answered: the octets are added, or 25.
  accepted_answer : (a : Account) → off b a ≡ 0 → credit_at b credit_of a ≡ added_of a (octets_there b (credited_there b))
  unfolding credit_of credit_by
  accepted_answer a e = rw (reads a, e, never_refused, credits)

  refused_answer : (a : Account) (k : ℕ) → off b a ≡ suc k → credit_at b credit_of a ≡ record { refusal = suc k; octets = 0; account = a }
  unfolding credit_of credit_by
  refused_answer a k e = rw (reads a, e)

  -- Each credited block was decoded.
  decoded_there_holds : (m block : ℕ) → credited_there b m block ≡ true → decoded_there b m block ≡ true
  unfolding credited
  decoded_there_holds m block e =
      scheduler_may_conclude.confirmed_decoded b.set b.sent b.items b.s b.r b.replied m block
      (and_parts _ (own_bit read block) e).0

  no_more : octets_there b (credited_there b) ≤ octets_there b (decoded_there b)
  no_more = where_most set.config n b.w (credited_there b) (decoded_there b) decoded_there_holds

  -- 25 is all that is off.
  off_or_not : (a : Account) → (off b a ≡ 0) ⊎ (off b a ≡ 25)
  unfolding sizes_refusal
  off_or_not a = go (bad_records (take (size b) b.w.at))
    where
      go : (bad : Bool) → (or_else (cond bad 25 0) (account_refusal a) ≡ 0) ⊎ (or_else (cond bad 25 0) (account_refusal a) ≡ 25)
      go true = inr refl
      go false = one_or_none a

  -- The three answers, and what is said of each.
  abbrev owed : ℕ
  owed = octets_there b (credited_there b)

  bill_off : (a : Account) → off b a ≡ 25 → Bill b a (record { refusal = 25; octets = 0; account = a })
  bill_off a e =
      record {
        twenty_five = (λ _ none. omega arith, λ _. refl);
        twenty_six = (λ six. absurd (omega arith), λ none. absurd (omega (arith, none.0)));
        no_other = inr (inl refl);
        octets = λ zero. absurd (omega arith);
        decoded = decoded_there_holds;
        most = omega arith;
        grown = λ zero. absurd (omega arith);
        left = λ _. (refl, refl);
      }

  bill_over : (a : Account) → off b a ≡ 0 → 1000000000000 < a.octets + owed → Bill b a (record { refusal = 26; octets = 0; account = a })
  bill_over a e over =
      record {
        twenty_five = (λ five. absurd (omega arith), λ some. absurd (some e));
        twenty_six = (λ _. (e, over), λ _. refl);
        no_other = inr (inr refl);
        octets = λ zero. absurd (omega arith);
        decoded = decoded_there_holds;
        most = omega arith;
        grown = λ zero. absurd (omega arith);
        left = λ _. (refl, refl);
      }

  bill_added : (a : Account) → off b a ≡ 0 → a.octets + owed ≤ 1000000000000 → (add_of a owed).refusal ≡ 0
      → Bill b a (record { refusal = 0; octets = owed; account = (add_of a owed).account })
  bill_added a e fits none =
      record {
        twenty_five = (λ five. absurd (omega arith), λ some. absurd (some e));
        twenty_six = (λ six. absurd (omega arith), λ over. absurd (omega (arith, over.1)));
        no_other = inl refl;
        octets = λ _. refl;
        decoded = decoded_there_holds;
        most = no_more;
        grown = λ _. accounts.grown a owed none;
        left = λ refused. absurd (refused refl);
      }

  bill : (a : Account) → Bill b a (credit_at b credit_of a)
  unfolding add_of
  bill a = go (off_or_not a) (dec_lt 1000000000000 (a.octets + owed))
    where
      go : (off b a ≡ 0) ⊎ (off b a ≡ 25) → Dec (1000000000000 < a.octets + owed) → Bill b a (credit_at b credit_of a)
      go (inr e) total = rw (refused_answer a 24 e) (bill_off a e)
      go (inl e) (yes over) =
          rw (accepted_answer a e, past a owed (account_fine b a e) over) (bill_over a e over)
      go (inl e) (no fits) =
          let zero = within a owed (account_fine b a e) (omega arith) in
          rw (accepted_answer a e, zero) (rw zero at (bill_added a e (omega arith) zero))

-- Over any list: of every call of which this is said of each.
module _ {e : Engine} (credit : Crediting) (each : (b : Billable e) (a : Account) → Bill b a (credit_at b credit a)) where
  -- One that is not refused adds its octets to an account that was not off.
  booked : (b : Billable e) (a : Account) → Booked a (answered credit b a)
  unfolding add_of
  booked b a = record { leaves = λ h. ((each b a).left h).1; adds = λ h. (fits h, made h) }
    where
      fine : (credit_at b credit a).refusal ≡ 0 → Dec (off b a ≡ 0) → account_refusal a ≡ 0
      fine h (yes none) = account_fine b a none
      fine h (no some) = absurd (omega (arith, h, (each b a).twenty_five.1 some))

      fits : (credit_at b credit a).refusal ≡ 0 → add_refusal a (credit_at b credit a).octets ≡ 0
      fits h =
          let g = (each b a).grown h in
          within a (credit_at b credit a).octets (fine h (ℕ_discrete (off b a) 0)) (omega (arith, g.octets, g.most))

      made : (credit_at b credit a).refusal ≡ 0 → (credit_at b credit a).account ≡ (add_of a (credit_at b credit a).octets).account
      made h =
          let g = (each b a).grown h in
          accounts.only (credit_at b credit a).account g.accepted ∙ rw (g.price, g.octets) (sym (added a (credit_at b credit a).octets (fits h)))

  credited_most : (bs : List (Billable e)) (a : Account) → credited_in (answered credit) a bs ≤ decoded_in bs
  credited_most [] a = omega arith
  credited_most (b ∷ bs) a = add-le-add (one (eqb (credit_at b credit a).refusal 0)) (credited_most bs (credit_at b credit a).account)
    where
      one : (t : Bool) → cond t (credit_at b credit a).octets 0 ≤ octets_there b (decoded_there b)
      one true = (each b a).most
      one false = omega arith

  over_list : (price : ℕ) → price ≤ 1000000 → (bs : List (Billable e)) → BilledOver e credit price bs
  over_list price h bs =
      let all = over_any_list (Billable e) (answered credit) booked price h bs in
      let most : (from_new (answered credit) price bs).octets ≤ decoded_in bs = rw all.octets (credited_most bs (open_of price).account) in
      record { charged = all; octets = most; coins = omega (arith, all.equation, mul-le-mul_right price most) }

-- The theorem, of the engine of this repository and its crediting call.
pub billed : Billed feedback_engine credit_of
billed = record { each = bill; list = over_list credit_of bill }
