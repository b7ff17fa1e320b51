-- Bills on numbers: replies of the worked runs of the crate `engines`, with records of what was sent in their windows. The theorem is
-- about something: each has its octets, above 0 where a block is credited. The sizes are of Table 7.1.7.2.1-1: with I_TBS 9 and N_PRB 10
-- a block has 193 octets, in a special subframe, whose column is 7, 137; with N_PRB 1 the octets of I_TBS 0, 1, 2, .. are 2, 3, 4, 5, 7,
-- 9.
-- Assumes nothing.
use Rattle.std.proofs.Common.{None, Ok}
use Prim.Native.Nat.{ℕ}
use mathlib.Core.List.{List, [], ◌∷◌, map}
use mathlib.Core.Path.{◌≡◌, refl, sym, ap, ◌∙◌}
use native.Mathlib.Omega.{arith}
use lib.ListN.{length, get_or, take, length-map}
use Rattle.frame.specs.declared.Settings.{Settings}
use Rattle.frame.proofs.Lists.{entry}
use Rattle.heard.specs.declared.Heard.TheVariants.{Nothing}
use Rattle.reply.specs.declared.Answer.TheVariants as answer
use Rattle.reply.specs.declared.Reply.{Reply}
use Rattle.confirmation.specs.declared.Send.{Send}
use Rattle.confirmation.specs.declared.Send.TheVariants as send
use Rattle.confirmation.specs.Confirmed.{confirmed}
use Rattle.confirming.specs.declared.Sent.{Sent}
use Rattle.confirming.specs.declared.SentWindow.{SentWindow}
use Rattle.confirming.specs.Records.{nothing_sent, send_of}
use Rattle.confirming.specs.Refusals.{rank_of, earlier, lowest, blocks_sent, sent_refusal, call_refusal}
use Rattle.sizes.specs.Table.{blocks, printed, block_size, table_column}
use Rattle.account.specs.declared.Account.{Account}
use Rattle.account.specs.Account.{balanced, out_of_order, account_refusal, open_of, account_at, add_refusal, add_of}
use Rattle.account.specs.Credits.{from_new}
use Rattle.credit.specs.Credit.{credited, octets_of, bad_size, bad_record, bad_records, sizes_refusal, prior_refusal, sum_below, octets_at, octets_where, credited_octets, credit_by, credit_reading, credit_of}
use Rattle.agreement.specs.Demand3.{Engine, feedback_engine, fed_at, IsSubframe}
use Rattle.agreement.specs.Run.{sent_ago, window_at}
use Rattle.engines.proofs.Computing.{schedules, stations}
use Rattle.engines.proofs.Finite.{sending}
use Rattle.engines.proofs.Worked.{Run, Worked, kind_of, answer_at, fed_nothing, fed_nothing_at, times, all_heard, all_heard_holds, last_two_lost, last_two_lost_holds, four_lost, four_lost_holds, sole_block, sole_block_holds, second_undecoded, second_undecoded_holds, shared_by_three, symbol_shared_by_three, lone_block, lone_block_holds}
use Rattle.engines.proofs.ChangedRuns.{between_windows, between_windows_holds}
use Rattle.billing.specs.Billing.{SaysSent, Billable, credit_at, decoded_there, octets_there, answered, decoded_in}

-- Records: a grant of one block with first CCE, DAI, I_TBS and N_PRB; one of two blocks; a scheduled block; a release.
abbrev pub granted : ℕ → ℕ → ℕ → ℕ → Sent
granted c d i n =
    record { signalled = 1; blocks = 1; cce = record { 0 = c }; dai = d; itbs0 = i; nprb0 = n; itbs1 = 0; nprb1 = 0 }

abbrev pub granted_two : ℕ → ℕ → ℕ → ℕ → ℕ → ℕ → Sent
granted_two c d i n j k =
    record { signalled = 1; blocks = 2; cce = record { 0 = c }; dai = d; itbs0 = i; nprb0 = n; itbs1 = j; nprb1 = k }

abbrev pub scheduled : ℕ → ℕ → Sent
scheduled i n =
    record { signalled = 0; blocks = 1; cce = record { 0 = 0 }; dai = 0; itbs0 = i; nprb0 = n; itbs1 = 0; nprb1 = 0 }

abbrev pub released : ℕ → ℕ → Sent
released c d =
    record { signalled = 1; blocks = 0; cce = record { 0 = c }; dai = d; itbs0 = 0; nprb0 = 0; itbs1 = 0; nprb1 = 0 }

-- Where the records, position by position, say what was sent, they say it of each position.
module _ (set : Settings) (sent : ℕ → Send) (s : ℕ) (w : SentWindow) where
  abbrev K : List ℕ
  K = window_at set s

  pub says_all : map send_of (take (length (window_at set s)) w.at) ≡ map (sent_ago sent s) (window_at set s) → SaysSent set sent s w
  says_all e m h =
      let count : length (take (length K) w.at) ≡ length K =
      sym (length-map (take (length K) w.at) send_of) ∙ ap length e ∙ length-map K (sent_ago sent s) in
      sym (entry send_of (take (length K) w.at) m send.Nothing nothing_sent (rw count h))
      ∙ ap (λ (l : List Send). get_or l m send.Nothing) e
      ∙ entry (sent_ago sent s) K m send.Nothing 0 h

-- A reply of a worked run to item i, which is its subframe s and brought nothing, with these records.
unfoldable pub billable : {e : Engine} (run : Run) → Worked run → (i s : ℕ) (r : Reply) (at : List Sent)
    → IsSubframe run.set run.items i s Nothing
    → (fed_at e run.set run.items i Nothing).answer ≡ Ok (answer.Sent r)
    → map send_of (take (length (window_at run.set s)) at) ≡ map (sent_ago (sending run.sends) s) (window_at run.set s)
    → Billable e
billable run worked i s r at subframe answered says =
    record {
      set = run.set;
      sent = sending run.sends;
      items = run.items;
      s = s;
      r = r;
      w = record { at = at };
      replied = record {
        accepted = worked.accepted;
        schedule = worked.schedule;
        brings = worked.brings;
        item = i;
        brought = Nothing;
        subframe = subframe;
        answered = answered;
      };
      says = says_all run.set (sending run.sends) s (record { at = at }) says;
    }

abbrev pub reply_of : ℕ → ℕ → ℕ → ℕ → Reply
reply_of kind r b0 b1 = record { kind = kind_of kind; resource = record { 0 = r }; b0 = b0; b1 = b1; second = None }

-- The definitions that a crediting call computes with.
unfoldable pub crediting : Unit {0}
unfolding stations billable send_of rank_of earlier lowest blocks_sent sent_refusal call_refusal confirmed blocks printed block_size table_column balanced out_of_order account_refusal open_of account_at add_refusal add_of credited octets_of bad_size bad_record bad_records sizes_refusal prior_refusal sum_below octets_at octets_where credited_octets credit_by credit_reading credit_of
crediting = tt

-- An account at 300,000 smallest coins per million octets, with so many octets, so many coins and so much left over.
abbrev pub account_of : ℕ → ℕ → ℕ → Account
account_of octets charged carry = record { octets = octets; charged = charged; price = 300000; carry = carry }

-- From a new account so many octets are credited, of so many that were decoded.
abbrev pub Pays : Billable feedback_engine → ℕ → ℕ → Type 0
Pays b octets decoded =
    ((credit_at b credit_of (account_of 0 0 0)).refusal ≡ 0)
    × ((credit_at b credit_of (account_of 0 0 0)).octets ≡ octets)
    × (octets_there b (decoded_there b) ≡ decoded)

-- Bundled.

-- Configuration 1: the grants in 0 and 1, which is special, both heard and decoded.
unfoldable pub both_heard : Billable feedback_engine
unfolding schedules send_of
both_heard =
    billable all_heard all_heard_holds 7 7 (reply_of 1 31 1 0) (granted 3 1 9 10 ∷ granted 10 2 9 10 ∷ times 7 nothing_sent [])
    (fed_nothing all_heard 7 (omega arith) refl refl) (answer_at all_heard all_heard_holds 7) refl

pub both_heard_holds : Pays both_heard 330 330
unfolding crediting both_heard
both_heard_holds = (refl, refl, refl)

-- Configuration 5: six sent, the last two lost. The records stand by position, which are the subframes -1, 0, 3, 4, 5, 7, 8, 1 and 6. Of
-- 30 octets sent the 14 of the first four grants are credited.
unfoldable pub two_lost : Billable feedback_engine
unfolding schedules send_of
two_lost =
    billable last_two_lost last_two_lost_holds 12 12 (reply_of 1 317 1 0)
    (nothing_sent ∷ granted 0 1 0 1 ∷ granted 8 3 2 1 ∷ granted 40 4 3 1 ∷ granted 0 1 4 1 ∷ nothing_sent ∷ nothing_sent ∷ granted 4 2 1 1 ∷ granted 0 2 5 1 ∷ [])
    (fed_nothing last_two_lost 12 (omega arith) refl refl) (answer_at last_two_lost last_two_lost_holds 12) refl

pub two_lost_holds : Pays two_lost 14 14
unfolding crediting two_lost
two_lost_holds = (refl, refl, refl)

-- Five sent, the first four lost: the fifth alone.
unfoldable pub fifth_heard : Billable feedback_engine
unfolding schedules send_of
fifth_heard =
    billable four_lost four_lost_holds 12 12 (reply_of 1 54 1 0)
    (nothing_sent ∷ granted 0 1 0 1 ∷ granted 0 3 2 1 ∷ granted 0 4 3 1 ∷ granted 0 1 4 1 ∷ nothing_sent ∷ nothing_sent ∷ granted 0 2 1 1 ∷ nothing_sent ∷ [])
    (fed_nothing four_lost 12 (omega arith) refl refl) (answer_at four_lost four_lost_holds 12) refl

pub fifth_heard_holds : Pays fifth_heard 7 7
unfolding crediting fifth_heard
fifth_heard_holds = (refl, refl, refl)

-- Configuration 1, two blocks and then a sole one, the bits 0 and 1: the second block of the first grant. The sole block was decoded, but
-- it is "the first", whose bit is NACK.
unfoldable pub sole_not : Billable feedback_engine
unfolding schedules send_of
sole_not =
    billable sole_block sole_block_holds 7 7 (reply_of 1 31 0 1) (granted_two 3 1 0 1 1 1 ∷ granted 10 2 9 10 ∷ times 7 nothing_sent [])
    (fed_nothing sole_block 7 (omega arith) refl refl) (answer_at sole_block sole_block_holds 7) refl

pub sole_not_holds : Pays sole_not 3 140
unfolding crediting sole_not
sole_not_holds = (refl, refl, refl)

-- Configuration 2: the scheduled block in 5 is heard alone, and is read as that block; the grants in 4 and 8 are lost.
unfoldable pub block_alone : Billable feedback_engine
unfolding schedules send_of
block_alone =
    billable lone_block lone_block_holds 12 12 (reply_of 1 7 1 0) (granted 3 1 0 1 ∷ scheduled 9 10 ∷ granted 0 2 2 1 ∷ times 6 nothing_sent [])
    (fed_nothing lone_block 12 (omega arith) refl refl) (answer_at lone_block lone_block_holds 12) refl

pub block_alone_holds : Pays block_alone 193 193
unfolding crediting block_alone
block_alone_holds = (refl, refl, refl)

-- Multiplexed.

-- Configuration 1, two blocks each, the state A,N: both blocks of the first grant.
unfoldable pub first_grant : Billable feedback_engine
unfolding schedules send_of
first_grant =
    billable second_undecoded second_undecoded_holds 7 7 (reply_of 2 13 0 1)
    (granted_two 3 1 0 1 1 1 ∷ granted_two 10 2 9 10 9 10 ∷ times 7 nothing_sent [])
    (fed_nothing second_undecoded 7 (omega arith) refl refl) (answer_at second_undecoded second_undecoded_holds 7) refl

pub first_grant_holds : Pays first_grant 5 142
unfolding crediting first_grant
first_grant_holds = (refl, refl, refl)

-- Configuration 2, the state A,A,A,D, whose symbol A,A,D,D sends too: two of the three that were decoded.
unfoldable pub two_of_three : Billable feedback_engine
unfolding schedules send_of
two_of_three =
    billable shared_by_three symbol_shared_by_three 12 12 (reply_of 2 26 1 0)
    (granted 0 1 0 1 ∷ granted 5 2 1 1 ∷ granted 30 3 2 1 ∷ times 6 nothing_sent [])
    (fed_nothing shared_by_three 12 (omega arith) refl refl) (answer_at shared_by_three symbol_shared_by_three 12) refl

pub two_of_three_holds : Pays two_of_three 5 9
unfolding crediting two_of_three
two_of_three_holds = (refl, refl, refl)

-- Configuration 3, with changes of mode between the feeds: the window of subframe 13, item 15, is read in its own mode 1 though mode 0
-- stands. The state is A,N.
unfoldable pub in_own_mode : Billable feedback_engine
unfolding schedules send_of
in_own_mode =
    billable between_windows between_windows_holds 15 13 (reply_of 2 13 0 1) (granted 3 1 9 10 ∷ granted 5 2 9 10 ∷ times 7 nothing_sent [])
    (fed_nothing_at between_windows 15 13 (omega arith) refl refl) (answer_at between_windows between_windows_holds 13) refl

pub in_own_mode_holds : Pays in_own_mode 193 193
unfolding crediting in_own_mode
in_own_mode_holds = (refl, refl, refl)

-- Refusals.

-- 1,000,000,000,000 octets are not passed by as many; one more is refused 26, and the account stays.
pub total_passed : (credit_at both_heard credit_of (account_at 300000 999999999670) ≡ record { refusal = 0; octets = 330; account = account_at 300000 1000000000000 })
    × (credit_at both_heard credit_of (account_at 300000 999999999671) ≡ record { refusal = 26; octets = 0; account = account_at 300000 999999999671 })
unfolding crediting both_heard
total_passed = (refl, refl)

-- An account off the equation is refused 25; so is a width of 0 of a block that is not credited.
unfoldable pub no_width : Billable feedback_engine
unfolding schedules send_of
no_width =
    billable shared_by_three symbol_shared_by_three 12 12 (reply_of 2 26 1 0)
    (granted 0 1 0 1 ∷ granted 5 2 1 1 ∷ granted 30 3 2 0 ∷ times 6 nothing_sent [])
    (fed_nothing shared_by_three 12 (omega arith) refl refl) (answer_at shared_by_three symbol_shared_by_three 12) refl

pub account_off : (credit_at both_heard credit_of (account_of 8 3 400000) ≡ record { refusal = 25; octets = 0; account = account_of 8 3 400000 })
    × (credit_at no_width credit_of (account_of 8 2 400000) ≡ record { refusal = 25; octets = 0; account = account_of 8 2 400000 })
unfolding crediting both_heard no_width
account_off = (refl, refl)

-- A list, from a new account: 330 octets, none for the bill that is refused, 14 and 5, of 358 that were decoded. They cost 104 coins and 700,000
-- millionths.
abbrev pub bills_of_four : List (Billable feedback_engine)
bills_of_four = both_heard ∷ no_width ∷ two_lost ∷ two_of_three ∷ []

pub four_billed : (from_new (answered credit_of) 300000 bills_of_four ≡ account_of 349 104 700000) × (decoded_in bills_of_four ≡ 358)
unfolding crediting both_heard no_width two_lost two_of_three
four_billed = (refl, refl)
