-- What the statement shuts out, field by field: for each a crediting call, or an engine, with one fault, and a bill of which the field
-- does not hold. The bills are those of WorkedBills.antt, and three more.
--
--   twenty_five   25 whatever is brought                                              not_always_off
--                25 is not known                                                     not_never_off
--   twenty_six    26 is not known                                                     not_never_over
--   no_other      every reply is refused, with 14                                     not_refuses_all
--   octets       credits nothing                                                     not_nothing
--                a sole block is credited by either bit                              not_either_bit
--   decoded      an engine whose station reads every first bit as ACK                not_reads_ack
--   most         five for four                                                       not_five
--                releases are not counted                                            not_without_releases
--                up to the last heard one by position and not in time                not_by_position
--                a scheduled block is credited on a PDCCH's ACK                      not_with_block
--                the size of every block of the window                               not_all_sent
--   grown        adds nothing to the account                                         not_adds_nothing
--                adds twice                                                          not_adds_twice
--                another price                                                       not_other_price
--                the octets without their coins                                      not_uncharged
--                a total beyond the most                                             not_beyond
--   left         adds what is refused                                                not_adds_refused
--                answers octets beside a refusal                                     not_octets_refused
--
-- `most` follows from `octets`, `decoded` and `left`, and `list` from `each` (`over_list` in Billed.antt); they stay, since they are what
-- a tenant reads.
-- Assumes nothing.
use Rattle.std.proofs.Common.{Result, Ok, Err}
use Prim.Native.Nat.{ℕ, ◌+◌, ◌*◌}
use mathlib.Core.Bool.{Bool, false, cond, ◌&&◌, ◌||◌, false≢true}
use mathlib.Core.List.{List, [], ◌∷◌}
use mathlib.Core.Logic.{⊎_elim}
use mathlib.Core.Path.{◌≡◌, refl, ap}
use native.Mathlib.Omega.{arith}
use lib.Dec.{eqb, leb, ltb}
use lib.ListN.{length, get_or}
use Rattle.frame.specs.Order.{times_of}
use Rattle.frame.specs.Refusals.{number_in}
use Rattle.frame.specs.Table.{window_of}
use Rattle.station.specs.declared.Place.TheVariants as place
use Rattle.station.specs.declared.Reading.{Reading}
use Rattle.station.specs.declared.Reading.TheVariants as reading
use Rattle.station.specs.Readings.{read_of}
use Rattle.confirmation.specs.declared.Send.{Send}
use Rattle.confirmation.specs.Confirmed.{named_sent, sent_up_to, acknowledged, confirmed}
use Rattle.confirmation.specs.Sent.{is_pdcch, is_sent, blocks_of}
use Rattle.confirming.specs.Records.{nothing_sent, send_of, sent_in}
use Rattle.account.specs.declared.Account.{Account}
use Rattle.account.specs.Account.{account_at}
use Rattle.account.specs.Credits.{Credited}
use Rattle.credit.specs.Credit.{own_bit, credited, octets_where, credited_octets, added_of, refused_or, credit_by, credit_reading, credit_of}
use Rattle.agreement.specs.Demand3.{Engine, feedback_engine}
use Rattle.engines.proofs.Computing.{schedules}
use Rattle.engines.proofs.Worked.{answer_at, fed_nothing, times, one_undecoded, one_undecoded_holds, four_lost_release, four_lost_release_holds, block_lost, block_lost_holds}
use Rattle.engines.proofs.WrongEngines.{read_by}
use Rattle.billing.specs.Billing.{Crediting, Billable, Billed}
use Rattle.billing.proofs.WorkedBills.{billable, reply_of, crediting, account_of, granted, granted_two, scheduled, released, both_heard, fifth_heard, sole_not, no_width}

abbrev new : Account
new = account_of 0 0 0

-- The right call, with its answer changed.
abbrev answering : (Account → Credited → Credited) → Crediting
answering change s n w r b0 b1 a = change a (credit_of s n w r b0 b1 a)

abbrev answer : ℕ → ℕ → Account → Credited
answer k octets a = record { refusal = k; octets = octets; account = a }

-- Refusals.

pub not_refuses_all : Billed feedback_engine (answering (λ a c. answer 14 0 a)) → ⊥
not_refuses_all d =
    ⊎_elim (λ e. omega (arith, e)) (λ e. ⊎_elim (λ f. omega (arith, f)) (λ f. omega (arith, f)) e) (d.each both_heard new).no_other

pub not_always_off : Billed feedback_engine (answering (λ a c. answer 25 0 a)) → ⊥
unfolding crediting both_heard
not_always_off d = (d.each both_heard new).twenty_five.0 refl refl

-- The right call, with one of its refusals left out.
abbrev without : ℕ → Crediting
without k = answering (λ a c. cond (eqb c.refusal k) (answer 0 0 a) c)

pub not_never_off : Billed feedback_engine (without 25) → ⊥
unfolding crediting no_width
not_never_off d =
    let e : ◌≡◌ {A = ℕ} 0 25 = (d.each no_width new).twenty_five.1 (λ zero. omega (arith, zero)) in omega arith

pub not_never_over : Billed feedback_engine (without 26) → ⊥
unfolding crediting both_heard
not_never_over d =
    let e : ◌≡◌ {A = ℕ} 0 26 = (d.each both_heard (account_at 300000 999999999671)).twenty_six.1 (refl, omega arith) in omega arith

-- The account.

pub not_adds_nothing : Billed feedback_engine (answering (λ a c. answer c.refusal c.octets a)) → ⊥
unfolding crediting both_heard
not_adds_nothing d = omega (arith, ((d.each both_heard new).grown refl).octets)

pub not_adds_twice : Billed feedback_engine (answering (λ a c. answer c.refusal c.octets (account_at a.price (a.octets + 2 * c.octets)))) → ⊥
unfolding crediting both_heard
not_adds_twice d = omega (arith, ((d.each both_heard new).grown refl).octets)

pub not_other_price : Billed feedback_engine (answering (λ a c. answer c.refusal c.octets (account_at 1000000 (a.octets + c.octets)))) → ⊥
unfolding crediting both_heard
not_other_price d = omega (arith, ((d.each both_heard new).grown refl).price)

pub not_uncharged : Billed feedback_engine (answering (λ a c. answer c.refusal c.octets (account_of (a.octets + c.octets) 0 0))) → ⊥
unfolding crediting both_heard
not_uncharged d = omega (arith, ((d.each both_heard new).grown refl).accepted)

pub not_beyond : Billed feedback_engine (answering (λ a c. cond (eqb c.refusal 26) (answer 0 330 (account_at a.price (a.octets + 330))) c)) → ⊥
unfolding crediting both_heard
not_beyond d = omega (arith, ((d.each both_heard (account_at 300000 999999999671)).grown refl).most)

pub not_adds_refused : Billed feedback_engine (answering (λ a c. cond (eqb c.refusal 26) (answer 26 0 (account_at a.price (a.octets + 330))) c)) → ⊥
unfolding crediting both_heard
not_adds_refused d =
    omega (arith, ap (λ (a : Account). a.octets) ((d.each both_heard (account_at 300000 999999999671)).left (λ e. omega (arith, e))).1)

pub not_octets_refused : Billed feedback_engine (answering (λ a c. cond (eqb c.refusal 26) (answer 26 330 a) c)) → ⊥
unfolding crediting both_heard
not_octets_refused d = omega (arith, ((d.each both_heard (account_at 300000 999999999671)).left (λ e. omega (arith, e))).0)

-- Which blocks.

-- The call by another rule of which blocks a reading credits; by 02's it is the right one.
abbrev Rule : Type 0
Rule = List ℕ → (ℕ → Send) → Result Reading ℕ → ℕ → ℕ → Bool

abbrev by_rule : Rule → Crediting
by_rule rule s n w r b0 b1 a =
    let ks : List ℕ = window_of s.config n in
    let read : Result Reading ℕ = credit_reading s n w r b0 b1 a in
    refused_or (number_in read) a (added_of a (octets_where s.config n w (rule ks (sent_in ks w) read)))

pub right_rule : by_rule credited ≡ credit_of
unfolding credit_of credit_by credited_octets
right_rule = refl

pub not_nothing : Billed feedback_engine (by_rule (λ ks sent read m block. false)) → ⊥
unfolding crediting both_heard
not_nothing d = omega (arith, (d.each both_heard new).octets refl)

-- What a reading confirms, either bit for a sole block.
pub not_either_bit : Billed feedback_engine (by_rule confirmed) → ⊥
unfolding crediting sole_not
not_either_bit d = omega (arith, (d.each sole_not new).octets refl)

pub not_all_sent : Billed feedback_engine (by_rule (λ ks sent read m block. ltb block (blocks_of (sent (get_or ks m 0))))) → ⊥
unfolding crediting fifth_heard
not_all_sent d = omega (arith, (d.each fifth_heard new).most)

-- 02's rule with another choice of what the ACK of the PDCCH at position `named` holds for: what was sent at position m.
abbrev Speaking : Type 0
Speaking = List ℕ → (ℕ → Send) → ℕ → ℕ → Bool

abbrev by_speaking : Speaking → Rule
by_speaking speaks ks sent (Ok (reading.Bundled (place.Pdcch named c) b0 b1)) m block =
    let x : Send = sent (get_or ks m 0) in
    (ltb m (length ks) && ltb block (blocks_of x) && (named_sent ks sent (place.Pdcch named c) && speaks ks sent named m && acknowledged x block b0 b1))
    && own_bit (Ok (reading.Bundled (place.Pdcch named c) b0 b1)) block
by_speaking speaks ks sent (Ok (reading.Bundled (place.Block named) b0 b1)) m block = credited ks sent (Ok (reading.Bundled (place.Block named) b0 b1)) m block
by_speaking speaks ks sent (Ok (reading.Multiplexed named positions)) m block = credited ks sent (Ok (reading.Multiplexed named positions)) m block
by_speaking speaks ks sent (Err k) m block = credited ks sent (Err k) m block

-- For the kinds that `for` names: that one, and those before it if at most `limit` are counted up to and with it.
abbrev speaking : (Send → Bool) → ((ℕ → Send) → ℕ → List ℕ → ℕ) → ℕ → Speaking
speaking for count limit ks sent named m =
    let k : ℕ = get_or ks m 0 in
    let last : ℕ = get_or ks named 0 in
    for (sent k) && (eqb k last || (leb (count sent last (times_of ks)) limit && leb last k))

pub right_speaking : (ks : List ℕ) (sent : ℕ → Send) (read : Result Reading ℕ) (m block : ℕ)
    → by_speaking (speaking is_pdcch sent_up_to 4) ks sent read m block ≡ credited ks sent read m block
unfolding credited confirmed
right_speaking ks sent (Ok (reading.Bundled (place.Pdcch named c) b0 b1)) m block = refl
right_speaking ks sent (Ok (reading.Bundled (place.Block named) b0 b1)) m block = refl
right_speaking ks sent (Ok (reading.Multiplexed named positions)) m block = refl
right_speaking ks sent (Err k) m block = refl

-- Five for four: four grants are lost and the fifth is heard.
pub not_five : Billed feedback_engine (by_rule (by_speaking (speaking is_pdcch sent_up_to 5))) → ⊥
unfolding crediting fifth_heard
not_five d = omega (arith, (d.each fifth_heard new).most)

-- Releases are not counted: four grants are lost and then a release is heard.
abbrev grants_up_to : (ℕ → Send) → ℕ → List ℕ → ℕ
grants_up_to sent k [] = 0
grants_up_to sent k (j ∷ ts) = cond (leb k j && is_pdcch (sent j) && ltb 0 (blocks_of (sent j))) 1 0 + grants_up_to sent k ts

unfoldable fifth_released : Billable feedback_engine
unfolding schedules send_of
fifth_released =
    billable four_lost_release four_lost_release_holds 12 12 (reply_of 1 54 1 0)
    (nothing_sent ∷ granted 0 1 0 1 ∷ granted 0 3 2 1 ∷ granted 0 4 3 1 ∷ released 0 1 ∷ nothing_sent ∷ nothing_sent ∷ granted 0 2 1 1 ∷ nothing_sent ∷ [])
    (fed_nothing four_lost_release 12 (omega arith) refl refl) (answer_at four_lost_release four_lost_release_holds 12) refl

pub not_without_releases : Billed feedback_engine (by_rule (by_speaking (speaking is_pdcch grants_up_to 4))) → ⊥
unfolding crediting fifth_released
not_without_releases d = omega (arith, (d.each fifth_released new).most)

-- By position: of the five the one in 1, at position 7, is not counted before the fifth, at position 4.
abbrev sent_below : List ℕ → (ℕ → Send) → ℕ → ℕ
sent_below ks sent ℕ.zero = 0
sent_below ks sent (ℕ.suc m) = sent_below ks sent m + cond (is_pdcch (sent (get_or ks m 0))) 1 0

abbrev by_position : Speaking
by_position ks sent named m =
    is_pdcch (sent (get_or ks m 0)) && (eqb m named || (leb (sent_below ks sent (named + 1)) 4 && leb m named))

pub not_by_position : Billed feedback_engine (by_rule (by_speaking by_position)) → ⊥
unfolding crediting fifth_heard
not_by_position d = omega (arith, (d.each fifth_heard new).most)

-- A scheduled block is credited on a PDCCH's ACK: the block in 5 is lost, the grants in 4 and 6 are heard.
unfoldable block_between : Billable feedback_engine
unfolding schedules send_of
block_between =
    billable block_lost block_lost_holds 12 12 (reply_of 1 111 1 0) (granted 3 1 0 1 ∷ scheduled 9 10 ∷ nothing_sent ∷ granted 20 2 1 1 ∷ times 5 nothing_sent [])
    (fed_nothing block_lost 12 (omega arith) refl refl) (answer_at block_lost block_lost_holds 12) refl

pub not_with_block : Billed feedback_engine (by_rule (by_speaking (speaking is_sent sent_up_to 4))) → ⊥
unfolding crediting block_between
not_with_block d = omega (arith, (d.each block_between new).most)

-- The engine: a station that reads every first bit as ACK. The first block of the first grant was not decoded.
abbrev reads_ack : Engine
reads_ack = read_by (λ s n told r b0 b1. read_of s n told r 1 b1)

unfoldable first_undecoded : Billable reads_ack
unfolding schedules send_of
first_undecoded =
    billable one_undecoded one_undecoded_holds 7 7 (reply_of 1 31 0 1) (granted_two 3 1 0 1 1 1 ∷ granted_two 10 2 0 1 1 1 ∷ times 7 nothing_sent [])
    (fed_nothing one_undecoded 7 (omega arith) refl refl) (answer_at one_undecoded one_undecoded_holds 7) refl

pub not_reads_ack : Billed reads_ack credit_of → ⊥
unfolding crediting first_undecoded
not_reads_ack d = false≢true ((d.each first_undecoded new).decoded 0 0 refl)
