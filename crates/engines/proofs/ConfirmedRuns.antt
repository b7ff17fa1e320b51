-- Runs in which blocks are confirmed: what a station confirms is something. Which blocks, in the worked runs of Worked.antt. And one
-- in which a decoded block is not, and no reader could know better (02, U7).
-- Assumes nothing.
use Rattle.std.proofs.lemmas.Bool.{false_from_ne_true}
use Rattle.reply.specs.Kinds.{kind_multiplexed}
use Rattle.std.proofs.Common.{None, Err}
use Prim.Native.Nat.{ℕ, zero, suc}
use mathlib.Core.Bool.{Bool, false, cond}
use mathlib.Core.List.{List, [], ◌∷◌}
use mathlib.Core.Path.{◌≡◌, refl}
use native.Mathlib.Omega.{arith}
use lib.ListN.{length, get_or}
use Rattle.station.specs.declared.Place.TheVariants as place
use Rattle.limit.specs.Rules.{Positions, Rule, Sound}
use Rattle.confirmation.specs.Confirmed.{confirmed}
use Rattle.heard.specs.declared.Heard.TheVariants.{Nothing}
use Rattle.agreement.specs.Confirmation.{Replied, sent_there}
use Rattle.agreement.specs.Demand3.{feedback_engine}
use Rattle.agreement.specs.Run.{sent_ago, window_at}
use Rattle.engines.proofs.Computing.{schedules, handsets}
use Rattle.agreement.proofs.Conclusions.{scheduler_may_conclude}
use Rattle.engines.proofs.Finite.{sending}
use Rattle.engines.proofs.Worked.{Run, answer_at, reading_at_holds, fed_nothing, four_heard, four_lost, eight_lost, last_two_lost, one_undecoded, sole_block, second_undecoded, middle_undecoded, shared, shared_by_three, symbol_shared_by_three, lone_block, block_lost, second_block, release_last, four_lost_release, block_at_index}

-- the numbers, of `count` from i on, that pass the test
abbrev passing : (ℕ → Bool) → ℕ → ℕ → List ℕ
passing f zero i = []
passing f (suc count) i = cond (f i) (i ∷ passing f count (suc i)) (passing f count (suc i))

-- The positions of the window of subframe s whose block the reading of the run's first reply confirms.
abbrev positions : Run → ℕ → ℕ → List ℕ
positions r s block =
    passing (λ (m : ℕ). confirmed (window_at r.set s) (sent_ago (sending r.sends) s) (get_or r.readings 0 (Err 0)) m block)
    (length (window_at r.set s)) 0

-- Those of a first or only block, and those of a second one.
abbrev Confirms : Run → ℕ → List ℕ → List ℕ → Type 0
Confirms r s first second = (positions r s 0 ≡ first) × (positions r s 1 ≡ second)

-- Four sent and heard, of which the one named is the last: all four. K is 13,12,9,8,7,5,4,11,6; subframes 0, 1, 3 and 4 are the
-- positions 1, 7, 2 and 3.
pub four_sent : Confirms four_heard 12 (1 ∷ 2 ∷ 3 ∷ 7 ∷ []) []
unfolding schedules confirmed
four_sent = (refl, refl)

-- Five sent, the first four lost: the one named alone; and so of nine sent, the first eight lost.
pub five_sent : Confirms four_lost 12 (4 ∷ []) []
unfolding schedules confirmed
five_sent = (refl, refl)

pub nine_sent : Confirms eight_lost 22 (6 ∷ []) []
unfolding schedules confirmed
nine_sent = (refl, refl)

-- Six sent, the last two lost: those after the named one count for nothing, and the first four are confirmed.
pub later_lost : Confirms last_two_lost 12 (1 ∷ 2 ∷ 3 ∷ 7 ∷ []) []
unfolding schedules confirmed
later_lost = (refl, refl)

-- Two blocks, of which the first bit is NACK: the second blocks of both grants.
pub second_bit_holds : Confirms one_undecoded 7 [] (0 ∷ 1 ∷ [])
unfolding schedules confirmed
second_bit_holds = (refl, refl)

-- The later grant carries a sole block: the second bit confirms it, and no second block there.
pub sole : Confirms sole_block 7 (1 ∷ []) (0 ∷ [])
unfolding schedules confirmed
sole = (refl, refl)

-- Multiplexed: both blocks of the position that is A; two positions of three; the two that every state of a shared symbol has.
pub delivered_two_blocks : Confirms second_undecoded 7 (0 ∷ []) (0 ∷ [])
unfolding schedules confirmed
delivered_two_blocks = (refl, refl)

pub delivered_two_of_three : Confirms middle_undecoded 12 (0 ∷ 2 ∷ []) []
unfolding schedules confirmed
delivered_two_of_three = (refl, refl)

pub delivered_shared : Confirms shared 12 (0 ∷ 1 ∷ []) []
unfolding schedules confirmed
delivered_shared = (refl, refl)

-- So of A,A,A,D: the grant at position 2 was decoded, but A,A,D,D sends the same symbol.
pub delivered_shared_by_three : Confirms shared_by_three 12 (0 ∷ 1 ∷ []) []
unfolding schedules confirmed
delivered_shared_by_three = (refl, refl)

-- The positions at which something was sent: grants; lost ones and a release; grants and a lost scheduled block.
abbrev SentAt : Run → ℕ → List ℕ → Type 0
SentAt r s ms = passing (sent_there r.set (sending r.sends) s) (length (window_at r.set s)) 0 ≡ ms

pub sent_at : SentAt shared_by_three 12 (0 ∷ 1 ∷ 2 ∷ []) × SentAt four_lost_release 12 (1 ∷ 2 ∷ 3 ∷ 4 ∷ 7 ∷ []) × SentAt block_lost 12 (0 ∷ 1 ∷ 3 ∷ [])
unfolding schedules
sent_at = (refl, refl, refl)

-- Of A,A,A,D no sound rule names position 2, told at which positions something was sent (02, U7).
abbrev sent_by_three : Positions
sent_by_three = sent_there shared_by_three.set (sending shared_by_three.sends) 12

three_replied : Replied feedback_engine shared_by_three.set (sending shared_by_three.sends) shared_by_three.items 12
    (record { kind = kind_multiplexed; resource = record { 0 = 26 }; b0 = 1; b1 = 0; second = None })
unfolding handsets
three_replied =
    record {
      accepted = symbol_shared_by_three.accepted;
      schedule = symbol_shared_by_three.schedule;
      brings = symbol_shared_by_three.brings;
      item = 12;
      brought = Nothing;
      subframe = fed_nothing shared_by_three 12 (omega arith) refl refl;
      answered = answer_at shared_by_three symbol_shared_by_three 12;
    }

pub two_unnamed : (rule : Rule) → Sound rule 4 sent_by_three 1 1 0 → rule 4 sent_by_three 1 1 0 2 ≡ false
unfolding schedules
two_unnamed rule sound =
    false_from_ne_true _
    (λ e.
    let bit : ◌≡◌ {A = ℕ} 0 1 =
    scheduler_may_conclude.names_no_more _ _ _ 12 _ three_replied (place.Pdcch 1 (record { 0 = 5 })) 3
    (reading_at_holds shared_by_three symbol_shared_by_three 0) rule sound 2 e in
    absurd (omega arith))

-- Read as the scheduled block: that block alone, of the grants in its window none.
pub block_alone_holds : Confirms lone_block 12 (1 ∷ []) []
unfolding schedules confirmed
block_alone_holds = (refl, refl)

-- Read as a PDCCH: no scheduled block, be it lost or heard and decoded.
pub lost_block_unconfirmed : Confirms block_lost 12 (0 ∷ 3 ∷ []) []
unfolding schedules confirmed
lost_block_unconfirmed = (refl, refl)

pub heard_block_unconfirmed : Confirms second_block 12 (1 ∷ []) []
unfolding schedules confirmed
heard_block_unconfirmed = (refl, refl)

-- Read as a release, which carries no block: the grant before it, with both its blocks.
pub before_release : Confirms release_last 12 (0 ∷ []) (0 ∷ [])
unfolding schedules confirmed
before_release = (refl, refl)

-- Four grants lost and then a release heard: it is the fifth PDCCH, and none of the four is confirmed.
pub release_fifth : Confirms four_lost_release 12 [] []
unfolding schedules confirmed
release_fifth = (refl, refl)

-- Multiplexed, a scheduled block at the index: its position is delivered, and the grant's.
pub block_delivered : Confirms block_at_index 12 (0 ∷ 1 ∷ []) []
unfolding schedules confirmed
block_delivered = (refl, refl)
