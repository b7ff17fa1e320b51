-- The verdict of feedback_confirmed in the runs of demand 3 (specs/Verdict.antt): a truthful station is not refused, and each block that is
-- called confirmed was decoded.
-- Assumes nothing.
use Rattle.std.proofs.Common.{Result}
use Prim.Native.Nat.{ℕ}
use mathlib.Core.Path.{◌≡◌, ◌∙◌}
use Rattle.station.specs.declared.Reading.{Reading}
use Rattle.confirmation.specs.Confirmed.{confirmed}
use Rattle.confirmation.proofs.Same.{confirmed_same}
use Rattle.confirming.specs.Blocks.{Confirmed}
use Rattle.confirming.specs.Blocks.{confirmed_of}
use Rattle.confirming.specs.Exactly.{reply_read, HasConfirmed}
use Rattle.confirming.proofs.Answers.{blocks_confirmed}
use Rattle.agreement.specs.Demand3.{feedback_engine}
use Rattle.agreement.proofs.Conclusions.{scheduler_may_conclude}
use Rattle.billing.specs.Billing.{Billable}
use Rattle.billing.specs.Verdict.{confirm_at, IsConfirmed, WasDecoded, Verdict, Judged}
use Rattle.billing.proofs.Billed.{n, K, sent, recorded, own, same, none_called, read, never_refused}
use Rattle.billing.proofs.Same.{same_told}

module _ (b : Billable feedback_engine) where
  abbrev answer : Confirmed
  answer = confirm_at b confirmed_of

  -- The call reads what the station reads.
  reply : Result Reading ℕ
  reply = reply_read (own b) (n b) b.w b.r.resource.0 b.r.b0 b.r.b1

  reply_is : reply ≡ read b
  unfolding reply
  reply_is = rw (same_told b.set.config (n b) (recorded b) (sent b) (same b))

  accepted : answer.refusal ≡ 0
  unfolding reply
  accepted =
      (blocks_confirmed (own b) (n b) b.w b.r.resource.0 b.r.b0 b.r.b1).reading (none_called b)
      ∙ rw reply_is (never_refused b)

  -- What the records say of a block the schedule says too.
  block_is : (m block : ℕ) → confirmed (K b) (recorded b) reply m block ≡ confirmed (K b) (sent b) (read b) m block
  block_is m block = rw reply_is (confirmed_same (recorded b) (sent b) b.set.config (n b) (same b) (read b) m block)

  exactly : (set block : ℕ) → HasConfirmed set (own b) (n b) b.w reply block → IsConfirmed b set block
  exactly set block has m = rw (block_is m block) at (has m)

  was_decoded : (set block : ℕ) → IsConfirmed b set block → WasDecoded b set block
  was_decoded set block is m bit =
      scheduler_may_conclude.confirmed_decoded b.set b.sent b.items b.s b.r b.replied m block ((is m).0 bit).1

  verdict : Verdict b answer
  unfolding reply
  verdict =
      let blocks = blocks_confirmed (own b) (n b) b.w b.r.resource.0 b.r.b0 b.r.b1 in
      let first : IsConfirmed b answer.first 0 = exactly answer.first 0 (blocks.first_blocks accepted) in
      let second : IsConfirmed b answer.second 1 = exactly answer.second 1 (blocks.second_blocks accepted) in
      record {
        accepted = accepted;
        first = first;
        second = second;
        first_decoded = was_decoded answer.first 0 first;
        second_decoded = was_decoded answer.second 1 second;
      }

pub judged : Judged feedback_engine confirmed_of
judged = verdict
