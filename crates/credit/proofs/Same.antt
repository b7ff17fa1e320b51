-- What a credit does not look at: records from M on, fields that a record's kind has not, and sizes of blocks that it does not carry.
-- Assumes nothing.
use Rattle.std.proofs.Common.{Result}
use Prim.Native.Nat.{ℕ, ◌<◌}
use mathlib.Core.Bool.{Bool, true, false, cond}
use mathlib.Core.List.{List}
use mathlib.Core.Path.{◌≡◌, refl, sym, ap, ◌∙◌}
use lib.ListN.{length, get_or, take}
use Rattle.std.specs.Cmp.{both_ways}
use Rattle.frame.specs.declared.Settings.{Settings}
use Rattle.frame.specs.Distance.{before}
use Rattle.frame.specs.Table.{window_of}
use Rattle.frame.proofs.Windows.{window_position}
use Rattle.station.specs.declared.Reading.{Reading}
use Rattle.confirmation.specs.Sent.{blocks_of}
use Rattle.confirmation.proofs.Confirmed.{carried}
use Rattle.confirming.specs.declared.Sent.{Sent}
use Rattle.confirming.specs.declared.SentWindow.{SentWindow}
use Rattle.confirming.specs.Exactly.{send_at}
use Rattle.confirming.specs.Records.{send_of, record_at, sent_in}
use Rattle.confirming.specs.Refusals.{call_refusal}
use Rattle.confirming.proofs.Answers.{sent_same}
use Rattle.confirming.proofs.Records.{blocks_of_holds}
use Rattle.account.specs.declared.Account.{Account}
use Rattle.credit.specs.Credit.{credited, octets_of, bad_records, sizes_refusal, prior_refusal, octets_at, octets_where, credited_octets, credit_by, credit_reading, credit_of}
use Rattle.credit.specs.Exactly.{SizeOut, SaySame}
use Rattle.credit.proofs.Exactly.{split}
use Rattle.credit.proofs.OutOfRange.{size_says, says_size}
use Rattle.credit.proofs.Sums.{sum_same}

-- Records that say the same carry as many blocks.
same_blocks : (x y : Sent) → send_of x ≡ send_of y → x.blocks ≡ y.blocks
same_blocks x y e = sym (blocks_of_holds x) ∙ ap blocks_of e ∙ blocks_of_holds y

module _ (s : Settings) (n : ℕ) where
  abbrev K : List ℕ
  K = window_of s.config n

  abbrev M : ℕ
  M = length K

  -- Said the other way round.
  turned : (w v : SentWindow) → SaySame s n w v → SaySame s n v w
  turned w v says m h = (
    sym (says m h).0,
    λ block carries.
        let sizes = (says m h).1 block (rw (says m h).0 carries) in
        (sym sizes.0, sym sizes.1),
  )

  -- A size out of range in the one is one in the other.
  out_too : (w v : SentWindow) → SaySame s n w v → SizeOut M w → SizeOut M v
  out_too w v says (m, block, inside, most, carries, out) =
      let same = says m inside in
      let sizes = same.1 block (rw (blocks_of_holds (record_at M w m)) carries) in
      (m, block, inside, most, rw (same_blocks (record_at M w m) (record_at M v m) same.0) at carries, rw (sizes.0, sizes.1) at out)

  module _ (w v : SentWindow) (says : SaySame s n w v) where
    sends : sent_in K w ≡ sent_in K v
    sends = sent_same K w v (λ m h. (says m h).0)

    sizes_same : sizes_refusal M w ≡ sizes_refusal M v
    unfolding sizes_refusal
    sizes_same =
        ap (λ (b : Bool). cond {A = ℕ} b 25 0)
        (both_ways (bad_records (take M w.at)) (bad_records (take M v.at))
        (λ e. says_size M v (out_too w v says (size_says M w e)))
        (λ e. says_size M w (out_too v w (turned w v says) (size_says M v e))))

    -- A credited block is carried, so that its sizes are the same.
    block_same : (read : Result Reading ℕ) (m block d : ℕ) → m < M
        → cond (credited K (sent_in K w) read m block) (octets_of s.config d (record_at M w m) block) 0
        ≡ cond (credited K (sent_in K w) read m block) (octets_of s.config d (record_at M v m) block) 0
    unfolding octets_of
    block_same read m block d h = go (credited K (sent_in K w) read m block) refl
      where
        go : (b : Bool) → credited K (sent_in K w) read m block ≡ b
            → cond b (octets_of s.config d (record_at M w m) block) 0 ≡ cond b (octets_of s.config d (record_at M v m) block) 0
        go false e = refl
        go true e =
            let carries : block < blocks_of (send_at s n w m) =
            rw (window_position s.config n m h) at (carried K (sent_in K w) read m block (split K (sent_in K w) read m block e).0).1 in
            let sizes = (says m h).1 block carries in
            rw (sizes.0, sizes.1)

    octets_same : (read : Result Reading ℕ) → credited_octets s.config n w read ≡ credited_octets s.config n v read
    unfolding credited_octets octets_where octets_at
    octets_same read =
        sum_same M _ _
        (λ m h. rw (← sends, block_same read m 0 (before n (get_or K m 0)) h, block_same read m 1 (before n (get_or K m 0)) h))

    module _ (r b0 b1 : ℕ) (a : Account) where
      prior_same : prior_refusal s n w a ≡ prior_refusal s n v a
      unfolding prior_refusal call_refusal
      prior_same = rw (sends, sizes_same)

      reading_same : credit_reading s n w r b0 b1 a ≡ credit_reading s n v r b0 b1 a
      unfolding credit_reading
      reading_same = rw (prior_same, sends)

      pub credit_same : credit_of s n w r b0 b1 a ≡ credit_of s n v r b0 b1 a
      unfolding credit_of credit_by
      credit_same = rw (reading_same, octets_same (credit_reading s n v r b0 b1 a))
