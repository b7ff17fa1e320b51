-- The records of a window, gone through: the refusal that comes first, the scheduled blocks, and the position of the first of them.
-- Assumes nothing.
use Rattle.std.proofs.Common.{Option, Some, None}
use Prim.Native.Nat.{ℕ, suc}
use mathlib.Core.Bool.{cond}
use mathlib.Core.List.{List, [], ◌∷◌, map}
use mathlib.Core.Path.{◌≡◌, refl, ◌∙◌}
use native.Mathlib.Numerals.{add-one}
use lib.Dec.{ltb}
use lib.ListN.{length}
use Rattle.std.specs.List.{sum_by, zip, position_from, position_or_len}
use Rattle.std.proofs.lemmas.List.Sums.{sum_by-cons}
use Rattle.std.proofs.lemmas.Iterator.Adapters.{position_from-zero}
use Rattle.frame.specs.declared.Settings.{Settings}
use Rattle.frame.specs.Distance.{before}
use Rattle.heard.specs.Heard.{heard_refusal}
use Rattle.confirmation.specs.declared.Send.{Send}
use Rattle.confirmation.specs.Sent.{is_block, as_heard, told_from, told_of}
use Rattle.confirming.specs.declared.Sent.{Sent}
use Rattle.confirming.specs.declared.SentIn.{SentIn}
use Rattle.confirming.specs.Coded.{k_in, records_in, send_in}
use Rattle.confirming.specs.Records.{send_of}
use Rattle.confirming.specs.Refusals.{refusal_ago, blocks_sent}
use Rattle.confirming.proofs.Pairs.{pairs_in}
use Rattle.confirming.proofs.Records.{sent_list}

-- What a pair of a k and its record is refused with.
abbrev pub refusal_of_pair : Settings → ℕ → ℕ × Sent → ℕ
refusal_of_pair s n p = heard_refusal s (before n p.0) (as_heard (send_of p.1))

pairs_refused : (s : Settings) (n : ℕ) (sent : ℕ → Send) (ks : List ℕ) (xs : List Sent) → map sent ks ≡ map send_of xs
    → map (refusal_of_pair s n) (zip ks xs) ≡ map (refusal_ago s n sent) ks
pairs_refused s n sent [] xs e = refl
pairs_refused s n sent (k ∷ ks) [] e = absurd (cc)
pairs_refused s n sent (k ∷ ks) (x ∷ xs) e =
    let here : sent k ≡ send_of x = cc in
    let rest : map sent ks ≡ map send_of xs = cc in
    rw (here, pairs_refused s n sent ks xs rest) refl

-- Of the pairs of a window they are those of its records.
pub records_refused : (w : SentIn) → length (records_in w) ≡ length (k_in w)
    → map (refusal_of_pair w.settings w.n) (pairs_in w) ≡ map (refusal_ago w.settings w.n (send_in w)) (k_in w)
records_refused w size = pairs_refused w.settings w.n (send_in w) (k_in w) (records_in w) (sent_list w (records_in w) refl size)

-- A scheduled block as one of their count.
abbrev pub one_block : Sent → ℕ
one_block x = cond (is_block (send_of x)) 1 0

-- The scheduled blocks among records that say what was sent in the subframes of a list.
module _ (sent : ℕ → Send) where
  pub blocks_counted : (ks : List ℕ) (xs : List Sent) → map sent ks ≡ map send_of xs → sum_by one_block xs ≡ blocks_sent sent ks
  unfolding blocks_sent
  blocks_counted [] [] e = refl
  blocks_counted [] (x ∷ xs) e = absurd (cc)
  blocks_counted (k ∷ ks) [] e = absurd (cc)
  blocks_counted (k ∷ ks) (x ∷ xs) e =
      let here : sent k ≡ send_of x = cc in
      let rest : map sent ks ≡ map send_of xs = cc in
      sum_by-cons one_block x xs ∙ rw (here, blocks_counted ks xs rest) refl

  -- The first of them is the position that is told.
  pub told_at : (i : ℕ) (ks : List ℕ) (xs : List Sent) → map sent ks ≡ map send_of xs
      → position_from (λ (x : Sent). is_block (send_of x)) i xs ≡ told_from i ks sent
  told_at i [] [] e = refl
  told_at i [] (x ∷ xs) e = absurd (cc)
  told_at i (k ∷ ks) [] e = absurd (cc)
  told_at i (k ∷ ks) (x ∷ xs) e =
      let here : sent k ≡ send_of x = cc in
      let rest : map sent ks ≡ map send_of xs = cc in
      rw (here, add-one, told_at (suc i) ks xs rest)

-- The first record that says so.
pub told_is : (w : SentIn) (xs : List Sent) (r : Option ℕ) → xs ≡ records_in w → length xs ≡ length (k_in w)
    → r ≡ cond (ltb (position_or_len (λ (x : Sent). is_block (send_of x)) xs) (length xs)) (Some (position_or_len (λ (x : Sent). is_block (send_of x)) xs)) None
    → r ≡ told_of (k_in w) (send_in w)
told_is w xs r records size first =
    first ∙ position_from-zero (λ (x : Sent). is_block (send_of x)) xs ∙ told_at (send_in w) 0 (k_in w) xs (sent_list w xs records size)
