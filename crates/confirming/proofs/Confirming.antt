-- The blocks that a reading confirms, found position by position, are those of the definition.
-- Assumes nothing.
use Rattle.std.proofs.Common.{Result, Ok, Err, Some, None}
use Prim.Native.Nat.{ℕ, ◌+◌, ◌*◌, ◌/◌, ◌%◌, ◌^◌, ◌<◌, ◌≤◌}
use mathlib.Core.Bool.{Bool, true, false, cond, ◌&&◌, and-false}
use mathlib.Core.List.{List}
use mathlib.Core.Path.{◌≡◌, refl, sym, ◌∙◌}
use native.Mathlib.Omega.{arith}
use native.Mathlib.Nat.{pow-le-pow_right}
use native.Mathlib.Numerals.{add-one}
use lib.Dec.{eqb, ltb, lit<}
use lib.ListN.{length, get_or}
use borrow.Author.Tests.{lt-ltb}
use mir.Val.{bool_byte}
use Rattle.std.specs.List.{slice_get}
use Rattle.std.specs.Option.{option_map}
use Rattle.frame.specs.Refusals.{number_in}
use Rattle.symbols.specs.Delivered.{set_of}
use Rattle.symbols.proofs.Reading.{set_below}
use Rattle.confirming.specs.declared.Sent.{Sent}
use Rattle.frame.proofs.Windows.{window_size}
use Rattle.station.specs.declared.Place.{Place}
use Rattle.station.specs.declared.Place.TheVariants as place
use Rattle.station.specs.declared.Reading.{Reading}
use Rattle.station.specs.declared.Reading.TheVariants as reading
use Rattle.confirmation.specs.declared.Send.{Send}
use Rattle.confirmation.specs.Confirmed.{named_sent, holds_for, acknowledged, confirmed}
use Rattle.confirmation.specs.Sent.{blocks_of}
use Rattle.confirmation.proofs.Confirmed.{refused_none}
use Rattle.confirming.specs.declared.SentIn.{SentIn}
use Rattle.confirming.specs.declared.blocks.Acks.{Acks}
use Rattle.confirming.specs.declared.blocks.Acks.TheVariants as acks
use Rattle.confirming.specs.declared.blocks.Named.{Named}
use Rattle.confirming.specs.Blocks.{Confirmed, blocks_as, confirmed_by}
use Rattle.confirming.specs.Coded.{k_in, records_in, send_in, holds_by, named_at, named_by, acks_of, confirms_by, confirmed_set}
use Rattle.confirming.specs.Records.{send_of}
use Rattle.confirming.proofs.Pairs.{pairs_in, pair_inside, pair_k, pair_sent}
use Rattle.confirming.proofs.Sets.{set_same, set_none, set_next}

-- The block at position m of a window is confirmed.
abbrev pub confirms_at : SentIn → Acks → ℕ → ℕ → Bool
confirms_at w acks block m = confirms_by acks (get_or (k_in w) m 0) m (send_in w (get_or (k_in w) m 0)) block

-- The positions below m whose block is confirmed.
module _ (w : SentIn) (acks : Acks) (block : ℕ) (size : length (records_in w) ≡ length (k_in w)) where
  abbrev below : ℕ → ℕ
  below m = set_of m (confirms_at w acks block)

  -- One turn of the loop, which has gone through n positions.
  module _ (set m n k : ℕ) (x : Sent) (is : set ≡ below n) (at : m ≡ n) (there : slice_get (pairs_in w) m ≡ Some (k, x)) where
    here : confirms_at w acks block n ≡ confirms_by acks k m (send_of x) block
    here = rw (← at, pair_sent w size m k x there, pair_k w size m k x there) refl

    small : (set < 2 ^ m) × (m < 9) × (2 ^ m ≤ 256)
    small =
        let few : m < 9 = omega (arith, pair_inside w size m k x there, window_size w.settings.config w.n) in
        let eight : m ≤ 8 = omega (arith, few) in
        let most : 2 ^ m ≤ 2 ^ 8 = pow-le-pow_right (lit< tt) eight in
        (rw (is, at) (set_below n (confirms_at w acks block)), few, most)

    pub shift_fits : m < 16
    shift_fits = omega (arith, small.1)

    bit_is : (b : Bool) (bit : ℕ) → bit ≡ bool_byte b → bit * 2 ^ m % 65536 ≡ cond b (2 ^ m) 0
    bit_is true bit e = rw e (omega (arith, small.2))
    bit_is false bit e = rw e (omega arith)

    pub sum_fits : (b : Bool) (bit : ℕ) → bit ≡ bool_byte b → set + bit * 2 ^ m % 65536 < 65536
    sum_fits b bit e = rw (bit_is b bit e) (go b)
      where
        go : (b : Bool) → set + cond b (2 ^ m) 0 < 65536
        go true = omega (arith, small.0, small.2)
        go false = omega (arith, small.0, small.2)

    pub below_more : (long : ℕ) → long ≡ n + 1 → (b : Bool) (bit : ℕ) → b ≡ confirms_by acks k m (send_of x) block → bit ≡ bool_byte b
        → set + bit * 2 ^ m % 65536 ≡ below long
    below_more long e b bit tested cast =
        rw (bit_is b bit cast, e, add-one, is, at) (sym (set_next n (confirms_at w acks block) ∙ rw (here, ← tested) refl))

  pub below_all : (set m : ℕ) → set ≡ below m → m ≡ length (k_in w) → set ≡ confirmed_set (k_in w) (send_in w) acks block
  unfolding confirmed_set
  below_all set m is e = is ∙ rw e refl

-- No blocks, as sets.
nothing_as : (k size : ℕ) (f : ℕ → ℕ → Bool) → ((m block : ℕ) → f m block ≡ false)
    → ◌≡◌ {A = Confirmed} (record { refusal = k; first = 0; second = 0 }) (blocks_as k size f)
nothing_as k size f none = rw (← set_none size (λ (m : ℕ). f m 0) (λ m. none m 0), ← set_none size (λ (m : ℕ). f m 1) (λ m. none m 1))

-- What a reading acknowledges is what it confirms.
module _ (ks : List ℕ) (sent : ℕ → Send) where
  holds_named : (p : Place) (k : ℕ) → holds_by (named_at ks sent p) k (sent k) ≡ holds_for ks sent p k
  unfolding holds_by
  holds_named (place.Pdcch m c) k = refl
  holds_named (place.Block m) k = refl

  -- The tests of one block, where what is named was sent.
  same_block : (read : Reading) (a : Acks) → acks_of ks sent read ≡ Some a → (m block : ℕ) → m < length ks
      → confirms_by a (get_or ks m 0) m (sent (get_or ks m 0)) block ≡ confirmed ks sent (Ok read) m block
  unfolding confirms_by confirmed acks_of named_by
  same_block (reading.Bundled p b0 b1) a e m block h = go (named_sent ks sent p) e
    where
      go : (there : Bool) → option_map (λ (n : Named). acks.Bits n b0 b1) (cond there (Some (named_at ks sent p)) None) ≡ Some a
          → confirms_by a (get_or ks m 0) m (sent (get_or ks m 0)) block
          ≡ (ltb m (length ks) && ltb block (blocks_of (sent (get_or ks m 0))) && (there && holds_for ks sent p (get_or ks m 0) && acknowledged (sent (get_or ks m 0)) block b0 b1))
      go true e =
          let is : acks.Bits (named_at ks sent p) b0 b1 ≡ a = cc in
          rw (← is, lt-ltb m (length ks) h, holds_named p (get_or ks m 0))
      go false e = absurd (cc)
  same_block (reading.Multiplexed p positions) a e m block h = go (named_sent ks sent p) e
    where
      go : (there : Bool) → option_map (λ (n : Named). acks.Positions (record { 0 = positions })) (cond there (Some (named_at ks sent p)) None) ≡ Some a
          → confirms_by a (get_or ks m 0) m (sent (get_or ks m 0)) block
          ≡ (ltb m (length ks) && ltb block (blocks_of (sent (get_or ks m 0))) && (there && eqb (positions / 2 ^ m % 2) 1))
      go true e =
          let is : acks.Positions (record { 0 = positions }) ≡ a = cc in
          rw (← is, lt-ltb m (length ks) h)
      go false e = absurd (cc)

  -- Where it was not, nothing is confirmed.
  unnamed : (read : Reading) → acks_of ks sent read ≡ None → (m block : ℕ) → confirmed ks sent (Ok read) m block ≡ false
  unfolding confirmed acks_of named_by
  unnamed (reading.Bundled p b0 b1) e m block = go (named_sent ks sent p) e
    where
      go : (there : Bool) → option_map (λ (n : Named). acks.Bits n b0 b1) (cond there (Some (named_at ks sent p)) None) ≡ None
          → (ltb m (length ks) && ltb block (blocks_of (sent (get_or ks m 0))) && (there && holds_for ks sent p (get_or ks m 0) && acknowledged (sent (get_or ks m 0)) block b0 b1)) ≡ false
      go true e = absurd (cc)
      go false e = and-false (ltb m (length ks) && ltb block (blocks_of (sent (get_or ks m 0))))
  unnamed (reading.Multiplexed p positions) e m block = go (named_sent ks sent p) e
    where
      go : (there : Bool) → option_map (λ (n : Named). acks.Positions (record { 0 = positions })) (cond there (Some (named_at ks sent p)) None) ≡ None
          → (ltb m (length ks) && ltb block (blocks_of (sent (get_or ks m 0))) && (there && eqb (positions / 2 ^ m % 2) 1)) ≡ false
      go true e = absurd (cc)
      go false e = and-false (ltb m (length ks) && ltb block (blocks_of (sent (get_or ks m 0))))

  accepted : (read : Reading) → number_in (Ok read) ≡ 0
  accepted (reading.Bundled p b0 b1) = refl
  accepted (reading.Multiplexed p positions) = refl

  pub blocks_confirmed : (read : Reading) (a : Acks) → acks_of ks sent read ≡ Some a → (first second : ℕ)
      → first ≡ confirmed_set ks sent a 0 → second ≡ confirmed_set ks sent a 1
      → ◌≡◌ {A = Confirmed} (record { refusal = 0; first = first; second = second }) (confirmed_by ks sent (Ok read))
  unfolding confirmed_set confirmed_by
  blocks_confirmed read a e first second p q =
      rw (p, q, accepted read, set_same (length ks) _ _ (λ m h. same_block read a e m 0 h), set_same (length ks) _ _ (λ m h. same_block read a e m 1 h))

  pub none_confirmed : (read : Reading) → acks_of ks sent read ≡ None
      → ◌≡◌ {A = Confirmed} (record { refusal = 0; first = 0; second = 0 }) (confirmed_by ks sent (Ok read))
  unfolding confirmed_by
  none_confirmed read e = rw (accepted read) (nothing_as 0 _ (confirmed ks sent (Ok read)) (unnamed read e))

-- A refused reading confirms nothing.
pub refused_blocks : (ks : List ℕ) (sent : ℕ → Send) (reading : Result Reading ℕ) (k : ℕ) → reading ≡ Err k
    → ◌≡◌ {A = Confirmed} (record { refusal = k; first = 0; second = 0 }) (confirmed_by ks sent reading)
unfolding confirmed_by
refused_blocks ks sent reading k e = rw e (nothing_as k _ (confirmed ks sent (Err k)) (refused_none ks sent k))
