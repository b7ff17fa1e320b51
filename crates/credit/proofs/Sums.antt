-- Octets as the code finds them: a block, a record, a window.
-- Assumes nothing.
use Rattle.std.proofs.Common.{Result, Ok, Some}
use Prim.Native.Nat.{ℕ, zero, suc, ◌+◌, ◌/◌, ◌^◌, ◌<◌, ◌≤◌}
use mathlib.Core.Bool.{Bool, true, false, cond, ◌&&◌, and-false, and-true}
use mathlib.Core.List.{List, [], ◌∷◌}
use mathlib.Core.Path.{◌≡◌, refl, sym, ap, ◌∙◌}
use native.Mathlib.Nat.{zero-div}
use native.Mathlib.Omega.{arith}
use lib.ListN.{length}
use borrow.Author.Tests.{eq-eqb, ne_eqb}
use Rattle.std.specs.List.{sum_by, enumerate_from, slice_get}
use Rattle.std.proofs.lemmas.List.Sums.{sum_by-cons}
use Rattle.std.proofs.lemmas.Option.{get_or_from_slice_get, slice_get_within}
use Rattle.frame.specs.Distance.{before}
use Rattle.frame.specs.Table.{window_of}
use Rattle.symbols.specs.Delivered.{set_of}
use Rattle.symbols.proofs.Reading.{set_bit}
use Rattle.station.specs.declared.Reading.{Reading}
use Rattle.confirmation.specs.Confirmed.{confirmed}
use Rattle.confirming.specs.declared.Sent.{Sent}
use Rattle.confirming.specs.declared.SentIn.{SentIn}
use Rattle.confirming.specs.declared.SentWindow.{SentWindow}
use Rattle.confirming.specs.declared.blocks.Blocks.{Blocks}
use Rattle.confirming.specs.declared.blocks.Positions.{Positions}
use Rattle.confirming.specs.Blocks.{Confirmed, confirmed_as, confirmed_by}
use Rattle.confirming.specs.Coded.{in_set, k_in, records_in}
use Rattle.confirming.proofs.Pairs.{pairs_in, placed_turn, placed_end, pair_k, pair_record}
use Rattle.confirming.specs.Records.{sent_in}
use Rattle.sizes.specs.Table.{block_size}
use Rattle.sizes.proofs.Sizes.{size_most_holds}
use Rattle.credit.specs.Coded.{no_positions, own_blocks, block_in}
use Rattle.credit.specs.Credit.{own_bit, credited, octets_of, sum_below, octets_at, octets_where, credited_octets}

-- The octets of a block are few.
pub few_octets : (itbs column : ℕ) → block_size itbs column / 8 ≤ 9422
few_octets itbs column = omega (arith, size_most_holds itbs column)

pub sum_same : (n : ℕ) (f g : ℕ → ℕ) → ((m : ℕ) → m < n → f m ≡ g m) → sum_below n f ≡ sum_below n g
unfolding sum_below
sum_same zero f g h = refl
sum_same (suc n) f g h = rw (sum_same n f g (λ m l. h m (omega arith)), h n (omega arith))

-- The octets of those blocks of a record that are among these, of a place, a k and a record.
abbrev pub octets_placed : SentIn → Blocks → ℕ × (ℕ × Sent) → ℕ
octets_placed w blocks q =
    let d : ℕ = before w.n q.1.0 in
    cond (block_in blocks q.0 0) (octets_of w.settings.config d q.1.1 0) 0 + cond (block_in blocks q.0 1) (octets_of w.settings.config d q.1.1 1) 0

-- A sum over a list, by its places.
sum_places : {X : Type 0} (f : X → ℕ) (g : ℕ → ℕ) (xs : List X) (i : ℕ) → ((m : ℕ) (x : X) → slice_get xs m ≡ Some x → f x ≡ g (i + m))
    → sum_below i g + sum_by f xs ≡ sum_below (i + length xs) g
unfolding sum_below
sum_places f g [] i h = let at : i + 0 ≡ i = omega arith in rw at (omega arith)
sum_places f g (x ∷ xs) i h =
    let here : f x ≡ g i = h 0 x refl ∙ ap g (omega arith) in
    let next = sum_places f g xs (suc i) (λ m y e. h (suc m) y e ∙ ap g (omega arith)) in
    let long : suc i + length xs ≡ i + suc (length xs) = omega arith in
    rw (← long) (omega (arith, next, here, sum_by-cons f x xs))

-- The sum over the records of a window, as the code finds it.
module _ (w : SentIn) (blocks : Blocks) (size : length (records_in w) ≡ length (k_in w)) where
  abbrev octets : ℕ → ℕ
  octets m = octets_at w.settings.config w.n w.sent.now (block_in blocks) m

  placed : (m : ℕ) (q : ℕ × (ℕ × Sent)) → slice_get (enumerate_from 0 (pairs_in w)) m ≡ Some q → octets_placed w blocks q ≡ octets (0 + m)
  unfolding octets_at
  placed m q e =
      let t = placed_turn w m q (slice_get_within (enumerate_from 0 (pairs_in w)) m q e, sym (get_or_from_slice_get (enumerate_from 0 (pairs_in w)) m q q e)) in
      let at : 0 + m ≡ q.0 = omega (arith, t.0) in
      rw (at, pair_k w size q.0 q.1.0 q.1.1 t.1, pair_record w size q.0 q.1.0 q.1.1 t.1) refl

  pub octets_summed : sum_by (octets_placed w blocks) (enumerate_from 0 (pairs_in w)) ≡ octets_where w.settings.config w.n w.sent.now (block_in blocks)
  unfolding octets_where octets_at sum_below
  octets_summed =
      let all = sum_places (octets_placed w blocks) octets (enumerate_from 0 (pairs_in w)) 0 placed in
      let long : 0 + length (enumerate_from 0 (pairs_in w)) ≡ length (k_in w) = omega (arith, placed_end w size (length (enumerate_from 0 (pairs_in w))) refl) in
      let whole : 0 + sum_by (octets_placed w blocks) (enumerate_from 0 (pairs_in w)) ≡ sum_below (length (k_in w)) octets = all ∙ ap (λ (n : ℕ). sum_below n octets) long in
      omega (arith, whole)

-- A set of no position has none.
none_in : (m : ℕ) → in_set 0 m ≡ false
none_in m = rw (zero-div (2 ^ m))

-- A position is in the set of those for which a test holds, or in none of them.
set_in : (n : ℕ) (f : ℕ → Bool) (m : ℕ) → m < n → in_set (set_of n f) m ≡ f m
set_in n f m h = go (f m) refl
  where
    go : (b : Bool) → f m ≡ b → in_set (set_of n f) m ≡ b
    go true e = eq-eqb _ 1 ((set_bit n f m h).1 e)
    go false e = ne_eqb _ 1 (λ one. let z : false ≡ true = sym e ∙ (set_bit n f m h).0 one in absurd (omega (arith, ap (λ (b : Bool). cond {A = ℕ} b 1 0) z)))

own_in : (p : Positions) (n : ℕ) (f : ℕ → Bool) (own : Bool) (m : ℕ) → m < n → p.0 ≡ set_of n f → in_set (cond own p no_positions).0 m ≡ (f m && own)
own_in p n f true m h e = rw e (set_in n f m h ∙ sym (and-true (f m)))
own_in p n f false m h e = none_in m ∙ sym (and-false (f m))

-- The octets of the sets of credited blocks are those of the credited blocks.
pub credited_is : (config n : ℕ) (w : SentWindow) (read : Result Reading ℕ) (b : Blocks)
    → confirmed_as (Ok b) ≡ confirmed_by (window_of config n) (sent_in (window_of config n) w) read
    → octets_where config n w (block_in (own_blocks read b)) ≡ credited_octets config n w read
unfolding credited_octets octets_where octets_at own_blocks confirmed_by credited
credited_is config n w read b e =
    let ks : List ℕ = window_of config n in
    let test : ℕ → ℕ → Bool = confirmed ks (sent_in ks w) read in
    let first : b.first.0 ≡ set_of (length ks) (λ (m : ℕ). test m 0) = ap (λ (c : Confirmed). c.first) e in
    let second : b.second.0 ≡ set_of (length ks) (λ (m : ℕ). test m 1) = ap (λ (c : Confirmed). c.second) e in
    sum_same (length ks) _ _
    (λ m h. rw (own_in b.first (length ks) (λ (m : ℕ). test m 0) (own_bit read 0) m h first, own_in b.second (length ks) (λ (m : ℕ). test m 1) (own_bit read 1) m h second) refl)
