-- What the reading gives back: the pair whose resource it reads, the scheduled block that it is told of, and of a symbol its index
-- and exactly the delivered positions.
-- It rests on the one-to-one law of the resource crate and unfolds neither its map nor its inverse. Refusal 17 keeps the scheduled
-- resource apart from the dynamic ones.
-- Assumes nothing.
use Rattle.std.proofs.Common.{Option, Some, None, Ok, Err}
use Prim.Native.Nat.{ℕ, zero, suc, ◌<◌}
use mathlib.Core.Bool.{Bool, true, false, cond}
use mathlib.Core.List.{List}
use mathlib.Core.Logic.{inl, inr, ◌↔◌}
use mathlib.Core.Path.{◌≡◌, refl, ◌∙◌}
use native.Mathlib.Omega.{arith}
use lib.Dec.{ltb}
use lib.ListN.{length}
use borrow.Author.Tests.{ltb-true, lt-ltb, eq-eqb, ne_eqb}
use Rattle.frame.specs.declared.Settings.{Settings}
use Rattle.frame.specs.Distance.{subframe_of}
use Rattle.frame.specs.Settings.{has_scheduled, window_refusal, bundles}
use Rattle.frame.specs.Special.{too_short}
use Rattle.frame.proofs.Accepted.{answered}
use Rattle.resource.specs.Calls.{size_of, resource_of}
use Rattle.resource.proofs.OneToOne.{call_accepted, call_back, resource_range, inverse_call, inverse_refused}
use Rattle.resource.proofs.Refused.{low_refused}
use Rattle.symbols.specs.declared.State.{State}
use Rattle.symbols.specs.Delivered.{delivered_set, delivery_of}
use Rattle.symbols.specs.Selection.{symbol_of, symbol}
use Rattle.symbols.proofs.Reading.{sent_in_row}
use Rattle.station.specs.declared.Place.{Place}
use Rattle.station.specs.declared.Place.TheVariants.{Pdcch, Block}
use Rattle.station.specs.declared.Reading.TheVariants.{Multiplexed}
use Rattle.station.specs.Readings.{place_position, bad_bits, bundled_reading, multiplexed_reading, read_at, dynamic_reading, told_refusal, read_on, read_of, GivesBack}

-- Each kind of reading names the pair or refuses the bits.
bundled_gives : (s : Settings) (m c b0 b1 : ℕ) (b : Bool) → bad_bits s b0 b1 ≡ b → GivesBack m c (bundled_reading s (Pdcch m (record { 0 = c })) b0 b1)
unfolding bundled_reading
bundled_gives s m c b0 b1 true e = inl (rw e)
bundled_gives s m c b0 b1 false e = inr (rw e)

multiplexed_gives : (m c : ℕ) (d : Option ℕ) → GivesBack m c (multiplexed_reading (Pdcch m (record { 0 = c })) d)
unfolding multiplexed_reading
multiplexed_gives m c (Some p) = inr refl
multiplexed_gives m c None = inl refl

at_gives : (s : Settings) (size m c b0 b1 : ℕ) → GivesBack m c (read_at s size (Pdcch m (record { 0 = c })) b0 b1)
unfolding read_at
at_gives s size m c b0 b1 = go (bundles s size) refl
  where
    go : (b : Bool) → bundles s size ≡ b → GivesBack m c (read_at s size (Pdcch m (record { 0 = c })) b0 b1)
    go true e = rw e (bundled_gives s m c b0 b1 (bad_bits s b0 b1) refl)
    go false e = rw e (multiplexed_gives m c (delivery_of size m b0 b1))

-- A position of the window is told without refusal where a scheduled resource is set and the position's subframe is long enough for
-- data.
pub told_fine : (s : Settings) (n m : ℕ) → m < size_of s n → has_scheduled s ≡ true → too_short s (subframe_of s.config n m) ≡ false
    → told_refusal s n (Some m) ≡ 0
unfolding told_refusal
told_fine s n m inside set long = rw (lt-ltb m (size_of s n) inside, long, set)

-- Only where a scheduled resource is set.
told_set : (s : Settings) (n m : ℕ) → told_refusal s n (Some m) ≡ 0 → has_scheduled s ≡ true
unfolding told_refusal
told_set s n m e = go (ltb m (size_of s n)) (too_short s (subframe_of s.config n m)) (has_scheduled s) e
  where
    go : (a b c : Bool) → ◌≡◌ {A = ℕ} (cond a (cond b 20 (cond c 0 18)) 11) 0 → c ≡ true
    go true true c e = absurd (omega arith)
    go true false true e = refl
    go true false false e = absurd (omega arith)
    go false b c e = absurd (omega arith)

-- A told position is refused 20 exactly where it is one of the window and its subframe is too short for data, whether a scheduled
-- resource is set or not.
pub told_twenty : (s : Settings) (n m : ℕ) → (told_refusal s n (Some m) ≡ 20) ↔ ((m < size_of s n) × (too_short s (subframe_of s.config n m) ≡ true))
unfolding told_refusal
told_twenty s n m = (
  λ e.
      let p = go (ltb m (size_of s n)) (too_short s (subframe_of s.config n m)) (has_scheduled s) e in
      (ltb-true m (size_of s n) p.0, p.1),
  λ p. rw (lt-ltb m (size_of s n) p.0, p.1),
)
  where
    go : (a b c : Bool) → ◌≡◌ {A = ℕ} (cond a (cond b 20 (cond c 0 18)) 11) 20 → (a ≡ true) × (b ≡ true)
    go true true c e = (refl, refl)
    go true false true e = absurd (omega arith)
    go true false false e = absurd (omega arith)
    go false b c e = absurd (omega arith)

-- Where neither settings, subframe nor the told position is refused, the resource is read.
not_refused : (s : Settings) (n : ℕ) (t : Option ℕ) (r b0 b1 : ℕ) → window_refusal s n ≡ 0 → told_refusal s n t ≡ 0
    → read_of s n t r b0 b1 ≡ read_on s n t r b0 b1
unfolding read_of
not_refused s n t r b0 b1 e f = rw (e, f)

-- A resource that is not taken as a scheduled block is dynamic, 1 to 7, 17, 19 and 24 included.
pub read_dynamic : (s : Settings) (n : ℕ) (t : Option ℕ) (r b0 b1 : ℕ) → told_refusal s n t ≡ 0
    → read_on s n t r b0 b1 ≡ dynamic_reading s n r b0 b1 → read_of s n t r b0 b1 ≡ dynamic_reading s n r b0 b1
unfolding read_of dynamic_reading
read_dynamic s n t r b0 b1 fine on = go (window_refusal s n) refl
  where
    go : (k : ℕ) → window_refusal s n ≡ k → read_of s n t r b0 b1 ≡ dynamic_reading s n r b0 b1
    go zero e = rw (e, fine) on
    go (suc k) e = rw (e, inverse_refused s n k e r)

-- A resource that is set lies below N1.
below_n1 : (s : Settings) (n : ℕ) → window_refusal s n ≡ 0 → has_scheduled s ≡ true → s.scheduled < s.n1
below_n1 s n e set = (answered s n e).0.scheduled_low set

module _ (s : Settings) (n m c r : ℕ) (there : resource_of s n m c ≡ Ok (record { 0 = r })) (t : Option ℕ) (fine : told_refusal s n t ≡ 0) (b0 b1 : ℕ) where
  accepted_there : window_refusal s n ≡ 0
  accepted_there = call_accepted s n m c (record { 0 = r }) there

  dynamic_there : dynamic_reading s n r b0 b1 ≡ read_at s (size_of s n) (Pdcch m (record { 0 = c })) b0 b1
  unfolding dynamic_reading
  dynamic_there = rw (call_back s n m c r there)

  -- Whatever it is told, a dynamic resource is none that it takes as a scheduled block.
  on_there : (t : Option ℕ) → told_refusal s n t ≡ 0 → read_on s n t r b0 b1 ≡ dynamic_reading s n r b0 b1
  unfolding read_on
  on_there None fine = refl
  on_there (Some p) fine =
      let low = below_n1 s n accepted_there (told_set s n p fine) in
      let range = resource_range s n accepted_there m c r there in
      rw (ne_eqb r s.scheduled (λ e. omega arith))

  -- The resource of a pair is read at that pair.
  pub read_there : read_of s n t r b0 b1 ≡ read_at s (size_of s n) (Pdcch m (record { 0 = c })) b0 b1
  read_there = read_dynamic s n t r b0 b1 fine (on_there t fine) ∙ dynamic_there

  -- The pair comes back, with whatever bits the reading does not refuse.
  pub read_back : GivesBack m c (read_of s n t r b0 b1)
  read_back = rw read_there (at_gives s (size_of s n) m c b0 b1)

-- The scheduled resource is read as the block of the told position.
pub read_block : (s : Settings) (n m : ℕ) → window_refusal s n ≡ 0 → told_refusal s n (Some m) ≡ 0 → (b0 b1 : ℕ)
    → read_of s n (Some m) s.scheduled b0 b1 ≡ read_at s (size_of s n) (Block m) b0 b1
unfolding read_on
read_block s n m e fine b0 b1 =
    not_refused s n (Some m) s.scheduled b0 b1 e fine ∙ rw (eq-eqb s.scheduled s.scheduled refl)

-- The symbol of a state, read at a place of its index, is that place with the positions that are A in every state sending it.
pub read_symbol : (s : Settings) (size : ℕ) (p : Place) (ss : List State) (i b0 b1 : ℕ) → place_position p ≡ i → bundles s size ≡ false
    → length ss ≡ size → symbol_of ss ≡ symbol i b0 b1 → read_at s size p b0 b1 ≡ Ok (Multiplexed p (delivered_set size i b0 b1))
unfolding read_at multiplexed_reading delivery_of
read_symbol s size p ss i b0 b1 place mode same sent = rw (mode, place, rw same at (sent_in_row ss i b0 b1 sent))

-- Told nothing, the reading is that of a dynamic resource.
pub untold : (s : Settings) (n r b0 b1 : ℕ) → read_of s n None r b0 b1 ≡ dynamic_reading s n r b0 b1
unfolding told_refusal read_on
untold s n r b0 b1 = read_dynamic s n None r b0 b1 refl refl

-- 13 refuses the scheduled resource where the reading is told nothing.
pub untold_scheduled : (s : Settings) (n : ℕ) → window_refusal s n ≡ 0 → has_scheduled s ≡ true → (b0 b1 : ℕ)
    → read_of s n None s.scheduled b0 b1 ≡ Err 13
unfolding dynamic_reading
untold_scheduled s n e set b0 b1 =
    untold s n s.scheduled b0 b1
    ∙ rw (inverse_call s n e s.scheduled, ← low_refused s.nrb s.n1 (size_of s n) s.scheduled (below_n1 s n e set))
