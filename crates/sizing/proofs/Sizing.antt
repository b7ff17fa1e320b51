-- The size worked out is what the statement of specs/Sizing.antt asks for. Assumes nothing.
use Prim.Native.Nat.{ℕ, zero, suc, ◌*◌, ◌≤◌, ◌<◌}
use mathlib.Core.Bool.{Bool, true, false, cond}
use mathlib.Core.List.{List}
use mathlib.Core.Path.{◌≡◌, refl}
use native.Mathlib.Omega.{arith}
use lib.Dec.{eqb, ltb}
use lib.ListN.{length}
use borrow.Author.Tests.{lt-ltb, le-ltb, eqb-true}
use Rattle.std.proofs.Common.{Ok}
use Rattle.frame.specs.Refusals.{number_in, unless_refused}
use Rattle.frame.specs.Settings.{or_else, settings_refusal}
use Rattle.frame.proofs.Accepted.{neither}
use Rattle.trace.specs.Trace.{settings_of, parts_refusal, trace_refusal}
use Rattle.handset.specs.Make.{make_of}
use Rattle.replaying.specs.Counts.{WindowsCounted}
use Rattle.replaying.specs.Replay.{Played, brought_in, played_in, output_needed, start_refusal, replayed_as, replay_of, written, output_as, output_of}
use Rattle.replaying.proofs.Counted.{windows_counted}
use Rattle.sizing.specs.declared.ReplaySize.{ReplaySize}
use Rattle.sizing.specs.Size.{size_refusal, windows_completed, figures_in, size_of}
use Rattle.sizing.specs.Sizing.{windows_answered, size_written, AtLeast, refused_by, EachShown, SizesReplays}
use Rattle.sizing.proofs.Answered.{answered_bytes}
use Rattle.sizing.proofs.Head.{size_same}

-- The refusal of a replay before its records, from those of parts and of settings and the tests of kinds and of the output.
abbrev begin_refusal : ℕ → Bool → ℕ → Bool → ℕ
begin_refusal parts kinds settings short = or_else (or_else parts (cond kinds 0 22)) (or_else settings (cond short 23 0))

-- One that comes to its records has accepted parts and settings.
begun : (p : ℕ) (b : Bool) (k : ℕ) (t : Bool) (x : Played) → ((replayed_as (begin_refusal p b k t) x).kind ≡ 0 → ⊥) → (p ≡ 0) × (k ≡ 0)
begun zero true zero t x some = (refl, refl)
begun zero true (suc k) t x some = absurd (some refl)
begun zero false k t x some = absurd (some refl)
begun (suc p) b k t x some = absurd (some refl)

done_kind : (b : Bool) → ◌≡◌ {A = ℕ} (cond b 1 2) 1 → b ≡ true
done_kind true e = refl
done_kind false e = absurd (omega arith)

-- One that is done has met no refusal.
unrefused : (p : ℕ) (b : Bool) (k : ℕ) (t : Bool) (x : Played) → (replayed_as (begin_refusal p b k t) x).kind ≡ 1 → x.refusal ≡ 0
unrefused zero true zero true x e = absurd (omega arith)
unrefused zero true zero false x e = eqb-true x.refusal 0 (done_kind (eqb x.refusal 0) e)
unrefused zero true (suc k) t x e = absurd (omega arith)
unrefused zero false k t x e = absurd (omega arith)
unrefused (suc p) b k t x e = absurd (omega arith)

-- What is refused for its parts or its settings.
refused_early : (p : ℕ) (b : Bool) (k : ℕ) (t : Bool) (x : Played) → (or_else p k ≡ 0 → ⊥)
    → replayed_as (begin_refusal p b k t) x ≡ refused_by (or_else (or_else p (cond b 0 22)) (or_else p k))
refused_early zero true zero t x some = absurd (some refl)
refused_early zero true (suc k) t x some = refl
refused_early zero false k t x some = refl
refused_early (suc p) b k t x some = refl

-- A replay that came to its records is done or stopped.
goes_on : (b : Bool) → ◌≡◌ {A = ℕ} (cond b 1 2) 0 → ⊥
goes_on true e = omega arith
goes_on false e = omega arith

number_of_size : (k : ℕ) (z : ReplaySize) → number_in (unless_refused k z) ≡ k
number_of_size zero z = refl
number_of_size (suc k) z = refl

sized_as : (k : ℕ) (figures z : ReplaySize) → unless_refused k figures ≡ Ok z → (k ≡ 0) × (figures ≡ z)
sized_as zero figures z e = (refl, cc)
sized_as (suc k) figures z e = absurd (cc)

module _ (l : List ℕ) where
  written_bytes : length (played_in l).bytes ≡ 8 * windows_answered (make_of (settings_of l)).handset (brought_in l)
  unfolding played_in
  written_bytes = answered_bytes (make_of (settings_of l)).handset 0 (brought_in l)

  refusals : number_in (size_of l) ≡ or_else (parts_refusal l) (settings_refusal (settings_of l))
  unfolding size_of size_refusal
  refusals = number_of_size (size_refusal l) (figures_in l)

  module _ (room : ℕ) where
    -- Where a replay comes to its records there is a size, and its windows are counted.
    counted : ((replay_of l room).kind ≡ 0 → ⊥) → (size_of l ≡ Ok (figures_in l)) × WindowsCounted l
    unfolding replay_of start_refusal trace_refusal make_of size_of size_refusal
    counted some =
        let a = begun (parts_refusal l) _ (settings_refusal (settings_of l)) (ltb room (output_needed l)) (played_in l) some in
        (rw (a.0, a.1), windows_counted l a.1)

    done : (replay_of l room).kind ≡ 1 → size_of l ≡ Ok (size_written l)
    unfolding replay_of start_refusal trace_refusal make_of output_needed figures_in size_written
    done e =
        let p = counted (λ none. omega (arith, e, none)) in
        let none = unrefused (parts_refusal l) _ (settings_refusal (settings_of l)) (ltb room (output_needed l)) (played_in l) e in
        let all : length (played_in l).bytes ≡ 8 * windows_completed l = p.1.all none in
        let windows : windows_answered (make_of (settings_of l)).handset (brought_in l) ≡ windows_completed l = omega (arith, all, written_bytes) in
        rw (all, windows) p.0

    stopped : (replay_of l room).kind ≡ 2 → (z : ReplaySize) × (size_of l ≡ Ok z) × AtLeast z (size_written l)
    unfolding output_needed figures_in size_written
    stopped e =
        let p = counted (λ none. omega (arith, e, none)) in
        (figures_in l, p.0, record { windows = omega (arith, p.1.most, written_bytes); bytes = p.1.most })

  -- A trace that has a size and is not refused for a kind is refused for its output alone.
  module _ (z : ReplaySize) (sized : size_of l ≡ Ok z) (known : trace_refusal l ≡ 0) (room : ℕ) where
    room_asked : start_refusal l room ≡ cond (ltb room z.bytes) 23 0
    unfolding size_of size_refusal start_refusal output_needed figures_in make_of
    room_asked =
        let p = sized_as (size_refusal l) (figures_in l) z sized in
        let settings = (neither (parts_refusal l) (settings_refusal (settings_of l)) p.0).1 in
        rw (known, settings, ← p.1)

    enough : z.bytes ≤ room → (replay_of l room).kind ≡ 0 → ⊥
    unfolding replay_of
    enough h e = goes_on (eqb (played_in l).refusal 0) (rw (room_asked, le-ltb room z.bytes h) at e)

    short : room < z.bytes → replay_of l room ≡ refused_by 23
    unfolding replay_of
    short h = rw (room_asked, lt-ltb room z.bytes h)

  early : (number_in (size_of l) ≡ 0 → ⊥) → (room : ℕ) → replay_of l room ≡ refused_by (or_else (trace_refusal l) (number_in (size_of l)))
  unfolding replay_of start_refusal trace_refusal make_of
  early some room =
      rw refusals (refused_early (parts_refusal l) _ (settings_refusal (settings_of l)) (ltb room (output_needed l)) (played_in l) (rw refusals at some))

  -- What the replay tells and what its output shows.
  shown : (old : List ℕ) (k : ℕ) → ((replayed_as k (played_in l)).kind ≡ 0 → ⊥)
      → ((replayed_as k (played_in l)).windows ≡ windows_answered (make_of (settings_of l)).handset (brought_in l))
      × (output_as k (played_in l).bytes old ≡ written (played_in l).bytes old)
  shown old zero some = (omega (arith, written_bytes), refl)
  shown old (suc k) some = absurd (some refl)

pub each_shown : EachShown
unfolding replay_of output_of size_written
each_shown l old some =
    let p = shown l old (start_refusal l (length old)) some in
    record { windows = p.0; bytes = written_bytes l; output = p.1 }

pub sizes_replays : SizesReplays size_of
sizes_replays = record { refusals = refusals; done = done; stopped = stopped; alone = size_same; enough = enough; short = short; early = early }
