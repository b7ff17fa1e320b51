-- A trace with the bytes of another's header and settings whose records are all nothing is replayed to its end, so that no smaller
-- size would do. Assumes nothing.
use Prim.Native.Nat.{ℕ, zero, suc, ◌+◌, ◌%◌, ◌≤◌, ◌<◌}
use mathlib.Core.Bool.{Bool, true, false, cond, ◌&&◌}
use mathlib.Core.List.{List, [], ◌∷◌}
use mathlib.Core.Path.{◌≡◌, refl, sym, ap, ◌∙◌}
use native.Mathlib.Nat.{add-zero, le_refl}
use native.Mathlib.Omega.{arith}
use lib.Dec.{leb, ltb}
use lib.ListN.{length}
use borrow.Author.Tests.{le-leb, lt-ltb, leb-true, ltb-true}
use Rattle.std.proofs.Common.{Ok}
use Rattle.std.proofs.lemmas.Bool.{and_parts}
use Rattle.frame.specs.declared.Settings.{Settings}
use Rattle.frame.specs.Settings.{settings_refusal}
use Rattle.frame.proofs.Accepted.{mode_allowed, allowed_most, neither}
use Rattle.trace.specs.Exactly.{Holds}
use Rattle.trace.specs.Trace.{byte_at, header_of, settings_of, Part, records_part, place_of, parts_refusal, trace_refusal}
use Rattle.trace.proofs.Exactly.{exactly}
use Rattle.heard.specs.declared.Heard.TheVariants.{Nothing}
use Rattle.heard.specs.Heard.{heard_refusal, second_refusal, cause_of}
use Rattle.heard.specs.Memory.{slot_of, heard_in}
use Rattle.handset.specs.declared.Handset.{Handset}
use Rattle.handset.specs.Feed.{next_answer, pushed, feed_refusal, feed_of}
use Rattle.handset.specs.Make.{memory, fresh, make_of}
use Rattle.handset.specs.Modes.{modes_before, modes_pushed, modes_sound}
use Rattle.handset.specs.Sound.{slot_sound, all_sound, state_sound, state_refusal}
use Rattle.reader.specs.Record.{slot_at, used_in, brought_by, record_slot, brought_at}
use Rattle.replaying.specs.Accepted.{AcceptedTrace}
use Rattle.replaying.specs.Replay.{brought_from, brought_in, played, played_in, output_needed}
use Rattle.replaying.proofs.Accepting.{accepted_exactly}
use Rattle.sizing.specs.Size.{size_of}
use Rattle.sizing.specs.Sizing.{SameHead, Reached, EachReached}
use Rattle.sizing.proofs.Head.{header_same, settings_same, parts_same}
use Rattle.sizing.proofs.Sizing.{sizes_replays}

-- The bytes of a list from byte i on, with 0 for those in a part.
cleared : Part → ℕ → List ℕ → List ℕ
cleared p i [] = []
cleared p i (x ∷ xs) = cond (leb p.start i && ltb i p.end) 0 x ∷ cleared p (suc i) xs

cleared_length : (p : Part) (i : ℕ) (l : List ℕ) → length (cleared p i l) ≡ length l
unfolding cleared
cleared_length p i [] = refl
cleared_length p i (x ∷ xs) = ap suc (cleared_length p (suc i) xs)

either_zero : (b : Bool) → ◌≡◌ {A = ℕ} 0 (cond b 0 0)
either_zero true = refl
either_zero false = refl

cleared_at : (p : Part) (i : ℕ) (l : List ℕ) (j : ℕ) → byte_at (cleared p i l) j ≡ cond (leb p.start (i + j) && ltb (i + j) p.end) 0 (byte_at l j)
unfolding cleared
cleared_at p i [] j = either_zero (leb p.start (i + j) && ltb (i + j) p.end)
cleared_at p i (x ∷ xs) zero = rw (add-zero i)
cleared_at p i (x ∷ xs) (suc j) =
    let on : i + suc j ≡ suc i + j = omega arith in
    rw on (cleared_at p (suc i) xs j)

either_least : (b : Bool) (x : ℕ) → cond b 0 x ≤ x
either_least true x = omega arith
either_least false x = le_refl x

module _ (p : Part) (l : List ℕ) (j : ℕ) where
  no_more : byte_at (cleared p 0 l) j ≤ byte_at l j
  no_more = rw (cleared_at p 0 l j) (either_least (leb p.start (0 + j) && ltb (0 + j) p.end) (byte_at l j))

  -- In the part each byte is 0; others stay.
  zero_inside : Holds p j → byte_at (cleared p 0 l) j ≡ 0
  zero_inside h = cleared_at p 0 l j ∙ rw (le-leb p.start (0 + j) (omega (arith, h.0)), lt-ltb (0 + j) p.end (omega (arith, h.1)))

  same_outside : (Holds p j → ⊥) → byte_at l j ≡ byte_at (cleared p 0 l) j
  same_outside h = sym (cleared_at p 0 l j ∙ go (leb p.start (0 + j) && ltb (0 + j) p.end) refl)
    where
      go : (b : Bool) → (leb p.start (0 + j) && ltb (0 + j) p.end) ≡ b → cond b 0 (byte_at l j) ≡ byte_at l j
      go false e = refl
      go true e =
          let q = and_parts (leb p.start (0 + j)) (ltb (0 + j) p.end) e in
          absurd (h (omega (arith, leb-true p.start (0 + j) q.0), omega (arith, ltb-true (0 + j) p.end q.1)))

-- A handset that has heard nothing, at subframe n.
abbrev nothing_heard : Settings → ℕ → Handset
nothing_heard s n = record { settings = s; next = n; modes = modes_before s.mode; past = memory [] }

none_sound : (s : Settings) (n : ℕ) → all_sound s n (memory []) ≡ true
unfolding all_sound slot_sound cause_of heard_refusal second_refusal heard_in
none_sound s n = refl

-- The mode that stands, pushed on modes that are all the same, leaves them so.
modes_stay : (m : ℕ) → m ≤ 1 → modes_pushed (modes_before m) m ≡ modes_before m
modes_stay zero h = refl
modes_stay (suc zero) h = refl
modes_stay (suc (suc m)) h = absurd (omega arith)

module _ (s : Settings) (good : settings_refusal s ≡ 0) where
  low : s.mode ≤ 1
  low = allowed_most s (mode_allowed s good)

  modes_good : (m : ℕ) → m ≡ s.mode → modes_sound s (modes_before m) ≡ true
  unfolding modes_sound
  modes_good zero e = refl
  modes_good (suc zero) e = rw (e, mode_allowed s good)
  modes_good (suc (suc m)) e = absurd (omega (arith, low, e))

  -- Nothing more leaves it so, in the next subframe.
  nothing_fed : (n : ℕ) → n ≤ 9 → feed_of (nothing_heard s n) Nothing ≡ record { answer = Ok (next_answer (nothing_heard s n)); handset = nothing_heard s ((n + 1) % 10) }
  unfolding feed_of feed_refusal state_refusal state_sound cause_of heard_refusal second_refusal pushed slot_of
  nothing_fed n h = rw (good, le-leb n 9 h, modes_good s.mode refl, none_sound s n, modes_stay s.mode low)

  nothing_played : (l : List ℕ) (i count : ℕ) → ((j : ℕ) → i ≤ j → j < i + count → brought_at l j ≡ Nothing)
      → (played (nothing_heard s (i % 10)) i (brought_from l i count)).refusal ≡ 0
  unfolding played
  nothing_played l i zero h = refl
  nothing_played l i (suc count) h =
      let next : (i % 10 + 1) % 10 ≡ suc i % 10 = omega arith in
      rw (h i (le_refl i) (omega arith), nothing_fed (i % 10) (omega arith), next) (nothing_played l (suc i) count (λ j from to. h j (omega arith) (omega arith)))

module _ (l : List ℕ) (parts : parts_refusal l ≡ 0) (good : settings_refusal (settings_of l) ≡ 0) where
  -- The trace with 0 for all bytes of its records.
  abbrev emptied : List ℕ
  emptied = cleared (records_part (header_of l)) 0 l

  head : SameHead l emptied
  head =
      let fit = ((exactly l).parts.0 parts).1 in
      record {
        size = sym (cleared_length (records_part (header_of l)) 0 l);
        header = λ i h. same_outside (records_part (header_of l)) l i (λ r. fit.header_records i h r);
        settings = λ i h. same_outside (records_part (header_of l)) l i (λ r. fit.settings_records i h r);
      }

  -- The kind of each record is 0.
  kind : (i : ℕ) → i < (header_of l).records → byte_at emptied (place_of (header_of emptied).first i) ≡ 0
  kind i h = rw (← header_same l emptied head) (zero_inside (records_part (header_of l)) l (place_of (header_of l).first i) (omega arith, omega arith))

  known : trace_refusal emptied ≡ 0
  known =
      let e = exactly emptied in
      let p = e.parts.0 (sym (parts_same l emptied head) ∙ parts) in
      e.none.1 (p.0, p.1, λ i h. rw (kind i (rw (← header_same l emptied head) at h)) (omega arith))

  brought : (i : ℕ) → i < (header_of l).records → brought_at emptied i ≡ Nothing
  unfolding brought_at brought_by record_slot slot_at used_in heard_in
  brought i h = rw (kind i h)

  accepted : AcceptedTrace emptied
  unfolding played_in brought_in make_of fresh
  accepted =
      let same = settings_same l emptied head in
      let size : (header_of emptied).records ≡ (header_of l).records = ap (λ h. h.records) (sym (header_same l emptied head)) in
      record {
        trace = known;
        settings = rw (← same) good;
        records = rw (← same, good) (nothing_played (settings_of l) good emptied 0 (header_of emptied).records (λ j from to. brought j (omega (arith, to, size))));
      }

  reached : Reached l emptied
  reached =
      record {
        head = head;
        bytes = no_more (records_part (header_of l)) l;
        nothing = λ i h. brought i (rw (← header_same l emptied head) at h);
        done = (output_needed emptied, (accepted_exactly emptied).0 accepted (output_needed emptied) (le_refl (output_needed emptied)));
      }

pub each_reached : EachReached size_of
each_reached l none =
    let p = neither (parts_refusal l) (settings_refusal (settings_of l)) (sym (sizes_replays.refusals l) ∙ none) in
    (cleared (records_part (header_of l)) 0 l, reached l p.0 p.1)
