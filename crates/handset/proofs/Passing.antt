-- What a state is where 8 is not met, and what it remembers; and a feed where none of 8 to 12, 18 and 20 is met.
-- Assumes nothing.
use Prim.Native.Nat.{ℕ, zero, suc, ◌+◌, ◌*◌, ◌≤◌, ◌%◌}
use mathlib.Core.Bool.{Bool, true, ◌&&◌}
use mathlib.Core.List.{List, [], ◌∷◌}
use mathlib.Core.Path.{◌≡◌, refl}
use native.Mathlib.Omega.{arith}
use lib.Dec.{eqb, leb}
use lib.ListN.{get_or}
use borrow.Author.Tests.{leb-true, eqb-true}
use Rattle.std.proofs.lemmas.Bool.{and_parts}
use Rattle.frame.specs.declared.Settings.{Settings}
use Rattle.frame.specs.Distance.{before}
use Rattle.frame.specs.Settings.{settings_refusal}
use Rattle.frame.proofs.Accepted.{Accepted, accepted, neither, held}
use Rattle.resource.proofs.Edges.{edge_most}
use Rattle.heard.specs.declared.Heard.{Heard}
use Rattle.heard.specs.declared.Heard.TheVariants.{Nothing, Granted, Scheduled, Released}
use Rattle.heard.specs.declared.Slot.{Slot}
use Rattle.heard.specs.Heard.{heard_refusal, cause_of}
use Rattle.heard.specs.Memory.{none, heard_in, block_ago}
use Rattle.heard.proofs.Before.{cause_none_holds}
use Rattle.heard.proofs.Valid.{ValidPdcch, valid}
use Rattle.handset.specs.declared.Handset.{Handset}
use Rattle.handset.specs.Feed.{feed_refusal}
use Rattle.handset.specs.Modes.{modes_sound}
use Rattle.handset.specs.Sound.{slot_sound, previous, all_sound, state_sound, state_refusal}
use Rattle.handset.specs.Stored.{Storable}

-- Where 8 is not met.
pub record Sound (h : Handset) : Type 0 where
  pub good : settings_refusal h.settings ≡ 0
  pub settings : Accepted h.settings
  pub next : h.next ≤ 9
  pub modes : modes_sound h.settings h.modes ≡ true
  pub past : all_sound h.settings h.next h.past ≡ true

pub sound : (h : Handset) → state_refusal h ≡ 0 → Sound h
unfolding state_refusal state_sound
sound h e =
    let first : Bool = eqb (settings_refusal h.settings) 0 in
    let all : Bool = all_sound h.settings h.next h.past in
    let modes : Bool = modes_sound h.settings h.modes in
    let a = and_parts (first && leb h.next 9 && modes) all (held (state_sound h) 7 0 e).0 in
    let d = and_parts (first && leb h.next 9) modes a.0 in
    let b = and_parts first (leb h.next 9) d.0 in
    record {
      good = eqb-true (settings_refusal h.settings) 0 b.0;
      settings = accepted h.settings (eqb-true (settings_refusal h.settings) 0 b.0);
      next = leb-true h.next 9 b.1;
      modes = d.1;
      past = a.1;
    }

-- What is valid in a cell fits the bytes of a slot.
storable_pdcch : (s : Settings) (cce dai : ℕ) → Accepted s → ValidPdcch s cce dai → (cce ≤ 255) × (dai ≤ 255)
storable_pdcch s cce dai a v = (omega (arith, v.cce_low, edge_most s.nrb a.nrb_most), omega (arith, v.dai_most))

storable : (s : Settings) (n : ℕ) (x : Heard) → Accepted s → heard_refusal s n x ≡ 0 → Storable x
storable s n Nothing a e = tt
storable s n (Granted g) a e = storable_pdcch s g.cce.0 g.dai a (valid s n (Granted g) e).2
storable s n (Scheduled b) a e = tt
storable s n (Released p) a e = storable_pdcch s p.cce.0 p.dai a (valid s n (Released p) e).1

-- Where 8 to 12, 18 and 20 are not met.
pub record Passed (h : Handset) (x : Heard) : Type 0 where
  pub state : Sound h
  pub heard : heard_refusal h.settings h.next x ≡ 0
  pub stored : Storable x

pub passed : (h : Handset) (x : Heard) → feed_refusal h x ≡ 0 → Passed h x
unfolding feed_refusal
passed h x e =
    let a = neither (state_refusal h) (cause_of h.settings h.next (block_ago h.past) x) e in
    let state : Sound h = sound h a.0 in
    let heard = (cause_none_holds h.settings h.next (block_ago h.past) x a.1).0 in
    record { state = state; heard = heard; stored = storable h.settings h.next x state.settings heard }

-- What a sound slot heard is valid by itself in the subframe it was fed in.
slot_valid_holds : (s : Settings) (n : ℕ) (older : List Slot) (t : Slot) → slot_sound s n older t ≡ true → heard_refusal s n (heard_in t) ≡ 0
unfolding slot_sound
slot_valid_holds s n older t e =
    let fine = and_parts (leb t.kind 3) (eqb (cause_of s n (block_ago older) (heard_in t)) 0) e in
    (cause_none_holds s n (block_ago older) (heard_in t) (eqb-true (cause_of s n (block_ago older) (heard_in t)) 0 fine.1)).0

-- Slot i of the memory was fed i + 1 before the subframe that is expected; before the oldest slot nothing was heard.
past_valid : (s : Settings) (past : List Slot) (n : ℕ) → all_sound s n past ≡ true → (i : ℕ) → heard_refusal s (before n (suc i)) (heard_in (get_or past i none)) ≡ 0
unfolding all_sound heard_in heard_refusal
past_valid s [] n e i = refl
past_valid s (t ∷ ts) n e zero = slot_valid_holds s (previous n) ts t (and_parts (slot_sound s (previous n) ts t) (all_sound s (previous n) ts) e).0
past_valid s (t ∷ ts) n e (suc i) =
    let same : (n + 9 * suc (suc i)) % 10 ≡ ((n + 9 * 1) % 10 + 9 * suc i) % 10 = omega arith in
    rw same (past_valid s ts (previous n) (and_parts (slot_sound s (previous n) ts t) (all_sound s (previous n) ts) e).1 i)

-- So a state that 8 does not refuse remembers only what is valid.
pub remembered_valid : (h : Handset) → state_refusal h ≡ 0 → (i : ℕ)
    → heard_refusal h.settings (before h.next (suc i)) (heard_in (get_or h.past i none)) ≡ 0
remembered_valid h accepted i = past_valid h.settings h.past h.next (sound h accepted).past i
