-- What accepted settings are, field by field, and that those facts are all that acceptance asks.
-- Assumes nothing.
use Prim.Native.Nat.{ℕ, zero, suc, ◌<◌, ◌≤◌}
use mathlib.Core.Bool.{Bool, true, false, cond, not, ◌&&◌, ◌||◌, false≢true}
use mathlib.Core.Path.{◌≡◌, refl, sym, ◌∙◌}
use native.Mathlib.Decide.{ℕ_discrete}
use native.Mathlib.Omega.{arith}
use lib.Dec.{ltb, eqb}
use lib.ListN.{length}
use borrow.Author.Tests.{ltb-true, ltb-false, eq-eqb, ne_eqb, lt-ltb, le-ltb, eqb-true, eqb-false}
use Rattle.std.proofs.lemmas.Bool.{and_parts, false_from_ne_true, or_parts}
use Rattle.frame.specs.declared.Settings.{Settings}
use Rattle.frame.specs.Settings.{or_else, outside, cell_refusal, mode_refusal, blocks_refusal, has_scheduled, scheduled_refusal, has_second_port, ports_mode_refusal, ports_refusal, later_refusal, settings_refusal, new_mode_refusal, in_mode, no_window_refusal, window_refusal}
use Rattle.frame.specs.Special.{last_special, special_refusal}
use Rattle.frame.specs.Table.{window_of}

pub record Accepted (s : Settings) : Type 0 where
  pub config : s.config ≤ 6
  pub nrb_least : 6 ≤ s.nrb
  pub nrb_most : s.nrb ≤ 110
  pub n1 : s.n1 ≤ 2047
  pub mode : s.mode ≤ 1
  pub no_five : s.mode ≡ 1 → s.config ≡ 5 → ⊥
  pub blocks_least : 1 ≤ s.blocks
  pub blocks_most : s.blocks ≤ 2
  pub scheduled_low : has_scheduled s ≡ true → s.scheduled < s.n1
  pub prefix : s.prefix ≤ 1
  pub special : s.special ≤ last_special s.prefix
  pub ports_least : 1 ≤ s.ports
  pub ports_most : s.ports ≤ 2
  pub two_ports : has_second_port s ≡ true → (s.mode ≡ 1 → ⊥) × (has_scheduled s ≡ false)

-- No refusal of two is neither.
pub neither : (k next : ℕ) → or_else k next ≡ 0 → (k ≡ 0) × (next ≡ 0)
neither zero next e = (refl, e)
neither (suc k) next e = absurd (omega arith)

-- No refusal of a chain is its first test failed, and none further on.
pub unmet : (b : Bool) (k next : ℕ) → cond b (suc k) next ≡ 0 → (b ≡ false) × (next ≡ 0)
unmet true k next e = absurd (omega arith)
unmet false k next e = (refl, e)

-- No refusal where a test must hold is the test held, and none further on.
pub held : (b : Bool) (k next : ℕ) → cond b next (suc k) ≡ 0 → (b ≡ true) × (next ≡ 0)
held true k next e = (refl, e)
held false k next e = absurd (omega arith)

-- A number that is not outside lies between.
pub between : (low high x : ℕ) → outside low high x ≡ false → (low ≤ x) × (x ≤ high)
between low high x e =
    let p = or_parts (ltb x low) (ltb high x) e in
    (ltb-false x low p.0, ltb-false high x p.1)

pub not_outside : (low high x : ℕ) → low ≤ x → x ≤ high → outside low high x ≡ false
not_outside low high x l h = rw (le-ltb x low l, le-ltb high x h)

not_five : (m c : ℕ) → (eqb m 1 && eqb c 5) ≡ false → m ≡ 1 → c ≡ 5 → ⊥
not_five m c e em ec =
    let z : true ≡ false = rw (eq-eqb m 1 em, eq-eqb c 5 ec) at e in
    let y : ◌≡◌ {A = ℕ} 0 1 = cc in
    omega arith

low_where_set : (set : Bool) (r n1 : ℕ) → (set && not (ltb r n1)) ≡ false → set ≡ true → r < n1
low_where_set false r n1 e h = absurd (false≢true h)
low_where_set true r n1 e h = go (ltb r n1) refl e
  where
    go : (b : Bool) → ltb r n1 ≡ b → not b ≡ false → r < n1
    go true b e = ltb-true r n1 b
    go false b e = absurd (false≢true (sym e))

-- Two ports have neither mode 1 nor a scheduled resource.
not_multiplexed : (m : ℕ) (two : Bool) → (eqb m 1 && two) ≡ false → two ≡ true → m ≡ 1 → ⊥
not_multiplexed m two e h one = false≢true (sym e ∙ rw (eq-eqb m 1 one, h))

not_scheduled : (two set : Bool) → (two && set) ≡ false → two ≡ true → set ≡ false
not_scheduled true set e h = e
not_scheduled false set e h = absurd (false≢true h)

pub accepted : (s : Settings) → settings_refusal s ≡ 0 → Accepted s
unfolding settings_refusal cell_refusal mode_refusal blocks_refusal later_refusal scheduled_refusal special_refusal ports_mode_refusal ports_refusal
accepted s none =
    let a = neither (cell_refusal s) (or_else (mode_refusal s) (or_else (blocks_refusal s) (later_refusal s))) none in
    let b = neither (mode_refusal s) (or_else (blocks_refusal s) (later_refusal s)) a.1 in
    let d = neither (blocks_refusal s) (later_refusal s) b.1 in
    let config = unmet (ltb 6 s.config) 0 (cond (outside 6 110 s.nrb) 2 (cond (ltb 2047 s.n1) 3 0)) a.0 in
    let nrb = unmet (outside 6 110 s.nrb) 1 (cond (ltb 2047 s.n1) 3 0) config.1 in
    let n1 = unmet (ltb 2047 s.n1) 2 0 nrb.1 in
    let mode = unmet (ltb 1 s.mode) 3 (cond (eqb s.mode 1 && eqb s.config 5) 5 0) b.0 in
    let five = unmet (eqb s.mode 1 && eqb s.config 5) 4 0 mode.1 in
    let blocks = unmet (outside 1 2 s.blocks) 5 0 d.0 in
    let e = neither (scheduled_refusal s) (or_else (special_refusal s) (ports_refusal s)) d.1 in
    let f = neither (special_refusal s) (ports_refusal s) e.1 in
    let scheduled = unmet (has_scheduled s && not (ltb s.scheduled s.n1)) 16 0 e.0 in
    let special = or_parts (ltb 1 s.prefix) _ (unmet (ltb 1 s.prefix || ltb (last_special s.prefix) s.special) 18 0 f.0).0 in
    let ports = unmet (outside 1 2 s.ports || (has_second_port s && has_scheduled s)) 23 (ports_mode_refusal s) f.1 in
    let count = or_parts (outside 1 2 s.ports) (has_second_port s && has_scheduled s) ports.0 in
    let bundled = unmet (eqb s.mode 1 && has_second_port s) 23 0 ports.1 in
    record {
      config = ltb-false 6 s.config config.0;
      nrb_least = (between 6 110 s.nrb nrb.0).0;
      nrb_most = (between 6 110 s.nrb nrb.0).1;
      n1 = ltb-false 2047 s.n1 n1.0;
      mode = ltb-false 1 s.mode mode.0;
      no_five = not_five s.mode s.config five.0;
      blocks_least = (between 1 2 s.blocks blocks.0).0;
      blocks_most = (between 1 2 s.blocks blocks.0).1;
      scheduled_low = low_where_set (has_scheduled s) s.scheduled s.n1 scheduled.0;
      prefix = ltb-false 1 s.prefix special.0;
      special = ltb-false (last_special s.prefix) s.special special.1;
      ports_least = (between 1 2 s.ports count.0).0;
      ports_most = (between 1 2 s.ports count.0).1;
      two_ports = λ two. (not_multiplexed s.mode (has_second_port s) bundled.0 two, not_scheduled (has_second_port s) (has_scheduled s) count.1 two);
    }

five_unmet : (m c : ℕ) → (m ≡ 1 → c ≡ 5 → ⊥) → (eqb m 1 && eqb c 5) ≡ false
five_unmet m c h = elim (ℕ_discrete m 1) [ yes e ↦ rw (eq-eqb m 1 e, ne_eqb c 5 (h e)) | no e ↦ rw (ne_eqb m 1 e) ]

set_is_low : (set : Bool) (r n1 : ℕ) → (set ≡ true → r < n1) → (set && not (ltb r n1)) ≡ false
set_is_low false r n1 h = refl
set_is_low true r n1 h = rw (lt-ltb r n1 (h refl))

two_unset : (two set : Bool) → (two ≡ true → set ≡ false) → (two && set) ≡ false
two_unset true set h = h refl
two_unset false set h = refl

two_bundle : (m : ℕ) (two : Bool) → (two ≡ true → m ≡ 1 → ⊥) → (eqb m 1 && two) ≡ false
two_bundle m two h = false_from_ne_true (eqb m 1 && two) (λ e. let f = and_parts (eqb m 1) two e in h f.1 (eqb-true m 1 f.0))

pub accepting : (s : Settings) → Accepted s → settings_refusal s ≡ 0
unfolding settings_refusal cell_refusal mode_refusal blocks_refusal later_refusal scheduled_refusal special_refusal ports_mode_refusal ports_refusal
accepting s a =
    rw (
      le-ltb 6 s.config a.config,
      not_outside 6 110 s.nrb a.nrb_least a.nrb_most,
      le-ltb 2047 s.n1 a.n1,
      le-ltb 1 s.mode a.mode,
      five_unmet s.mode s.config a.no_five,
      not_outside 1 2 s.blocks a.blocks_least a.blocks_most,
      set_is_low (has_scheduled s) s.scheduled s.n1 a.scheduled_low,
      le-ltb 1 s.prefix a.prefix,
      le-ltb (last_special s.prefix) s.special a.special,
      not_outside 1 2 s.ports a.ports_least a.ports_most,
      two_unset (has_second_port s) (has_scheduled s) (λ two. (a.two_ports two).1),
      two_bundle s.mode (has_second_port s) (λ two. (a.two_ports two).0),
    )

-- In another mode accepted settings are refused by 4, 5 and 24 alone, as a change to that mode is; their own mode is allowed.
cell_same : (s : Settings) (m : ℕ) → cell_refusal (in_mode s m) ≡ cell_refusal s
unfolding cell_refusal
cell_same s m = refl

blocks_same : (s : Settings) (m : ℕ) → blocks_refusal (in_mode s m) ≡ blocks_refusal s
unfolding blocks_refusal
blocks_same s m = refl

-- Of what later papers add, 17 and 19 do not look at the mode, and 24 where the settings meet none of them looks at nothing else.
later_in : (s : Settings) (m : ℕ) → later_refusal s ≡ 0 → later_refusal (in_mode s m) ≡ ports_mode_refusal (in_mode s m)
unfolding later_refusal scheduled_refusal has_scheduled special_refusal has_second_port ports_refusal
later_in s m none =
    let e = neither (scheduled_refusal s) (or_else (special_refusal s) (ports_refusal s)) none in
    let f = neither (special_refusal s) (ports_refusal s) e.1 in
    let ports = unmet (outside 1 2 s.ports || (has_second_port s && has_scheduled s)) 23 (ports_mode_refusal s) f.1 in
    rw (e.0, f.0, ports.0)

pub refused_in : (s : Settings) (m : ℕ) → settings_refusal s ≡ 0 → settings_refusal (in_mode s m) ≡ new_mode_refusal (in_mode s m)
unfolding settings_refusal new_mode_refusal
refused_in s m good =
    let a = neither (cell_refusal s) (or_else (mode_refusal s) (or_else (blocks_refusal s) (later_refusal s))) good in
    let b = neither (mode_refusal s) (or_else (blocks_refusal s) (later_refusal s)) a.1 in
    let d = neither (blocks_refusal s) (later_refusal s) b.1 in
    rw (cell_same s m, a.0, blocks_same s m, d.0, later_in s m d.1)

pub accepted_in : (s : Settings) (m : ℕ) → settings_refusal s ≡ 0 → new_mode_refusal (in_mode s m) ≡ 0 → settings_refusal (in_mode s m) ≡ 0
accepted_in s m good allowed = refused_in s m good ∙ allowed

pub mode_allowed : (s : Settings) → settings_refusal s ≡ 0 → new_mode_refusal s ≡ 0
mode_allowed s good = sym (refused_in s s.mode good) ∙ good

-- Mode 0 is allowed everywhere, and no mode over 1 is.
pub zero_allowed : (s : Settings) → new_mode_refusal (in_mode s 0) ≡ 0
unfolding new_mode_refusal mode_refusal ports_mode_refusal
zero_allowed s = refl

pub allowed_most : (s : Settings) → new_mode_refusal s ≡ 0 → s.mode ≤ 1
unfolding new_mode_refusal mode_refusal
allowed_most s allowed =
    let a = neither (mode_refusal s) (ports_mode_refusal s) allowed in
    ltb-false 1 s.mode (unmet (ltb 1 s.mode) 3 (cond (eqb s.mode 1 && eqb s.config 5) 5 0) a.0).0

-- Where 1 to 7, 17, 19 and 24 are not met, the settings are accepted and n has a window.
pub answered : (s : Settings) (n : ℕ) → window_refusal s n ≡ 0 → Accepted s × (0 < length (window_of s.config n))
unfolding window_refusal no_window_refusal
answered s n e =
    let size : ℕ = length (window_of s.config n) in
    let a = neither (settings_refusal s) (cond (eqb size 0) 7 0) e in
    let some = eqb-false size 0 (unmet (eqb size 0) 6 0 a.1).0 in
    (accepted s a.0, omega arith)
