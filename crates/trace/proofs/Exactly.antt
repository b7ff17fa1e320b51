-- 21 and 22 are given exactly for their causes: specs/Exactly.antt, proved. Assumes nothing.
use Prim.Native.Nat.{ℕ, ◌+◌, ◌-◌, ◌*◌, ◌≤◌, ◌<◌}
use mathlib.Core.Bool.{Bool, true, false, cond, ◌&&◌, ◌||◌, or-true, false≢true}
use mathlib.Core.List.{List}
use mathlib.Core.Logic.{◌⊎◌, inl, inr, ◌↔◌}
use mathlib.Core.Path.{◌≡◌, refl, sym, ◌∙◌}
use native.Mathlib.Decide.{dec_le}
use native.Mathlib.Omega.{arith}
use lib.Dec.{eqb, leb}
use lib.ListN.{length}
use borrow.Author.Tests.{leb-true, le-leb, eqb-true, eqb-false, eq-eqb}
use Rattle.std.proofs.lemmas.Bool.{and_parts, false_from_ne_true}
use Rattle.frame.specs.Settings.{or_else}
use Rattle.trace.specs.declared.Header.{Header}
use Rattle.trace.specs.Exactly.{Apart, PartsFit, RightLength, KindsKnown, RefusedExactly}
use Rattle.trace.specs.Trace.{header_of, Part, header_part, settings_part, records_part, apart, within, settings_fit, records_fit, length_refusal, parts_refusal, kinds_known, trace_refusal}
use Rattle.trace.proofs.Known.{kind_known, all_known}

-- A part that begins before its end.
abbrev Some : Part → Type 0
Some p = p.start < p.end

-- Tests of two parts that are not empty, and what they say of bytes.
apart_so : (p q : Part) → apart p q ≡ true → Apart p q
apart_so p q e i a b = go (leb p.end q.start) refl e
  where
    go : (t : Bool) → leb p.end q.start ≡ t → (t || leb q.end p.start) ≡ true → ⊥
    go true t e = omega (arith, leb-true p.end q.start t, a.1, b.0)
    go false t e = omega (arith, leb-true q.end p.start e, a.0, b.1)

so_apart : (p q : Part) → Some p → Some q → Apart p q → apart p q ≡ true
so_apart p q a b h = go (dec_le p.end q.start) (dec_le q.end p.start) (dec_le p.start q.start)
  where
    go : Dec (p.end ≤ q.start) → Dec (q.end ≤ p.start) → Dec (p.start ≤ q.start) → apart p q ≡ true
    go (yes left) right order = rw (le-leb _ _ left)
    go (no left) (yes right) order = rw (le-leb _ _ right) (or-true (leb p.end q.start))
    go (no left) (no right) (yes order) = absurd (h q.start (order, omega arith) (omega arith, b))
    go (no left) (no right) (no order) = absurd (h p.start (omega arith, a) (omega arith, omega arith))

module _ (h : Header) (long : 8 ≤ h.size) where
  fit_so : settings_fit h ≡ true → records_fit h ≡ true → PartsFit h
  unfolding settings_fit records_fit
  fit_so s r =
      let p = and_parts (within h.size (settings_part h)) (apart header_part (settings_part h)) s in
      let settings = leb-true (h.settings + 10) h.size p.0 in
      go (eqb h.records 0) refl r settings (apart_so header_part (settings_part h) p.1)
    where
      go : (t : Bool) → eqb h.records 0 ≡ t
          → (t || (within h.size (records_part h) && (apart header_part (records_part h) && apart (settings_part h) (records_part h)))) ≡ true
          → h.settings + 10 ≤ h.size → Apart header_part (settings_part h) → PartsFit h
      go true t r settings first =
          let none = eqb-true h.records 0 t in
          record {
            header = λ i a. omega (arith, a.1, long);
            settings = λ i a. omega (arith, a.1, settings);
            records = λ i a. absurd (omega (arith, a.0, a.1, none));
            header_settings = first;
            header_records = λ i a b. omega (arith, b.0, b.1, none);
            settings_records = λ i a b. omega (arith, b.0, b.1, none);
          }
      go false t r settings first =
          let p = and_parts (within h.size (records_part h)) (apart header_part (records_part h) && apart (settings_part h) (records_part h)) r in
          let q = and_parts (apart header_part (records_part h)) (apart (settings_part h) (records_part h)) p.1 in
          let records = leb-true (h.first + 4 * h.records) h.size p.0 in
          record {
            header = λ i a. omega (arith, a.1, long);
            settings = λ i a. omega (arith, a.1, settings);
            records = λ i a. omega (arith, a.1, records);
            header_settings = first;
            header_records = apart_so header_part (records_part h) q.0;
            settings_records = apart_so (settings_part h) (records_part h) q.1;
          }

  so_fit : PartsFit h → (settings_fit h ≡ true) × (records_fit h ≡ true)
  unfolding settings_fit records_fit
  so_fit f = (
    rw (le-leb (h.settings + 10) h.size (omega (arith, f.settings (h.settings + 9) (omega arith, omega arith))))
        (so_apart header_part (settings_part h) (omega arith) (omega arith) f.header_settings),
    go (eqb h.records 0) refl,
  )
    where
      go : (t : Bool) → eqb h.records 0 ≡ t
          → (t || (within h.size (records_part h) && (apart header_part (records_part h) && apart (settings_part h) (records_part h)))) ≡ true
      go true t = refl
      go false t =
          let some = eqb-false h.records 0 t in
          let last = f.records (h.first + 4 * h.records - 1) (omega arith, omega arith) in
          rw (
            le-leb (h.first + 4 * h.records) h.size (omega (arith, last)),
            so_apart header_part (records_part h) (omega arith) (omega arith) f.header_records,
            so_apart (settings_part h) (records_part h) (omega arith) (omega arith) f.settings_records,
          )

-- The three tests in their order.
abbrev tested : Bool → Bool → Bool → ℕ
tested a b c = or_else (or_else (cond a 0 21) (cond b 0 22)) (cond c 0 22)

first_met : (a b c : Bool) → (tested a b c ≡ 21) ↔ (a ≡ false)
first_met false b c = (λ e. refl, λ e. refl)
first_met true false c = (λ e. absurd (omega arith), λ e. absurd (false≢true (sym e)))
first_met true true true = (λ e. absurd (omega arith), λ e. absurd (false≢true (sym e)))
first_met true true false = (λ e. absurd (omega arith), λ e. absurd (false≢true (sym e)))

later_met : (a b c : Bool) → (tested a b c ≡ 22) ↔ ((a ≡ true) × ((b ≡ true) × (c ≡ true) → ⊥))
later_met false b c = (λ e. absurd (omega arith), λ e. absurd (false≢true e.0))
later_met true false c = (λ e. (refl, λ f. false≢true f.0), λ e. refl)
later_met true true true = (λ e. absurd (omega arith), λ e. absurd (e.1 (refl, refl)))
later_met true true false = (λ e. (refl, λ f. false≢true f.1), λ e. refl)

parts_met : (a b : Bool) → (◌≡◌ {A = ℕ} (or_else (cond a 0 21) (cond b 0 22)) 0) ↔ ((a ≡ true) × (b ≡ true))
parts_met false b = (λ e. absurd (omega arith), λ e. absurd (false≢true e.0))
parts_met true false = (λ e. absurd (omega arith), λ e. absurd (false≢true e.1))
parts_met true true = (λ e. (refl, refl), λ e. refl)

none_met : (a b c : Bool) → (tested a b c ≡ 0) ↔ ((a ≡ true) × (b ≡ true) × (c ≡ true))
none_met false b c = (λ e. absurd (omega arith), λ e. absurd (false≢true e.0))
none_met true false c = (λ e. absurd (omega arith), λ e. absurd (false≢true e.1))
none_met true true true = (λ e. (refl, refl, refl), λ e. refl)
none_met true true false = (λ e. absurd (omega arith), λ e. absurd (false≢true e.2))

one_met : (a b c : Bool) → (tested a b c ≡ 0) ⊎ ((tested a b c ≡ 21) ⊎ (tested a b c ≡ 22))
one_met false b c = inr (inl refl)
one_met true false c = inr (inr refl)
one_met true true true = inl refl
one_met true true false = inr (inr refl)

pub exactly : (l : List ℕ) → RefusedExactly l
unfolding trace_refusal parts_refusal length_refusal
exactly l =
    record {
      twenty_one = (λ e r. false≢true (sym (first.0 e) ∙ so_right r), λ h. first.1 (false_from_ne_true a (λ e. h (right_so e))));
      twenty_two = (
        λ e.
            let p = later.0 e in
            (right_so p.0, λ f. p.1 (so_parts (right_so p.0) f.0, so_kinds f.1)),
        λ r. later.1 (so_right r.0, λ f. r.1 (parts_so r.0 f.0, kinds_so f.1)),
      );
      none = (
        λ e.
            let p = none.0 e in
            (right_so p.0, parts_so (right_so p.0) p.1, kinds_so p.2),
        λ r. none.1 (so_right r.0, so_parts r.0 r.1, so_kinds r.2),
      );
      no_other = one_met a b c;
      parts = (
        λ e.
            let p = parts.0 e in
            (right_so p.0, parts_so (right_so p.0) p.1),
        λ r. parts.1 (so_right r.0, so_parts r.0 r.1),
      );
    }
  where
    a : Bool
    a = leb 8 (length l) && eqb (length l) (header_of l).size

    b : Bool
    b = settings_fit (header_of l) && records_fit (header_of l)

    c : Bool
    c = kinds_known l (header_of l).first (header_of l).records

    first : (tested a b c ≡ 21) ↔ (a ≡ false)
    first = first_met a b c

    none : (tested a b c ≡ 0) ↔ ((a ≡ true) × (b ≡ true) × (c ≡ true))
    none = none_met a b c

    later : (tested a b c ≡ 22) ↔ ((a ≡ true) × ((b ≡ true) × (c ≡ true) → ⊥))
    later = later_met a b c

    parts : (◌≡◌ {A = ℕ} (or_else (cond a 0 21) (cond b 0 22)) 0) ↔ ((a ≡ true) × (b ≡ true))
    parts = parts_met a b

    parts_so : RightLength l → b ≡ true → PartsFit (header_of l)
    parts_so r e =
        let f = and_parts (settings_fit (header_of l)) (records_fit (header_of l)) e in
        fit_so (header_of l) (rw r.1 at r.0) f.0 f.1

    so_parts : RightLength l → PartsFit (header_of l) → b ≡ true
    so_parts r f =
        let p = so_fit (header_of l) (rw r.1 at r.0) f in
        rw p.0 p.1

    kinds_so : c ≡ true → KindsKnown l
    kinds_so e i h = leb-true _ 3 (kind_known l (header_of l).first (header_of l).records i e h)

    so_kinds : KindsKnown l → c ≡ true
    so_kinds k = all_known l (header_of l).first (header_of l).records k

    right_so : a ≡ true → RightLength l
    right_so e =
        let p = and_parts (leb 8 (length l)) (eqb (length l) (header_of l).size) e in
        (leb-true 8 (length l) p.0, eqb-true (length l) (header_of l).size p.1)

    so_right : RightLength l → a ≡ true
    so_right r = rw (le-leb 8 (length l) r.0, eq-eqb (length l) (header_of l).size r.1)
