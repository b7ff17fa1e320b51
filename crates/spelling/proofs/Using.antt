-- What of a record is used, kind by kind: `used_in` keeps that, and nothing else. Assumes nothing.
use Prim.Native.Nat.{ℕ, ◌+◌, ◌%◌, ◌≤◌, ◌<◌}
use mathlib.Core.Path.{◌≡◌, refl, sym, ap, subst, ◌∙◌}
use native.Mathlib.Decide.{ℕ_discrete}
use native.Mathlib.Omega.{arith}
use borrow.Author.Tests.{eq-eqb, ne_eqb}
use Rattle.heard.specs.declared.Slot.{Slot}
use Rattle.heard.specs.Memory.{none}
use Rattle.reader.specs.Record.{used_results, used_in}
use Rattle.spelling.specs.Used.{bit1, bit2, SameResults, SameRecord, ResultsBare, RecordBare}

-- The bits that are used, with two blocks and without.
with_two : (a : ℕ) → bit2 a ≡ 1 → used_results a ≡ 4 + a % 4
unfolding used_results
with_two a e = rw (eq-eqb (bit2 a) 1 e)

without_two : (a : ℕ) → (bit2 a ≡ 1 → ⊥) → used_results a ≡ a % 2
unfolding used_results
without_two a e = rw (ne_eqb (bit2 a) 1 e)

-- Bit 2 above the two lower ones.
two_set : (x : ℕ) → x < 4 → (bit2 (4 + x) ≡ 1) × ((4 + x) % 4 ≡ x)
two_set x h = (omega arith, omega arith)

results_again : (a : ℕ) → used_results (used_results a) ≡ used_results a
results_again a = go (ℕ_discrete (bit2 a) 1)
  where
    go : Dec (bit2 a ≡ 1) → used_results (used_results a) ≡ used_results a
    go (yes e) =
        let p = two_set (a % 4) (omega arith) in
        rw (with_two a e) (with_two (4 + a % 4) p.0 ∙ ap (λ (x : ℕ). 4 + x) p.1)
    go (no e) =
        let same : a % 2 % 2 ≡ a % 2 = omega arith in
        rw (without_two a e) (without_two (a % 2) (λ z. omega arith) ∙ same)

results_bare : (a : ℕ) → ResultsBare (used_results a)
results_bare a = go (ℕ_discrete (bit2 a) 1)
  where
    go : Dec (bit2 a ≡ 1) → ResultsBare (used_results a)
    go (yes e) = record { above = rw (with_two a e) (omega arith); second = rw (with_two a e) (λ z. absurd (omega arith)) }
    go (no e) = record { above = rw (without_two a e) (omega arith); second = rw (without_two a e) (λ z. omega arith) }

-- Where no other bit is set, all are used.
results_kept : (a : ℕ) → ResultsBare a → used_results a ≡ a
results_kept a b = go (ℕ_discrete (bit2 a) 1)
  where
    go : Dec (bit2 a ≡ 1) → used_results a ≡ a
    go (yes e) =
        let same : 4 + a % 4 ≡ a = omega (arith, b.above) in
        with_two a e ∙ same
    go (no e) =
        let none : bit2 a ≡ 0 = omega arith in
        let four : a < 4 = omega (arith, b.above) in
        let one : bit1 a ≡ 0 = b.second none in
        let two : a < 2 = omega arith in
        let same : a % 2 ≡ a = omega arith in
        without_two a e ∙ same

-- Used bits that are alike give the same numbers, and the same numbers used bits that are alike.
results_same : (a b : ℕ) → SameResults a b → used_results a ≡ used_results b
results_same a b s = go (ℕ_discrete (bit2 a) 1)
  where
    go : Dec (bit2 a ≡ 1) → used_results a ≡ used_results b
    go (yes e) =
        let same : 4 + a % 4 ≡ 4 + b % 4 = omega (arith, s.first, s.second e) in
        with_two a e ∙ same ∙ sym (with_two b (sym s.two ∙ e))
    go (no e) = without_two a e ∙ s.first ∙ sym (without_two b (λ z. e (s.two ∙ z)))

same_results : (a b : ℕ) → used_results a ≡ used_results b → SameResults a b
same_results a b same = go (ℕ_discrete (bit2 a) 1) (ℕ_discrete (bit2 b) 1)
  where
    go : Dec (bit2 a ≡ 1) → Dec (bit2 b ≡ 1) → SameResults a b
    go (yes e) (yes f) =
        let q = sym (with_two a e) ∙ same ∙ with_two b f in
        record { first = omega (arith, q); two = e ∙ sym f; second = λ z. omega (arith, q) }
    go (no e) (no f) =
        let q = sym (without_two a e) ∙ same ∙ without_two b f in
        record { first = q; two = omega arith; second = λ z. absurd (e z) }
    go (yes e) (no f) =
        let q = sym (with_two a e) ∙ same ∙ without_two b f in
        absurd (omega (arith, q))
    go (no e) (yes f) =
        let q = sym (without_two a e) ∙ same ∙ with_two b f in
        absurd (omega (arith, q))

-- A record is its four numbers.
fields : (a b : Slot) → a.kind ≡ b.kind → a.cce ≡ b.cce → a.dai ≡ b.dai → a.results ≡ b.results → a ≡ b
fields a b k c d r = ap (λ (p : ℕ × (ℕ × (ℕ × ℕ))). record { kind = p.0; cce = p.1.0; dai = p.1.1.0; results = p.1.1.1 }) (rw (k, c, d, r))

-- A record, by its kind.
module _ (t : Slot) where
  grant_used : t.kind ≡ 1 → used_in t ≡ record { kind = 1; cce = t.cce; dai = t.dai; results = used_results t.results }
  unfolding used_in
  grant_used e = rw e

  scheduled_used : t.kind ≡ 2 → used_in t ≡ record { kind = 2; cce = 0; dai = 0; results = used_results t.results }
  unfolding used_in
  scheduled_used e = rw e

  release_used : t.kind ≡ 3 → used_in t ≡ record { kind = 3; cce = t.cce; dai = t.dai; results = 0 }
  unfolding used_in
  release_used e = rw e

  nothing_used : (t.kind ≡ 1 → ⊥) → (t.kind ≡ 2 → ⊥) → (t.kind ≡ 3 → ⊥) → used_in t ≡ none
  unfolding used_in
  nothing_used a b c = rw (ne_eqb t.kind 1 a, ne_eqb t.kind 2 b, ne_eqb t.kind 3 c)

  -- What is used of what is used is all of it.
  pub used_again : used_in (used_in t) ≡ used_in t
  unfolding used_in
  used_again = go (ℕ_discrete t.kind 1) (ℕ_discrete t.kind 2) (ℕ_discrete t.kind 3)
    where
      go : Dec (t.kind ≡ 1) → Dec (t.kind ≡ 2) → Dec (t.kind ≡ 3) → used_in (used_in t) ≡ used_in t
      go (yes e) b c = rw (e, results_again t.results)
      go (no a) (yes e) c = rw (e, results_again t.results)
      go (no a) (no b) (yes e) = rw e
      go (no a) (no b) (no c) = rw (ne_eqb t.kind 1 a, ne_eqb t.kind 2 b, ne_eqb t.kind 3 c)

  -- A known kind stays, and no other is made.
  used_kind : t.kind ≤ 3 → (used_in t).kind ≡ t.kind
  used_kind known = go (ℕ_discrete t.kind 1) (ℕ_discrete t.kind 2) (ℕ_discrete t.kind 3)
    where
      go : Dec (t.kind ≡ 1) → Dec (t.kind ≡ 2) → Dec (t.kind ≡ 3) → (used_in t).kind ≡ t.kind
      go (yes e) b c = ap (λ (s : Slot). s.kind) (grant_used e) ∙ sym e
      go (no a) (yes e) c = ap (λ (s : Slot). s.kind) (scheduled_used e) ∙ sym e
      go (no a) (no b) (yes e) = ap (λ (s : Slot). s.kind) (release_used e) ∙ sym e
      go (no a) (no b) (no c) =
          let zero : t.kind ≡ 0 = omega arith in
          ap (λ (s : Slot). s.kind) (nothing_used a b c) ∙ sym zero

  pub known_kind : (used_in t).kind ≤ 3
  known_kind = go (ℕ_discrete t.kind 1) (ℕ_discrete t.kind 2) (ℕ_discrete t.kind 3)
    where
      go : Dec (t.kind ≡ 1) → Dec (t.kind ≡ 2) → Dec (t.kind ≡ 3) → (used_in t).kind ≤ 3
      go (yes e) b c = rw (grant_used e) (omega arith)
      go (no a) (yes e) c = rw (scheduled_used e) (omega arith)
      go (no a) (no b) (yes e) = rw (release_used e) (omega arith)
      go (no a) (no b) (no c) = rw (nothing_used a b c) (omega arith)

  -- Nothing unused is left.
  pub used_bare : RecordBare (used_in t)
  used_bare = go (ℕ_discrete t.kind 1) (ℕ_discrete t.kind 2) (ℕ_discrete t.kind 3)
    where
      bare_as : (s : Slot) → used_in t ≡ s → RecordBare s → RecordBare (used_in t)
      bare_as s e b = subst RecordBare (sym e) b

      go : Dec (t.kind ≡ 1) → Dec (t.kind ≡ 2) → Dec (t.kind ≡ 3) → RecordBare (used_in t)
      go (yes e) b c =
          bare_as _ (grant_used e)
          (record {
            nothing = λ z. absurd (omega arith);
            grant = λ z. results_bare t.results;
            scheduled = λ z. absurd (omega arith);
            release = λ z. absurd (omega arith);
          })
      go (no a) (yes e) c =
          bare_as _ (scheduled_used e)
          (record {
            nothing = λ z. absurd (omega arith);
            grant = λ z. absurd (omega arith);
            scheduled = λ z. (refl, refl, results_bare t.results);
            release = λ z. absurd (omega arith);
          })
      go (no a) (no b) (yes e) =
          bare_as _ (release_used e)
          (record {
            nothing = λ z. absurd (omega arith);
            grant = λ z. absurd (omega arith);
            scheduled = λ z. absurd (omega arith);
            release = λ z. refl;
          })
      go (no a) (no b) (no c) =
          bare_as _ (nothing_used a b c)
          (record {
            nothing = λ z. (refl, refl, refl);
            grant = λ z. absurd (omega arith);
            scheduled = λ z. absurd (omega arith);
            release = λ z. absurd (omega arith);
          })

  -- Where nothing unused is left, all is used.
  used_kept : t.kind ≤ 3 → RecordBare t → used_in t ≡ t
  used_kept known bare = go (ℕ_discrete t.kind 1) (ℕ_discrete t.kind 2) (ℕ_discrete t.kind 3)
    where
      go : Dec (t.kind ≡ 1) → Dec (t.kind ≡ 2) → Dec (t.kind ≡ 3) → used_in t ≡ t
      go (yes e) b c = grant_used e ∙ fields _ t (sym e) refl refl (results_kept t.results (bare.grant e))
      go (no a) (yes e) c =
          let p = bare.scheduled e in
          scheduled_used e ∙ fields _ t (sym e) (sym p.0) (sym p.1) (results_kept t.results p.2)
      go (no a) (no b) (yes e) = release_used e ∙ fields _ t (sym e) refl refl (sym (bare.release e))
      go (no a) (no b) (no c) =
          let zero : t.kind ≡ 0 = omega arith in
          let p = bare.nothing zero in
          nothing_used a b c ∙ fields _ t (sym zero) (sym p.0) (sym p.1) (sym p.2)

  -- What goes into bytes stays so.
  pub used_small : t.cce < 256 → t.dai < 256 → ((used_in t).cce < 256) × ((used_in t).dai < 256) × ((used_in t).results < 256)
  used_small cce dai = go (ℕ_discrete t.kind 1) (ℕ_discrete t.kind 2) (ℕ_discrete t.kind 3)
    where
      bits : used_results t.results < 256
      bits = omega (arith, (results_bare t.results).above)

      go : Dec (t.kind ≡ 1) → Dec (t.kind ≡ 2) → Dec (t.kind ≡ 3) → ((used_in t).cce < 256) × ((used_in t).dai < 256) × ((used_in t).results < 256)
      go (yes e) b c = rw (grant_used e) (cce, dai, bits)
      go (no a) (yes e) c = rw (scheduled_used e) (omega arith, omega arith, bits)
      go (no a) (no b) (yes e) = rw (release_used e) (cce, dai, omega arith)
      go (no a) (no b) (no c) = rw (nothing_used a b c) (omega arith, omega arith, omega arith)

-- Records that are alike in what is used are written alike, whatever else is in them.
module _ (a b : Slot) where
  pub record_same : SameRecord a b → used_in a ≡ used_in b
  record_same s = go (ℕ_discrete a.kind 1) (ℕ_discrete a.kind 2) (ℕ_discrete a.kind 3)
    where
      go : Dec (a.kind ≡ 1) → Dec (a.kind ≡ 2) → Dec (a.kind ≡ 3) → used_in a ≡ used_in b
      go (yes e) y z =
          let p = s.grant e in
          rw (grant_used a e, grant_used b (sym s.kind ∙ e), p.0, p.1, results_same a.results b.results p.2)
      go (no x) (yes e) z = rw (scheduled_used a e, scheduled_used b (sym s.kind ∙ e), results_same a.results b.results (s.scheduled e))
      go (no x) (no y) (yes e) =
          let p = s.release e in
          rw (release_used a e, release_used b (sym s.kind ∙ e), p.0, p.1)
      go (no x) (no y) (no z) = nothing_used a x y z ∙ sym (nothing_used b (λ e. x (s.kind ∙ e)) (λ e. y (s.kind ∙ e)) (λ e. z (s.kind ∙ e)))

  -- Records of known kinds that are written alike are alike in what is used.
  pub same_record : a.kind ≤ 3 → b.kind ≤ 3 → used_in a ≡ used_in b → SameRecord a b
  same_record ka kb e =
      let kind : a.kind ≡ b.kind = sym (used_kind a ka) ∙ ap (λ (s : Slot). s.kind) e ∙ used_kind b kb in
      record {
        kind = kind;
        grant = λ one.
            let q = sym (grant_used a one) ∙ e ∙ grant_used b (sym kind ∙ one) in
            (ap (λ (s : Slot). s.cce) q, ap (λ (s : Slot). s.dai) q, same_results a.results b.results (ap (λ (s : Slot). s.results) q));
        scheduled = λ two.
            let q = sym (scheduled_used a two) ∙ e ∙ scheduled_used b (sym kind ∙ two) in
            same_results a.results b.results (ap (λ (s : Slot). s.results) q);
        release = λ three.
            let q = sym (release_used a three) ∙ e ∙ release_used b (sym kind ∙ three) in
            (ap (λ (s : Slot). s.cce) q, ap (λ (s : Slot). s.dai) q);
      }

-- Two records with nothing unused, alike in what is used to one of a known kind, are the same.
pub one_bare : (o a b : Slot) → o.kind ≤ 3 → SameRecord o a → SameRecord o b → RecordBare a → RecordBare b → a ≡ b
one_bare o a b known s t p q =
    sym (used_kept a (rw s.kind at known) p) ∙ sym (record_same o a s) ∙ record_same o b t ∙ used_kept b (rw t.kind at known) q
