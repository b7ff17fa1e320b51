-- What of a record is used, made with no branch on its kind. Assumes nothing.
use Prim.Native.Nat.{ℕ, zero, suc, ◌+◌, ◌*◌, ◌/◌, ◌%◌}
use mathlib.Core.Path.{◌≡◌, refl}
use native.Mathlib.Decide.{ℕ_discrete}
use native.Mathlib.Omega.{arith}
use lib.Dec.{ltb}
use borrow.Author.Tests.{ne_eqb, le-ltb}
use mir.Val.{bool_byte}
use Rattle.std.proofs.Common.{nat_lt}
use Rattle.heard.specs.declared.Slot.{Slot}
use Rattle.reader.specs.Record.{used_results, used_in}

-- The bits of the results.
bits : (a : ℕ) → used_results a ≡ a % 2 + a / 4 % 2 * (a / 2 % 2 * 2 + 4)
unfolding used_results
bits a = go (ℕ_discrete (a / 4 % 2) 1)
  where
    go : Dec (a / 4 % 2 ≡ 1) → used_results a ≡ a % 2 + a / 4 % 2 * (a / 2 % 2 * 2 + 4)
    go (yes e) =
        let same : 4 + a % 4 ≡ a % 2 + 1 * (a / 2 % 2 * 2 + 4) = omega arith in
        rw e same
    go (no e) =
        let none : a / 4 % 2 ≡ 0 = omega arith in
        let same : a % 2 ≡ a % 2 + 0 * (a / 2 % 2 * 2 + 4) = omega arith in
        rw none same

-- A record is its four numbers.
fields : (k c d r k′ c′ d′ r′ : ℕ) → k ≡ k′ → c ≡ c′ → d ≡ d′ → r ≡ r′
    → ◌≡◌ {A = Slot} (record { kind = k; cce = c; dai = d; results = r }) (record { kind = k′; cce = c′; dai = d′; results = r′ })
fields k c d r k′ c′ d′ r′ e₁ e₂ e₃ e₄ = rw (e₁, e₂, e₃, e₄)

-- The record, by its kind; a kind over 3 leaves nothing.
abbrev made : ℕ → ℕ → ℕ → ℕ → ℕ → Slot
made known k c d r =
    record {
      kind = known * k;
      cce = known * (k % 2) * c;
      dai = known * (k % 2) * d;
      results = known * ((k / 2 + k % 2) % 2) * (r % 2 + r / 4 % 2 * (r / 2 % 2 * 2 + 4));
    }

by_kind : (k c d r : ℕ) → made (bool_byte (nat_lt k 4)) k c d r ≡ used_in (record { kind = k; cce = c; dai = d; results = r })
unfolding used_in
by_kind zero c d r = fields _ _ _ _ _ _ _ _ refl (omega arith) (omega arith) (omega arith)
by_kind (suc zero) c d r = fields _ _ _ _ _ _ _ _ refl (omega arith) (omega arith) (rw (bits r) (omega arith))
by_kind (suc (suc zero)) c d r = fields _ _ _ _ _ _ _ _ refl (omega arith) (omega arith) (rw (bits r) (omega arith))
by_kind (suc (suc (suc zero))) c d r = fields _ _ _ _ _ _ _ _ refl (omega arith) (omega arith) (omega arith)
by_kind (suc (suc (suc (suc k)))) c d r =
    let over : ℕ = suc (suc (suc (suc k))) in
    rw (le-ltb over 4 (omega arith), ne_eqb over 1 (λ z. omega arith), ne_eqb over 2 (λ z. omega arith), ne_eqb over 3 (λ z. omega arith))
    (fields _ _ _ _ _ _ _ _ (omega arith) (omega arith) (omega arith) (omega arith))

pub masked : (t : Slot) → made (bool_byte (nat_lt t.kind 4)) t.kind t.cce t.dai t.results ≡ used_in t
masked t = by_kind t.kind t.cce t.dai t.results
