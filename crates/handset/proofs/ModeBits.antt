-- The remembered modes: what each of them is after a feed and in a fresh handset, and that 8 asks of each what 4 and 5 ask.
-- Assumes nothing.
use Prim.Native.Nat.{ℕ, zero, suc, ◌+◌, ◌-◌, ◌*◌, ◌/◌, ◌%◌, ◌^◌, ◌≤◌}
use mathlib.Core.Bool.{true, ◌||◌, or-true}
use mathlib.Core.Logic.{◌↔◌}
use mathlib.Core.Path.{◌≡◌, refl, sym, ap, ◌∙◌}
use native.Mathlib.Decide.{ℕ_discrete}
use native.Mathlib.Nat.{div-one, not-suc-le-zero}
use native.Mathlib.Omega.{arith}
use lib.Dec.{T, eqb, eqb→eq}
use borrow.Author.Tests.{eqb-true, eq-eqb, ne_eqb}
use Rattle.frame.specs.declared.Settings.{Settings}
use Rattle.frame.specs.Settings.{new_mode_refusal, in_mode}
use Rattle.frame.proofs.Accepted.{zero_allowed}
use Rattle.frame.proofs.Below.{below, below_at}
use Rattle.frame.proofs.Bits.{half_bit, bit_of_low, low_none, none_low}
use Rattle.handset.specs.Modes.{mode_ago, modes_before, modes_pushed, modes_sound, ModesFit}

-- The mode of the feed b + 1 ago is bit b.
bit_ago : (modes b : ℕ) → mode_ago modes (suc b) ≡ modes / 2 ^ b % 2
unfolding mode_ago
bit_ago modes b =
    let same : suc b - 1 ≡ b = omega arith in
    rw same

-- The newest is the mode of the last feed, and the others are one subframe older than before it.
pub newest_mode : (modes m : ℕ) → m ≤ 1 → mode_ago (modes_pushed modes m) 1 ≡ m
newest_mode modes m small = bit_ago (modes_pushed modes m) 0 ∙ rw div-one (omega arith)

pub older_mode : (modes m k : ℕ) → m ≤ 1 → 1 ≤ k → k ≤ 12 → mode_ago (modes_pushed modes m) (suc k) ≡ mode_ago modes k
older_mode modes m zero small least most = absurd (not-suc-le-zero least)
older_mode modes m (suc j) small least most =
    let half : (modes % 4096 * 2 + m) / 2 ≡ modes % 4096 = omega arith in
    bit_ago (modes_pushed modes m) (suc j) ∙ half_bit (modes % 4096 * 2 + m) j ∙ ap (λ (x : ℕ). x / 2 ^ j % 2) half ∙ bit_of_low 12 modes j (omega arith)
    ∙ sym (bit_ago modes j)

-- Before the start it is the mode that the handset is made with.
ones_tested : T (below 13 (λ (j : ℕ). eqb (8191 / 2 ^ j % 2) 1))
ones_tested = tt

pub made_mode : (m k : ℕ) → m ≤ 1 → 1 ≤ k → k ≤ 13 → mode_ago (modes_before m) k ≡ m
unfolding mode_ago
made_mode zero k small least most = low_none 13 0 refl (k - 1) (omega arith)
made_mode (suc zero) k small least most = eqb→eq _ _ (below_at 13 (λ (j : ℕ). eqb (8191 / 2 ^ j % 2) 1) ones_tested (k - 1) (omega arith))
made_mode (suc (suc m)) k small least most = absurd (omega arith)

-- A remembered mode is 0 or 1.
mode_ago_most : (modes k : ℕ) → mode_ago modes k ≤ 1
unfolding mode_ago
mode_ago_most modes k = omega arith

module _ (s : Settings) (modes : ℕ) where
  sound_fits : modes_sound s modes ≡ true → ModesFit s modes
  unfolding modes_sound
  sound_fits e k least most = go (ℕ_discrete (modes % 8192) 0)
    where
      allowed : (modes % 8192 ≡ 0 → ⊥) → new_mode_refusal (in_mode s 1) ≡ 0
      allowed some = eqb-true (new_mode_refusal (in_mode s 1)) 0 (rw (ne_eqb (modes % 8192) 0 some) at e)

      one : (modes % 8192 ≡ 0 → ⊥) → (m : ℕ) → m ≤ 1 → new_mode_refusal (in_mode s m) ≡ 0
      one some zero small = zero_allowed s
      one some (suc zero) small = allowed some
      one some (suc (suc m)) small = absurd (omega arith)

      go : Dec (modes % 8192 ≡ 0) → new_mode_refusal (in_mode s (mode_ago modes k)) ≡ 0
      go (yes none) =
          let same : suc (k - 1) ≡ k = omega arith in
          let off : mode_ago modes k ≡ 0 = ap (mode_ago modes) (sym same) ∙ bit_ago modes (k - 1) ∙ low_none 13 modes none (k - 1) (omega arith) in
          rw off (zero_allowed s)
      go (no some) = one some (mode_ago modes k) (mode_ago_most modes k)

  fits_sound : ModesFit s modes → modes_sound s modes ≡ true
  unfolding modes_sound
  fits_sound fits = go (ℕ_discrete (new_mode_refusal (in_mode s 1)) 0)
    where
      go : Dec (new_mode_refusal (in_mode s 1) ≡ 0) → (eqb (modes % 8192) 0 || eqb (new_mode_refusal (in_mode s 1)) 0) ≡ true
      go (yes allowed) = rw (eq-eqb (new_mode_refusal (in_mode s 1)) 0 allowed) (or-true (eqb (modes % 8192) 0))
      go (no refused) = rw (eq-eqb (modes % 8192) 0 (none_low 13 modes (λ b h. sym (bit_ago modes b) ∙ none (suc b) (omega arith) (omega arith))))
        where
          none : (k : ℕ) → 1 ≤ k → k ≤ 13 → mode_ago modes k ≡ 0
          none k least most = is (mode_ago modes k) (mode_ago_most modes k) (fits k least most)
            where
              is : (m : ℕ) → m ≤ 1 → new_mode_refusal (in_mode s m) ≡ 0 → m ≡ 0
              is zero small e = refl
              is (suc zero) small e = absurd (refused e)
              is (suc (suc m)) small e = absurd (omega arith)

  -- 8 asks of the remembered modes that 4 and 5 allow each of the 13.
  pub modes_exactly : (modes_sound s modes ≡ true) ↔ ModesFit s modes
  modes_exactly = (sound_fits, fits_sound)
