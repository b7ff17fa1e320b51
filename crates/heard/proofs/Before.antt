-- The look back of 18: what it depends on, and that what is heard by itself is judged without it.
-- Assumes nothing.
use Prim.Native.Nat.{ℕ, zero, suc, ◌<◌, ◌≤◌}
use mathlib.Core.Bool.{Bool, true, false, ◌&&◌, and-eq-true_iff}
use mathlib.Core.Path.{◌≡◌, refl}
use native.Mathlib.Nat.{le_step}
use native.Mathlib.Omega.{arith}
use Rattle.std.proofs.Common.{Decides}
use Rattle.std.proofs.lemmas.Bool.Decides.{Decides-below_or}
use Rattle.frame.specs.declared.Settings.{Settings}
use Rattle.frame.specs.Distance.{shares}
use Rattle.frame.proofs.Accepted.{neither}
use Rattle.frame.proofs.Shares.{shares_near}
use Rattle.heard.specs.declared.Heard.{Heard}
use Rattle.heard.specs.Heard.{is_block, heard_refusal, block_before, BeforeExactly, second_refusal, cause_of}

-- It looks back no further than it says.
pub before_same : (most c n : ℕ) (f g : ℕ → Bool) → ((a : ℕ) → 1 ≤ a → a ≤ most → f a ≡ g a) → block_before most c n f ≡ block_before most c n g
unfolding block_before
before_same zero c n f g h = refl
before_same (suc a) c n f g h = rw (h (suc a) (omega arith) (omega arith), before_same a c n f g (λ i low high. h i low (le_step high)))

pub cause_same : (s : Settings) (n : ℕ) (f g : ℕ → Bool) (x : Heard) → ((a : ℕ) → 1 ≤ a → a ≤ 13 → f a ≡ g a) → cause_of s n f x ≡ cause_of s n g x
unfolding cause_of second_refusal
cause_same s n f g x h = rw (before_same 13 s.config n f g h)

-- Fewer blocks heard before: none of them in the window either.
pub before_fewer : (most c n : ℕ) (f g : ℕ → Bool) → ((a : ℕ) → 1 ≤ a → f a ≡ true → g a ≡ true)
    → block_before most c n g ≡ false → block_before most c n f ≡ false
unfolding block_before
before_fewer zero c n f g h e = refl
before_fewer (suc a) c n f g h e =
    let rest = before_fewer a c n f g h in
    let here : f (suc a) ≡ true → g (suc a) ≡ true = h (suc a) (omega arith) in
    grind arith

-- What is not refused is not refused by itself, and no second block.
pub cause_none_holds : (s : Settings) (n : ℕ) (f : ℕ → Bool) (x : Heard) → cause_of s n f x ≡ 0
    → (heard_refusal s n x ≡ 0) × ((is_block x && block_before 13 s.config n f) ≡ false)
unfolding cause_of second_refusal
cause_none_holds s n f x e =
    let a = neither _ _ e in
    (a.0, grind arith)

pub cause_fewer : (s : Settings) (n : ℕ) (f g : ℕ → Bool) (x : Heard) → ((a : ℕ) → 1 ≤ a → f a ≡ true → g a ≡ true)
    → cause_of s n g x ≡ 0 → cause_of s n f x ≡ 0
unfolding cause_of second_refusal
cause_fewer s n f g x h e =
    let a = cause_none_holds s n g x e in
    let rest = before_fewer 13 s.config n f g h in
    rw a.0 (grind arith)

-- A block that it finds stands somewhere before, and one that stands before is found, no further back than it looks.
before_decided : (c n : ℕ) (f : ℕ → Bool) (most : ℕ)
    → Decides (block_before most c n f) ((k : ℕ) × (k < most) × ((f (suc k) ≡ true) × (shares c n (suc k) ≡ true)))
unfolding block_before
before_decided c n f most =
    Decides-below_or _ _ (λ m. block_before m c n f) (λ k. and-eq-true_iff (f (suc k)) (shares c n (suc k))) refl (λ m. refl) most

pub before_exactly : (c n : ℕ) (f : ℕ → Bool) → BeforeExactly c n f
before_exactly c n f down = (
  λ e. let k = (before_decided c n f 13).0 e in (suc k.0, omega arith, k.2.0, k.2.1),
  λ s. found s.0 s.1 (omega (arith, shares_near c n s.0 down s.3)) s.2 s.3,
)
  where
    found : (a : ℕ) → 1 ≤ a → a ≤ 13 → f a ≡ true → shares c n a ≡ true → block_before 13 c n f ≡ true
    found zero least within p q = absurd (omega arith)
    found (suc k) least within p q = (before_decided c n f 13).1 (k, omega arith, (p, q))
