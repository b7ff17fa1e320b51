-- The two calls' answers are 01's number and values of a refusal and a result: so neither refuses with 0.
-- Assumes nothing.
use Prim.Native.Nat.{ℕ, ◌-◌}
use mathlib.Core.Path.{◌≡◌, refl}
use Rattle.frame.specs.declared.Settings.{Settings}
use Rattle.frame.specs.Settings.{or_else, window_refusal}
use Rattle.frame.specs.Refusals.{unless_refused}
use Rattle.resource.specs.declared.Cce.{Cce}
use Rattle.resource.specs.declared.Resource.{Resource}
use Rattle.resource.specs.Calls.{pair_refusal, range_refusal, size_of, resource_of, inverse_of}
use Rattle.resource.specs.Formula.{resource_number, position_back, cce_back}

pub resource_form : (s : Settings) (n m c : ℕ) → (k r : ℕ) × (resource_of s n m c ≡ unless_refused {T = Resource} k (record { 0 = r }))
unfolding resource_of
resource_form s n m c =
    (or_else (window_refusal s n) (pair_refusal s.nrb (size_of s n) m c), resource_number s.nrb s.n1 (size_of s n) m c, refl)

pub inverse_form : (s : Settings) (n r : ℕ) → (k m c : ℕ) × (inverse_of s n r ≡ unless_refused {T = ℕ × Cce} k (m, record { 0 = c }))
unfolding inverse_of
inverse_form s n r = (
  or_else (window_refusal s n) (range_refusal s.nrb s.n1 (size_of s n) r),
  position_back s.nrb (size_of s n) (r - s.n1),
  cce_back s.nrb (size_of s n) (r - s.n1),
  refl,
)
