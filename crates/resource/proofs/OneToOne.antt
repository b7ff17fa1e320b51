-- The one-to-one law of the resource formula, of the map and inverse in a window of any size, and of the two calls.
-- Assumes nothing.
use Rattle.std.proofs.Common.{Result, Ok, Err}
use Prim.Native.Nat.{ℕ, zero, suc, ◌+◌, ◌-◌, ◌*◌, ◌/◌, ◌%◌, ◌<◌, ◌≤◌}
use mathlib.Core.Bool.{Bool, true, false, cond, ◌&&◌}
use mathlib.Core.Path.{◌≡◌, refl, sym, ap, ◌∙◌, fun_ext}
use native.Mathlib.Nat.{div-lt_iff_lt-mul, mul_comm, mul-le-mul_left, zero-mul}
use native.Mathlib.Omega.{arith}
use lib.Dec.{ltb}
use borrow.Author.Tests.{lt-ltb, le-leb, ltb-true}
use Rattle.frame.specs.declared.Settings.{Settings}
use Rattle.frame.specs.Settings.{or_else, window_refusal}
use Rattle.frame.specs.Refusals.{unless_refused}
use Rattle.resource.specs.declared.Cce.{Cce}
use Rattle.resource.specs.declared.Resource.{Resource}
use Rattle.resource.specs.Formula.{edge, region_of, resource_number, region_back, position_back, cce_back}
use Rattle.resource.specs.Calls.{pair_refusal, range_refusal, resource_in, inverse_in, size_of, resource_of, inverse_of}
use Rattle.resource.specs.OneToOne.{Paired, OneToOne}
use Rattle.resource.proofs.Edges.{In, edge_top, region_in, region_only}
use Rattle.resource.proofs.Layers.{formula, There, there, Back, back}

-- A product above some number has a first factor.
positive : (a b : ℕ) {t : ℕ} → t < a * b → 0 < a
positive zero b h = absurd (omega (arith, zero-mul b))
positive (suc a) b h = omega arith

same_resource : (a b : ℕ) → ◌≡◌ {A = Result Resource ℕ} (Ok (record { 0 = a })) (Ok (record { 0 = b })) → a ≡ b
same_resource a b e =
    let f : ◌≡◌ {A = Resource} (record { 0 = a }) (record { 0 = b }) = cc in
    ap (λ (x : Resource). x.0) f

same_pair : (m c m' c' : ℕ) → ◌≡◌ {A = Result (ℕ × Cce) ℕ} (Ok (m, record { 0 = c })) (Ok (m', record { 0 = c' })) → (m ≡ m') × (c ≡ c')
same_pair m c m' c' e =
    let f : ◌≡◌ {A = ℕ × Cce} (m, record { 0 = c }) (m', record { 0 = c' }) = cc in
    (ap (λ (x : ℕ × Cce). x.0) f, ap (λ (x : ℕ × Cce). x.1.0) f)

module _ (nrb n1 size : ℕ) where
  -- The formula in region p.
  number_in : (m c p : ℕ) → In nrb c p → resource_number nrb n1 size m c ≡ formula size (edge nrb p) (edge nrb (p + 1)) m c + n1
  unfolding resource_number
  number_in m c p i = rw (← region_only nrb c p i)

  position_in : (t p : ℕ) → In nrb (t / size) p → position_back nrb size t ≡ (t - size * edge nrb p) / (edge nrb (p + 1) - edge nrb p)
  unfolding position_back region_back
  position_in t p i = rw (← region_only nrb (t / size) p i)

  cce_in : (t p : ℕ) → In nrb (t / size) p → cce_back nrb size t ≡ edge nrb p + (t - size * edge nrb p) % (edge nrb (p + 1) - edge nrb p)
  unfolding cce_back region_back
  cce_in t p i = rw (← region_only nrb (t / size) p i)

  -- What the resource of a pair gives back.
  pub record Forth (m c r : ℕ) : Type 0 where
    pub low : n1 ≤ r
    pub high : r < n1 + size * edge nrb 4
    pub position : position_back nrb size (r - n1) ≡ m
    pub cce : cce_back nrb size (r - n1) ≡ c

  pub forth : (m c : ℕ) → m < size → c < edge nrb 4 → Forth m c (resource_number nrb n1 size m c)
  forth m c h top =
      let p : ℕ = region_of nrb c in
      let i : In nrb c p = region_in nrb c top in
      let lo : ℕ = edge nrb p in
      let hi : ℕ = edge nrb (p + 1) in
      let t : ℕ = formula size lo hi m c in
      let h : There size lo hi m c t = there size lo hi m c h i.low i.high in
      let j : In nrb (t / size) p = record { region = i.region; low = h.quotient_low; high = h.quotient_high } in
      let e : resource_number nrb n1 size m c ≡ t + n1 = number_in m c p i in
      let back : resource_number nrb n1 size m c - n1 ≡ t = omega arith in
      record {
        low = omega arith;
        high = omega (arith, h.below, mul-le-mul_left size (edge_top nrb p i.region));
        position = rw back (position_in t p j ∙ h.position);
        cce = rw back (cce_in t p j ∙ h.cce);
      }

  -- What a number of the range gives: a pair whose resource it is.
  pub record Found (r m c : ℕ) : Type 0 where
    pub position : m < size
    pub cce : c < edge nrb 4
    pub same : resource_number nrb n1 size m c ≡ r

  pub found : (r : ℕ) → n1 ≤ r → r < n1 + size * edge nrb 4 → Found r (position_back nrb size (r - n1)) (cce_back nrb size (r - n1))
  found r low high =
      let t : ℕ = r - n1 in
      let some : 0 < size = positive size (edge nrb 4) {t = t} (omega arith) in
      let q : t / size < edge nrb 4 = (div-lt_iff_lt-mul {k = size} {x = t} {y = edge nrb 4} some).1 (omega (arith, mul_comm size (edge nrb 4))) in
      let p : ℕ = region_of nrb (t / size) in
      let i : In nrb (t / size) p = region_in nrb (t / size) q in
      let lo : ℕ = edge nrb p in
      let hi : ℕ = edge nrb (p + 1) in
      let m : ℕ = (t - size * lo) / (hi - lo) in
      let c : ℕ = lo + (t - size * lo) % (hi - lo) in
      let b : Back size lo hi t m c = back size lo hi t some i.low i.high in
      let j : In nrb c p = record { region = i.region; low = b.cce_low; high = b.cce_high } in
      let e : resource_number nrb n1 size m c ≡ r = number_in m c p j ∙ omega (arith, b.same) in
      rw (position_in t p i, cce_in t p i)
      (record { position = b.position; cce = omega (arith, edge_top nrb p i.region, b.cce_high); same = e })

  -- A pair in range is not refused.
  pair_accepted : (m c : ℕ) → m < size → c < edge nrb 4 → pair_refusal nrb size m c ≡ 0
  unfolding pair_refusal
  pair_accepted m c h top = rw (lt-ltb m size h, lt-ltb c (edge nrb 4) top)

  range_accepted : (r : ℕ) → n1 ≤ r → r < n1 + size * edge nrb 4 → range_refusal nrb n1 size r ≡ 0
  unfolding range_refusal
  range_accepted r low high = rw (le-leb n1 r low, lt-ltb r (n1 + size * edge nrb 4) high)

  -- A resource and its pair.
  pub paired : (m c : ℕ) → m < size → c < edge nrb 4
      → Paired (resource_in nrb n1 size) (inverse_in nrb n1 size) m c (resource_number nrb n1 size m c)
  unfolding resource_in inverse_in
  paired m c h top =
      let f : Forth m c (resource_number nrb n1 size m c) = forth m c h top in
      record {
        there = rw (pair_accepted m c h top);
        back = rw (range_accepted (resource_number nrb n1 size m c) f.low f.high, f.position, f.cce);
      }

  -- Only a pair in range has a resource.
  mapped_in_holds : (m c r : ℕ) → resource_in nrb n1 size m c ≡ Ok (record { 0 = r })
      → (m < size) × (c < edge nrb 4) × (resource_number nrb n1 size m c ≡ r)
  unfolding resource_in pair_refusal
  mapped_in_holds m c r e = go (ltb m size) (ltb c (edge nrb 4)) refl refl e
    where
      go : (a b : Bool) → ltb m size ≡ a → ltb c (edge nrb 4) ≡ b
          → unless_refused {T = Resource} (cond (a && b) 0 11) (record { 0 = (resource_number nrb n1 size m c) }) ≡ Ok (record { 0 = r })
          → (m < size) × (c < edge nrb 4) × (resource_number nrb n1 size m c ≡ r)
      go true true a b e = (ltb-true m size a, ltb-true c (edge nrb 4) b, same_resource _ _ e)
      go true false a b e = let z : ◌≡◌ {A = ℕ} 0 1 = cc in absurd (omega arith)
      go false b a b' e = let z : ◌≡◌ {A = ℕ} 0 1 = cc in absurd (omega arith)

  -- The one-to-one law, for any N_RB, N1 and M.
  pub one_to_one_holds : OneToOne size (edge nrb 4) n1 (resource_in nrb n1 size) (inverse_in nrb n1 size)
  one_to_one_holds =
      record {
        into = λ m c h top.
            let f : Forth m c (resource_number nrb n1 size m c) = forth m c h top in
            (resource_number nrb n1 size m c, f.low, f.high, paired m c h top);
        onto = λ r low high.
            let m : ℕ = position_back nrb size (r - n1) in
            let c : ℕ = cce_back nrb size (r - n1) in
            let f : Found r m c = found r low high in
            (m, c, f.position, f.cce, rw f.same at (paired m c f.position f.cce));
        once = λ m c m' c' r e e'.
            let f = mapped_in_holds m c r e in
            let f' = mapped_in_holds m' c' r e' in
            let p = rw f.2 at (paired m c f.0 f.1) in
            let p' = rw f'.2 at (paired m' c' f'.0 f'.1) in
            same_pair m c m' c' (sym p.back ∙ p'.back);
      }

-- Where 1 to 7, 17, 19 and 24 are not met, the calls are the map and the inverse of their window.
pub resource_call : (s : Settings) (n : ℕ) → window_refusal s n ≡ 0 → (m c : ℕ) → resource_of s n m c ≡ resource_in s.nrb s.n1 (size_of s n) m c
unfolding resource_of resource_in
resource_call s n e m c = rw e

pub inverse_call : (s : Settings) (n : ℕ) → window_refusal s n ≡ 0 → (r : ℕ) → inverse_of s n r ≡ inverse_in s.nrb s.n1 (size_of s n) r
unfolding inverse_of inverse_in
inverse_call s n e r = rw e

-- The one-to-one law of the calls themselves, for any settings and any subframe that they do not refuse.
pub calls_one_to_one : (s : Settings) (n : ℕ) → window_refusal s n ≡ 0
    → OneToOne (size_of s n) (edge s.nrb 4) s.n1 (resource_of s n) (inverse_of s n)
calls_one_to_one s n e =
    rw (fun_ext (λ m. fun_ext (resource_call s n e m)), fun_ext (inverse_call s n e))
    (one_to_one_holds s.nrb s.n1 (size_of s n))

-- A call that gives a resource was not refused.
not_refused : (w next r : ℕ) (x : Resource) → unless_refused {T = Resource} (or_else w next) (record { 0 = r }) ≡ Ok x → w ≡ 0
not_refused zero next r x e = refl
not_refused (suc w) next r x e = let z : ◌≡◌ {A = ℕ} 0 1 = cc in absurd (omega arith)

pub call_accepted : (s : Settings) (n m c : ℕ) (x : Resource) → resource_of s n m c ≡ Ok x → window_refusal s n ≡ 0
unfolding resource_of
call_accepted s n m c x e = not_refused (window_refusal s n) _ _ x e

-- What refuses the settings or the subframe is what the inverse answers, whatever the resource.
pub inverse_refused : (s : Settings) (n k : ℕ) → window_refusal s n ≡ suc k → (r : ℕ) → inverse_of s n r ≡ Err (suc k)
unfolding inverse_of
inverse_refused s n k e r = rw e

-- The inverse gives back the pair whose resource the call gave.
pub call_back : (s : Settings) (n m c r : ℕ) → resource_of s n m c ≡ Ok (record { 0 = r }) → inverse_of s n r ≡ Ok (m, (record { 0 = c }))
call_back s n m c r e =
    let good : window_refusal s n ≡ 0 = call_accepted s n m c (record { 0 = r }) e in
    let f = mapped_in_holds s.nrb s.n1 (size_of s n) m c r (sym (resource_call s n good m c) ∙ e) in
    inverse_call s n good r ∙ rw f.2 at (paired s.nrb s.n1 (size_of s n) m c f.0 f.1).back

-- A resource that the call gives lies in the window's range.
pub resource_range : (s : Settings) (n : ℕ) → window_refusal s n ≡ 0 → (m c r : ℕ) → resource_of s n m c ≡ Ok (record { 0 = r })
    → (s.n1 ≤ r) × (r < s.n1 + size_of s n * edge s.nrb 4)
resource_range s n e m c r h =
    let f = mapped_in_holds s.nrb s.n1 (size_of s n) m c r (sym (resource_call s n e m c) ∙ h) in
    let g = rw f.2 at (forth s.nrb s.n1 (size_of s n) m c f.0 f.1) in
    (g.low, g.high)
