-- `handset::Handset::blocks_apart` meets its contract. Assumes nothing.
use Prim.Native.Nat.{ℕ, ◌+◌, ◌-◌, ◌<◌}
use mathlib.Core.Bool.{false}
use mathlib.Core.Path.{◌≡◌, refl, ◌∙◌}
use native.Mathlib.Omega.{arith}
use lib.ListN.{get_or, drop, length-set}
use Rattle.frame.proofs.Distances.{distance_most}
use Rattle.std.proofs.lemmas.List.{get_or-replicate}
use Rattle.handset.proofs.Apart.{answered_at, taken_by, taken_none, apart_none, taken_more, apart_more}
use Rattle.handset.proofs.Handset.blocks_apart.Goals as goal

pub loop-k-init : goal.loop-k-init
loop-k-init c =
    record {
      size = omega arith;
      fed = c.before-n.ensures;
      taken = λ w h. taken_none _ _ c.args.self.now.past (omega arith) w _ (get_or-replicate 32 w false false h);
      apart = apart_none _ _ c.args.self.now.past (omega arith);
    }

-- Slot i, the one that the loop has come to, stands before those that it went through.
pub loop-k-preserved : goal.loop-k-preserved
loop-k-preserved c =
    let i : ℕ = 12 - c.loop-k.k in
    let config : ℕ = c.args.self.now.settings.config in
    let next : ℕ = c.args.self.now.next in
    let here : 13 - (c.loop-k.k + 1) ≡ i = omega arith in
    let past : 13 - c.loop-k.k ≡ i + 1 = omega arith in
    let at : c.from.result + 13 - i ≡ answered_at config next i =
    rw (c.from.ensures, c.distance_of.ensures, c.loop-k.invariant.fed, past) refl in
    let low : c.from.result + 13 - i < 32 = omega (arith, c.from.ensures, c.distance_of.ensures, distance_most config c.loop-k.n) in
    let known : (w : ℕ) → w < 32 → get_or c.loop-k.taken w false ≡ taken_by config next (i + 1) (drop (i + 1) c.args.self.now.past) w =
    λ w h. rw past at (c.loop-k.invariant.taken w h) in
    record {
      size = length-set c.loop-k.taken _ _ ∙ c.loop-k.invariant.size;
      fed = c.subframe_after-n.ensures ∙ rw (c.loop-k.invariant.fed, past, here) (omega arith);
      taken = λ w h. rw here (taken_more config next c.args.self.now.past (omega arith) i (omega arith) c.loop-k.taken c.loop-k.invariant.size known _ low at w h);
      apart =
          rw here
          (apart_more config next c.args.self.now.past (omega arith) i (omega arith) c.loop-k.second _ (rw past at c.loop-k.invariant.apart)
          (known _ low ∙ rw at refl));
    }
