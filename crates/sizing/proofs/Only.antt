-- No other sizing meets the statement of specs/Sizing.antt. Assumes nothing.
use Prim.Native.Nat.{ℕ, zero, suc}
use mathlib.Core.List.{List}
use mathlib.Core.Path.{◌≡◌, refl, sym, ◌∙◌}
use native.Mathlib.Omega.{arith}
use Rattle.std.proofs.Common.{Result, Ok, Err}
use Rattle.frame.specs.Refusals.{number_in}
use Rattle.sizing.specs.declared.ReplaySize.{ReplaySize}
use Rattle.sizing.specs.Size.{size_of}
use Rattle.sizing.specs.Sizing.{Sizing, size_written, SizesReplays, Reached, Only}
use Rattle.sizing.proofs.Reached.{each_reached}
use Rattle.sizing.proofs.Sizing.{sizes_replays}

-- What is refused is refused by its number.
refused_as : (x : Result ReplaySize ℕ) (k : ℕ) → number_in x ≡ suc k → x ≡ Err (suc k)
refused_as (Ok z) k e = absurd (omega arith)
refused_as (Err j) k e = rw e

-- Where another trace with the same header and settings is replayed to its end, any sizing says what that replay writes.
as_written : (s : Sizing) → SizesReplays s → (l m : List ℕ) → Reached l m → s l ≡ Ok (size_written m)
as_written s meets l m r = meets.alone l m r.head ∙ meets.done m r.done.0 r.done.1

module _ (other : Sizing) (meets : SizesReplays other) (l : List ℕ) where
  same : (k : ℕ) → number_in (size_of l) ≡ k → other l ≡ size_of l
  same zero none =
      let q = each_reached l none in
      as_written other meets l q.0 q.1 ∙ sym (as_written size_of sizes_replays l q.0 q.1)
  same (suc k) some =
      refused_as (other l) k (meets.refusals l ∙ sym (sizes_replays.refusals l) ∙ some) ∙ sym (refused_as (size_of l) k some)

pub only : Only size_of
only other meets l = same other meets l (number_in (size_of l)) refl
