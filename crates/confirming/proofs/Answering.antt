-- What is answered where a reading is refused.
-- Assumes nothing.
use Rattle.std.proofs.Common.{Result, Ok, Err, IsErrAnd}
use Prim.Native.Nat.{ℕ}
use mathlib.Core.List.{List}
use mathlib.Core.Path.{◌≡◌, refl, ap, ◌∙◌}
use Rattle.std.proofs.lemmas.Result.{err_from_is_err_and}
use Rattle.frame.specs.declared.refusal.Refusal.{Refusal}
use Rattle.frame.specs.Refusals.{number_of, refusal_in, number_in, numbered}
use Rattle.station.specs.declared.Reading.{Reading}
use Rattle.confirmation.specs.declared.Send.{Send}
use Rattle.confirming.specs.declared.blocks.Blocks.{Blocks}
use Rattle.confirming.specs.Blocks.{Confirmed, confirmed_as, confirmed_by}
use Rattle.confirming.proofs.Confirming.{refused_blocks}

module _ (ks : List ℕ) (sent : ℕ → Send) (asked : Result Reading Refusal) where
  pub reading_refused : (e : Refusal) (x : Result Blocks Refusal) → asked ≡ Err e → IsErrAnd x (λ y. y ≡ e)
      → confirmed_as x ≡ confirmed_by ks sent (numbered asked)
  reading_refused e x is passed =
      let p = err_from_is_err_and x passed in rw (p.1, p.2) (refused_blocks ks sent (numbered asked) (number_of e) (rw is))

  -- The refusal that is answered is the reading's.
  pub refusal_answered : (x : Result Blocks Refusal) → confirmed_as x ≡ confirmed_by ks sent (numbered asked) → refusal_in x ≡ number_in (numbered asked)
  unfolding confirmed_by
  refusal_answered x is = go x ∙ ap (λ (c : Confirmed). c.refusal) is
    where
      go : (x : Result Blocks Refusal) → refusal_in x ≡ (confirmed_as x).refusal
      go (Ok blocks) = refl
      go (Err r) = refl
