-- Puts one after the other are one put: the header, the settings, the records. Assumes nothing.
use Prim.Native.Nat.{ℕ, zero, suc, ◌+◌, ◌*◌, ◌≤◌, ◌<◌}
use mathlib.Core.List.{List, ◌++◌}
use mathlib.Core.Path.{◌≡◌, refl, ap, subst, ◌∙◌}
use native.Mathlib.Nat.{zero-add}
use native.Mathlib.Omega.{arith}
use borrow.Rule.Slice.PartMut.{put_mid}
use lib.Dec.{eqb}
use lib.ListN.{length}
use Rattle.frame.specs.declared.Settings.{Settings}
use Rattle.frame.specs.Settings.{settings_refusal}
use Rattle.frame.proofs.Accepted.{accepted}
use Rattle.frame.proofs.Bools.{either}
use Rattle.trace.specs.Trace.{header_of, settings_of}
use Rattle.replaying.specs.Replay.{written}
use Rattle.replaying.specs.Written.{put_at}
use Rattle.replaying.proofs.Putting.{part_put, put_more}
use Rattle.spelling.specs.Spelling.{spelled_size, header_bytes, settings_bytes, records_bytes, spelling_of}

module _ (l : List ℕ) (at : ℕ) where
  -- Bytes put behind others that were put, list by list.
  then_put : (new more l₁ l₂ : List ℕ) → l₁ ≡ put_at at new l → l₂ ≡ put_at (at + length new) more l₁ → at + length new + length more ≤ length l
      → l₂ ≡ put_at at (new ++ more) l
  then_put new more l₁ l₂ e f p = f ∙ ap (put_at (at + length new) more) e ∙ put_more l at new (omega arith) more p

-- Accepted settings go into bytes.
module _ (s : Settings) (good : settings_refusal s ≡ 0) where
  pub config_small : s.config < 256
  config_small = omega (arith, (accepted s good).config)

  pub nrb_small : s.nrb < 256
  nrb_small = omega (arith, (accepted s good).nrb_most)

  pub mode_small : s.mode < 256
  mode_small = omega (arith, (accepted s good).mode)

  pub blocks_small : s.blocks < 256
  blocks_small = omega (arith, (accepted s good).blocks_most)

  pub special_small : s.special < 256
  special_small = omega (arith, (accepted s good).special, either (λ (x : ℕ). x < 256) (eqb s.prefix 0) 8 6 (omega arith) (omega arith))

  pub prefix_small : s.prefix < 256
  prefix_small = omega (arith, (accepted s good).prefix)

pub ruleset settings_small = (config_small, nrb_small, mode_small, blocks_small, special_small, prefix_small)

-- A record takes four bytes.
pub records_length : (l : List ℕ) (i count : ℕ) → length (records_bytes l i count) ≡ 4 * count
records_length l i zero = refl
records_length l i (suc count) = omega (arith, records_length l (suc i) count)

-- The trace, from its three parts.
module _ (t l header settings out : List ℕ) where
  parts_put : (records : ℕ) → header ≡ header_bytes records → settings ≡ settings_bytes (settings_of t)
      → out ≡ put_at 18 (records_bytes t 0 records) (put_mid 8 10 (put_mid 0 8 l header) settings) → spelled_size records ≤ length l
      → out ≡ written (header_bytes records ++ (settings_bytes (settings_of t) ++ records_bytes t 0 records)) l
  unfolding header_bytes settings_bytes
  parts_put records e₁ e₂ e₃ p =
      let s : Settings = settings_of t in
      let size = records_length t 0 records in
      let one : put_mid 0 8 l header ≡ put_at 0 (header_bytes records) l = rw e₁ (part_put 0 8 l (header_bytes records) refl) in
      let two : put_mid 8 10 (put_mid 0 8 l header) settings ≡ put_at 8 (settings_bytes s) (put_mid 0 8 l header) =
      rw e₂ (part_put 8 10 (put_mid 0 8 l header) (settings_bytes s) refl) in
      let both = then_put l 0 (header_bytes records) (settings_bytes s) _ _ one two (omega arith) in
      rw zero-add at (then_put l 0 (header_bytes records ++ settings_bytes s) (records_bytes t 0 records) _ _ both e₃ (omega (arith, size)))

  pub trace_put : (records : ℕ) → records ≡ (header_of t).records → header ≡ header_bytes records → settings ≡ settings_bytes (settings_of t)
      → out ≡ put_at 18 (records_bytes t 0 records) (put_mid 8 10 (put_mid 0 8 l header) settings) → spelled_size records ≤ length l
      → out ≡ written (spelling_of t) l
  unfolding spelling_of
  trace_put records all e₁ e₂ e₃ p =
      subst (λ (r : ℕ). out ≡ written (header_bytes r ++ (settings_bytes (settings_of t) ++ records_bytes t 0 r)) l) all (parts_put records e₁ e₂ e₃ p)
