-- What is refused before the reply is looked at, and then its reading.
-- Assumes nothing.
use Rattle.std.proofs.Common.{Result, Ok, Err, Option}
use Prim.Native.Nat.{ℕ, zero, suc}
use mathlib.Core.Path.{◌≡◌, sym, ◌∙◌}
use Rattle.frame.specs.declared.Settings.{Settings}
use Rattle.frame.specs.declared.refusal.Refusal.{Refusal}
use Rattle.frame.specs.Refusals.{number_of, numbered, unless_refused, refused_or}
use Rattle.station.specs.declared.Reading.{Reading}
use Rattle.station.specs.Readings.{read_of}
use Rattle.confirming.specs.declared.SentWindow.{SentWindow}
use Rattle.confirming.specs.Blocks.{checked_of, read_sent}
use Rattle.confirming.specs.Refusals.{call_refusal}

-- What was asked first is refused, or tells what to read with.
read_refused : {T : Type 0} (k : ℕ) (x : T) (e : ℕ) (reading : Result Reading ℕ) → unless_refused k x ≡ Err e → refused_or k reading ≡ Err e
read_refused zero x e reading is = absurd (cc)
read_refused (suc k) x e reading is = cc

read_accepted : {T : Type 0} (k : ℕ) (x y : T) (reading : Result Reading ℕ) → unless_refused k x ≡ Ok y → (x ≡ y) × (refused_or k reading ≡ reading)
read_accepted zero x y reading is = (cc, cc)
read_accepted (suc k) x y reading is = absurd (cc)

module _ (s : Settings) (n : ℕ) (w : SentWindow) (r b0 b1 : ℕ) where
  -- What was sent, as the code checks it.
  module _ (asked : Result (Option ℕ) Refusal) (checked : numbered asked ≡ checked_of s n w) where
    pub sent_refused : (e : Refusal) → asked ≡ Err e → read_sent s n w r b0 b1 ≡ Err (number_of e)
    unfolding read_sent checked_of
    sent_refused e is = read_refused (call_refusal s n w) _ (number_of e) _ (sym checked ∙ rw is)

    pub sent_told : (told : Option ℕ) → asked ≡ Ok told → read_sent s n w r b0 b1 ≡ read_of s n told r b0 b1
    unfolding read_sent checked_of
    sent_told told is = let p = read_accepted (call_refusal s n w) _ told _ (sym checked ∙ rw is) in p.1 ∙ rw p.0
