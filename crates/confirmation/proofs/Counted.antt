-- What counts among the four: the PDCCHs sent up to and with the named one, and nothing else.
-- Assumes nothing.
use Prim.Native.Nat.{ℕ, ◌≤◌}
use mathlib.Core.List.{List, [], ◌∷◌}
use mathlib.Core.Path.{◌≡◌, refl}
use native.Mathlib.Decide.{dec_le}
use native.Mathlib.Omega.{arith}
use borrow.Author.Tests.{le-leb, lt-leb}
use Rattle.confirmation.specs.declared.Send.{Send}
use Rattle.confirmation.specs.Confirmed.{sent_up_to}
use Rattle.confirmation.specs.Sent.{is_pdcch}

-- Two windows with PDCCHs in the same subframes up to and with k ago have the same count: neither what is sent after them counts nor
-- a scheduled block.
pub same_count : (sent other : ℕ → Send) (k : ℕ) → ((j : ℕ) → k ≤ j → is_pdcch (sent j) ≡ is_pdcch (other j)) → (ts : List ℕ)
    → sent_up_to sent k ts ≡ sent_up_to other k ts
same_count sent other k same [] = refl
same_count sent other k same (j ∷ ts) = go (same_count sent other k same ts) (dec_le k j)
  where
    go : sent_up_to sent k ts ≡ sent_up_to other k ts → Dec (k ≤ j) → sent_up_to sent k (j ∷ ts) ≡ sent_up_to other k (j ∷ ts)
    go rest (yes h) = rw (le-leb k j h, same j h, rest)
    go rest (no h) = rw (lt-leb k j (omega arith), rest)
