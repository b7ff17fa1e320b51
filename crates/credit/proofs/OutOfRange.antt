-- A size out of range, in words (specs/Exactly.antt): some block that a record of the window carries has one, both ways.
-- Assumes nothing.
use Prim.Native.Nat.{ℕ, zero, suc, ◌<◌, ◌≤◌}
use mathlib.Core.Bool.{true, ◌&&◌, false≢true, or-true}
use mathlib.Core.List.{List, [], ◌∷◌}
use mathlib.Core.Logic.{◌⊎◌, inl, inr, ⊎_elim}
use mathlib.Core.Path.{◌≡◌}
use native.Mathlib.Decide.{dec_lt}
use native.Mathlib.Nat.{le_of_suc-le-suc}
use native.Mathlib.Omega.{arith}
use lib.Dec.{ltb}
use lib.ListN.{length, get_or, take, length-take, get_or-eq_default}
use borrow.Author.Tests.{ltb-true, lt-ltb}
use Rattle.std.proofs.lemmas.Bool.{and_parts, or_cases}
use Rattle.frame.specs.Settings.{outside}
use Rattle.confirming.specs.declared.Sent.{Sent}
use Rattle.confirming.specs.declared.SentWindow.{SentWindow}
use Rattle.confirming.specs.Records.{nothing_sent, record_at}
use Rattle.credit.specs.Credit.{itbs_of, nprb_of, bad_size, bad_record, bad_records}
use Rattle.credit.specs.Exactly.{SizeOut}

-- A size out of range, in words.
abbrev Out : ℕ → ℕ → Type 0
Out itbs nprb = (26 < itbs) ⊎ (nprb < 1) ⊎ (110 < nprb)

out_says : (itbs nprb : ℕ) → bad_size itbs nprb ≡ true → Out itbs nprb
unfolding bad_size
out_says itbs nprb e =
    ⊎_elim (λ p. inl (ltb-true 26 itbs p))
    (λ q. ⊎_elim (λ p. inr (inl (ltb-true nprb 1 p))) (λ p. inr (inr (ltb-true 110 nprb p))) (or_cases (ltb nprb 1) (ltb 110 nprb) q))
    (or_cases (ltb 26 itbs) (outside 1 110 nprb) e)

says_out : (itbs nprb : ℕ) → Out itbs nprb → bad_size itbs nprb ≡ true
unfolding bad_size
says_out itbs nprb (inl h) = rw (lt-ltb 26 itbs h)
says_out itbs nprb (inr (inl h)) = rw (lt-ltb nprb 1 h) (or-true (ltb 26 itbs))
says_out itbs nprb (inr (inr h)) = rw (lt-ltb 110 nprb h, or-true (ltb nprb 1)) (or-true (ltb 26 itbs))

-- A block that a record carries.
abbrev BlockOut : Sent → Type 0
BlockOut x = (block : ℕ) × (block ≤ 1) × (block < x.blocks) × Out (itbs_of x block) (nprb_of x block)

record_says : (x : Sent) → bad_record x ≡ true → BlockOut x
unfolding bad_record
record_says x e =
    ⊎_elim
    (λ p. let h = and_parts (ltb 0 x.blocks) (bad_size x.itbs0 x.nprb0) p in (0, omega arith, ltb-true 0 x.blocks h.0, out_says x.itbs0 x.nprb0 h.1))
    (λ p. let h = and_parts (ltb 1 x.blocks) (bad_size x.itbs1 x.nprb1) p in (1, omega arith, ltb-true 1 x.blocks h.0, out_says x.itbs1 x.nprb1 h.1))
    (or_cases (ltb 0 x.blocks && bad_size x.itbs0 x.nprb0) (ltb 1 x.blocks && bad_size x.itbs1 x.nprb1) e)

says_record : (x : Sent) → BlockOut x → bad_record x ≡ true
unfolding bad_record
says_record x (zero, most, carries, out) = rw (lt-ltb 0 x.blocks carries, says_out x.itbs0 x.nprb0 out)
says_record x (suc zero, most, carries, out) =
    rw (lt-ltb 1 x.blocks carries, says_out x.itbs1 x.nprb1 out) (or-true (ltb 0 x.blocks && bad_size x.itbs0 x.nprb0))
says_record x (suc (suc block), most, carries, out) = absurd (omega arith)

-- A record of a list.
some_says : (l : List Sent) → bad_records l ≡ true → (m : ℕ) × (m < length l) × (bad_record (get_or l m nothing_sent) ≡ true)
unfolding bad_records
some_says [] e = absurd (false≢true e)
some_says (x ∷ l) e =
    ⊎_elim (λ p. (0, omega arith, p)) (λ p. let h = some_says l p in (suc h.0, omega (arith, h.1), h.2)) (or_cases (bad_record x) (bad_records l) e)

says_some : (l : List Sent) (m : ℕ) → m < length l → bad_record (get_or l m nothing_sent) ≡ true → bad_records l ≡ true
unfolding bad_records
says_some [] m h e = absurd (omega arith)
says_some (x ∷ l) zero h e = rw e
says_some (x ∷ l) (suc m) h e = rw (says_some l m (le_of_suc-le-suc h) e) (or-true (bad_record x))

pub size_says : (size : ℕ) (w : SentWindow) → bad_records (take size w.at) ≡ true → SizeOut size w
size_says size w e =
    let h = some_says (take size w.at) e in
    let b = record_says (record_at size w h.0) h.2 in
    (h.0, b.0, omega (arith, h.1, length-take size w.at), b.1, b.2, b.3)

pub says_size : (size : ℕ) (w : SentWindow) → SizeOut size w → bad_records (take size w.at) ≡ true
says_size size w (m, block, inside, most, carries, out) = go (dec_lt m (length (take size w.at)))
  where
    go : Dec (m < length (take size w.at)) → bad_records (take size w.at) ≡ true
    go (yes h) = says_some (take size w.at) m h (says_record (record_at size w m) (block, most, carries, out))
    go (no h) =
        let none : record_at size w m ≡ nothing_sent = get_or-eq_default (take size w.at) nothing_sent {n = m} (omega arith) in
        let few : block < 0 = rw none at carries in
        absurd (omega arith)
