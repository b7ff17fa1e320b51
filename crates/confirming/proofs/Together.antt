-- A record is valid by itself in its subframe: the tests of its kind, as the code draws them together.
-- Assumes nothing.
use Prim.Native.Nat.{ℕ, zero, suc, ◌+◌, ◌-◌, ◌<◌, ◌≤◌}
use mathlib.Core.Bool.{Bool, true, false, cond, not, ◌&&◌, ◌||◌}
use mathlib.Core.List.{List, [], ◌∷◌, map}
use mathlib.Core.Path.{◌≡◌, refl, sym, ◌∙◌}
use native.Mathlib.Decide.{dec_lt, dec_le}
use native.Mathlib.Omega.{arith}
use Rattle.std.proofs.lemmas.Bool.{and_parts}
use lib.Dec.{eqb, leb, ltb}
use lib.ListN.{length, get_or}
use borrow.Author.Tests.{eqb-true, eqb-false, lt-ltb, le-ltb, le-leb, lt-leb}
use Rattle.std.specs.List.{list_all}
use Rattle.frame.specs.declared.Settings.{Settings}
use Rattle.frame.specs.Layout.{Letter, D, S, U, letter_of, carries, downlink, is_s, is_special}
use Rattle.frame.specs.Coded.{letter_byte}
use Rattle.frame.specs.Distance.{before}
use Rattle.frame.specs.Letters.{letters_before}
use Rattle.frame.specs.Settings.{or_else, outside, has_scheduled}
use Rattle.frame.specs.Special.{no_pdsch, too_short}
use Rattle.frame.proofs.Letters.{letter_there}
use Rattle.resource.specs.Formula.{edge}
use Rattle.heard.specs.Heard.{uplink_refusal, short_refusal, data_refusal, carried_refusal, pdcch_refusal, unset_refusal, heard_refusal}
use Rattle.confirmation.specs.Sent.{as_heard}
use Rattle.confirming.specs.declared.Sent.{Sent}
use Rattle.confirming.specs.declared.SentIn.{SentIn}
use Rattle.confirming.specs.Coded.{k_in, records_in, send_in, valid_ago, all_valid}
use Rattle.confirming.specs.Records.{send_of}
use Rattle.confirming.specs.Refusals.{lowest, refusal_ago}
use Rattle.confirming.proofs.Looking.{refusal_of_pair, records_refused}
use Rattle.confirming.proofs.Pairs.{pairs_in}
use Rattle.confirming.proofs.Ranks.{earlier_none}
use Rattle.confirming.proofs.Records.{said}

-- The tests as the code has them, by the kind of the record: whether it has a PDCCH, and whether it has data.
abbrev pub coded : Bool → Bool → Bool → Bool → Bool → Bool → Bool
coded place fits pdcch set p d =
    (((place || not (p || d)) && (fits || not d)) && (pdcch || not p)) && ((set || p) || not d)

-- Blocks carried, up to the setting.
carried_within : (most blocks : ℕ) → (blocks ≡ 0 → ⊥) → outside 1 most blocks ≡ not (leb blocks most)
carried_within most zero some = absurd (some refl)
carried_within most (suc b) some = go (dec_le (suc b) most)
  where
    go : Dec (suc b ≤ most) → outside 1 most (suc b) ≡ not (leb (suc b) most)
    go (yes h) = rw (le-ltb (suc b) 1 (omega arith), le-ltb most (suc b) h, le-leb (suc b) most h)
    go (no h) = rw (le-ltb (suc b) 1 (omega arith), lt-ltb most (suc b) (omega arith), lt-leb (suc b) most (omega arith))

-- A DAI of 1 to 4.
dai_within : (dai : ℕ) → outside 1 4 dai ≡ not (ltb 0 dai && ltb dai 5)
dai_within dai = go (dec_lt 0 dai) (dec_lt dai 5)
  where
    go : Dec (0 < dai) → Dec (dai < 5) → outside 1 4 dai ≡ not (ltb 0 dai && ltb dai 5)
    go (yes a) (yes b) = rw (le-ltb dai 1 (omega arith), le-ltb 4 dai (omega arith), lt-ltb 0 dai a, lt-ltb dai 5 b)
    go (yes a) (no b) = rw (le-ltb dai 1 (omega arith), lt-ltb 4 dai (omega arith), lt-ltb 0 dai a, le-ltb dai 5 (omega arith))
    go (no a) b = rw (lt-ltb dai 1 (omega arith), le-ltb 0 dai (omega arith))

module _ (s : Settings) (n : ℕ) (x : Sent) where
  -- what only data and only a PDCCH must meet
  abbrev fits : Bool
  fits = leb x.blocks s.blocks && not (too_short s n)

  abbrev pdcch : Bool
  pdcch = (ltb x.cce.0 (edge s.nrb 4) && ltb 0 x.dai) && ltb x.dai 5

  pub valid_together : eqb (heard_refusal s n (as_heard (send_of x))) 0
      ≡ coded (downlink s.config n) fits pdcch (has_scheduled s) (not (eqb x.signalled 0)) (not (eqb x.blocks 0))
  unfolding send_of heard_refusal data_refusal uplink_refusal short_refusal carried_refusal pdcch_refusal unset_refusal
  valid_together = go (eqb x.signalled 0) (eqb x.blocks 0) refl
    where
      nothing : (d f y r : Bool) → true ≡ coded d f y r false false
      nothing true true true true = refl
      nothing true true true false = refl
      nothing true true false true = refl
      nothing true true false false = refl
      nothing true false true true = refl
      nothing true false true false = refl
      nothing true false false true = refl
      nothing true false false false = refl
      nothing false true true true = refl
      nothing false true true false = refl
      nothing false true false true = refl
      nothing false true false false = refl
      nothing false false true true = refl
      nothing false false true false = refl
      nothing false false false true = refl
      nothing false false false false = refl

      granted : (d h c y a b r : Bool)
          → eqb (or_else (or_else (cond d 0 9) (cond h 20 0)) (or_else (cond (not c) 10 0) (cond y (cond (not (a && b)) 12 0) 11))) 0
          ≡ coded d (c && not h) ((y && a) && b) r true true
      granted false h c y a b r = refl
      granted true true true y a b r = refl
      granted true true false y a b r = refl
      granted true false false y a b r = refl
      granted true false true false a b r = refl
      granted true false true true false b r = refl
      granted true false true true true false r = refl
      granted true false true true true true true = refl
      granted true false true true true true false = refl

      scheduled : (d h c y r : Bool)
          → eqb (or_else (or_else (cond d 0 9) (cond h 20 0)) (or_else (cond (not c) 10 0) (cond r 0 18))) 0 ≡ coded d (c && not h) y r false true
      scheduled false h c y r = refl
      scheduled true true true y r = refl
      scheduled true true false y r = refl
      scheduled true false false y r = refl
      scheduled true false true true true = refl
      scheduled true false true true false = refl
      scheduled true false true false true = refl
      scheduled true false true false false = refl

      released : (d f y a b r : Bool)
          → eqb (or_else (cond d 0 9) (cond y (cond (not (a && b)) 12 0) 11)) 0 ≡ coded d f ((y && a) && b) r true false
      released false f y a b r = refl
      released true true false a b r = refl
      released true false false a b r = refl
      released true true true false b r = refl
      released true false true false b r = refl
      released true true true true false r = refl
      released true false true true false r = refl
      released true true true true true true = refl
      released true true true true true false = refl
      released true false true true true true = refl
      released true false true true true false = refl

      go : (p q : Bool) → eqb x.blocks 0 ≡ q → eqb (heard_refusal s n (as_heard (said x p q))) 0 ≡ coded (downlink s.config n) fits pdcch (has_scheduled s) (not p) (not q)
      go true true e = nothing (downlink s.config n) fits pdcch (has_scheduled s)
      go true false e =
          rw (carried_within s.blocks x.blocks (eqb-false x.blocks 0 e))
          (scheduled (downlink s.config n) (too_short s n) (leb x.blocks s.blocks) pdcch (has_scheduled s))
      go false true e =
          rw (dai_within x.dai)
          (released (downlink s.config n) fits (ltb x.cce.0 (edge s.nrb 4)) (ltb 0 x.dai) (ltb x.dai 5) (has_scheduled s))
      go false false e =
          rw (carried_within s.blocks x.blocks (eqb-false x.blocks 0 e), dai_within x.dai)
          (granted (downlink s.config n) (too_short s n) (leb x.blocks s.blocks) (ltb x.cce.0 (edge s.nrb 4)) (ltb 0 x.dai) (ltb x.dai 5) (has_scheduled s))

letter_carries : (l : Letter) → carries l ≡ not (eqb (letter_byte l) 85)
letter_carries D = refl
letter_carries S = refl
letter_carries U = refl

letter_special : (l : Letter) (b : Bool) → (b && is_s l) ≡ (eqb (letter_byte l) 83 && b)
letter_special D true = refl
letter_special D false = refl
letter_special S true = refl
letter_special S false = refl
letter_special U true = refl
letter_special U false = refl

-- So the code's tests are those of the record by itself, in a subframe with this letter.
pub valid_coded : (s : Settings) (n : ℕ) (x : Sent) (l : ℕ) → l ≡ letter_byte (letter_of s.config n)
    → coded (not (eqb l 85)) (leb x.blocks s.blocks && not (eqb l 83 && no_pdsch s.prefix s.special)) (pdcch s n x) (has_scheduled s)
    (not (eqb x.signalled 0)) (not (eqb x.blocks 0))
    ≡ eqb (heard_refusal s n (as_heard (send_of x))) 0
unfolding downlink too_short is_special
valid_coded s n x l is =
    rw is (rw (← letter_carries (letter_of s.config n), ← letter_special (letter_of s.config n) (no_pdsch s.prefix s.special)) (sym (valid_together s n x)))

-- What was sent k ago, by the letter that stands for it: k is 1 to 16, or never valid.
module _ (s : Settings) (n k : ℕ) (x : Sent) where
  pub ago_before : k ≡ 0 → false ≡ valid_ago s n (k, x)
  unfolding valid_ago
  ago_before e = rw e refl

  pub ago_beyond : 16 < k → false ≡ valid_ago s n (k, x)
  unfolding valid_ago
  ago_beyond h = rw (lt-ltb 0 k (omega arith), lt-leb k 16 h) refl

  pub ago_within : (letters : List ℕ) (valid : Bool) → letters ≡ letters_before s.config n → 0 < k → k ≤ 16
      → ((d : ℕ) → get_or letters (k - 1) 0 ≡ letter_byte (letter_of s.config d) → valid ≡ eqb (heard_refusal s d (as_heard (send_of x))) 0)
      → valid ≡ valid_ago s n (k, x)
  unfolding valid_ago
  ago_within letters valid is least most told =
      let same : k - 1 + 1 ≡ k = omega arith in
      let there : get_or letters (k - 1) 0 ≡ letter_byte (letter_of s.config (before n k)) = rw is (letter_there s.config n (k - 1) (omega arith) ∙ rw same refl) in
      rw (lt-ltb 0 k least, le-leb k 16 most) (told (before n k) there)

-- Where each record is valid no refusal comes first.
all_none : (s : Settings) (n : ℕ) (ps : List (ℕ × Sent)) → list_all (valid_ago s n) ps ≡ true → lowest (map (refusal_of_pair s n) ps) ≡ 0
unfolding lowest valid_ago
all_none s n [] e = refl
all_none s n (p ∷ ps) e =
    let both = and_parts (valid_ago s n p) (list_all (valid_ago s n) ps) e in
    rw (all_none s n ps both.1) (earlier_none (refusal_of_pair s n p) ∙ here both.0)
  where
    here : valid_ago s n p ≡ true → refusal_of_pair s n p ≡ 0
    here e = eqb-true (refusal_of_pair s n p) 0 (and_parts (ltb 0 p.0 && leb p.0 16) (eqb (refusal_of_pair s n p) 0) e).1

pub none_refused : (w : SentIn) → length (records_in w) ≡ length (k_in w) → all_valid w ≡ true
    → lowest (map (refusal_ago w.settings w.n (send_in w)) (k_in w)) ≡ 0
none_refused w size e = rw (← records_refused w size) (all_none w.settings w.n (pairs_in w) e)
