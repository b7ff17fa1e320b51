-- A schedule that sends a finite list and then nothing, and a list of items against it: the hypotheses of demand 3 as tests that compute.
-- Assumes nothing.
use Prim.Native.Nat.{ℕ, ◌+◌, ◌-◌, ◌%◌, ◌<◌, ◌≤◌}
use mathlib.Core.Bool.{Bool, true, false, cond, not, ◌&&◌, ◌||◌, false≢true}
use mathlib.Core.List.{List, [], ◌∷◌, map}
use mathlib.Core.Logic.{inl, inr}
use mathlib.Core.Path.{◌≡◌, refl, sym, ap, ◌∙◌}
use native.Mathlib.Decide.{dec_lt}
use native.Mathlib.Omega.{arith}
use lib.Dec.{T, eqb, eqb→eq}
use lib.Ieee.Fits.{and_l, and_r}
use lib.ListN.{length, get_or, get_or-eq_default}
use borrow.Author.Tests.{le-leb, eqb-true}
use Rattle.frame.specs.declared.Settings.{Settings}
use Rattle.frame.specs.Order.{member, times_of}
use Rattle.frame.specs.Table.{window_of}
use Rattle.frame.proofs.Below.{below, below_at}
use Rattle.confirmation.specs.declared.Send.{Send}
use Rattle.confirmation.specs.declared.Send.TheVariants.{Nothing, Granted, Scheduled, Released}
use Rattle.confirmation.specs.Sent.{is_pdcch, is_block, dai_of, as_heard}
use Rattle.heard.specs.declared.Heard.{Heard}
use Rattle.heard.specs.declared.Heard.TheVariants as heard
use Rattle.heard.specs.Heard.{heard_refusal}
use Rattle.agreement.specs.Run.{sent_of, sent_ago, heard_in_run, Item, RuleFrom, Schedule, Brings, BringsSent}
use Rattle.agreement.proofs.Entries.{AllOf, all_of, of_window, in_time_holds}

-- what a finite list sends
abbrev pub sending : List Send → ℕ → Send
sending sends s = get_or sends s Nothing

abbrev pub rule_test : ℕ → List Send → Bool
rule_test j [] = true
rule_test j (x ∷ l) = (not (is_pdcch x) || eqb (dai_of x) (j % 4 + 1)) && rule_test (cond (is_pdcch x) 1 0 + j) l

rule_passed : (l : List Send) (j : ℕ) → T (rule_test j l) → RuleFrom j l
rule_passed [] j t = tt
rule_passed (x ∷ l) j t =
    let first : Bool = not (is_pdcch x) || eqb (dai_of x) (j % 4 + 1) in
    let rest : Bool = rule_test (cond (is_pdcch x) 1 0 + j) l in
    (λ e. eqb→eq (dai_of x) (j % 4 + 1) (rw e at (and_l first rest t)), rule_passed l (cond (is_pdcch x) 1 0 + j) (and_r first rest t))

-- nothing sent keeps the rule
nothing_ruled : (f : ℕ → Send) (ts : List ℕ) (j : ℕ) → AllOf (λ (k : ℕ). f k ≡ Nothing) ts → RuleFrom j (map f ts)
nothing_ruled f [] j h = tt
nothing_ruled f (k ∷ ts) j h = rw h.0 (λ e. absurd (false≢true e), nothing_ruled f ts (0 + j) h.1)

-- a test of every k of a list
abbrev every_k : (ℕ → Bool) → List ℕ → Bool
every_k f [] = true
every_k f (k ∷ ks) = f k && every_k f ks

every_k_holds : (f : ℕ → Bool) (ks : List ℕ) → T (every_k f ks) → (k : ℕ) → member k ks ≡ true → T (f k)
every_k_holds f [] t k e = absurd (false≢true e)
every_k_holds f (j ∷ ks) t k e = go (eqb j k) refl (every_k_holds f ks (and_r (f j) (every_k f ks) t) k) e
  where
    go : (b : Bool) → eqb j k ≡ b → (member k ks ≡ true → T (f k)) → (b || member k ks) ≡ true → T (f k)
    go true b rest e = rw (← eqb-true j k b) (and_l (f j) (every_k f ks) t)
    go false b rest e = rest e

-- no two subframes of a window have a scheduled block
abbrev one_test : (ℕ → Send) → List ℕ → Bool
one_test f ks = every_k (λ (i : ℕ). every_k (λ (j : ℕ). not (is_block (f i) && is_block (f j)) || eqb i j) ks) ks

one_passed : (f : ℕ → Send) (ks : List ℕ) → T (one_test f ks) → (i j : ℕ) → member i ks ≡ true → member j ks ≡ true
    → is_block (f i) ≡ true → is_block (f j) ≡ true → i ≡ j
one_passed f ks t i j mi mj bi bj =
    let ti = every_k_holds (λ (i : ℕ). every_k (λ (j : ℕ). not (is_block (f i) && is_block (f j)) || eqb i j) ks) ks t i mi in
    let tj = every_k_holds (λ (j : ℕ). not (is_block (f i) && is_block (f j)) || eqb i j) ks ti j mj in
    eqb→eq i j (rw (bi, bj) at tj)

-- valid while the list lasts, and by the rule with at most one block in every window that reaches into it
abbrev valid_test : Settings → List Send → ℕ → Bool
valid_test set sends s = eqb (heard_refusal set (s % 10) (as_heard (sending sends s))) 0

abbrev window_test : Settings → List Send → ℕ → Bool
window_test set sends s =
    rule_test 0 (map (sent_ago (sending sends) s) (times_of (window_of set.config (s % 10))))
    && one_test (sent_ago (sending sends) s) (window_of set.config (s % 10))

abbrev pub schedule_test : Settings → List Send → Bool
schedule_test set sends = below (length sends) (valid_test set sends) && below (length sends + 13) (window_test set sends)

module _ (set : Settings) (sends : List Send) (t : T (schedule_test set sends)) where
  ended : (s : ℕ) → length sends ≤ s → sending sends s ≡ Nothing
  ended s h = get_or-eq_default sends Nothing {n = s} h

  valid : (s : ℕ) → heard_refusal set (s % 10) (as_heard (sending sends s)) ≡ 0
  unfolding heard_refusal
  valid s = go (dec_lt s (length sends))
    where
      go : Dec (s < length sends) → heard_refusal set (s % 10) (as_heard (sending sends s)) ≡ 0
      go (yes h) =
          eqb→eq (heard_refusal set (s % 10) (as_heard (sending sends s))) 0
          (below_at (length sends) (valid_test set sends)
          (and_l (below (length sends) (valid_test set sends)) (below (length sends + 13) (window_test set sends)) t) s h)
      go (no h) = rw (ended s (omega arith))

  -- past the windows that reach into the list nothing was sent
  quiet : (s : ℕ) → length sends + 13 ≤ s → (k : ℕ) → member k (window_of set.config (s % 10)) ≡ true → sent_ago (sending sends) s k ≡ Nothing
  quiet s h k e =
      let w = of_window set.config (s % 10) k e in
      rw (le-leb k s (omega (arith, w.most))) (ended (s - k) (omega (arith, w.most)))

  passed : (s : ℕ) → s < length sends + 13 → T (window_test set sends s)
  passed s h =
      below_at (length sends + 13) (window_test set sends)
      (and_r (below (length sends) (valid_test set sends)) (below (length sends + 13) (window_test set sends)) t) s h

  rule : (s : ℕ) → RuleFrom 0 (map (sent_ago (sending sends) s) (times_of (window_of set.config (s % 10))))
  rule s = go (dec_lt s (length sends + 13))
    where
      go : Dec (s < length sends + 13) → RuleFrom 0 (map (sent_ago (sending sends) s) (times_of (window_of set.config (s % 10))))
      go (yes h) =
          rule_passed (map (sent_ago (sending sends) s) (times_of (window_of set.config (s % 10)))) 0
          (and_l (rule_test 0 (map (sent_ago (sending sends) s) (times_of (window_of set.config (s % 10)))))
          (one_test (sent_ago (sending sends) s) (window_of set.config (s % 10))) (passed s h))
      go (no h) =
          nothing_ruled (sent_ago (sending sends) s) (times_of (window_of set.config (s % 10))) 0
          (all_of (λ (k : ℕ). sent_ago (sending sends) s k ≡ Nothing) (times_of (window_of set.config (s % 10)))
          (λ k e. quiet s (omega arith) k (in_time_holds set.config (s % 10) k e)))

  one : (s i j : ℕ) → member i (window_of set.config (s % 10)) ≡ true → member j (window_of set.config (s % 10)) ≡ true
      → is_block (sent_ago (sending sends) s i) ≡ true → is_block (sent_ago (sending sends) s j) ≡ true → i ≡ j
  one s i j mi mj bi bj = go (dec_lt s (length sends + 13))
    where
      go : Dec (s < length sends + 13) → i ≡ j
      go (yes h) =
          one_passed (sent_ago (sending sends) s) (window_of set.config (s % 10))
          (and_r (rule_test 0 (map (sent_ago (sending sends) s) (times_of (window_of set.config (s % 10)))))
          (one_test (sent_ago (sending sends) s) (window_of set.config (s % 10))) (passed s h))
          i j mi mj bi bj
      go (no h) = absurd (false≢true (sym (ap is_block (quiet s (omega arith) i mi)) ∙ bi))

  pub scheduled : Schedule set (sending sends)
  scheduled = record { valid = valid; rule = rule; one = one }

-- What was sent, by numbers: the number of its kind, then its fields. One clause for each kind.
abbrev numbers_of : Send → List ℕ
numbers_of Nothing = []
numbers_of (Granted g) = 1 ∷ g.blocks ∷ g.cce.0 ∷ g.dai ∷ []
numbers_of (Scheduled b) = 2 ∷ b.blocks ∷ []
numbers_of (Released p) = 3 ∷ 0 ∷ p.cce.0 ∷ p.dai ∷ []

abbrev number : Send → ℕ → ℕ
number x i = get_or (numbers_of x) i 0

abbrev send_of : ℕ → ℕ → ℕ → ℕ → Send
send_of kind b c d =
    cond (eqb kind 0) Nothing
    (cond (eqb kind 1) (Granted (record { blocks = b; cce = record { 0 = c }; dai = d }))
    (cond (eqb kind 2) (Scheduled (record { blocks = b })) (Released (record { cce = record { 0 = c }; dai = d }))))

rebuilt : (x : Send) → x ≡ send_of (number x 0) (number x 1) (number x 2) (number x 3)
rebuilt Nothing = refl
rebuilt (Granted g) = refl
rebuilt (Scheduled b) = refl
rebuilt (Released p) = refl

-- Two sent things with the same numbers are the same.
abbrev same_number : Send → Send → ℕ → Bool
same_number x y i = eqb (number x i) (number y i)

same_send : (x y : Send) → T (below 4 (same_number x y)) → x ≡ y
same_send x y t =
    let same : (i : ℕ) → i < 4 → number x i ≡ number y i = λ i h. eqb→eq (number x i) (number y i) (below_at 4 (same_number x y) t i h) in
    let kinds = same 0 (omega arith) in
    let blocks = same 1 (omega arith) in
    let cces = same 2 (omega arith) in
    let dais = same 3 (omega arith) in
    rebuilt x ∙ rw (kinds, blocks, cces, dais) (sym (rebuilt y))

-- A feed brings nothing or what was sent.
abbrev pub brings_test : Send → Heard → Bool
brings_test s x = eqb (number (sent_of x) 0) 0 || below 4 (same_number (sent_of x) s)

brings_passed : (s : Send) (x : Heard) → T (brings_test s x) → Brings s x
brings_passed s heard.Nothing t = inl refl
brings_passed s (heard.Granted g) t = inr (same_send (sent_of (heard.Granted g)) s t)
brings_passed s (heard.Scheduled b) t = inr (same_send (sent_of (heard.Scheduled b)) s t)
brings_passed s (heard.Released p) t = inr (same_send (sent_of (heard.Released p)) s t)

-- each feed that is not refused brings nothing or what was sent
abbrev pub feeds_test : Settings → List Send → List Item → Bool
feeds_test set sends items =
    below (length (heard_in_run set items)) (λ (s : ℕ). brings_test (sending sends s) (get_or (heard_in_run set items) s heard.Nothing))

pub brought : (set : Settings) (sends : List Send) (items : List Item) → T (feeds_test set sends items) → BringsSent set (sending sends) items
brought set sends items t s h =
    brings_passed (sending sends s) (get_or (heard_in_run set items) s heard.Nothing)
    (below_at (length (heard_in_run set items)) (λ (s : ℕ). brings_test (sending sends s) (get_or (heard_in_run set items) s heard.Nothing)) t s h)
