-- What the fold of a window finds, over the window's entries in time order: U counts the heard PDCCHs, V is the DAI of the last
-- of them, and that is the one after the heard and the lost before it; position, first CCE and ANDs likewise; and whether a scheduled
-- block was heard.
-- Assumes nothing.
use Prim.Native.Nat.{ℕ, suc, ◌+◌, ◌-◌, ◌%◌, ◌≤◌}
use mathlib.Core.Bool.{Bool, true, false, cond, not, ◌&&◌, ◌||◌, false≢true, or-true, or-false}
use mathlib.Core.List.{List, [], ◌∷◌}
use mathlib.Core.Logic.{inl, inr, ◌↔◌}
use mathlib.Core.Path.{◌≡◌, refl, sym, ap, ◌∙◌}
use native.Mathlib.Omega.{arith}
use lib.ListN.{length}
use Rattle.std.proofs.lemmas.Bool.{and_parts}
use Rattle.frame.specs.Order.{position_of}
use Rattle.confirmation.specs.declared.Send.{Send}
use Rattle.confirmation.specs.Sent.{is_pdcch as is_sent_pdcch, dai_of}
use Rattle.heard.specs.declared.Heard.{Heard}
use Rattle.heard.specs.declared.Heard.TheVariants.{Nothing, Granted, Scheduled, Released}
use Rattle.fold.specs.declared.Seen.{Seen}
use Rattle.fold.specs.Fold.{step_of}
use Rattle.heard.specs.Heard.{is_block, view_of}
use Rattle.agreement.specs.Run.{sent_of, Brings}
use Rattle.agreement.specs.Window.{Entry, at, is_heard, is_pdcch, any_of, is_lost, lost_before, heard_pdcchs, Last, unheard, heard_at, as_last, later, last_heard, EveryHeard}

-- The fold over entries.
unfoldable pub fold_in : List ℕ → Seen → List Entry → Seen
fold_in ks seen [] = seen
fold_in ks seen (at k sent heard ∷ es) = fold_in ks (step_of seen (position_of k ks) (view_of heard)) es

-- Each entry's feed brought nothing or what was sent.
abbrev pub Brought : List Entry → Type 0
Brought [] = Unit {0}
Brought (at k sent heard ∷ es) = Brings sent heard × Brought es

-- The DAI rule over entries; j PDCCHs came before.
abbrev pub Ruled : ℕ → List Entry → Type 0
Ruled j [] = Unit {0}
Ruled j (at k sent heard ∷ es) = (is_sent_pdcch sent ≡ true → dai_of sent ≡ j % 4 + 1) × Ruled (cond (is_sent_pdcch sent) 1 0 + j) es

-- No PDCCH heard is U = 0.
pub none_counted : (es : List Entry) → any_of is_pdcch es ≡ false → heard_pdcchs es ≡ 0
none_counted [] e = refl
none_counted (at k sent x ∷ es) e = go (is_pdcch x) e (none_counted es)
  where
    go : (h : Bool) → (h || any_of is_pdcch es) ≡ false → (any_of is_pdcch es ≡ false → heard_pdcchs es ≡ 0) → cond h 1 0 + heard_pdcchs es ≡ 0
    go true e rest = absurd (false≢true (sym e))
    go false e rest = omega (arith, rest e)

-- What was heard was sent.
pub sent_heard : (sent : Send) (x : Heard) → is_heard x ≡ true → Brings sent x → sent_of x ≡ sent
sent_heard sent x h (inl p) = absurd (false≢true (sym (ap is_heard p) ∙ h))
sent_heard sent x h (inr p) = p

module _ (ks : List ℕ) where
  -- Without a heard PDCCH V stays.
  quiet : (es : List Entry) (seen : Seen) → any_of is_pdcch es ≡ false → (fold_in ks seen es).v ≡ seen.v
  unfolding fold_in step_of view_of
  quiet [] seen e = refl
  quiet (at k sent Nothing ∷ es) seen e = quiet es seen e
  quiet (at k sent (Granted g) ∷ es) seen e = absurd (false≢true (sym e))
  quiet (at k sent (Scheduled b) ∷ es) seen e = quiet es (step_of seen (position_of k ks) (view_of (Scheduled b))) e
  quiet (at k sent (Released p) ∷ es) seen e = absurd (false≢true (sym e))

  -- U counts the heard PDCCHs.
  pub counted : (es : List Entry) (seen : Seen) → (fold_in ks seen es).u ≡ seen.u + heard_pdcchs es
  unfolding fold_in step_of view_of
  counted [] seen = omega arith
  counted (at k sent Nothing ∷ es) seen = omega (arith, counted es seen)
  counted (at k sent (Granted g) ∷ es) seen = counted es (step_of seen (position_of k ks) (view_of (Granted g))) ∙ omega arith
  counted (at k sent (Scheduled b) ∷ es) seen = counted es (step_of seen (position_of k ks) (view_of (Scheduled b))) ∙ omega arith
  counted (at k sent (Released p) ∷ es) seen = counted es (step_of seen (position_of k ks) (view_of (Released p))) ∙ omega arith

  -- A scheduled block is seen exactly if one was seen before or is heard.
  pub block_seen : (es : List Entry) (seen : Seen) → (fold_in ks seen es).scheduled ≡ (seen.scheduled || any_of is_block es)
  unfolding fold_in step_of view_of
  block_seen [] seen = sym (or-false seen.scheduled)
  block_seen (at k sent Nothing ∷ es) seen = block_seen es seen
  block_seen (at k sent (Granted g) ∷ es) seen = block_seen es (step_of seen (position_of k ks) (view_of (Granted g)))
  block_seen (at k sent (Scheduled b) ∷ es) seen =
      block_seen es (step_of seen (position_of k ks) (view_of (Scheduled b))) ∙ sym (or-true seen.scheduled)
  block_seen (at k sent (Released p) ∷ es) seen = block_seen es (step_of seen (position_of k ks) (view_of (Released p)))

  -- What comes after a heard PDCCH, by its DAI: it is the last one, or the rest is numbered on from it.
  numbered_on : (es : List Entry) (next : Seen) (j : ℕ)
      → (any_of is_pdcch es ≡ true → (fold_in ks next es).v ≡ (1 + j + heard_pdcchs es + lost_before es - 1) % 4 + 1)
      → next.v ≡ j % 4 + 1
      → (fold_in ks next es).v ≡ (j + (1 + heard_pdcchs es) + cond (any_of is_pdcch es) (0 + lost_before es) 0 - 1) % 4 + 1
  numbered_on es next j = go (any_of is_pdcch es) refl
    where
      go : (t : Bool) → any_of is_pdcch es ≡ t → (any_of is_pdcch es ≡ true → (fold_in ks next es).v ≡ (1 + j + heard_pdcchs es + lost_before es - 1) % 4 + 1)
          → next.v ≡ j % 4 + 1
          → (fold_in ks next es).v ≡ (j + (1 + heard_pdcchs es) + cond (any_of is_pdcch es) (0 + lost_before es) 0 - 1) % 4 + 1
      go true t rest dai = rw t (rest t ∙ omega arith)
      go false t rest dai = rw (t, quiet es next t) (dai ∙ omega (arith, none_counted es t))

  -- V is the DAI of the last heard PDCCH: the heard and the lost ones before it are all that the rule counts.
  pub numbered : (es : List Entry) (seen : Seen) (j : ℕ) → Ruled j es → Brought es → any_of is_pdcch es ≡ true
      → (fold_in ks seen es).v ≡ (j + heard_pdcchs es + lost_before es - 1) % 4 + 1
  unfolding fold_in step_of view_of
  numbered [] seen j r b e = absurd (false≢true e)
  numbered (at k sent Nothing ∷ es) seen j r b e =
      go (is_sent_pdcch sent) (numbered es seen (cond (is_sent_pdcch sent) 1 0 + j) r.1 b.1 e)
    where
      go : (t : Bool) → (fold_in ks seen es).v ≡ (cond t 1 0 + j + heard_pdcchs es + lost_before es - 1) % 4 + 1
          → (fold_in ks seen es).v ≡ (j + (0 + heard_pdcchs es) + cond (any_of is_pdcch es) (cond (t && true) 1 0 + lost_before es) 0 - 1) % 4 + 1
      go true rest = rw e (rest ∙ omega arith)
      go false rest = rw e (rest ∙ omega arith)
  numbered (at k sent (Scheduled x) ∷ es) seen j r b e =
      let s : is_sent_pdcch sent ≡ false = ap is_sent_pdcch (sym (sent_heard sent (Scheduled x) refl b.0)) in
      let next : Seen = step_of seen (position_of k ks) (view_of (Scheduled x)) in
      let rest = numbered es next (0 + j) (rw s at r.1) b.1 e in
      rw (s, e) (rest ∙ omega arith)
  numbered (at k sent (Granted g) ∷ es) seen j r b e =
      let p = sent_heard sent (Granted g) refl b.0 in
      let s : is_sent_pdcch sent ≡ true = ap is_sent_pdcch (sym p) in
      let next : Seen = step_of seen (position_of k ks) (view_of (Granted g)) in
      rw s (numbered_on es next j (λ t. numbered es next (1 + j) (rw s at r.1) b.1 t) (ap dai_of p ∙ r.0 s))
  numbered (at k sent (Released q) ∷ es) seen j r b e =
      let p = sent_heard sent (Released q) refl b.0 in
      let s : is_sent_pdcch sent ≡ true = ap is_sent_pdcch (sym p) in
      let next : Seen = step_of seen (position_of k ks) (view_of (Released q)) in
      rw s (numbered_on es next j (λ t. numbered es next (1 + j) (rw s at r.1) b.1 t) (ap dai_of p ∙ r.0 s))

  -- Position and first CCE are those of the last heard PDCCH.
  KeptBy : Last → Seen → Type 0
  KeptBy unheard seen = Unit {0}
  KeptBy (heard_at k c) seen = (seen.position ≡ position_of k ks) × (seen.cce.0 ≡ c)

  kept_step : (l : Last) (k : ℕ) (x : Heard) (seen : Seen) → KeptBy l seen → KeptBy (later l (as_last k x)) (step_of seen (position_of k ks) (view_of x))
  unfolding KeptBy step_of view_of
  kept_step l k Nothing seen h = h
  kept_step l k (Granted g) seen h = (refl, refl)
  kept_step unheard k (Scheduled b) seen h = tt
  kept_step (heard_at j c) k (Scheduled b) seen h = h
  kept_step l k (Released p) seen h = (refl, refl)

  later_later : (a b c : Last) → later (later a b) c ≡ later a (later b c)
  later_later a b unheard = refl
  later_later a b (heard_at k c) = refl

  kept : (es : List Entry) (l : Last) (seen : Seen) → KeptBy l seen → KeptBy (later l (last_heard es)) (fold_in ks seen es)
  unfolding fold_in
  kept [] l seen h = h
  kept (at k sent x ∷ es) l seen h =
      rw (← later_later l (as_last k x) (last_heard es))
      (kept es (later l (as_last k x)) (step_of seen (position_of k ks) (view_of x)) (kept_step l k x seen h))

  unheard_later : (l : Last) → later unheard l ≡ l
  unheard_later unheard = refl
  unheard_later (heard_at k c) = refl

  pub last_kept : (es : List Entry) (seen : Seen) (k c : ℕ) → last_heard es ≡ heard_at k c
      → ((fold_in ks seen es).position ≡ position_of k ks) × ((fold_in ks seen es).cce.0 ≡ c)
  unfolding KeptBy
  last_kept es seen k c e = rw (unheard_later (last_heard es), e) at (kept es unheard seen tt)

  -- A field of the fold that ANDs a result of all that was heard is true exactly if it was and all of it has that result.
  module _ (field : Seen → Bool) (decoded : Heard → Bool)
      (joined : (seen : Seen) (m : ℕ) (x : Heard) → field (step_of seen m (view_of x)) ≡ (field seen && decoded x)) where
    pub all_decoded : (es : List Entry) (seen : Seen) → (field (fold_in ks seen es) ≡ true) ↔ ((field seen ≡ true) × EveryHeard decoded es)
    unfolding fold_in
    all_decoded [] seen = (λ e. (e, tt), λ p. p.0)
    all_decoded (at k sent x ∷ es) seen =
        let rest = all_decoded es (step_of seen (position_of k ks) (view_of x)) in
        let join = joined seen (position_of k ks) x in (
          λ e.
              let p = rest.0 e in
              let q = and_parts (field seen) (decoded x) (sym join ∙ p.0) in
              (q.0, (q.1, p.1)),
          λ p. rest.1 (join ∙ rw (p.0, p.1.0), p.1.1),
        )

-- The heard ones and the lost ones before the last of them are not more than the entries.
pub few : (es : List Entry) → heard_pdcchs es + lost_before es ≤ length es
few [] = omega arith
few (at k sent x ∷ es) = go (any_of is_pdcch es) refl (is_sent_pdcch sent) x (few es) (none_counted es)
  where
    go : (t : Bool) → any_of is_pdcch es ≡ t → (s : Bool) (x : Heard) → heard_pdcchs es + lost_before es ≤ length es → (any_of is_pdcch es ≡ false → heard_pdcchs es ≡ 0)
        → cond (is_pdcch x) 1 0 + heard_pdcchs es + cond (any_of is_pdcch es) (cond (s && not (is_heard x)) 1 0 + lost_before es) 0 ≤ suc (length es)
    go true t true Nothing h z = rw t (omega arith)
    go true t false Nothing h z = rw t (omega arith)
    go true t true (Granted g) h z = rw t (omega arith)
    go true t false (Granted g) h z = rw t (omega arith)
    go true t true (Scheduled b) h z = rw t (omega arith)
    go true t false (Scheduled b) h z = rw t (omega arith)
    go true t true (Released p) h z = rw t (omega arith)
    go true t false (Released p) h z = rw t (omega arith)
    go false t s Nothing h z = rw t (omega (arith, z t))
    go false t s (Granted g) h z = rw t (omega (arith, z t))
    go false t s (Scheduled b) h z = rw t (omega (arith, z t))
    go false t s (Released p) h z = rw t (omega (arith, z t))

-- A PDCCH was heard exactly if U is above 0.
pub some_counted : (es : List Entry) → any_of is_pdcch es ≡ true → 1 ≤ heard_pdcchs es
some_counted [] e = absurd (false≢true e)
some_counted (at k sent x ∷ es) e = go (is_pdcch x) e (some_counted es)
  where
    go : (h : Bool) → (h || any_of is_pdcch es) ≡ true → (any_of is_pdcch es ≡ true → 1 ≤ heard_pdcchs es) → 1 ≤ cond h 1 0 + heard_pdcchs es
    go true e rest = omega arith
    go false e rest = omega (arith, rest e)

-- Where no PDCCH was heard no loss counts.
pub none_lost : (es : List Entry) → any_of is_pdcch es ≡ false → lost_before es ≡ 0
none_lost [] e = refl
none_lost (at k sent x ∷ es) e = go (is_pdcch x) e
  where
    go : (h : Bool) → (h || any_of is_pdcch es) ≡ false → cond (any_of is_pdcch es) (cond (is_lost sent x) 1 0 + lost_before es) 0 ≡ 0
    go true e = absurd (false≢true (sym e))
    go false e = rw e
