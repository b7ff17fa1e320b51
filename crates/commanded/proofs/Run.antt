-- The feeds among the commands to a register block are a run of demand 3: specs/Run.antt, proved. Assumes nothing.
use Prim.Native.Nat.{ℕ, zero, suc, ◌+◌, ◌%◌, ◌<◌}
use mathlib.Core.Bool.{Bool, true, false, cond, ◌&&◌}
use mathlib.Core.List.{List, [], ◌∷◌, ◌++◌}
use mathlib.Core.Path.{◌≡◌, refl, sym, ap, ◌∙◌, subst}
use native.Mathlib.Nat.{add-zero, zero-add, le_of_suc-le-suc, not-suc-le-zero}
use native.Mathlib.Omega.{arith}
use lib.Dec.{eqb, leb}
use lib.ListN.{length, get_or, take, length-append}
use lib.Seq.{take_at, get_or-append_seam}
use borrow.Author.Tests.{eqb-true, eqb-false}
use Rattle.std.proofs.Common.{Result, Ok, Err}
use Rattle.std.proofs.lemmas.Bool.{and_parts}
use Rattle.frame.specs.declared.Settings.{Settings}
use Rattle.frame.specs.Refusals.{number_in}
use Rattle.frame.specs.Settings.{settings_refusal}
use Rattle.heard.specs.declared.Heard.{Heard}
use Rattle.heard.specs.declared.Heard.TheVariants.{Nothing}
use Rattle.heard.specs.Memory.{none}
use Rattle.reply.specs.declared.Answer.{Answer}
use Rattle.reply.specs.declared.Answer.TheVariants.{Taken, NoWindow, Silent, Sent}
use Rattle.handset.specs.declared.Handset.{Handset}
use Rattle.handset.specs.Change.{Changed, change_of}
use Rattle.handset.specs.Feed.{Fed, feed_of}
use Rattle.handset.specs.Make.{make_of}
use Rattle.reader.specs.Record.{slot_at, brought_by}
use Rattle.replaying.specs.Written.{bytes_of}
use Rattle.registers.specs.Call.{AfterCommand, command_of}
use Rattle.registers.specs.Machine.{Written, Running, started, go_on, answered, drop_flags, Stepped, refused_as, feed_step, step, shown_as, seen}
use Rattle.registers.specs.Lists.{rewritten}
use Rattle.registers.specs.Exactly.{Shown}
use Rattle.registers.proofs.Exactly.{calls_exactly}
use Rattle.registers.proofs.Lists.{seen_same, eight_kept, refusal_keeps}
use Rattle.agreement.specs.Demand3.{feedback_engine, handset_at, IsFeed, cause_at}
use Rattle.agreement.proofs.Demand3.{GoesOn, here, further, demand3}
use Rattle.agreement.proofs.Modes.{Allowed, made_allowed, standing_allowed}
use Rattle.agreement.specs.Run.{Item, feed, change, item_at, handset_after, cause_after, heard_from, heard_in_run, standing}
use Rattle.agreement.proofs.Feeds.{cause_in, Past, cause_past}
use Rattle.agreement.proofs.Memory.{ValidPast, after, accepted_after, refused_after, refusal_after, changed_after, made_fresh}
use Rattle.commanded.specs.Run.{Act, command, own_feed, own_change, feeds, run_of, Lent, lent_after, lent_at, block_at, call_at, running_after, running_at, item_after, subframe_after, answer_to, CommandsRun}

-- What a driver wrote last.
last_written : Written → List Act → Written
last_written v [] = v
last_written v (command w ∷ acts) = last_written w acts
last_written v (own_feed x ∷ acts) = last_written v acts
last_written v (own_change m ∷ acts) = last_written v acts

-- What is lent after it shows what is running then.
lent_shows : (v : Written) (r : Running) → length r.reply ≡ 8 → (acts : List Act)
    → lent_after command_of (record { block = shown_as v r; handset = r.handset }) acts
    ≡ record { block = shown_as (last_written v acts) (running_after r acts); handset = (running_after r acts).handset }
unfolding running_after last_written
lent_shows v r eight [] = refl
lent_shows v r eight (command w ∷ acts) =
    ap (λ (a : AfterCommand). lent_after command_of (record { block = a.block; handset = a.told.handset }) acts) (seen_same w r eight)
    ∙ lent_shows w (step w r).running (eight_kept w r eight) acts
lent_shows v r eight (own_feed x ∷ acts) = lent_shows v (go_on (feed_of r.handset x).handset r) eight acts
lent_shows v r eight (own_change m ∷ acts) = lent_shows v (go_on (change_of r.handset m).handset r) eight acts

eight_after : (r : Running) → length r.reply ≡ 8 → (acts : List Act) → length (running_after r acts).reply ≡ 8
unfolding running_after
eight_after r eight [] = eight
eight_after r eight (command w ∷ acts) = eight_after (step w r).running (eight_kept w r eight) acts
eight_after r eight (own_feed x ∷ acts) = eight_after (go_on (feed_of r.handset x).handset r) eight acts
eight_after r eight (own_change m ∷ acts) = eight_after (go_on (change_of r.handset m).handset r) eight acts

-- A feed in the machine, and any other command.
step_feeds : (w : Written) (r : Running) → feeds w ≡ true
    → step w r
    ≡ record {
      refusal = number_in (feed_of r.handset (brought_by w.slot)).answer;
      running = answered r.handset.next (feed_of r.handset (brought_by w.slot)).answer (feed_of r.handset (brought_by w.slot)).handset r;
    }
unfolding step feed_step
step_feeds w r e =
    let p = and_parts (eqb w.command 1) (leb w.slot.kind 3) e in
    let one : w.command ≡ 1 = eqb-true w.command 1 p.0 in
    rw (one, p.1)

step_other : (w : Written) (r : Running) → feeds w ≡ false → (step w r).running.handset ≡ r.handset
unfolding step feed_step
step_other w r e = go (eqb w.command 0) (eqb w.command 1) (eqb w.command 2) (leb w.slot.kind 3) e
  where
    f : Fed
    f = feed_of r.handset (brought_by w.slot)

    go : (a b c known : Bool) → (b && known) ≡ false
        → (cond {A = Stepped} a (record { refusal = 0; running = r })
        (cond b (cond known (record { refusal = number_in f.answer; running = answered r.handset.next f.answer f.handset r }) (refused_as 22 r))
        (cond c (record { refusal = 0; running = drop_flags w.slot.kind r })
        (refused_as 28 r)))).running.handset
        ≡ r.handset
    go true b c known e = refl
    go false true c true e = absurd (cc)
    go false true c false e = refl
    go false false true known e = refl
    go false false false known e = refl

-- What is running after an answer: the handset of the feed, and the bytes of its window.
answered_handset : (n : ℕ) (x : Result Answer ℕ) (h : Handset) (r : Running) → ((k : ℕ) → x ≡ Err k → h ≡ r.handset) → (answered n x h r).handset ≡ h
answered_handset n (Err k) h r keeps = sym (keeps k refl)
answered_handset n (Ok Taken) h r keeps = refl
answered_handset n (Ok NoWindow) h r keeps = refl
answered_handset n (Ok Silent) h r keeps = refl
answered_handset n (Ok (Sent a)) h r keeps = refl

-- The handset that is running after what was done is that of the feeds and changes among it.
running_handset : (r : Running) (acts : List Act) → (running_after r acts).handset ≡ handset_after feed_of change_of r.handset (run_of acts)
unfolding running_after run_of
running_handset r [] = refl
running_handset r (own_feed x ∷ acts) = running_handset (go_on (feed_of r.handset x).handset r) acts
running_handset r (own_change m ∷ acts) = running_handset (go_on (change_of r.handset m).handset r) acts
running_handset r (command w ∷ acts) = running_handset (step w r).running acts ∙ go (feeds w) refl
  where
    x : Heard
    x = brought_by w.slot

    go : (b : Bool) → feeds w ≡ b
        → handset_after feed_of change_of (step w r).running.handset (run_of acts)
        ≡ handset_after feed_of change_of r.handset (cond b (feed x ∷ run_of acts) (run_of acts))
    go true e =
        let s = step_feeds w r e in
        let f : Fed = feed_of r.handset x in
        ap (λ (t : Stepped). handset_after feed_of change_of t.running.handset (run_of acts)) s
        ∙ ap (λ (h : Handset). handset_after feed_of change_of h (run_of acts)) (answered_handset r.handset.next f.answer f.handset r (refusal_keeps r.handset x))
    go false e = ap (λ (h : Handset). handset_after feed_of change_of h (run_of acts)) (step_other w r e)

-- The items among two lists of acts.
run_append : (xs ys : List Act) → run_of (xs ++ ys) ≡ run_of xs ++ run_of ys
unfolding run_of
run_append [] ys = refl
run_append (own_feed x ∷ acts) ys = ap (λ (items : List Item). feed x ∷ items) (run_append acts ys)
run_append (own_change m ∷ acts) ys = ap (λ (items : List Item). change m ∷ items) (run_append acts ys)
run_append (command w ∷ acts) ys = rw (run_append acts ys) (go (feeds w))
  where
    go : (b : Bool)
        → cond b (feed (brought_by w.slot) ∷ (run_of acts ++ run_of ys)) (run_of acts ++ run_of ys)
        ≡ cond b (feed (brought_by w.slot) ∷ run_of acts) (run_of acts) ++ run_of ys
    go true = refl
    go false = refl

-- A command that feeds, and what is done after it.
run_feeds : (w : Written) (acts : List Act) → feeds w ≡ true → run_of (command w ∷ acts) ≡ feed (brought_by w.slot) ∷ run_of acts
unfolding run_of
run_feeds w acts f = rw f

module _ (set : Settings) (good : settings_refusal set ≡ 0) where
  module _ (heard : List Heard) where
    -- The run's list of heard things goes on, after the history l, with what the items still to come bring.
    abbrev Rest : List Heard → List Item → Type 0
    Rest l items = GoesOn Nothing heard (length l) (heard_from set l items)

    -- The handset h at subframe s of the run, and its answer to what is brought there.
    record At (h : Handset) (s : ℕ) (x : Heard) : Type 0 where
      next : h.next ≡ s % 10
      refusal : number_in (feed_of h x).answer ≡ cause_in set heard s x

    each : (items : List Item) (m : ℕ) (ms : List ℕ) → Allowed set (m ∷ ms) → (l : List Heard) → ValidPast set l → Past Nothing heard l → Rest l items
        → (i : ℕ) (x : Heard) → i < length items → item_at items i ≡ feed x
        → At (handset_after feed_of change_of (after set m ms l) (take i items)) (length l + length (heard_from set l (take i items))) x
    each [] m ms allowed l valid past rest i x h is = absurd (not-suc-le-zero h)
    each (change new ∷ items) m ms allowed l valid past rest zero x h is = absurd (cc)
    each (change new ∷ items) m ms allowed l valid past rest (suc i) x h is =
        subst (λ (g : Handset). At (handset_after feed_of change_of g (take i items)) (length l + length (heard_from set l (take i items))) x)
        (sym (ap (λ (c : Changed). c.handset) (changed_after set good m ms allowed l valid new)))
        (each items (standing set m new) ms (standing_allowed set good m new allowed.0, allowed.1) l valid past rest i x (le_of_suc-le-suc h) is)
    each (feed y ∷ items) m ms allowed l valid past rest zero x h is =
        let same : y ≡ x = cc in
        record {
          next = ap (λ (s : ℕ). s % 10) (sym (add-zero (length l)));
          refusal = refusal_after set good m ms allowed l valid x ∙ sym (cause_past set heard l past x) ∙ ap (λ (s : ℕ). cause_in set heard s x) (sym (add-zero (length l)));
        }
    each (feed y ∷ items) m ms allowed l valid past rest (suc i) x h is =
        go (eqb (cause_after set l y) 0) refl rest
        (λ ms' allowed' l' valid' past' rest'. each items m ms' allowed' l' valid' past' rest' i x (le_of_suc-le-suc h) is)
      where
        go : (b : Bool) → eqb (cause_after set l y) 0 ≡ b
            → GoesOn Nothing heard (length l) (cond b (y ∷ heard_from set (y ∷ l) items) (heard_from set l items))
            → ((ms' : List ℕ) → Allowed set (m ∷ ms') → (l' : List Heard) → ValidPast set l' → Past Nothing heard l' → Rest l' items
            → At (handset_after feed_of change_of (after set m ms' l') (take i items)) (length l' + length (heard_from set l' (take i items))) x)
            → At (handset_after feed_of change_of (feed_of (after set m ms l) y).handset (take i items))
            (length l + length (cond b (y ∷ heard_from set (y ∷ l) (take i items)) (heard_from set l (take i items)))) x
        go true b rest next =
            let none : cause_after set l y ≡ 0 = eqb-true (cause_after set l y) 0 b in
            let now = here Nothing heard (length l) y (heard_from set (y ∷ l) items) rest in
            let more = further Nothing heard (length l) y (heard_from set (y ∷ l) items) rest in
            let count : length l + suc (length (heard_from set (y ∷ l) (take i items))) ≡ suc (length l) + length (heard_from set (y ∷ l) (take i items)) = omega arith in
            rw (count, ap (λ (f : Fed). f.handset) (accepted_after set good m ms allowed l valid y none))
            (next (m ∷ ms) (allowed.0, allowed) (y ∷ l) (none, valid) (now, past) more)
        go false b rest next =
            rw (ap (λ (f : Fed). f.handset) (refused_after set good m ms allowed l valid y (eqb-false (cause_after set l y) 0 b)))
            (next ms allowed l valid past rest)

-- What is shown, by equal numbers, answers and blocks.
shown_with : {n n' : ℕ} {a a' : Result Answer ℕ} {b b' : List ℕ} {c c' : AfterCommand} → n ≡ n' → a ≡ a' → b ≡ b' → c ≡ c'
    → Shown (bytes_of n a) b c.block → Shown (bytes_of n' a') b' c'.block
shown_with e f g h t = rw (← e, ← f, ← g, ← h) t

-- What was done before a command w, and is done after it.
module _ (set : Settings) (good : settings_refusal set ≡ 0) (before later : List Act) (w : Written) where
  abbrev whole : List Act
  whole = before ++ (command w ∷ later)

  -- What is running before w.
  abbrev r : Running
  r = running_at set before

  eight : length r.reply ≡ 8
  eight = eight_after (started (make_of set).handset) refl before

  v : Written
  v = last_written (record { slot = none; command = 0; mask = 0 }) before

  shows : lent_at command_of set before ≡ record { block = shown_as v r; handset = r.handset }
  unfolding v
  shows = lent_shows (record { slot = none; command = 0; mask = 0 }) (started (make_of set).handset) refl before

  call_is : call_at command_of set before w ≡ seen w (step w r)
  call_is = ap (λ (l : Lent). command_of (rewritten w l.block) l.handset) shows ∙ seen_same w r eight

  items_are : run_of whole ≡ run_of before ++ run_of (command w ∷ later)
  items_are = run_append before (command w ∷ later)

  taken : take (item_after before) (run_of whole) ≡ run_of before
  taken = ap (take (item_after before)) items_are ∙ take_at (run_of before) (run_of (command w ∷ later)) (item_after before) refl

  -- The handset that is lent is the run's; the run is counted to here.
  handset_is : r.handset ≡ handset_at feedback_engine set (run_of whole) (item_after before)
  handset_is =
      running_handset (started (make_of set).handset) before
      ∙ ap (handset_after feed_of change_of (make_of set).handset) (sym taken)

  lent_is : (lent_at command_of set before).handset ≡ handset_at feedback_engine set (run_of whole) (item_after before)
  lent_is = ap (λ (l : Lent). l.handset) shows ∙ handset_is

  -- A command that feeds.
  module _ (f : feeds w ≡ true) where
    abbrev x : Heard
    x = brought_by w.slot

    item_is : IsFeed (run_of whole) (item_after before) x
    item_is =
        let more : run_of (command w ∷ later) ≡ feed (brought_by w.slot) ∷ run_of later = run_feeds w later f in
        let all : run_of whole ≡ run_of before ++ (feed (brought_by w.slot) ∷ run_of later) = items_are ∙ ap (λ (l : List Item). run_of before ++ l) more in
        record {
          inside = rw (all, length-append (run_of before) (feed (brought_by w.slot) ∷ run_of later)) (omega arith);
          brings = ap (λ (l : List Item). item_at l (item_after before)) all ∙ get_or-append_seam (run_of before) (feed (brought_by w.slot)) (run_of later) (feed Nothing);
        }

    at_is : At set good (heard_in_run set (run_of whole)) (handset_at feedback_engine set (run_of whole) (item_after before))
        (subframe_after set whole before) x
    at_is =
        let all = each set good (heard_in_run set (run_of whole)) (run_of whole) set.mode [] (made_allowed set good, tt) [] tt tt
        (λ j. ap (λ (s : ℕ). get_or (heard_in_run set (run_of whole)) s Nothing) (zero-add j))
        (item_after before) x item_is.inside item_is.brings in
        rw (made_fresh set good, ← zero-add (length (heard_from set [] (take (item_after before) (run_of whole))))) all

    seen_is : call_at command_of set before w
        ≡ seen w (record {
          refusal = number_in (feed_of r.handset x).answer;
          running = answered r.handset.next (feed_of r.handset x).answer (feed_of r.handset x).handset r;
        })
    seen_is = call_is ∙ ap (seen w) (step_feeds w r f)

    refusal_is : (call_at command_of set before w).told.refusal ≡ number_in (answer_to set whole before w)
    refusal_is = ap (λ (a : AfterCommand). a.told.refusal) seen_is ∙ ap (λ (h : Handset). number_in (feed_of h x).answer) handset_is

    cause_is : (call_at command_of set before w).told.refusal ≡ cause_at set (run_of whole) (item_after before) (brought_by w.slot)
    cause_is = refusal_is ∙ at_is.refusal

    reply_is : (call_at command_of set before w).told.refusal ≡ 0
        → Shown (bytes_of (subframe_after set whole before % 10) (answer_to set whole before w)) (block_at command_of set before w) (call_at command_of set before w).block
    unfolding slot_at
    reply_is refused =
        let n : r.handset.next ≡ subframe_after set whole before % 10 = ap (λ (h : Handset). h.next) handset_is ∙ at_is.next in
        let a : (feed_of r.handset x).answer ≡ answer_to set whole before w = ap (λ (h : Handset). (feed_of h x).answer) handset_is in
        let sixteen : length (shown_as w r) ≡ 16 = omega (arith, eight) in
        let lent : block_at command_of set before w ≡ shown_as w r = ap (λ (l : Lent). rewritten w l.block) shows in
        let called : call_at command_of set before w ≡ command_of (shown_as w r) r.handset = ap (λ (l : Lent). command_of (rewritten w l.block) l.handset) shows in
        let one : w.command ≡ 1 = eqb-true w.command 1 (and_parts (eqb w.command 1) (leb w.slot.kind 3) f).0 in
        shown_with n a (sym lent) (sym called) ((calls_exactly (shown_as w r) r.handset).fed sixteen one (ap (λ (c : AfterCommand). c.told.refusal) (sym called) ∙ refused)).0

  other_is : feeds w ≡ false → (call_at command_of set before w).told.handset ≡ (lent_at command_of set before).handset
  other_is e = ap (λ (a : AfterCommand). a.told.handset) call_is ∙ step_other w r e ∙ sym (ap (λ (l : Lent). l.handset) shows)

pub commands_run : CommandsRun command_of
commands_run set good acts =
    record {
      equals = λ before w at. call_is set good before at.0 w;
      item = λ before w at f. rw at.1 (item_is set good before at.0 w f);
      handset = λ before w at. rw at.1 (lent_is set good before at.0 w);
      refusal = λ before w at f. rw at.1 (refusal_is set good before at.0 w f, cause_is set good before at.0 w f);
      reply = λ before w at f. rw at.1 (reply_is set good before at.0 w f);
      other = λ before w at e. other_is set good before at.0 w e;
      holds = λ sent schedule brings. demand3.run set good sent schedule (run_of acts) brings;
    }
