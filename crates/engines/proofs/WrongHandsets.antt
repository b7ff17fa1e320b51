-- Handsets with one fault each, and the field of the statement that shuts each of them out; WrongEngines.antt lists them.
-- Assumes nothing.
use Rattle.std.proofs.Common.{Option, Result, Ok, Err}
use Rattle.resource.specs.declared.Cce.{Cce}
use Rattle.resource.specs.declared.Resource.{Resource}
use Prim.Native.Nat.{ℕ, zero, suc, ◌+◌, ◌-◌, ◌%◌, ◌<◌}
use mathlib.Core.Bool.{Bool, true, false, cond, ◌&&◌, ◌||◌, false≢true}
use mathlib.Core.List.{List, [], ◌∷◌, reverse}
use mathlib.Core.Logic.{inl, inr}
use mathlib.Core.Path.{◌≡◌, refl, sym, ap, ◌∙◌}
use native.Mathlib.Omega.{arith}
use lib.Dec.{eqb, ltb}
use lib.ListN.{get_or}
use Rattle.frame.specs.declared.Settings.{Settings}
use Rattle.frame.specs.Distance.{before}
use Rattle.frame.specs.Layout.{downlink}
use Rattle.frame.specs.Once.{InWindow}
use Rattle.frame.specs.Order.{order_of}
use Rattle.frame.specs.Settings.{or_else}
use Rattle.frame.specs.Special.{too_short}
use Rattle.frame.specs.Table.{window_of}
use Rattle.frame.proofs.Windows.{exactly_one_holds}
use Rattle.resource.specs.Calls.{resource_of, inverse_of}
use Rattle.resource.proofs.OneToOne.{calls_one_to_one, resource_range}
use Rattle.heard.specs.declared.Heard.{Heard}
use Rattle.heard.specs.declared.Heard.TheVariants.{Nothing, Granted, Scheduled, Released}
use Rattle.heard.specs.declared.Release.{Release}
use Rattle.heard.specs.declared.ScheduledBlock.{ScheduledBlock}
use Rattle.heard.specs.declared.Slot.{Slot}
use Rattle.heard.specs.declared.View.{View}
use Rattle.heard.specs.declared.View.TheVariants.{Unheard}
use Rattle.heard.specs.Heard.{is_block, view_of}
use Rattle.heard.specs.Memory.{none, bit, heard_in, view_ago}
use Rattle.fold.specs.declared.Seen.{Seen}
use Rattle.fold.specs.Fold.{unseen, step_of, seen_from, seen_of}
use Rattle.reply.specs.declared.Answer.{Answer}
use Rattle.reply.specs.declared.Answer.TheVariants as answer
use Rattle.reply.specs.declared.Reply.{Reply}
use Rattle.reply.specs.declared.ReplyKind.{ReplyKind}
use Rattle.reply.specs.declared.ReplyKind.TheVariants as kind
use Rattle.reply.specs.Kinds.{kind_number}
use Rattle.reply.specs.Replies.{reply_on, lone_answer, bundled_answer, window_answer}
use Rattle.handset.specs.Feed.{Fed}
use Rattle.handset.specs.declared.Handset.{Handset}
use Rattle.handset.specs.Make.{Made}
use Rattle.handset.specs.Feed.{window_settings, pushed, feed_refusal, fed_as, feed_of}
use Rattle.handset.specs.Make.{make_of}
use Rattle.station.specs.declared.Place.TheVariants as place
use Rattle.station.specs.declared.Reading.{Reading}
use Rattle.station.specs.Readings.{read_of}
use Rattle.agreement.specs.Demand3.{Engine, Demand3}
use Rattle.agreement.specs.Run.{heard_in_run}
use Rattle.agreement.specs.Window.{is_heard}
use Rattle.engines.proofs.Computing.{schedules, handsets, stations}
use Rattle.engines.proofs.Worked.{answer_at, fed_nothing, cell, scheduled_two_block_cell, heard_grant, heard_block, reply, all_heard, all_heard_holds, missed, first_missed, one_undecoded, one_undecoded_holds, refused_feeds, refused_feeds_holds, two_windows, two_windows_holds, shared, symbol_shared, lone_block, lone_block_holds, second_block, second_block_holds, no_resource_set, no_resource_set_holds, short_special, short_special_holds, block_in_each, block_in_each_holds, block_at_index, block_at_index_holds}
use Rattle.engines.proofs.WrongEngines.{engine, made_by, fed_by, changed, knows_by, answers_by, answering, as_sent, replying, replying_in, sent_on, with_bits, same_answer, same_resource, symbol_parts, named_at, one_lost, holds_in, in_all_heard, in_missed, in_one_undecoded, in_two_windows, in_shared, in_shared_before, in_lone_block, in_block_last, in_missed_with_block, in_release_last, in_block_at_index, in_release_at_index, in_short_multiplexed}

-- Making.

-- Every cell is refused.
abbrev pub refuses_to_make : Settings → Made
refuses_to_make s = record { refusal = 1; handset = (make_of s).handset }

pub not_refuses_to_make : Demand3 (made_by refuses_to_make) → ⊥
unfolding schedules
not_refuses_to_make d = omega (arith, d.made (cell 1 0) refl)

-- Refusals.

-- A handset that refuses all.
abbrev pub refuses_all : Handset → Heard → Fed
refuses_all h x = record { answer = Err 9; handset = h }

pub not_refuses_all : Demand3 (fed_by refuses_all) → ⊥
unfolding schedules
not_refuses_all d =
    ((holds_in (fed_by refuses_all) d all_heard all_heard_holds).refused_exactly 7 Nothing (record { inside = omega arith; brings = refl })).0 (9, refl) refl

-- One that refuses 8 where it has nothing to send.
abbrev pub refuses_silence : Result Answer ℕ → Result Answer ℕ
refuses_silence = answering (Ok answer.Taken) (Ok answer.NoWindow) (Err 8) as_sent Err

pub not_refuses_silence : Demand3 (answers_by refuses_silence) → ⊥
unfolding schedules
not_refuses_silence d =
    ((holds_in (answers_by refuses_silence) d all_heard all_heard_holds).refused_exactly 2 Nothing (record { inside = omega arith; brings = refl })).0
    (8, ap refuses_silence (answer_at all_heard all_heard_holds 2)) refl

-- One that answers "taken" where a cause is met.
abbrev pub refuses_none : Result Answer ℕ → Result Answer ℕ
refuses_none = answering (Ok answer.Taken) (Ok answer.NoWindow) (Ok answer.Silent) as_sent (λ (k : ℕ). (Ok answer.Taken))

pub not_refuses_none : Demand3 (answers_by refuses_none) → ⊥
unfolding schedules
not_refuses_none d =
    let r = ((holds_in (answers_by refuses_none) d refused_feeds refused_feeds_holds).refused_exactly 1 (heard_grant 2 10 2 true true)
    (record { inside = omega arith; brings = refl })).1 (λ e. omega arith) in
    omega (arith, same_answer (ap refuses_none (answer_at refused_feeds refused_feeds_holds 1)) r.1)

-- One that refuses with 9 whatever the cause.
abbrev pub refuses_with_nine : Result Answer ℕ → Result Answer ℕ
refuses_with_nine = answering (Ok answer.Taken) (Ok answer.NoWindow) (Ok answer.Silent) as_sent (λ (k : ℕ). Err 9)

pub not_refuses_with_nine : Demand3 (answers_by refuses_with_nine) → ⊥
unfolding schedules
not_refuses_with_nine d =
    let l = (holds_in (answers_by refuses_with_nine) d refused_feeds refused_feeds_holds).leaves 1 (heard_grant 2 10 2 true true)
    (record { inside = omega arith; brings = refl }) (λ e. omega arith) in
    omega (arith, same_answer (ap refuses_with_nine (answer_at refused_feeds refused_feeds_holds 1)) (ap (λ (f : Fed). f.answer) l))

-- One that moves on at a refused feed, as if nothing had been heard.
abbrev moved_on : Handset → Handset → Result Answer ℕ → Handset
moved_on h next = answering next next next (λ (r : Reply). next) (λ (k : ℕ). pushed h Nothing)

abbrev pub moves_on : Handset → Heard → Fed
moves_on h x = record { answer = (feed_of h x).answer; handset = moved_on h (feed_of h x).handset (feed_of h x).answer }

pub not_moves_on : Demand3 (fed_by moves_on) → ⊥
unfolding handsets
not_moves_on d =
    let l = (holds_in (fed_by moves_on) d refused_feeds refused_feeds_holds).leaves 1 (heard_grant 2 10 2 true true)
    (record { inside = omega arith; brings = refl }) (λ e. omega arith) in
    omega (arith, ap (λ (f : Fed). f.handset.next) l)

-- One that does not know 18: it takes a second scheduled block of a window, and one with no resource set.
abbrev pub takes_eighteen : Handset → Heard → Fed
takes_eighteen h x = fed_as (cond (eqb (feed_refusal h x) 18) 0 (feed_refusal h x)) h x

pub not_takes_second_block : Demand3 (fed_by takes_eighteen) → ⊥
unfolding handsets
not_takes_second_block d =
    let r = ((holds_in (fed_by takes_eighteen) d second_block second_block_holds).refused_exactly 5 (heard_block true)
    (record { inside = omega arith; brings = refl })).1 (λ e. omega arith) in
    omega (arith, same_answer {b = (Ok answer.Taken)} refl r.1)

pub not_takes_unset_block : Demand3 (fed_by takes_eighteen) → ⊥
unfolding handsets
not_takes_unset_block d =
    let r = ((holds_in (fed_by takes_eighteen) d no_resource_set no_resource_set_holds).refused_exactly 0 (heard_block true)
    (record { inside = omega arith; brings = refl })).1 (λ e. omega arith) in
    omega (arith, same_answer {b = (Ok answer.Taken)} refl r.1)

-- One that refuses 18 for a scheduled block where it remembers another, of whatever window.
abbrev remembers_block : List Slot → Bool
remembers_block [] = false
remembers_block (t ∷ ts) = is_block (heard_in t) || remembers_block ts

abbrev pub refuses_across : Handset → Heard → Fed
refuses_across h x = fed_as (or_else (feed_refusal h x) (cond (is_block x && remembers_block h.past) 18 0)) h x

pub not_refuses_across : Demand3 (fed_by refuses_across) → ⊥
unfolding handsets
not_refuses_across d =
    ((holds_in (fed_by refuses_across) d block_in_each block_in_each_holds).refused_exactly 5 (heard_block false) (record { inside = omega arith; brings = refl })).0
    (18, refl) refl

-- One that does not know 20: it takes a grant in a subframe too short for data; and one that knows it for grants alone.
abbrev pub takes_twenty : Handset → Heard → Fed
takes_twenty h x = fed_as (cond (eqb (feed_refusal h x) 20) 0 (feed_refusal h x)) h x

pub not_takes_short_grant : Demand3 (fed_by takes_twenty) → ⊥
unfolding handsets
not_takes_short_grant d =
    let r = ((holds_in (fed_by takes_twenty) d short_special short_special_holds).refused_exactly 1 (heard_grant 1 10 1 true false)
    (record { inside = omega arith; brings = refl })).1 (λ e. omega arith) in
    omega (arith, same_answer {b = (Ok answer.Taken)} refl r.1)

abbrev pub takes_short_block : Handset → Heard → Fed
takes_short_block h x = fed_as (cond (eqb (feed_refusal h x) 20 && is_block x) 0 (feed_refusal h x)) h x

pub not_takes_short_block : Demand3 (fed_by takes_short_block) → ⊥
unfolding handsets
not_takes_short_block d =
    let r = ((holds_in (fed_by takes_short_block) d short_special short_special_holds).refused_exactly 3 (heard_block true)
    (record { inside = omega arith; brings = refl })).1 (λ e. omega arith) in
    omega (arith, same_answer {b = (Ok answer.Taken)} refl r.1)

-- One that refuses a release there too.
abbrev pub refuses_short_release : Handset → Heard → Fed
refuses_short_release h x = fed_as (or_else (feed_refusal h x) (cond (is_heard x && too_short h.settings h.next) 20 0)) h x

pub not_refuses_short_release : Demand3 (fed_by refuses_short_release) → ⊥
unfolding handsets
not_refuses_short_release d =
    ((holds_in (fed_by refuses_short_release) d short_special short_special_holds).refused_exactly 4 (Released (record { cce = record { 0 = 10 }; dai = 1 }))
    (record { inside = omega arith; brings = refl })).0 (20, refl) refl

-- One that takes such a subframe for an uplink one: 9 for 20.
abbrev pub nine_for_twenty : Result Answer ℕ → Result Answer ℕ
nine_for_twenty = answering (Ok answer.Taken) (Ok answer.NoWindow) (Ok answer.Silent) as_sent (λ (k : ℕ). Err (cond (eqb k 20) 9 k))

pub not_nine_for_twenty : Demand3 (answers_by nine_for_twenty) → ⊥
unfolding schedules
not_nine_for_twenty d =
    let l = (holds_in (answers_by nine_for_twenty) d short_special short_special_holds).leaves 1 (heard_grant 1 10 1 true false)
    (record { inside = omega arith; brings = refl }) (λ e. omega arith) in
    omega (arith, same_answer (ap nine_for_twenty (answer_at short_special short_special_holds 1)) (ap (λ (f : Fed). f.answer) l))

-- One that looks at the blocks carried first: 10 for a grant of 2 blocks there.
abbrev carries_too_many : Settings → Heard → Bool
carries_too_many s Nothing = false
carries_too_many s (Granted g) = ltb s.blocks g.blocks
carries_too_many s (Scheduled b) = ltb s.blocks b.blocks
carries_too_many s (Released p) = false

abbrev pub ten_before_twenty : Handset → Heard → Fed
ten_before_twenty h x = fed_as (cond (eqb (feed_refusal h x) 20 && carries_too_many h.settings x) 10 (feed_refusal h x)) h x

pub not_ten_before_twenty : Demand3 (fed_by ten_before_twenty) → ⊥
unfolding handsets
not_ten_before_twenty d =
    let l = (holds_in (fed_by ten_before_twenty) d short_special short_special_holds).leaves 2 (heard_grant 2 10 1 true true)
    (record { inside = omega arith; brings = refl }) (λ e. omega arith) in
    omega (arith, same_answer {b = Err 10} refl (ap (λ (f : Fed). f.answer) l))

-- The two of 18, by the words of the window table: subframes 4 and 5 of configuration 2 are in the window of 12; of configuration 1,
-- subframe 0 is in that of 7 and subframe 5 in that of 12.
pub not_takes_second_in_window : Demand3 (fed_by takes_eighteen) → ⊥
unfolding handsets
not_takes_second_in_window d =
    let r = ((holds_in (fed_by takes_eighteen) d second_block second_block_holds).second 5 (record { blocks = 1; first = true; second = false })
    (record { inside = omega arith; brings = refl }) refl).1
    (4, 12, 1, 0, omega arith, record { position = omega arith; distance = refl }, record { position = omega arith; distance = refl }, refl) in
    omega (arith, same_answer {b = (Ok answer.Taken)} refl r)

-- the block heard before subframe 5 is that of 0
only_first : (d : ℕ) → d < 5 → is_block (get_or (heard_in_run block_in_each.set block_in_each.items) d Nothing) ≡ true → d ≡ 0
unfolding schedules
only_first zero h e = refl
only_first (suc zero) h e = absurd (false≢true e)
only_first (suc (suc zero)) h e = absurd (false≢true e)
only_first (suc (suc (suc zero))) h e = absurd (false≢true e)
only_first (suc (suc (suc (suc zero)))) h e = absurd (false≢true e)
only_first (suc (suc (suc (suc (suc d))))) h e = absurd (omega arith)

-- a subframe of configuration 1 that is in the window of s is in that of no other
one_window : (d s m u i : ℕ) → downlink 1 (d % 10) ≡ true → InWindow 1 s m d → InWindow 1 u i d → u ≡ s
one_window d s m u i down here there = let one = exactly_one_holds 1 d down in (one.only u i there).0 ∙ sym (one.only s m here).0

pub not_refuses_across_windows : Demand3 (fed_by refuses_across) → ⊥
unfolding handsets
not_refuses_across_windows d =
    let r = ((holds_in (fed_by refuses_across) d block_in_each block_in_each_holds).second 5 (record { blocks = 1; first = false; second = false })
    (record { inside = omega arith; brings = refl }) refl).0 refl in
    let first : r.0 ≡ 0 = only_first r.0 r.4 r.7 in
    let seven = one_window 0 7 0 r.1 r.3 refl (record { position = omega arith; distance = refl }) (rw first at r.6) in
    let twelve = one_window 5 12 0 r.1 r.2 refl (record { position = omega arith; distance = refl }) r.5 in
    omega (arith, seven, twelve)

-- Subframes without a reply.

-- "Silent" for "taken".
abbrev pub silent_for_taken : Result Answer ℕ → Result Answer ℕ
silent_for_taken = answering (Ok answer.Silent) (Ok answer.NoWindow) (Ok answer.Silent) as_sent Err

pub not_silent_for_taken : Demand3 (answers_by silent_for_taken) → ⊥
unfolding schedules
not_silent_for_taken d =
    let t = (holds_in (answers_by silent_for_taken) d all_heard all_heard_holds).taken 4 4 Nothing (fed_nothing all_heard 4 (omega arith) refl refl) refl in
    omega (arith, same_answer (ap silent_for_taken (answer_at all_heard all_heard_holds 4)) t)

-- "Silent" for "no window".
abbrev pub silent_for_no_window : Result Answer ℕ → Result Answer ℕ
silent_for_no_window = answering (Ok answer.Taken) (Ok answer.Silent) (Ok answer.Silent) as_sent Err

pub not_silent_for_no_window : Demand3 (answers_by silent_for_no_window) → ⊥
unfolding schedules
not_silent_for_no_window d =
    let n = (holds_in (answers_by silent_for_no_window) d two_windows two_windows_holds).no_window 3 3 Nothing (fed_nothing two_windows 3 (omega arith) refl refl) refl refl in
    omega (arith, same_answer (ap silent_for_no_window (answer_at two_windows two_windows_holds 3)) n)

-- "No window" for "silent": in the bundled window whose miss is shown, and in the multiplexed one of which nothing is heard.
abbrev pub no_window_for_silent : Result Answer ℕ → Result Answer ℕ
no_window_for_silent = answering (Ok answer.Taken) (Ok answer.NoWindow) (Ok answer.NoWindow) as_sent Err

pub not_no_window_for_silent : Demand3 (answers_by no_window_for_silent) → ⊥
unfolding schedules
not_no_window_for_silent d =
    let e = ap no_window_for_silent (answer_at missed first_missed 7) in
    omega (arith, same_answer e ((in_missed (answers_by no_window_for_silent) d).2 (λ r f. omega (arith, same_answer e f))))

pub not_no_window_for_silent_multiplexed : Demand3 (answers_by no_window_for_silent) → ⊥
unfolding schedules
not_no_window_for_silent_multiplexed d =
    let e = ap no_window_for_silent (answer_at shared symbol_shared 7) in
    omega (arith, same_answer e ((in_shared_before (answers_by no_window_for_silent) d).2 (λ r f. omega (arith, same_answer e f))))

-- Whether a reply is sent.

-- A handset always silent.
abbrev pub always_silent : Result Answer ℕ → Result Answer ℕ
always_silent = replying (λ (r : Reply). Ok answer.Silent)

pub not_always_silent : Demand3 (answers_by always_silent) → ⊥
unfolding schedules
not_always_silent d =
    let r = (in_all_heard (answers_by always_silent) d).0.1 (inl (refl, inl refl)) in
    omega (arith, same_answer (ap always_silent (answer_at all_heard all_heard_holds 7)) r.1)

pub not_always_silent_multiplexed : Demand3 (answers_by always_silent) → ⊥
unfolding schedules
not_always_silent_multiplexed d =
    let r = (in_shared (answers_by always_silent) d).0.1 refl in
    omega (arith, same_answer (ap always_silent (answer_at shared symbol_shared 12)) r.1)

-- A handset silent as if missed before any grant: no bundled reply goes out.
abbrev pub as_if_missed : Result Answer ℕ → Result Answer ℕ
as_if_missed = replying_in 1 (λ (r : Reply). Ok answer.Silent)

pub not_as_if_missed : Demand3 (answers_by as_if_missed) → ⊥
unfolding schedules
not_as_if_missed d =
    let r = (in_all_heard (answers_by as_if_missed) d).0.1 (inl (refl, inl refl)) in
    omega (arith, same_answer (ap as_if_missed (answer_at all_heard all_heard_holds 7)) r.1)

-- A handset silent where the reply would go on the scheduled resource.
abbrev pub silent_on_scheduled : Handset → Result Answer ℕ → Result Answer ℕ
silent_on_scheduled h = replying (λ (r : Reply). cond (eqb r.resource.0 h.settings.scheduled) (Ok answer.Silent) (Ok (answer.Sent r)))

pub not_silent_on_scheduled : Demand3 (knows_by silent_on_scheduled) → ⊥
unfolding handsets
not_silent_on_scheduled d =
    let r = (in_lone_block (knows_by silent_on_scheduled) d).0.1 (inr (refl, refl)) in
    omega (arith, same_answer {b = (Ok answer.Silent)} refl r.1)

pub not_silent_on_scheduled_multiplexed : Demand3 (knows_by silent_on_scheduled) → ⊥
unfolding handsets
not_silent_on_scheduled_multiplexed d =
    let r = (in_block_at_index (knows_by silent_on_scheduled) d).0.1 refl in
    omega (arith, same_answer {b = (Ok answer.Silent)} refl r.1)

-- What a handset has of the window that it is to answer: the printed K, what stood k ago, and the fold.
abbrev own_window : Handset → List ℕ
own_window h = window_of h.settings.config h.next

abbrev own_view : Handset → ℕ → View
own_view h = view_ago h.past

abbrev own_seen : Handset → Seen
own_seen h = seen_of (own_view h) (own_window h)

-- Our handset with another count U in its bundled replies. (In a multiplexed window it is silent only where nothing is heard.)
abbrev counts_by : (Seen → ℕ) → Handset → Result Answer ℕ → Result Answer ℕ
counts_by count h =
    let seen : Seen = own_seen h in
    let other : Result Answer ℕ = Ok (bundled_answer (window_settings h) h.next
    (record { u = count seen; v = seen.v; position = seen.position; cce = seen.cce; first = seen.first; second = seen.second; scheduled = seen.scheduled })) in
    answering (Ok answer.Taken) (Ok answer.NoWindow) other (λ (r : Reply). cond (eqb (kind_number r.kind) 1) other (as_sent r)) Err

-- A handset that holds V against the value for U + 1: it answers where one grant was lost, and is silent where none was.
abbrev pub counts_one_more : Handset → Result Answer ℕ → Result Answer ℕ
counts_one_more = counts_by (λ (seen : Seen). cond (eqb seen.u 0) 0 (seen.u + 1))

pub not_counts_one_more : Demand3 (knows_by counts_one_more) → ⊥
unfolding handsets
not_counts_one_more d = one_lost ((in_missed (knows_by counts_one_more) d).0.0 (_, refl))

-- One that counts a heard scheduled block in U: it is silent where a grant and a block were heard and none was lost, and answers
-- where one was lost.
abbrev pub counts_block : Handset → Result Answer ℕ → Result Answer ℕ
counts_block = counts_by (λ (seen : Seen). seen.u + bit seen.scheduled)

pub not_counts_block : Demand3 (knows_by counts_block) → ⊥
unfolding handsets
not_counts_block d =
    let r = (in_block_last (knows_by counts_block) d).0.1 (inl (refl, inl refl)) in
    omega (arith, same_answer {b = (Ok answer.Silent)} refl r.1)

pub not_counts_block_missed : Demand3 (knows_by counts_block) → ⊥
unfolding handsets
not_counts_block_missed d = one_lost ((in_missed_with_block (knows_by counts_block) d).0.0 (_, refl))

-- One that answers for a heard scheduled block, on its resource, where a miss is shown.
abbrev pub answers_missed : Handset → Result Answer ℕ → Result Answer ℕ
answers_missed h = answering (Ok answer.Taken) (Ok answer.NoWindow) (Ok (lone_answer h.settings (own_seen h))) as_sent Err

pub not_answers_missed : Demand3 (knows_by answers_missed) → ⊥
unfolding handsets
not_answers_missed d = one_lost ((in_missed_with_block (knows_by answers_missed) d).0.0 (_, refl))

-- A reply in every window: on resource 10 where there is none to send.
abbrev pub never_silent : Result Answer ℕ → Result Answer ℕ
never_silent = answering (Ok answer.Taken) (Ok answer.NoWindow) (reply 2 10 0 0) as_sent Err

pub not_never_silent_multiplexed : Demand3 (answers_by never_silent) → ⊥
unfolding schedules
not_never_silent_multiplexed d =
    false≢true ((in_shared_before (answers_by never_silent) d).0.0 (_, ap never_silent (answer_at shared symbol_shared 7)))

-- A handset that answers its first window and is silent after. It marks itself by expecting ten more.
abbrev ten_more : Handset → Handset
ten_more h = record { settings = h.settings; next = h.next + 10; modes = h.modes; past = h.past }

abbrev ten_less : Handset → Handset
ten_less h = record { settings = h.settings; next = h.next - 10; modes = h.modes; past = h.past }

abbrev ten_more_after : Handset → Result Answer ℕ → Handset
ten_more_after h = answering h h h (λ (r : Reply). ten_more h) (λ (k : ℕ). h)

abbrev pub first_only : Handset → Heard → Fed
first_only h x =
    cond (ltb h.next 10)
    (record { answer = (feed_of h x).answer; handset = ten_more_after (feed_of h x).handset (feed_of h x).answer })
    (record { answer = always_silent (feed_of (ten_less h) x).answer; handset = ten_more (feed_of (ten_less h) x).handset })

pub not_first_only : Demand3 (fed_by first_only) → ⊥
unfolding handsets
not_first_only d =
    let r = (in_two_windows (fed_by first_only) d).0.1 (inl (refl, inl refl)) in
    omega (arith, same_answer {b = (Ok answer.Silent)} refl r.1)

-- What the reply is.

-- A bundled reply goes out as a multiplexed one, and the reverse.
abbrev the_other : ReplyKind → ReplyKind
the_other kind.Bundled = kind.Multiplexed
the_other kind.Multiplexed = kind.Bundled

abbrev pub other_kind : Result Answer ℕ → Result Answer ℕ
other_kind = replying (λ (r : Reply). Ok (answer.Sent (record { kind = the_other r.kind; resource = r.resource; b0 = r.b0; b1 = r.b1; second = r.second })))

pub not_other_kind : Demand3 (answers_by other_kind) → ⊥
unfolding schedules
not_other_kind d = omega (arith, ap kind_number ((in_all_heard (answers_by other_kind) d).1 _ (ap other_kind (answer_at all_heard all_heard_holds 7))).kind)

pub not_other_kind_multiplexed : Demand3 (answers_by other_kind) → ⊥
unfolding schedules
not_other_kind_multiplexed d = omega (arith, ap kind_number ((in_shared (answers_by other_kind) d).1 _ (ap other_kind (answer_at shared symbol_shared 12))).kind)

-- The two bits are exchanged. In a multiplexed reply they are then another row's.
abbrev pub exchanged : Result Answer ℕ → Result Answer ℕ
exchanged = replying (λ (r : Reply). with_bits r r.b1 r.b0)

pub not_exchanged_first : Demand3 (answers_by exchanged) → ⊥
unfolding schedules
not_exchanged_first d =
    false≢true (((in_one_undecoded (answers_by exchanged) d).1 _ (ap exchanged (answer_at one_undecoded one_undecoded_holds 7))).first.0 refl).0

pub not_exchanged_second : Demand3 (answers_by exchanged) → ⊥
unfolding schedules
not_exchanged_second d =
    omega (arith, (((in_one_undecoded (answers_by exchanged) d).1 _ (ap exchanged (answer_at one_undecoded one_undecoded_holds 7))).second refl).1 (refl, (refl, tt)))

pub not_exchanged_symbol : Demand3 (answers_by exchanged) → ⊥
unfolding handsets
not_exchanged_symbol d =
    let m = (in_shared (answers_by exchanged) d).1 _ (ap exchanged (answer_at shared symbol_shared 12)) in
    omega (arith, (symbol_parts 1 1 0 _ _ _ m.is_symbol).1)

-- The first block is always NACK.
abbrev pub nacks_first : Result Answer ℕ → Result Answer ℕ
nacks_first = replying_in 1 (λ (r : Reply). with_bits r 0 r.b1)

pub not_nacks_first : Demand3 (answers_by nacks_first) → ⊥
unfolding schedules
not_nacks_first d =
    omega (arith, ((in_all_heard (answers_by nacks_first) d).1 _ (ap nacks_first (answer_at all_heard all_heard_holds 7))).first.1 (refl, (refl, tt)))

-- The first bit of a bundled reply is that of the last heard grant alone.
abbrev last_seen : Handset → Seen
last_seen h = step_of unseen (own_seen h).position (own_view h (get_or (own_window h) (own_seen h).position 0))

abbrev pub last_alone : Handset → Result Answer ℕ → Result Answer ℕ
last_alone h = replying_in 1 (λ (r : Reply). with_bits r (cond (eqb (own_seen h).u 0) r.b0 (bit (last_seen h).first)) r.b1)

pub not_last_alone : Demand3 (knows_by last_alone) → ⊥
unfolding handsets
not_last_alone d = false≢true (((in_one_undecoded (knows_by last_alone) d).1 _ refl).first.0 refl).0

-- Our handset, answering as if something else had been heard for a scheduled block or for a release.
abbrev taken_for : (ScheduledBlock → Heard) → (Release → Heard) → Heard → Heard
taken_for block release Nothing = Nothing
taken_for block release (Granted g) = Granted g
taken_for block release (Scheduled b) = block b
taken_for block release (Released p) = release p

abbrev hears_by : (ScheduledBlock → Heard) → (Release → Heard) → Handset → Result Answer ℕ → Result Answer ℕ
hears_by block release h =
    let other : Result Answer ℕ = Ok (window_answer (window_settings h) h.next (λ (k : ℕ). view_of (taken_for block release (heard_in (get_or h.past (k - 1) none))))) in
    answering (Ok answer.Taken) (Ok answer.NoWindow) other (λ (r : Reply). other) Err

-- A scheduled block does not join the AND: it counts as decoded.
abbrev pub skips_block : Handset → Result Answer ℕ → Result Answer ℕ
skips_block = hears_by (λ (b : ScheduledBlock). Scheduled (record { blocks = b.blocks; first = true; second = true })) Released

pub not_skips_block : Demand3 (knows_by skips_block) → ⊥
unfolding handsets
not_skips_block d = false≢true (((in_block_last (knows_by skips_block) d).1 _ refl).first.0 refl).1.1.1.0

pub not_skips_block_second : Demand3 (knows_by skips_block) → ⊥
unfolding handsets
not_skips_block_second d = false≢true ((((in_block_last (knows_by skips_block) d).1 _ refl).second refl).0 refl).1.1.1.0

-- A scheduled block is not heard.
abbrev pub deaf_to_blocks : Handset → Result Answer ℕ → Result Answer ℕ
deaf_to_blocks = hears_by (λ (b : ScheduledBlock). Nothing) Released

pub not_deaf_to_blocks : Demand3 (knows_by deaf_to_blocks) → ⊥
unfolding handsets
not_deaf_to_blocks d =
    let r = (in_lone_block (knows_by deaf_to_blocks) d).0.1 (inr (refl, refl)) in
    omega (arith, same_answer {b = (Ok answer.Silent)} refl r.1)

pub not_deaf_to_blocks_multiplexed : Demand3 (knows_by deaf_to_blocks) → ⊥
unfolding handsets
not_deaf_to_blocks_multiplexed d =
    let m = (in_block_at_index (knows_by deaf_to_blocks) d).1 _ refl in
    omega (arith, (symbol_parts 1 1 0 _ _ _ m.is_symbol).2)

-- What comes in a subframe too short for data is not heard: as if it were in no window.
abbrev pub deaf_in_short : Handset → Result Answer ℕ → Result Answer ℕ
deaf_in_short h =
    let other : Result Answer ℕ = Ok (window_answer (window_settings h) h.next (λ (k : ℕ). cond (too_short h.settings (before h.next k)) Unheard (view_ago h.past k))) in
    answering (Ok answer.Taken) (Ok answer.NoWindow) other (λ (r : Reply). other) Err

pub not_deaf_in_short : Demand3 (knows_by deaf_in_short) → ⊥
unfolding handsets
not_deaf_in_short d =
    let m = (in_short_multiplexed (knows_by deaf_in_short) d).1 _ refl in
    omega (arith, (symbol_parts 0 0 1 _ _ _ m.is_symbol).1)

-- A release counts as a grant whose block is not decoded.
abbrev pub fails_release : Handset → Result Answer ℕ → Result Answer ℕ
fails_release = hears_by Scheduled (λ (p : Release). Granted (record { blocks = 1; first = false; second = false; cce = p.cce; dai = p.dai }))

pub not_fails_release : Demand3 (knows_by fails_release) → ⊥
unfolding handsets
not_fails_release d = omega (arith, ((in_release_last (knows_by fails_release) d).1 _ refl).first.1 (refl, (refl, (refl, (refl, tt)))))

pub not_fails_release_multiplexed : Demand3 (knows_by fails_release) → ⊥
unfolding handsets
not_fails_release_multiplexed d =
    let m = (in_release_at_index (knows_by fails_release) d).1 _ refl in
    omega (arith, (symbol_parts 1 0 1 _ _ _ m.is_symbol).2)

-- A release is not heard.
abbrev pub deaf_to_releases : Handset → Result Answer ℕ → Result Answer ℕ
deaf_to_releases = hears_by Scheduled (λ (p : Release). Nothing)

pub not_deaf_to_releases : Demand3 (knows_by deaf_to_releases) → ⊥
unfolding handsets
not_deaf_to_releases d =
    let m = ((in_release_last (knows_by deaf_to_releases) d).1 _ refl).is_read 6 5 refl in
    omega (arith, ((calls_one_to_one (scheduled_two_block_cell 2 0) 2 refl).once m.0 5 0 3 13 m.3 refl).1)

-- The second bit of a bundled reply is set in a cell of one block.
abbrev pub second_set : Handset → Result Answer ℕ → Result Answer ℕ
second_set h = replying_in 1 (λ (r : Reply). with_bits r r.b0 (cond (eqb h.settings.blocks 1) 1 r.b1))

pub not_second_set : Demand3 (knows_by second_set) → ⊥
unfolding handsets
not_second_set d = omega (arith, ((in_all_heard (knows_by second_set) d).1 _ refl).bits.2 refl)

-- The NACK of a first block goes out as 2.
abbrev pub nack_as_two : Result Answer ℕ → Result Answer ℕ
nack_as_two = replying_in 1 (λ (r : Reply). with_bits r (cond (eqb r.b0 0) 2 1) r.b1)

pub not_nack_as_two : Demand3 (answers_by nack_as_two) → ⊥
unfolding schedules
not_nack_as_two d =
    omega (arith, ((in_one_undecoded (answers_by nack_as_two) d).1 _ (ap nack_as_two (answer_at one_undecoded one_undecoded_holds 7))).bits.0)

-- The ACK of a second block goes out as 2.
abbrev pub ack_as_two : Result Answer ℕ → Result Answer ℕ
ack_as_two = replying_in 1 (λ (r : Reply). with_bits r r.b0 (cond (eqb r.b1 1) 2 0))

pub not_ack_as_two : Demand3 (answers_by ack_as_two) → ⊥
unfolding schedules
not_ack_as_two d =
    omega (arith, ((in_one_undecoded (answers_by ack_as_two) d).1 _ (ap ack_as_two (answer_at one_undecoded one_undecoded_holds 7))).bits.1)

-- The right bits go out on another resource than that of the PDCCH with position m and first CCE c; a reply on the scheduled resource
-- goes out as it is.
abbrev moved_to : Settings → (ℕ → ℕ → Result Resource ℕ) → Reply → Result (ℕ × Cce) ℕ → Result Answer ℕ
moved_to s other r (Ok (m, c)) = Ok (reply_on s r.kind (other m c.0) r.b0 r.b1)
moved_to s other r (Err k) = Ok (answer.Sent r)

abbrev moved : (Handset → ℕ → ℕ → Result Resource ℕ) → Handset → Reply → Result Answer ℕ
moved other h r = moved_to h.settings (other h) r (inverse_of h.settings h.next r.resource.0)

-- On that of the first heard PDCCH.
abbrev first_seen : Handset → Seen
first_seen h = seen_from (own_view h) (own_window h) (reverse (order_of (own_window h))) unseen

abbrev pub on_first : Handset → Result Answer ℕ → Result Answer ℕ
on_first h = replying (moved (λ h m c. resource_of h.settings h.next (first_seen h).position (first_seen h).cce.0) h)

pub not_on_first : Demand3 (knows_by on_first) → ⊥
unfolding handsets stations
not_on_first d =
    let m = ((in_all_heard (knows_by on_first) d).1 _ refl).is_read 6 10 refl in
    omega (arith, ((calls_one_to_one (cell 1 0) 7 refl).once m.0 10 0 3 13 m.3 refl).1)

pub not_on_first_multiplexed : Demand3 (knows_by on_first) → ⊥
unfolding handsets stations
not_on_first_multiplexed d =
    let m = (in_shared (knows_by on_first) d).1 _ refl in
    let named : m.named ≡ place.Pdcch 1 (record { 0 = 5 }) = named_at m 1 (symbol_parts 1 1 0 _ _ _ m.is_symbol).0 in
    omega (arith, same_resource _ _ (rw named at m.on_resource))

-- Bundled, on that of the last heard PDCCH's first CCE at position 0. The station reads that pair: both ends agree.
abbrev pub on_first_position : Handset → Result Answer ℕ → Result Answer ℕ
on_first_position h = replying_in 1 (moved (λ h m c. resource_of h.settings h.next 0 c) h)

pub not_on_first_position : Demand3 (knows_by on_first_position) → ⊥
unfolding handsets stations
not_on_first_position d =
    let m = ((in_all_heard (knows_by on_first_position) d).1 _ refl).is_read 6 10 refl in
    let first : m.0 ≡ 0 = ((calls_one_to_one (cell 1 0) 7 refl).once m.0 10 0 10 20 m.3 refl).0 in
    omega (arith, rw first at m.2)

-- Multiplexed, on that of the right position with the first CCE of the first heard PDCCH. The station reads that pair: both ends agree.
abbrev pub on_first_cce : Handset → Result Answer ℕ → Result Answer ℕ
on_first_cce h = replying_in 2 (moved (λ h m c. resource_of h.settings h.next m (first_seen h).cce.0) h)

pub not_on_first_cce : Demand3 (knows_by on_first_cce) → ⊥
unfolding handsets stations
not_on_first_cce d =
    let m = (in_shared (knows_by on_first_cce) d).1 _ refl in
    let named : m.named ≡ place.Pdcch 1 (record { 0 = 5 }) = named_at m 1 (symbol_parts 1 1 0 _ _ _ m.is_symbol).0 in
    omega (arith, same_resource _ _ (rw named at m.on_resource))

-- Bundled, on the scheduled resource wherever a scheduled block was heard, though a PDCCH was heard too.
abbrev pub on_scheduled_too : Handset → Result Answer ℕ → Result Answer ℕ
on_scheduled_too h = replying_in 1 (λ (r : Reply). cond (own_seen h).scheduled (sent_on r h.settings.scheduled) (Ok (answer.Sent r)))

pub not_on_scheduled_too : Demand3 (knows_by on_scheduled_too) → ⊥
unfolding handsets
not_on_scheduled_too d =
    let m = ((in_block_last (knows_by on_scheduled_too) d).1 _ refl).is_read 8 3 refl in
    omega (arith, (resource_range (scheduled_two_block_cell 2 0) 2 refl m.0 3 7 m.3).0)

-- A scheduled block counts as a grant with first CCE 0 and DAI 1, on whose resource it is answered. The station reads that pair: both
-- ends agree.
abbrev pub grants_block : Handset → Result Answer ℕ → Result Answer ℕ
grants_block =
    hears_by (λ (b : ScheduledBlock). Granted (record { blocks = b.blocks; first = b.first; second = b.second; cce = record { 0 = 0 }; dai = 1 })) Released

pub not_grants_block : Demand3 (knows_by grants_block) → ⊥
unfolding handsets
not_grants_block d = omega (arith, (((in_lone_block (knows_by grants_block) d).1 _ refl).alone 7 refl (inr (inl (refl, refl)))).3)

pub not_grants_block_multiplexed : Demand3 (knows_by grants_block) → ⊥
unfolding handsets
not_grants_block_multiplexed d =
    let m = (in_block_at_index (knows_by grants_block) d).1 _ refl in
    let named : m.named ≡ place.Block 1 = named_at m 1 (symbol_parts 1 1 0 _ _ _ m.is_symbol).0 in
    omega (arith, rw named at m.on_resource)

-- Every reply goes out 4000 resources higher, and the station reads it so: the two agree, and with nobody else.
abbrev pub raised : Result Answer ℕ → Result Answer ℕ
raised = replying (λ (r : Reply). sent_on r (r.resource.0 + 4000))

abbrev pub raised_reading : Settings → ℕ → Option ℕ → ℕ → ℕ → ℕ → Result Reading ℕ
raised_reading s n told r b0 b1 = read_of s n told (cond (ltb r 4000) r (r - 4000)) b0 b1

abbrev pub both_raised : Engine
both_raised = engine make_of (changed (λ (h : Handset). raised)) resource_of inverse_of raised_reading

pub not_both_raised : Demand3 both_raised → ⊥
unfolding schedules
not_both_raised d =
    let m = ((in_all_heard both_raised d).1 _ (ap raised (answer_at all_heard all_heard_holds 7))).is_read 6 10 refl in
    omega (arith, (resource_range (cell 1 0) 7 refl m.0 10 4031 m.3).1)

pub not_both_raised_alone : Demand3 both_raised → ⊥
unfolding schedules
not_both_raised_alone d =
    omega (arith, (((in_lone_block both_raised d).1 _ (ap raised (answer_at lone_block lone_block_holds 12))).alone 7 refl (inr (inl (refl, refl)))).3)

pub not_both_raised_multiplexed : Demand3 both_raised → ⊥
unfolding handsets
not_both_raised_multiplexed d =
    let m = (in_shared both_raised d).1 _ (ap raised (answer_at shared symbol_shared 12)) in
    let named : m.named ≡ place.Pdcch 1 (record { 0 = 5 }) = named_at m 1 (symbol_parts 1 1 0 _ _ _ m.is_symbol).0 in
    omega (arith, same_resource _ _ (rw named at m.on_resource))

pub not_both_raised_block : Demand3 both_raised → ⊥
unfolding handsets
not_both_raised_block d =
    let m = (in_block_at_index both_raised d).1 _ (ap raised (answer_at block_at_index block_at_index_holds 12)) in
    let named : m.named ≡ place.Block 1 = named_at m 1 (symbol_parts 1 1 0 _ _ _ m.is_symbol).0 in
    omega (arith, rw named at m.on_resource)
