-- What the statement shuts out, field by field. For each field that an engine can break there is the engine of this repository with
-- one fault, and a proof that the statement does not hold of it. The proof asks the statement for this field, and for those that
-- settle the witnesses it speaks of; without the field it no longer checks. The handsets are in WrongHandsets.antt, those that go wrong
-- where the mode changes in WrongChanges.antt, those with their antenna ports in WrongPorts.antt, both at once in WrongPortChanges.antt,
-- the stations in WrongStations.antt; here is what all use.
--
-- Demand3
--   by_formula       all ends number the dynamic resources from the top of the range down   not_top_down
--   one_to_one        the inverse answers position and first CCE exchanged (into)            not_back_exchanged
--                   a single resource for everyone (once)                                  not_one_for_all
--                   a position beyond the window is taken for its last one (once)          not_last_for_beyond
--   gives_back       bits that 14 refuses are read as the first pair                        not_refused_as_first
--                   told a scheduled position, it refuses every dynamic resource with 13   not_scheduled_only
--                   with special subframes too short it refuses 20 whatever it is told     not_twenty_anywhere
--   made            every cell is refused                                                  not_refuses_to_make
--   run             by its fields, below; over a whole list: the first window only         not_first_only
-- HoldsAfter
--   refused_exactly  every feed is refused                                                  not_refuses_all
--                   8 where there is nothing to send                                       not_refuses_silence
--                   "taken" where a cause is met                                           not_refuses_none
--                   18 is not known: a second scheduled block of a window is taken         not_takes_second_block
--                       and one where no resource is set                                   not_takes_unset_block
--                   18 for a scheduled block after one in another window                   not_refuses_across
--                   20 is not known: a grant in a subframe too short for data is taken     not_takes_short_grant
--                       and a scheduled block                                              not_takes_short_block
--                   20 for a release too                                                   not_refuses_short_release
--   second          a second scheduled block of a window is taken                          not_takes_second_in_window
--                   18 for a scheduled block after one in another window                   not_refuses_across_windows
--   leaves          9 whatever the cause                                                   not_refuses_with_nine
--                   9 for 20                                                               not_nine_for_twenty
--                   10 before 20                                                           not_ten_before_twenty
--                   the handset moves on at a refused feed                                 not_moves_on
--   taken           "silent" for "taken"                                                   not_silent_for_taken
--                   a change of mode counts as a subframe                                  not_counts_change
--   no_window        "silent" for "no window"                                               not_silent_for_no_window
--   changed_exactly  5 is not known                                                         not_accepts_five
--                   5 for 4                                                                not_five_for_four
--                   8 while something heard is remembered                                  not_refuses_open
--                   0 for 24                                                               not_accepts_twenty_four
--                   24 before 5                                                            not_twenty_four_first
--   change_leaves    a refused change is kept                                               not_keeps_refused
--                   one that is refused 24 is kept                                         not_keeps_twenty_four
--   bundled, multiplexed: the mode of a window
--                   every window in the mode that stands                                   not_in_standing
--                   in the mode of k_0                                                     not_in_first_printed
--                   before the start in the mode of a change before the first feed         not_makes_anew
--                   a change rewrites the modes that are remembered                        not_rewrites
--                   a change is ignored                                                    not_ignores
-- SentExactly, bundled and multiplexed
--   sent when due   always silent                                                  not_always_silent, not_always_silent_multiplexed
--                   silent as if missed before any grant                                   not_as_if_missed
--                   silent where the reply goes on the scheduled resource  not_silent_on_scheduled, not_silent_on_scheduled_multiplexed
--                   deaf to scheduled blocks                                               not_deaf_to_blocks
--                   a scheduled block counts in U, and shows a miss                        not_counts_block
--   due when sent   V is held against the value for U + 1                                  not_counts_one_more
--                   a scheduled block counts in U, and hides a miss                        not_counts_block_missed
--                   a scheduled block is answered where a miss is shown                    not_answers_missed
--                   a reply in every window                                                not_never_silent_multiplexed
--   the reply       by its fields, below
--   else silent     "no window" for "silent"                         not_no_window_for_silent, not_no_window_for_silent_multiplexed
-- BundledReply
--   kind            a bundled reply goes out as a multiplexed one                          not_other_kind
--   is_read          on the resource of the first heard grant                               not_on_first
--                   on the scheduled resource where a block was heard too                  not_on_scheduled_too
--                   deaf to releases: on the resource of the grant before                  not_deaf_to_releases
--                   both ends raised by 4000 resources                                     not_both_raised
--                   on the last heard first CCE's resource at position 0 (the k of m)      not_on_first_position
--                   the station refuses every bit pattern with 14 (read)                   not_refuses_bits
--   alone           a scheduled block is answered as a grant with first CCE 0              not_grants_block
--                   both ends raised by 4000 resources                                     not_both_raised_alone
--                   the station takes the block for position 0 (the k of m)                not_told_as_first
--                   it does not listen to what it is told (read)                           not_untold
--   first           ACK though one is not decoded: the bits exchanged                      not_exchanged_first
--                       the first bit is that of the last heard grant alone                not_last_alone
--                       a scheduled block does not join the AND                            not_skips_block
--                   NACK though all are decoded: always                                    not_nacks_first
--                       a release counts as not decoded                                    not_fails_release
--   second          ACK though one is not decoded: a block does not join the AND           not_skips_block_second
--                   NACK though all are decoded: the bits exchanged                        not_exchanged_second
--   bits            the second bit set in a cell of one block                              not_second_set
--                   the first block's NACK goes out as 2, the second's ACK                 not_nack_as_two, not_ack_as_two
--   ports           with two ports the second is two above the first                       not_two_above
--                       both are on one resource                                           not_on_first_twice
--                       the second is silent                                               not_first_alone
--                   with one port a second resource is named                               not_always_two
-- MultiplexedReply
--   kind            a multiplexed reply goes out as a bundled one                          not_other_kind_multiplexed
--   is_symbol        the bits exchanged: another row's symbol                               not_exchanged_symbol
--                   deaf to scheduled blocks                                               not_deaf_to_blocks_multiplexed
--                   a release counts as not decoded                                        not_fails_release_multiplexed
--                   deaf in special subframes too short for data                           not_deaf_in_short
--   is_heard         the right position with the first CCE of another heard grant           not_on_first_cce
--                   a scheduled block is answered as a grant with first CCE 0              not_grants_block_multiplexed
--   on_resource      on the resource of the first heard grant                               not_on_first_multiplexed
--                   both ends raised by 4000 resources                           not_both_raised_multiplexed, not_both_raised_block
--   is_read          the station refuses every bit pattern with 14                          not_refuses_bits_multiplexed
--                   it does not listen to what it is told                                  not_untold_multiplexed
--                   it takes the scheduled block for position 0                            not_told_as_first_multiplexed
--   exactly         the station marks no position delivered                                not_delivers_nothing
--                   it marks those that are A in one of the symbol's rows                  not_delivers_one_row
--   no_other         it marks a position beyond the window                                  not_delivers_beyond
--   one_port         a second resource is named                                             not_always_two_multiplexed
--
-- The other fields no engine can break: `exactly_one` speaks of the table of windows alone; `index`, `named` and `delivered` are
-- witnesses, which `is_symbol`, `is_heard` and `is_read` settle; `onto` of the one-to-one map follows from `into` and `back`, which give
-- M × N_4 pairs as many different resources of the range. That the index is a position of the window needs no field: it follows from
-- `is_symbol`, since the tables give no other (`index_inside` in MultiplexedWindow.antt). That m is one, `m < length ks` in `is_read` and
-- `alone`, follows from the part beside it, `get_or ks m 0 ≡ k`: beyond the list get_or gives 0, and no k of a window is 0. It stays, said
-- outright. `refused_exactly` is broken by no engine alone: of accepted settings it follows from the other fields of HoldsAfter, for a
-- feed whose cause is met is refused by `leaves`, and any other is answered by `taken`, `no_window`, `bundled` or `multiplexed`. It
-- stays, since it is 01's sentence.
-- Assumes nothing.
use Rattle.std.proofs.Common.{Option, Result, Ok, Err}
use Rattle.resource.specs.declared.Cce.{Cce}
use Prim.Native.Nat.{ℕ, ◌+◌, ◌%◌, ◌<◌}
use mathlib.Core.Bool.{Bool, true, false, cond, false≢true}
use mathlib.Core.List.{List}
use mathlib.Core.Logic.{◌⊎◌, inl, ⊎_elim}
use mathlib.Core.Path.{◌≡◌, refl, ap, sym, ◌∙◌}
use native.Mathlib.Omega.{arith}
use lib.Dec.{eqb}
use lib.ListN.{length, get_or}
use Rattle.std.proofs.lemmas.Option.{same_Some}
use Rattle.symbols.specs.Selection.{symbol}
use Rattle.frame.specs.declared.Settings.{Settings}
use Rattle.resource.specs.declared.Resource.{Resource}
use Rattle.resource.specs.Calls.{resource_of, inverse_of}
use Rattle.symbols.specs.declared.State.{State}
use Rattle.symbols.specs.declared.Symbol.{Symbol}
use Rattle.heard.specs.declared.Heard.{Heard}
use Rattle.heard.specs.declared.Heard.TheVariants.{Nothing}
use Rattle.reply.specs.declared.Answer.{Answer}
use Rattle.reply.specs.declared.Answer.TheVariants as answer
use Rattle.reply.specs.declared.Reply.{Reply}
use Rattle.reply.specs.Kinds.{kind_number}
use Rattle.handset.specs.Change.{Changed}
use Rattle.handset.specs.Feed.{Fed}
use Rattle.handset.specs.declared.Handset.{Handset}
use Rattle.handset.specs.Make.{Made}
use Rattle.handset.specs.Change.{change_of}
use Rattle.handset.specs.Feed.{feed_of}
use Rattle.handset.specs.Make.{make_of}
use Rattle.station.specs.declared.Reading.{Reading}
use Rattle.station.specs.Readings.{read_of}
use Rattle.agreement.specs.Demand3.{Engine, fed_at, reading_in, HoldsAfter, Demand3}
use Rattle.agreement.specs.Run.{feed, item_at, heard_in_run, subframe_at, sent_ago, heard_ago, window_at}
use Rattle.agreement.specs.Window.{in_time, Bundled, ReadAs, MultiplexedReply, Multiplexed}
use Rattle.engines.proofs.Computing.{schedules}
use Rattle.engines.proofs.Finite.{sending}
use Rattle.agreement.proofs.SameModes.{AllFeeds, made_mode, made_settings}
use Rattle.engines.proofs.Worked.{Run, Worked, fed_nothing, all_heard, all_heard_holds, missed, first_missed, one_undecoded, one_undecoded_holds, two_windows, two_windows_holds, shared, symbol_shared, lone_block, lone_block_holds, block_last, block_last_holds, missed_with_block, missed_with_block_holds, release_last, release_last_holds, block_at_index, block_at_index_holds, release_at_index, release_at_index_holds, short_multiplexed, short_multiplexed_holds}

-- The engine of this repository, with another making, feeding, resource call, inverse or reading; with another change of mode.
abbrev pub engine : (Settings → Made) → (Handset → Heard → Fed) → (Settings → ℕ → ℕ → ℕ → Result Resource ℕ) → (Settings → ℕ → ℕ → Result (ℕ × Cce) ℕ)
    → (Settings → ℕ → Option ℕ → ℕ → ℕ → ℕ → Result Reading ℕ) → Engine
engine make step onto back read = record { make = make; feed = step; change = change_of; resource = onto; inverse = back; read = read }

abbrev pub made_by : (Settings → Made) → Engine
made_by make = engine make feed_of resource_of inverse_of read_of

abbrev pub fed_by : (Handset → Heard → Fed) → Engine
fed_by step = engine make_of step resource_of inverse_of read_of

abbrev pub changed_by : (Handset → ℕ → Changed) → Engine
changed_by switch = record { make = make_of; feed = feed_of; change = switch; resource = resource_of; inverse = inverse_of; read = read_of }

abbrev pub mapped_by : (Settings → ℕ → ℕ → ℕ → Result Resource ℕ) → Engine
mapped_by onto = engine make_of feed_of onto inverse_of read_of

abbrev pub inverted_by : (Settings → ℕ → ℕ → Result (ℕ × Cce) ℕ) → Engine
inverted_by back = engine make_of feed_of resource_of back read_of

abbrev pub read_by : (Settings → ℕ → Option ℕ → ℕ → ℕ → ℕ → Result Reading ℕ) → Engine
read_by read = engine make_of feed_of resource_of inverse_of read

-- Our handset with its answers changed, by what it knows before the feed and by what it would answer; it remembers as ours does.
abbrev pub changed : (Handset → Result Answer ℕ → Result Answer ℕ) → Handset → Heard → Fed
changed change h x = record { answer = change h (feed_of h x).answer; handset = (feed_of h x).handset }

abbrev pub knows_by : (Handset → Result Answer ℕ → Result Answer ℕ) → Engine
knows_by change = fed_by (changed change)

abbrev pub answers_by : (Result Answer ℕ → Result Answer ℕ) → Engine
answers_by change = knows_by (λ (h : Handset). change)

-- By cases of an answer: "taken", "no window", "silent", a reply, a refusal.
abbrev pub answering : {A : Type 0} → A → A → A → (Reply → A) → (ℕ → A) → Result Answer ℕ → A
answering taken no_window silent sent refused (Ok answer.Taken) = taken
answering taken no_window silent sent refused (Ok answer.NoWindow) = no_window
answering taken no_window silent sent refused (Ok answer.Silent) = silent
answering taken no_window silent sent refused (Ok (answer.Sent r)) = sent r
answering taken no_window silent sent refused (Err k) = refused k

-- a reply as it is
abbrev pub as_sent : Reply → Result Answer ℕ
as_sent r = Ok (answer.Sent r)

-- Replies alone are changed; those of one kind alone are.
abbrev pub replying : (Reply → Result Answer ℕ) → Result Answer ℕ → Result Answer ℕ
replying sent = answering (Ok answer.Taken) (Ok answer.NoWindow) (Ok answer.Silent) sent Err

abbrev pub replying_in : ℕ → (Reply → Result Answer ℕ) → Result Answer ℕ → Result Answer ℕ
replying_in kind sent = replying (λ (r : Reply). cond (eqb (kind_number r.kind) kind) (sent r) (as_sent r))

-- a reply on another resource, and one with other bits
abbrev pub sent_on : Reply → ℕ → Result Answer ℕ
sent_on r number = Ok (answer.Sent (record { kind = r.kind; resource = record { 0 = number }; b0 = r.b0; b1 = r.b1; second = r.second }))

abbrev pub with_bits : Reply → ℕ → ℕ → Result Answer ℕ
with_bits r b0 b1 = Ok (answer.Sent (record { kind = r.kind; resource = r.resource; b0 = b0; b1 = b1; second = r.second }))

-- An answer by a number: two answers with different numbers are not the same.
abbrev answer_number : Result Answer ℕ → ℕ
answer_number = answering 0 1 2 (λ (r : Reply). 3) (λ (k : ℕ). 4 + k)

pub same_answer : {a b c : Result Answer ℕ} → a ≡ b → a ≡ c → answer_number b ≡ answer_number c
same_answer e f = ap answer_number (sym e ∙ f)

-- One resource, and a symbol's parts.
pub same_resource : (a b : Resource) → ◌≡◌ {A = Result Resource ℕ} (Ok a) (Ok b) → a.0 ≡ b.0
same_resource a b e = ap (λ (r : Resource). r.0) (let f : a ≡ b = cc in f)

pub symbol_parts : (i b0 b1 i' b0' b1' : ℕ) → ◌≡◌ {A = Option Symbol} (symbol i b0 b1) (symbol i' b0' b1') → (i ≡ i') × (b0 ≡ b0') × (b1 ≡ b1')
symbol_parts i b0 b1 i' b0' b1' e =
    let same = same_Some _ _ e in
    (ap (λ y. y.index) same, ap (λ y. y.b0) same, ap (λ y. y.b1) same)

-- What a multiplexed reply is read as, where its index is known.
pub named_at : {set : Settings} {resource : ℕ → ℕ → Result Resource ℕ} {read : ℕ → ℕ → ℕ → Result Reading ℕ} {ks : List ℕ} {heard : ℕ → Heard} {states : List State} {r : Reply}
    → (m : MultiplexedReply set resource read ks heard states r) (i : ℕ) → i ≡ m.index → ReadAs i (heard (get_or ks i 0)) m.named
named_at m i e = rw (← e) at m.is_heard

-- Of a window with a PDCCH heard and one lost before it no reply is due.
pub one_lost : {b : Bool}
    → ((true ≡ true) × ((◌≡◌ {A = ℕ} 1 0) ⊎ (◌≡◌ {A = ℕ} 1 4) ⊎ (◌≡◌ {A = ℕ} 1 8))) ⊎ ((true ≡ false) × (b ≡ true)) → ⊥
one_lost due = ⊎_elim (λ p. ⊎_elim (λ e. omega arith) (⊎_elim (λ e. omega arith) (λ e. omega arith)) p.1) (λ p. false≢true (sym p.0)) due

-- In a worked run the statement holds.
pub holds_in : (e : Engine) → Demand3 e → (r : Run) → Worked r → HoldsAfter e r.set (sending r.sends) r.items
holds_in e d r w = d.run r.set w.accepted (sending r.sends) w.schedule r.items w.brings

-- What it says of the reply at subframe s, which item i feeds with nothing, where these are the window's settings.
abbrev pub BundledAt : Engine → Run → Settings → ℕ → ℕ → Type 0
BundledAt e r own i s =
    Bundled own (e.resource own (s % 10)) (reading_in e own (sending r.sends) s) (window_at r.set s)
    (in_time (sent_ago (sending r.sends) s) (heard_ago (heard_in_run r.set r.items) s) (window_at r.set s)) (fed_at e r.set r.items i Nothing).answer

abbrev pub MultiplexedAt : Engine → Run → Settings → ℕ → ℕ → Type 0
MultiplexedAt e r own i s =
    Multiplexed own (e.resource own (s % 10)) (reading_in e own (sending r.sends) s) (window_at r.set s) (heard_ago (heard_in_run r.set r.items) s)
    (in_time (sent_ago (sending r.sends) s) (heard_ago (heard_in_run r.set r.items) s) (window_at r.set s)) (fed_at e r.set r.items i Nothing).answer

-- Without changes of mode the settings are the run's own, and item s feeds subframe s.
abbrev pub BundledIn : Engine → Run → ℕ → Type 0
BundledIn e r s = BundledAt e r r.set s s

abbrev pub MultiplexedIn : Engine → Run → ℕ → Type 0
MultiplexedIn e r s = MultiplexedAt e r r.set s s

module _ (e : Engine) (d : Demand3 e) where
  pub bundled_in : (r : Run) → Worked r → (s : ℕ) → s < length r.items → item_at r.items s ≡ feed Nothing → subframe_at r.set r.items s ≡ s
      → AllFeeds r.items → 0 < length (window_at r.set s) → r.set.mode ≡ 0 → BundledIn e r s
  bundled_in r w s inside brings counted feeds some mode =
      rw (made_settings r.set r.items feeds s) at
      ((holds_in e d r w).bundled s s Nothing (fed_nothing r s inside brings counted) some (inl (made_mode r.set r.items feeds s ∙ mode)))

  multiplexed_in : (r : Run) → Worked r → (s : ℕ) → s < length r.items → item_at r.items s ≡ feed Nothing → subframe_at r.set r.items s ≡ s
      → AllFeeds r.items → 1 < length (window_at r.set s) → r.set.mode ≡ 1 → MultiplexedIn e r s
  multiplexed_in r w s inside brings counted feeds more mode =
      rw (made_settings r.set r.items feeds s) at
      ((holds_in e d r w).multiplexed s s Nothing (fed_nothing r s inside brings counted) (omega arith) (made_mode r.set r.items feeds s ∙ mode)
      (λ one. omega arith))

  -- Two grants are heard, in 0 and 1, and answered at 7.
  pub in_all_heard : BundledIn e all_heard 7
  unfolding schedules
  in_all_heard = bundled_in all_heard all_heard_holds 7 (omega arith) refl refl tt (omega arith) refl

  -- The first of them is lost.
  pub in_missed : BundledIn e missed 7
  unfolding schedules
  in_missed = bundled_in missed first_missed 7 (omega arith) refl refl tt (omega arith) refl

  -- Of their four blocks the first one of the earlier grant is not decoded.
  pub in_one_undecoded : BundledIn e one_undecoded 7
  unfolding schedules
  in_one_undecoded = bundled_in one_undecoded one_undecoded_holds 7 (omega arith) refl refl tt (omega arith) refl

  -- Two grants, in two windows, are heard; the second is answered at 7.
  pub in_two_windows : BundledIn e two_windows 7
  unfolding schedules
  in_two_windows = bundled_in two_windows two_windows_holds 7 (omega arith) refl refl tt (omega arith) refl

  -- Multiplexed: the state A,A,D,D is answered at 12; nothing was heard before 7.
  pub in_shared : MultiplexedIn e shared 12
  unfolding schedules
  in_shared = multiplexed_in shared symbol_shared 12 (omega arith) refl refl tt (omega arith) refl

  pub in_shared_before : MultiplexedIn e shared 7
  unfolding schedules
  in_shared_before = multiplexed_in shared symbol_shared 7 (omega arith) refl refl tt (omega arith) refl

  -- Answered at 12: a scheduled block, at position 1, is the only thing heard.
  pub in_lone_block : BundledIn e lone_block 12
  unfolding schedules
  in_lone_block = bundled_in lone_block lone_block_holds 12 (omega arith) refl refl tt (omega arith) refl

  -- A grant is heard and decoded, a scheduled block after it is not decoded.
  pub in_block_last : BundledIn e block_last 12
  unfolding schedules
  in_block_last = bundled_in block_last block_last_holds 12 (omega arith) refl refl tt (omega arith) refl

  -- A block and a grant are heard, a grant before them is lost.
  pub in_missed_with_block : BundledIn e missed_with_block 12
  unfolding schedules
  in_missed_with_block = bundled_in missed_with_block missed_with_block_holds 12 (omega arith) refl refl tt (omega arith) refl

  -- A grant and then a release are heard.
  pub in_release_last : BundledIn e release_last 12
  unfolding schedules
  in_release_last = bundled_in release_last release_last_holds 12 (omega arith) refl refl tt (omega arith) refl

  -- Multiplexed: a scheduled block stands at the symbol's index; a release does.
  pub in_block_at_index : MultiplexedIn e block_at_index 12
  unfolding schedules
  in_block_at_index = multiplexed_in block_at_index block_at_index_holds 12 (omega arith) refl refl tt (omega arith) refl

  pub in_release_at_index : MultiplexedIn e release_at_index 12
  unfolding schedules
  in_release_at_index = multiplexed_in release_at_index release_at_index_holds 12 (omega arith) refl refl tt (omega arith) refl

  -- A release is heard in a special subframe too short for data.
  pub in_short_multiplexed : MultiplexedIn e short_multiplexed 12
  unfolding schedules
  in_short_multiplexed = multiplexed_in short_multiplexed short_multiplexed_holds 12 (omega arith) refl refl tt (omega arith) refl
