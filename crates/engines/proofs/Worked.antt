-- Runs that meet the hypotheses of demand 3, each with every answer and with the station's reading of every reply: the theorem is
-- about something. Those with changes of mode are in ChangedRuns.antt, those of two antenna ports in PortRuns.antt. N_RB 50, N1 10; the
-- scheduled resource, where one is set, is 7.
-- The prefix is normal and the special configuration 7, which allows data, but in the cells that are named short.
-- Assumes nothing.
use Rattle.std.proofs.Common.{Option, Some, None, Result, Ok, Err}
use Rattle.resource.specs.declared.Resource.{Resource}
use Prim.Native.Nat.{ℕ, suc, zero, ◌+◌, ◌<◌}
use mathlib.Core.Bool.{Bool, true, false}
use mathlib.Core.List.{List, [], ◌∷◌}
use mathlib.Core.Path.{◌≡◌, refl, ap, ◌∙◌, fun_ext}
use native.Mathlib.Omega.{arith}
use lib.Dec.{T}
use lib.ListN.{length, get_or}
use Rattle.frame.specs.declared.Settings.{Settings}
use Rattle.frame.specs.Settings.{settings_refusal, no_resource}
use Rattle.confirmation.specs.declared.Send.{Send}
use Rattle.confirmation.specs.declared.Send.TheVariants as send
use Rattle.heard.specs.declared.Heard.{Heard}
use Rattle.heard.specs.declared.Heard.TheVariants.{Nothing, Granted, Scheduled, Released}
use Rattle.heard.specs.Heard.{heard_refusal, second_refusal, cause_of}
use Rattle.reply.specs.declared.Answer.{Answer}
use Rattle.reply.specs.declared.ReplyKind.{ReplyKind}
use Rattle.reply.specs.Kinds.{kind_bundled, kind_multiplexed}
use Rattle.std.proofs.Common.{cond, eqb}
use Rattle.reply.specs.declared.Answer.TheVariants as answer
use Rattle.handset.specs.declared.Handset.{Handset}
use Rattle.handset.specs.Change.{change_of}
use Rattle.handset.specs.Feed.{feed_of}
use Rattle.handset.specs.Make.{make_of}
use Rattle.station.specs.declared.Place.TheVariants as place
use Rattle.station.specs.declared.Reading.{Reading}
use Rattle.station.specs.declared.Reading.TheVariants as reading
use Rattle.agreement.specs.Demand3.{feedback_engine, handset_at, reading_in, IsSubframe}
use Rattle.agreement.specs.Run.{Item, feed, change, item_at, subframe_at, settings_in, Schedule, BringsSent}
use Rattle.engines.proofs.Computing.{handsets, stations}
use Rattle.engines.proofs.Finite.{sending, schedule_test, feeds_test, scheduled, brought}
use Rattle.agreement.proofs.SameModes.{AllFeeds, made_settings}

-- a cell of so many ports and blocks, with this scheduled resource, prefix and special configuration
abbrev cell_of : ℕ → ℕ → ℕ → ℕ → ℕ → ℕ → ℕ → Settings
cell_of ports blocks scheduled prefix special config mode =
    record { config = config; nrb = 50; n1 = 10; mode = mode; blocks = blocks; scheduled = scheduled; prefix = prefix; special = special; ports = ports }

abbrev cell_with : ℕ → ℕ → ℕ → ℕ → Settings
cell_with blocks scheduled = cell_of 1 blocks scheduled 0 7

-- a cell of one block and one of two, with no scheduled resource
abbrev pub cell : ℕ → ℕ → Settings
cell = cell_with 1 no_resource

abbrev pub two_block_cell : ℕ → ℕ → Settings
two_block_cell = cell_with 2 no_resource

-- the same with the scheduled resource 7
abbrev pub scheduled_cell : ℕ → ℕ → Settings
scheduled_cell = cell_with 1 7

abbrev pub scheduled_two_block_cell : ℕ → ℕ → Settings
scheduled_two_block_cell = cell_with 2 7

-- the same whose special subframes are too short for data: special configuration 0 with the normal prefix, 4 with the extended one
abbrev pub short_cell : ℕ → ℕ → Settings
short_cell = cell_of 1 1 7 0 0

abbrev pub short_extended_cell : ℕ → ℕ → Settings
short_extended_cell = cell_of 1 1 7 1 4

-- one of two antenna ports, which has mode 0 and no scheduled resource, of so many blocks
abbrev pub two_port_cell : ℕ → ℕ → Settings
two_port_cell blocks config = cell_of 2 blocks no_resource 0 7 config 0

-- n times x, then the rest of a list
abbrev pub times : {A : Type 0} → ℕ → A → List A → List A
times zero x l = l
times (suc n) x l = x ∷ times n x l

-- what the station sends: nothing; a grant of b blocks with first CCE c and DAI d; b blocks on the schedule, with no PDCCH; a release
-- with first CCE c and DAI d
abbrev pub nothing : Send
nothing = send.Nothing

abbrev pub grant : ℕ → ℕ → ℕ → Send
grant b c d = send.Granted (record { blocks = b; cce = record { 0 = c }; dai = d })

abbrev pub block : ℕ → Send
block b = send.Scheduled (record { blocks = b })

abbrev pub release : ℕ → ℕ → Send
release c d = send.Released (record { cce = record { 0 = c }; dai = d })

-- a feed that brings nothing, one that brings a grant of one block, one of two, a sole scheduled block, a release
abbrev pub hears_nothing : Item
hears_nothing = feed Nothing

abbrev pub heard_grant : ℕ → ℕ → ℕ → Bool → Bool → Heard
heard_grant b c d first second = Granted (record { blocks = b; first = first; second = second; cce = record { 0 = c }; dai = d })

abbrev pub hears : ℕ → ℕ → Bool → Item
hears c d decoded = feed (heard_grant 1 c d decoded false)

abbrev pub hears_two : ℕ → ℕ → Bool → Bool → Item
hears_two c d first second = feed (heard_grant 2 c d first second)

abbrev pub heard_block : Bool → Heard
heard_block decoded = Scheduled (record { blocks = 1; first = decoded; second = false })

abbrev pub hears_block : Bool → Item
hears_block decoded = feed (heard_block decoded)

abbrev pub hears_release : ℕ → ℕ → Item
hears_release c d = feed (Released (record { cce = record { 0 = c }; dai = d }))

-- a kind by its number
abbrev pub kind_of : ℕ → ReplyKind
kind_of kind = cond (eqb kind 1) kind_bundled kind_multiplexed

-- a reply, and its reading: kind, resource and bits; as a PDCCH its position and first CCE, as a scheduled block its position, with
-- the bits or the set of delivered positions
abbrev reply_with : ℕ → ℕ → ℕ → ℕ → Option Resource → Result Answer ℕ
reply_with kind r b0 b1 second = Ok (answer.Sent (record { kind = kind_of kind; resource = record { 0 = r }; b0 = b0; b1 = b1; second = second }))

abbrev pub reply : ℕ → ℕ → ℕ → ℕ → Result Answer ℕ
reply kind r b0 b1 = reply_with kind r b0 b1 None

-- a bundled reply on two antenna ports: both resources
abbrev pub reply_on_both : ℕ → ℕ → ℕ → ℕ → Result Answer ℕ
reply_on_both r second b0 b1 = reply_with 1 r b0 b1 (Some (record { 0 = second }))

abbrev pub bundled_read : ℕ → ℕ → ℕ → ℕ → Result Reading ℕ
bundled_read m c b0 b1 = Ok (reading.Bundled (place.Pdcch m (record { 0 = c })) b0 b1)

abbrev pub multiplexed_read : ℕ → ℕ → ℕ → Result Reading ℕ
multiplexed_read m c delivered = Ok (reading.Multiplexed (place.Pdcch m (record { 0 = c })) delivered)

abbrev pub block_read : ℕ → ℕ → ℕ → Result Reading ℕ
block_read m b0 b1 = Ok (reading.Bundled (place.Block m) b0 b1)

abbrev pub multiplexed_block_read : ℕ → ℕ → Result Reading ℕ
multiplexed_block_read m delivered = Ok (reading.Multiplexed (place.Block m) delivered)

-- settings, what the station sends, the feeds, their answers, and the readings of the replies among them
pub record Run : Type 0 where
  pub set : Settings
  pub sends : List Send
  pub items : List Item
  pub answers : List (Result Answer ℕ)
  pub readings : List (Result Reading ℕ)

-- the answers to the feeds of a list, and to its changes of mode
abbrev pub answers_of : Handset → List Item → List (Result Answer ℕ)
answers_of h [] = []
answers_of h (feed x ∷ items) = (feed_of h x).answer ∷ answers_of (feed_of h x).handset items
answers_of h (change m ∷ items) = answers_of (change_of h m).handset items

abbrev pub changes_of : Handset → List Item → List ℕ
changes_of h [] = []
changes_of h (feed x ∷ items) = changes_of (feed_of h x).handset items
changes_of h (change m ∷ items) = (change_of h m).refusal ∷ changes_of (change_of h m).handset items

-- the readings of the replies, each in its window's mode, with n = s mod 10, its own resource and bits, and told the position of the
-- scheduled block that was sent in its window; a refused feed is no subframe
abbrev pub readings_from : (ℕ → Settings) → (ℕ → Send) → ℕ → List (Result Answer ℕ) → List (Result Reading ℕ)
readings_from set sent s [] = []
readings_from set sent s ((Ok answer.Taken) ∷ l) = readings_from set sent (s + 1) l
readings_from set sent s ((Ok answer.NoWindow) ∷ l) = readings_from set sent (s + 1) l
readings_from set sent s ((Ok answer.Silent) ∷ l) = readings_from set sent (s + 1) l
readings_from set sent s (Ok (answer.Sent r) ∷ l) = reading_in feedback_engine (set s) sent s r.resource.0 r.b0 r.b1 ∷ readings_from set sent (s + 1) l
readings_from set sent s (Err k ∷ l) = readings_from set sent s l

-- the answers of our handset in a run, and the readings of our station
abbrev pub our_answers : Run → List (Result Answer ℕ)
our_answers r = answers_of (make_of r.set).handset r.items

abbrev pub our_readings : Run → List (Result Reading ℕ)
our_readings r = readings_from (settings_in r.set r.items) (sending r.sends) 0 r.answers

pub record Worked (r : Run) : Type 0 where
  pub accepted : settings_refusal r.set ≡ 0
  pub schedule : Schedule r.set (sending r.sends)
  pub brings : BringsSent r.set (sending r.sends) r.items
  pub answered : our_answers r ≡ r.answers
  pub read : our_readings r ≡ r.readings

pub worked_changed : (r : Run) → settings_refusal r.set ≡ 0 → T (schedule_test r.set r.sends) → T (feeds_test r.set r.sends r.items)
    → our_answers r ≡ r.answers → our_readings r ≡ r.readings → Worked r
worked_changed r good s b e f =
    record {
      accepted = good;
      schedule = scheduled r.set r.sends s;
      brings = brought r.set r.sends r.items b;
      answered = e;
      read = f;
    }

-- Without changes of mode every reply is read in the run's own settings.
pub worked : (r : Run) → settings_refusal r.set ≡ 0 → T (schedule_test r.set r.sends) → T (feeds_test r.set r.sends r.items)
    → our_answers r ≡ r.answers → AllFeeds r.items → readings_from (λ (s : ℕ). r.set) (sending r.sends) 0 r.answers ≡ r.readings → Worked r
worked r good s b e feeds f =
    worked_changed r good s b e
    (ap (λ (set : ℕ → Settings). readings_from set (sending r.sends) 0 r.answers) (fun_ext (made_settings r.set r.items feeds)) ∙ f)

-- In a worked run: what our handset answers to item i, and what our station reads from the j-th reply.
pub answer_at : (r : Run) → Worked r → (i : ℕ) → get_or (our_answers r) i (Ok answer.Silent) ≡ get_or r.answers i (Ok answer.Silent)
answer_at r w i = ap (λ (l : List (Result Answer ℕ)). get_or l i (Ok answer.Silent)) w.answered

pub reading_at_holds : (r : Run) → Worked r → (j : ℕ) → get_or (our_readings r) j (Err 0) ≡ get_or r.readings j (Err 0)
reading_at_holds r w j = ap (λ (l : List (Result Reading ℕ)). get_or l j (Err 0)) w.read

-- Item i is the run's subframe s, fed with nothing; without changes of mode and refusals before it, item s is.
pub fed_nothing_at : (r : Run) (i s : ℕ) → i < length r.items → item_at r.items i ≡ feed Nothing → subframe_at r.set r.items i ≡ s
    → IsSubframe r.set r.items i s Nothing
unfolding heard_refusal second_refusal cause_of
fed_nothing_at r i s inside brings counted = record { is_feed = record { inside = inside; brings = brings }; accepted = refl; counted = counted }

pub fed_nothing : (r : Run) (s : ℕ) → s < length r.items → item_at r.items s ≡ feed Nothing → subframe_at r.set r.items s ≡ s
    → IsSubframe r.set r.items s s Nothing
fed_nothing r s inside brings counted = fed_nothing_at r s s inside brings counted

-- Bundled.

-- Configuration 1, mode 0: the window of subframe 7 is 0 and 1, both heard.
abbrev pub all_heard : Run
all_heard =
    record {
      set = cell 1 0;
      sends = grant 1 3 1 ∷ grant 1 10 2 ∷ [];
      items = hears 3 1 true ∷ hears 10 2 true ∷ times 6 hears_nothing [];
      answers = times 2 (Ok answer.Taken) (times 2 (Ok answer.Silent) (times 3 (Ok answer.Taken) (reply 1 31 1 0 ∷ [])));
      readings = bundled_read 1 10 1 0 ∷ [];
    }

pub all_heard_holds : Worked all_heard
unfolding handsets stations
all_heard_holds = worked all_heard refl tt tt refl tt refl

-- The same with the first grant lost: a miss is shown.
abbrev pub missed : Run
missed =
    record {
      set = cell 1 0;
      sends = grant 1 3 1 ∷ grant 1 10 2 ∷ [];
      items = hears_nothing ∷ hears 10 2 true ∷ times 6 hears_nothing [];
      answers = times 2 (Ok answer.Taken) (times 2 (Ok answer.Silent) (times 3 (Ok answer.Taken) ((Ok answer.Silent) ∷ [])));
      readings = [];
    }

pub first_missed : Worked missed
unfolding handsets stations
first_missed = worked missed refl tt tt refl tt refl

-- The same with feeds in between that are refused, and their subframes fed again: in subframe 1 grants of 2 blocks (10), of first
-- CCE 61 (11) and of DAI 5 (12), in the uplink subframe 2 a grant (9).
abbrev pub refused_feeds : Run
refused_feeds =
    record {
      set = cell 1 0;
      sends = grant 1 3 1 ∷ grant 1 10 2 ∷ [];
      items = hears 3 1 true ∷ hears_two 10 2 true true ∷ hears 61 2 true ∷ hears 10 5 true ∷ hears 10 2 false ∷ hears 10 3 true ∷ times 6 hears_nothing [];
      answers =
          (Ok answer.Taken) ∷ Err 10 ∷ Err 11 ∷ Err 12 ∷ (Ok answer.Taken) ∷ Err 9
          ∷ times 2 (Ok answer.Silent) (times 3 (Ok answer.Taken) (reply 1 31 0 0 ∷ []));
      readings = bundled_read 1 10 0 0 ∷ [];
    }

pub refused_feeds_holds : Worked refused_feeds
unfolding handsets stations
refused_feeds_holds = worked refused_feeds refl tt tt refl tt refl

-- Item i leaves the handset as it was.
abbrev pub Left : Run → ℕ → Type 0
Left r i = handset_at feedback_engine r.set r.items (suc i) ≡ handset_at feedback_engine r.set r.items i

pub refused_left : Left refused_feeds 1 × Left refused_feeds 2 × Left refused_feeds 3 × Left refused_feeds 5
unfolding handsets
refused_left = (refl, refl, refl, refl)

-- Configuration 5: of the window of subframe 12, which starts at -1, the grants in 0, 1, 3 and 4 are lost and the fifth, in 5, is
-- heard.
abbrev pub four_lost : Run
four_lost =
    record {
      set = cell 5 0;
      sends = grant 1 0 1 ∷ grant 1 0 2 ∷ nothing ∷ grant 1 0 3 ∷ grant 1 0 4 ∷ grant 1 0 1 ∷ [];
      items = times 5 hears_nothing (hears 0 1 true ∷ times 7 hears_nothing []);
      answers = times 2 (Ok answer.Taken) ((Ok answer.Silent) ∷ times 9 (Ok answer.Taken) (reply 1 54 1 0 ∷ []));
      readings = bundled_read 4 0 1 0 ∷ [];
    }

pub four_lost_holds : Worked four_lost
unfolding handsets stations
four_lost_holds = worked four_lost refl tt tt refl tt refl

-- Configuration 5: the window of subframe 22 is 9, 10, 11 and 13 to 18, all nine sent; eight are lost and the last, in 18, is heard.
abbrev pub eight_lost : Run
eight_lost =
    record {
      set = cell 5 0;
      sends =
          times 9 nothing
          (grant 1 0 1 ∷ grant 1 0 2 ∷ grant 1 0 3 ∷ nothing ∷ grant 1 0 4 ∷ grant 1 0 1 ∷ grant 1 0 2 ∷ grant 1 0 3 ∷ grant 1 0 4 ∷ grant 1 20 1 ∷ []);
      items = times 18 hears_nothing (hears 20 1 true ∷ times 4 hears_nothing []);
      answers =
          times 2 (Ok answer.Taken) ((Ok answer.Silent) ∷ times 9 (Ok answer.Taken) ((Ok answer.Silent) ∷ times 9 (Ok answer.Taken) (reply 1 214 1 0 ∷ [])));
      readings = bundled_read 6 20 1 0 ∷ [];
    }

pub eight_lost_holds : Worked eight_lost
unfolding handsets stations
eight_lost_holds = worked eight_lost refl tt tt refl tt refl

-- Configuration 5: four are sent in the window of subframe 12, in 0, 1, 3 and 4, all heard and decoded.
abbrev pub four_heard : Run
four_heard =
    record {
      set = cell 5 0;
      sends = grant 1 0 1 ∷ grant 1 4 2 ∷ nothing ∷ grant 1 8 3 ∷ grant 1 40 4 ∷ [];
      items = hears 0 1 true ∷ hears 4 2 true ∷ hears_nothing ∷ hears 8 3 true ∷ hears 40 4 true ∷ times 8 hears_nothing [];
      answers = times 2 (Ok answer.Taken) ((Ok answer.Silent) ∷ times 9 (Ok answer.Taken) (reply 1 317 1 0 ∷ []));
      readings = bundled_read 3 40 1 0 ∷ [];
    }

pub four_heard_holds : Worked four_heard
unfolding handsets stations
four_heard_holds = worked four_heard refl tt tt refl tt refl

-- Configuration 5: six are sent there, the two more in 5 and 6; the first four are heard and decoded, the last two are lost.
abbrev pub last_two_lost : Run
last_two_lost =
    record {
      set = cell 5 0;
      sends = grant 1 0 1 ∷ grant 1 4 2 ∷ nothing ∷ grant 1 8 3 ∷ grant 1 40 4 ∷ grant 1 0 1 ∷ grant 1 0 2 ∷ [];
      items = hears 0 1 true ∷ hears 4 2 true ∷ hears_nothing ∷ hears 8 3 true ∷ hears 40 4 true ∷ times 8 hears_nothing [];
      answers = times 2 (Ok answer.Taken) ((Ok answer.Silent) ∷ times 9 (Ok answer.Taken) (reply 1 317 1 0 ∷ []));
      readings = bundled_read 3 40 1 0 ∷ [];
    }

pub last_two_lost_holds : Worked last_two_lost
unfolding handsets stations
last_two_lost_holds = worked last_two_lost refl tt tt refl tt refl

-- Configuration 2, mode 0: the window of subframe 7 is -1, 0, 3 and 1, which reaches before the start; the grant in 0 is heard.
abbrev pub before_start : Run
before_start =
    record {
      set = cell 2 0;
      sends = grant 1 0 1 ∷ [];
      items = hears 0 1 true ∷ times 7 hears_nothing [];
      answers = times 2 (Ok answer.Taken) ((Ok answer.Silent) ∷ times 4 (Ok answer.Taken) (reply 1 21 1 0 ∷ []));
      readings = bundled_read 1 0 1 0 ∷ [];
    }

pub before_start_holds : Worked before_start
unfolding handsets stations
before_start_holds = worked before_start refl tt tt refl tt refl

-- Configuration 0 in a cell of two blocks: subframe 3 has no window. Subframe 4 answers for a grant in 0 whose second block alone
-- decoded; subframe 7 for one in 1 of a sole block, which decoded and stands for both.
abbrev pub two_blocks : Run
two_blocks =
    record {
      set = two_block_cell 0 0;
      sends = grant 2 3 1 ∷ grant 1 5 1 ∷ [];
      items = hears_two 3 1 false true ∷ hears 5 1 true ∷ times 6 hears_nothing [];
      answers = times 2 (Ok answer.Taken) ((Ok answer.Silent) ∷ (Ok answer.NoWindow) ∷ reply 1 13 0 1 ∷ times 2 (Ok answer.Taken) (reply 1 15 1 1 ∷ []));
      readings = bundled_read 0 3 0 1 ∷ bundled_read 0 5 1 1 ∷ [];
    }

pub two_blocks_holds : Worked two_blocks
unfolding handsets stations
two_blocks_holds = worked two_blocks refl tt tt refl tt refl

-- Configuration 0: subframe 4 answers for 0, subframe 7 for 1; both grants are heard.
abbrev pub two_windows : Run
two_windows =
    record {
      set = cell 0 0;
      sends = grant 1 0 1 ∷ grant 1 0 1 ∷ [];
      items = hears 0 1 true ∷ hears 0 1 true ∷ times 6 hears_nothing [];
      answers = times 2 (Ok answer.Taken) ((Ok answer.Silent) ∷ (Ok answer.NoWindow) ∷ reply 1 10 1 0 ∷ times 2 (Ok answer.Taken) (reply 1 10 1 0 ∷ []));
      readings = times 2 (bundled_read 0 0 1 0) [];
    }

pub two_windows_holds : Worked two_windows
unfolding handsets stations
two_windows_holds = worked two_windows refl tt tt refl tt refl

-- Configuration 1 in a cell of two blocks: of the grants in 0 and 1 the first block of the earlier one alone is not decoded.
abbrev pub one_undecoded : Run
one_undecoded =
    record {
      set = two_block_cell 1 0;
      sends = grant 2 3 1 ∷ grant 2 10 2 ∷ [];
      items = hears_two 3 1 false true ∷ hears_two 10 2 true true ∷ times 6 hears_nothing [];
      answers = times 2 (Ok answer.Taken) (times 2 (Ok answer.Silent) (times 3 (Ok answer.Taken) (reply 1 31 0 1 ∷ [])));
      readings = bundled_read 1 10 0 1 ∷ [];
    }

pub one_undecoded_holds : Worked one_undecoded
unfolding handsets stations
one_undecoded_holds = worked one_undecoded refl tt tt refl tt refl

-- The same with a sole block in 1, which decoded and stands for both: the second bit alone is ACK.
abbrev pub sole_block : Run
sole_block =
    record {
      set = two_block_cell 1 0;
      sends = grant 2 3 1 ∷ grant 1 10 2 ∷ [];
      items = hears_two 3 1 false true ∷ hears 10 2 true ∷ times 6 hears_nothing [];
      answers = times 2 (Ok answer.Taken) (times 2 (Ok answer.Silent) (times 3 (Ok answer.Taken) (reply 1 31 0 1 ∷ [])));
      readings = bundled_read 1 10 0 1 ∷ [];
    }

pub sole_block_holds : Worked sole_block
unfolding handsets stations
sole_block_holds = worked sole_block refl tt tt refl tt refl

-- Multiplexed: mode 1.

-- M = 2, configuration 1: of the window of subframe 7, which is 0 and 1, the grant in 0 is lost. The state is D,A.
abbrev pub later_only : Run
later_only =
    record {
      set = cell 1 1;
      sends = grant 1 3 1 ∷ grant 1 10 2 ∷ [];
      items = hears_nothing ∷ hears 10 2 true ∷ times 6 hears_nothing [];
      answers = times 2 (Ok answer.Taken) (times 2 (Ok answer.Silent) (times 3 (Ok answer.Taken) (reply 2 31 0 0 ∷ [])));
      readings = multiplexed_read 1 10 2 ∷ [];
    }

pub later_only_holds : Worked later_only
unfolding handsets stations
later_only_holds = worked later_only refl tt tt refl tt refl

-- M = 2 in a cell of two blocks: all but the second block of the later grant is decoded. The state is A,N.
abbrev pub second_undecoded : Run
second_undecoded =
    record {
      set = two_block_cell 1 1;
      sends = grant 2 3 1 ∷ grant 2 10 2 ∷ [];
      items = hears_two 3 1 true true ∷ hears_two 10 2 true false ∷ times 6 hears_nothing [];
      answers = times 2 (Ok answer.Taken) (times 2 (Ok answer.Silent) (times 3 (Ok answer.Taken) (reply 2 13 0 1 ∷ [])));
      readings = multiplexed_read 0 3 1 ∷ [];
    }

pub second_undecoded_holds : Worked second_undecoded
unfolding handsets stations
second_undecoded_holds = worked second_undecoded refl tt tt refl tt refl

-- M = 3, configuration 3: the window of subframe 12 is 5, 6 and 1. The grant in 6 alone is not decoded. The state is A,N,A.
abbrev pub middle_undecoded : Run
middle_undecoded =
    record {
      set = cell 3 1;
      sends = nothing ∷ grant 1 4 1 ∷ nothing ∷ nothing ∷ nothing ∷ grant 1 12 2 ∷ grant 1 30 3 ∷ [];
      items = hears_nothing ∷ hears 4 1 true ∷ times 3 hears_nothing (hears 12 2 true ∷ hears 30 3 false ∷ times 6 hears_nothing []);
      answers = times 2 (Ok answer.Taken) (times 3 (Ok answer.Silent) (times 7 (Ok answer.Taken) (reply 2 44 1 1 ∷ [])));
      readings = multiplexed_read 0 12 5 ∷ [];
    }

pub middle_undecoded_holds : Worked middle_undecoded
unfolding handsets stations
middle_undecoded_holds = worked middle_undecoded refl tt tt refl tt refl

-- M = 4, configuration 2: the window of subframe 12 is 4, 5, 8 and 6; A,A,D,D shares its symbol with A,A,A,N and others.
abbrev pub shared : Run
shared =
    record {
      set = cell 2 1;
      sends = times 4 nothing (grant 1 0 1 ∷ grant 1 5 2 ∷ []);
      items = times 4 hears_nothing (hears 0 1 true ∷ hears 5 2 true ∷ times 7 hears_nothing []);
      answers = times 2 (Ok answer.Taken) ((Ok answer.Silent) ∷ times 4 (Ok answer.Taken) ((Ok answer.Silent) ∷ times 4 (Ok answer.Taken) (reply 2 26 1 0 ∷ [])));
      readings = multiplexed_read 1 5 3 ∷ [];
    }

pub symbol_shared : Worked shared
unfolding handsets stations
symbol_shared = worked shared refl tt tt refl tt refl

-- The same window with a third grant, in 8, decoded too: A,A,A,D sends the same symbol, and position 2 is not delivered.
abbrev pub shared_by_three : Run
shared_by_three =
    record {
      set = cell 2 1;
      sends = times 4 nothing (grant 1 0 1 ∷ grant 1 5 2 ∷ nothing ∷ nothing ∷ grant 1 30 3 ∷ []);
      items = times 4 hears_nothing (hears 0 1 true ∷ hears 5 2 true ∷ times 2 hears_nothing (hears 30 3 true ∷ times 4 hears_nothing []));
      answers = times 2 (Ok answer.Taken) ((Ok answer.Silent) ∷ times 4 (Ok answer.Taken) ((Ok answer.Silent) ∷ times 4 (Ok answer.Taken) (reply 2 26 1 0 ∷ [])));
      readings = multiplexed_read 1 5 3 ∷ [];
    }

pub symbol_shared_by_three : Worked shared_by_three
unfolding handsets stations
symbol_shared_by_three = worked shared_by_three refl tt tt refl tt refl

-- Scheduled blocks and releases (document 02, U1). Most of these runs are in configuration 2, where the window of subframe 12 is 4,
-- 5, 8 and 6; nothing is sent before it, so that it alone is answered.
abbrev pub answers_in_two : Result Answer ℕ → List (Result Answer ℕ)
answers_in_two last = times 2 (Ok answer.Taken) ((Ok answer.Silent) ∷ times 4 (Ok answer.Taken) ((Ok answer.Silent) ∷ times 4 (Ok answer.Taken) (last ∷ [])))

-- Bundled.

-- The scheduled block in 5 is heard, the grants in 4 and 8 are lost: the reply goes on the scheduled resource and is read as that
-- block.
abbrev pub lone_block : Run
lone_block =
    record {
      set = scheduled_cell 2 0;
      sends = times 4 nothing (grant 1 3 1 ∷ block 1 ∷ nothing ∷ nothing ∷ grant 1 0 2 ∷ []);
      items = times 5 hears_nothing (hears_block true ∷ times 7 hears_nothing []);
      answers = answers_in_two (reply 1 7 1 0);
      readings = block_read 1 1 0 ∷ [];
    }

pub lone_block_holds : Worked lone_block
unfolding handsets stations
lone_block_holds = worked lone_block refl tt tt refl tt refl

-- In a cell of two blocks a grant in 4 is heard with both blocks decoded; the scheduled block in 8, later than it, is heard and is
-- not decoded. The reply goes on the grant's resource; both bits are NACK, since a sole block stands for both.
abbrev pub block_last : Run
block_last =
    record {
      set = scheduled_two_block_cell 2 0;
      sends = times 4 nothing (grant 2 3 1 ∷ nothing ∷ nothing ∷ nothing ∷ block 1 ∷ []);
      items = times 4 hears_nothing (hears_two 3 1 true true ∷ times 3 hears_nothing (hears_block false ∷ times 4 hears_nothing []));
      answers = answers_in_two (reply 1 13 0 0);
      readings = bundled_read 0 3 0 0 ∷ [];
    }

pub block_last_holds : Worked block_last
unfolding handsets stations
block_last_holds = worked block_last refl tt tt refl tt refl

-- The scheduled block in 5 is lost, the grants in 4 and 6 are heard: it leaves no trace, and the reading, told its position, names
-- the grant in 6.
abbrev pub block_lost : Run
block_lost =
    record {
      set = scheduled_cell 2 0;
      sends = times 4 nothing (grant 1 3 1 ∷ block 1 ∷ grant 1 20 2 ∷ []);
      items = times 4 hears_nothing (hears 3 1 true ∷ hears_nothing ∷ hears 20 2 true ∷ times 6 hears_nothing []);
      answers = answers_in_two (reply 1 111 1 0);
      readings = bundled_read 3 20 1 0 ∷ [];
    }

pub block_lost_holds : Worked block_lost
unfolding handsets stations
block_lost_holds = worked block_lost refl tt tt refl tt refl

-- The grant in 4 is lost; the scheduled block in 5 and the grant in 8 are heard. The miss is shown, the block counts for nothing.
abbrev pub missed_with_block : Run
missed_with_block =
    record {
      set = scheduled_cell 2 0;
      sends = times 4 nothing (grant 1 3 1 ∷ block 1 ∷ nothing ∷ nothing ∷ grant 1 0 2 ∷ []);
      items = times 5 hears_nothing (hears_block true ∷ times 2 hears_nothing (hears 0 2 true ∷ times 4 hears_nothing []));
      answers = answers_in_two (Ok answer.Silent);
      readings = [];
    }

pub missed_with_block_holds : Worked missed_with_block
unfolding handsets stations
missed_with_block_holds = worked missed_with_block refl tt tt refl tt refl

-- In a cell of two blocks a grant in 4 and a release in 6 are heard: the reply goes on the release's resource, both bits ACK.
abbrev pub release_last : Run
release_last =
    record {
      set = scheduled_two_block_cell 2 0;
      sends = times 4 nothing (grant 2 3 1 ∷ nothing ∷ release 5 2 ∷ []);
      items = times 4 hears_nothing (hears_two 3 1 true true ∷ hears_nothing ∷ hears_release 5 2 ∷ times 6 hears_nothing []);
      answers = answers_in_two (reply 1 48 1 1);
      readings = bundled_read 3 5 1 1 ∷ [];
    }

pub release_last_holds : Worked release_last
unfolding handsets stations
release_last_holds = worked release_last refl tt tt refl tt refl

-- Configuration 5, the window of subframe 12: the grants in 0, 1, 3 and 4 are lost and a release, the fifth PDCCH, is heard in 5. U is
-- 1 and V is 1: the reply is sent.
abbrev pub four_lost_release : Run
four_lost_release =
    record {
      set = cell 5 0;
      sends = grant 1 0 1 ∷ grant 1 0 2 ∷ nothing ∷ grant 1 0 3 ∷ grant 1 0 4 ∷ release 0 1 ∷ [];
      items = times 5 hears_nothing (hears_release 0 1 ∷ times 7 hears_nothing []);
      answers = times 2 (Ok answer.Taken) ((Ok answer.Silent) ∷ times 9 (Ok answer.Taken) (reply 1 54 1 0 ∷ []));
      readings = bundled_read 4 0 1 0 ∷ [];
    }

pub four_lost_release_holds : Worked four_lost_release
unfolding handsets stations
four_lost_release_holds = worked four_lost_release refl tt tt refl tt refl

-- After the scheduled block in 4 a second one in 5, in the same window, is refused 18; then 5 is fed again, with the grant that was
-- sent there.
abbrev pub second_block : Run
second_block =
    record {
      set = scheduled_cell 2 0;
      sends = times 4 nothing (block 1 ∷ grant 1 5 1 ∷ []);
      items = times 4 hears_nothing (hears_block true ∷ hears_block true ∷ hears 5 1 true ∷ times 7 hears_nothing []);
      answers =
          times 2 (Ok answer.Taken) ((Ok answer.Silent) ∷ times 2 (Ok answer.Taken) (Err 18
          ∷ times 2 (Ok answer.Taken) ((Ok answer.Silent) ∷ times 4 (Ok answer.Taken) (reply 1 26 1 0 ∷ []))));
      readings = bundled_read 1 5 1 0 ∷ [];
    }

pub second_block_holds : Worked second_block
unfolding handsets stations
second_block_holds = worked second_block refl tt tt refl tt refl

-- Configuration 1 with no scheduled resource: a scheduled block in 0 is refused 18, and 0 is fed again.
abbrev pub no_resource_set : Run
no_resource_set =
    record {
      set = cell 1 0;
      sends = grant 1 3 1 ∷ grant 1 10 2 ∷ [];
      items = hears_block true ∷ hears 3 1 true ∷ hears 10 2 true ∷ times 6 hears_nothing [];
      answers = Err 18 ∷ times 2 (Ok answer.Taken) (times 2 (Ok answer.Silent) (times 3 (Ok answer.Taken) (reply 1 31 1 0 ∷ [])));
      readings = bundled_read 1 10 1 0 ∷ [];
    }

pub no_resource_set_holds : Worked no_resource_set
unfolding handsets stations
no_resource_set_holds = worked no_resource_set refl tt tt refl tt refl

pub eighteen_left : Left second_block 5 × Left no_resource_set 0
unfolding handsets
eighteen_left = (refl, refl)

-- Configuration 1 with special subframes too short for data: in subframe 1, which is special, a grant is refused 20, and so are a
-- grant of 2 blocks, which 10 would refuse elsewhere, and a scheduled block; the release that was sent there is heard and answered in
-- subframe 7, alone in a window of two.
abbrev pub short_special : Run
short_special =
    record {
      set = short_cell 1 0;
      sends = nothing ∷ release 10 1 ∷ [];
      items = hears_nothing ∷ hears 10 1 true ∷ hears_two 10 1 true true ∷ hears_block true ∷ hears_release 10 1 ∷ times 6 hears_nothing [];
      answers =
          (Ok answer.Taken) ∷ Err 20 ∷ Err 20 ∷ Err 20 ∷ (Ok answer.Taken)
          ∷ times 2 (Ok answer.Silent) (times 3 (Ok answer.Taken) (reply 1 31 1 0 ∷ []));
      readings = bundled_read 1 10 1 0 ∷ [];
    }

pub short_special_holds : Worked short_special
unfolding handsets stations
short_special_holds = worked short_special refl tt tt refl tt refl

pub twenty_left : Left short_special 1 × Left short_special 2 × Left short_special 3
unfolding handsets
twenty_left = (refl, refl, refl)

-- With data allowed in special subframes a grant may be sent there (all_heard, above); in such a cell it may not.
pub no_data_there : Schedule (short_cell 1 0) (sending (grant 1 3 1 ∷ grant 1 10 2 ∷ [])) → ⊥
unfolding handsets
no_data_there schedule = omega (arith, schedule.valid 1)

-- Configuration 1: scheduled blocks in 0 and 5, one in the window of subframe 7 and one in that of 12. Both are taken and answered;
-- the second is not decoded.
abbrev pub block_in_each : Run
block_in_each =
    record {
      set = scheduled_cell 1 0;
      sends = block 1 ∷ times 4 nothing (block 1 ∷ []);
      items = hears_block true ∷ times 4 hears_nothing (hears_block false ∷ times 7 hears_nothing []);
      answers =
          times 2 (Ok answer.Taken) (times 2 (Ok answer.Silent) (times 3 (Ok answer.Taken) (reply 1 7 1 0
          ∷ (Ok answer.Silent) ∷ times 3 (Ok answer.Taken) (reply 1 7 0 0 ∷ []))));
      readings = block_read 0 1 0 ∷ block_read 0 0 0 ∷ [];
    }

pub block_in_each_holds : Worked block_in_each
unfolding handsets stations
block_in_each_holds = worked block_in_each refl tt tt refl tt refl

-- Multiplexed.

-- A grant in 4 and the scheduled block in 5 are heard and decoded. The state is A,A,D,D; its symbol's index is 1, the block's: the
-- reply goes on the scheduled resource and is read as that block.
abbrev pub block_at_index : Run
block_at_index =
    record {
      set = scheduled_cell 2 1;
      sends = times 4 nothing (grant 1 0 1 ∷ block 1 ∷ []);
      items = times 4 hears_nothing (hears 0 1 true ∷ hears_block true ∷ times 7 hears_nothing []);
      answers = answers_in_two (reply 2 7 1 0);
      readings = multiplexed_block_read 1 3 ∷ [];
    }

pub block_at_index_holds : Worked block_at_index
unfolding handsets stations
block_at_index_holds = worked block_at_index refl tt tt refl tt refl

-- The scheduled block in 4 and a grant in 5: the same state and symbol, whose index is the grant's. It goes on the grant's resource.
abbrev pub block_not_at_index : Run
block_not_at_index =
    record {
      set = scheduled_cell 2 1;
      sends = times 4 nothing (block 1 ∷ grant 1 5 1 ∷ []);
      items = times 4 hears_nothing (hears_block true ∷ hears 5 1 true ∷ times 7 hears_nothing []);
      answers = answers_in_two (reply 2 26 1 0);
      readings = multiplexed_read 1 5 3 ∷ [];
    }

pub block_not_at_index_holds : Worked block_not_at_index
unfolding handsets stations
block_not_at_index_holds = worked block_not_at_index refl tt tt refl tt refl

-- A release in 5 alone is heard, which is A: the state is D,A,D,D.
abbrev pub release_at_index : Run
release_at_index =
    record {
      set = scheduled_cell 2 1;
      sends = times 5 nothing (release 5 1 ∷ []);
      items = times 5 hears_nothing (hears_release 5 1 ∷ times 7 hears_nothing []);
      answers = answers_in_two (reply 2 26 0 1);
      readings = multiplexed_read 1 5 2 ∷ [];
    }

pub release_at_index_holds : Worked release_at_index
unfolding handsets stations
release_at_index_holds = worked release_at_index refl tt tt refl tt refl

-- The extended prefix, with special subframes too short for data: a scheduled block in 4 and a release in 6, which is special, are
-- heard, a grant in 5 is lost. The state is A,D,D,A. The reply goes on the scheduled resource; the reading is told the block's
-- position, whose subframe is not special.
abbrev pub short_multiplexed : Run
short_multiplexed =
    record {
      set = short_extended_cell 2 1;
      sends = times 4 nothing (block 1 ∷ grant 1 5 1 ∷ release 3 2 ∷ []);
      items = times 4 hears_nothing (hears_block true ∷ hears_nothing ∷ hears_release 3 2 ∷ times 6 hears_nothing []);
      answers = answers_in_two (reply 2 7 0 1);
      readings = multiplexed_block_read 0 9 ∷ [];
    }

pub short_multiplexed_holds : Worked short_multiplexed
unfolding handsets stations
short_multiplexed_holds = worked short_multiplexed refl tt tt refl tt refl
