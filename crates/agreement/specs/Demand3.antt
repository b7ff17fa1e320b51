-- Demand 3, whole, as a statement about an engine: its make, feed, change of mode, resource, inverse and reading as functions. Document
-- 00, demand 3, document 01, "The runs of demand 3", and document 02, U1, U8 and U9: each field quotes the sentence that it states.
-- proofs/Demand3.antt proves it of the definitions that the promises of the code are equations with: make_of (Handset::new), feed_of
-- (Handset::feed), change_of (Handset::change_mode), resource_of and inverse_of (resource::resource_of and inverse_of), read_of
-- (station::read).
-- Assumes nothing.
use Rattle.std.specs.Prelude.{Option, Some, None, Result, Ok, Err, ℕ, ◌%◌, ◌<◌, true, false, List, [], ◌⊎◌, ◌↔◌, ◌≡◌, length, get_or, take}
use Rattle.resource.specs.declared.Cce.{Cce}
use Rattle.resource.specs.declared.Resource.{Resource}
use Rattle.frame.specs.declared.Settings.{Settings}
use Rattle.frame.specs.Distance.{subframe_of}
use Rattle.frame.specs.Layout.{downlink}
use Rattle.frame.specs.Once.{InWindow, InExactlyOne}
use Rattle.frame.specs.Settings.{new_mode_refusal, has_scheduled, settings_refusal, in_mode, window_refusal}
use Rattle.frame.specs.Special.{too_short}
use Rattle.confirmation.specs.declared.Send.{Send}
use Rattle.confirmation.specs.Sent.{told_of}
use Rattle.resource.specs.Calls.{size_of, resource_of, inverse_of}
use Rattle.resource.specs.Formula.{edge, resource_number}
use Rattle.resource.specs.OneToOne.{OneToOne}
use Rattle.reply.specs.declared.Answer.TheVariants as answer
use Rattle.heard.specs.declared.Heard.{Heard}
use Rattle.heard.specs.declared.Heard.TheVariants.{Nothing, Scheduled}
use Rattle.heard.specs.declared.ScheduledBlock.{ScheduledBlock}
use Rattle.heard.specs.Heard.{is_block, heard_refusal, cause_of}
use Rattle.handset.specs.Change.{Changed}
use Rattle.handset.specs.Feed.{Fed}
use Rattle.handset.specs.declared.Handset.{Handset}
use Rattle.handset.specs.Make.{Made}
use Rattle.handset.specs.Change.{change_of}
use Rattle.handset.specs.Feed.{feed_of}
use Rattle.handset.specs.Make.{make_of}
use Rattle.station.specs.declared.Reading.{Reading}
use Rattle.station.specs.Readings.{GivesBack, read_of}
use Rattle.agreement.specs.Run.{Item, feed, change, item_at, handset_after, heard_in_run, subframe_at, window_at, window_mode, settings_in, sent_ago, heard_ago, Schedule, BringsSent}
use Rattle.agreement.specs.Window.{in_time, Bundled, Multiplexed}

pub record Engine : Type 0 where
  pub make : Settings → Made
  pub feed : Handset → Heard → Fed
  pub change : Handset → ℕ → Changed
  pub resource : Settings → ℕ → ℕ → ℕ → Result Resource ℕ
  pub inverse : Settings → ℕ → ℕ → Result (ℕ × Cce) ℕ
  pub read : Settings → ℕ → Option ℕ → ℕ → ℕ → ℕ → Result Reading ℕ

-- The engine of this repository: the definitions that the promises of its code are equations with.
abbrev pub feedback_engine : Engine
feedback_engine = record { make = make_of; feed = feed_of; change = change_of; resource = resource_of; inverse = inverse_of; read = read_of }

-- The handset that item i of a run gets, and what it answers to a feed and to a change.
abbrev pub handset_at : Engine → Settings → List Item → ℕ → Handset
handset_at e set items i = handset_after e.feed e.change (e.make set).handset (take i items)

abbrev pub fed_at : Engine → Settings → List Item → ℕ → Heard → Fed
fed_at e set items i x = e.feed (handset_at e set items i) x

abbrev pub changed_at : Engine → Settings → List Item → ℕ → ℕ → Changed
changed_at e set items i m = e.change (handset_at e set items i) m

-- Item i of a run is a feed that brings x.
pub record IsFeed (items : List Item) (i : ℕ) (x : Heard) : Type 0 where
  pub inside : i < length items
  pub brings : item_at items i ≡ feed x

-- Item i of a run is a change to mode m.
pub record IsChange (items : List Item) (i m : ℕ) : Type 0 where
  pub inside : i < length items
  pub changes : item_at items i ≡ change m

-- The refusal of x, brought by item i, at the run's next subframe; 0 where no cause is met. 18 looks at the scheduled blocks that
-- the run heard before.
abbrev pub cause_at : Settings → List Item → ℕ → Heard → ℕ
cause_at set items i x =
    let s : ℕ = subframe_at set items i in
    cause_of set (s % 10) (λ (a : ℕ). is_block (heard_ago (heard_in_run set items) s a)) x

-- Item i is a feed of x that is not refused, and is the run's subframe s.
pub record IsSubframe (set : Settings) (items : List Item) (i s : ℕ) (x : Heard) : Type 0 where
  pub is_feed : IsFeed items i x
  pub accepted : cause_at set items i x ≡ 0
  pub counted : subframe_at set items i ≡ s

-- The station's reading in the window of s, with these settings and n = s mod 10; it "is told" the position of the scheduled block that
-- was sent there.
abbrev pub reading_in : Engine → Settings → (ℕ → Send) → ℕ → ℕ → ℕ → ℕ → Result Reading ℕ
reading_in e set sent s = e.read set (s % 10) (told_of (window_at set s) (sent_ago sent s))

-- What the reading may be told in the window of n: nothing, or a position of the window where a scheduled resource is set, whose
-- subframe is not too short for data (U2).
abbrev pub MayTell : Settings → ℕ → Option ℕ → Type 0
MayTell set n None = Unit {0}
MayTell set n (Some m) = (m < size_of set n) × (has_scheduled set ≡ true) × (too_short set (subframe_of set.config n m) ≡ false)

-- A scheduled block was heard in an earlier subframe d of the window that subframe s is in.
abbrev pub SecondIn : ℕ → List Heard → ℕ → Type 0
SecondIn c heard s =
    (d uplink i j : ℕ) × (d < s) × InWindow c uplink i s × InWindow c uplink j d × (is_block (get_or heard d Nothing) ≡ true)

-- What holds after a list of feeds and changes of mode.
pub record HoldsAfter (e : Engine) (set : Settings) (sent : ℕ → Send) (items : List Item) : Type 0 where
  -- "A feed is refused exactly when a cause for a feed .. is met at the run's next subframe, and 8 never is;"
  pub refused_exactly : (i : ℕ) (x : Heard) → IsFeed items i x
      → ((k : ℕ) × ((fed_at e set items i x).answer ≡ Err k)) ↔ (cause_at set items i x ≡ 0 → ⊥)
  -- "it then answers its number and leaves the handset"
  pub leaves : (i : ℕ) (x : Heard) → IsFeed items i x → (cause_at set items i x ≡ 0 → ⊥)
      → fed_at e set items i x ≡ record { answer = Err (cause_at set items i x); handset = handset_at e set items i }
  -- 18 is "a second scheduled block in one window": one that is valid by itself is refused so exactly if another was heard there
  pub second : (i : ℕ) (b : ScheduledBlock) → IsFeed items i (Scheduled b) → heard_refusal set (subframe_at set items i % 10) (Scheduled b) ≡ 0
      → ((fed_at e set items i (Scheduled b)).answer ≡ Err 18) ↔ SecondIn set.config (heard_in_run set items) (subframe_at set items i)
  -- "A downlink subframe is answered "taken","
  pub taken : (i s : ℕ) (x : Heard) → IsSubframe set items i s x → downlink set.config (s % 10) ≡ true
      → (fed_at e set items i x).answer ≡ Ok answer.Taken
  -- "an uplink one without a window "no window","; and one with a window "silent" where no reply is sent: SentExactly (Window.antt)
  pub no_window : (i s : ℕ) (x : Heard) → IsSubframe set items i s x → downlink set.config (s % 10) ≡ false → window_at set s ≡ []
      → (fed_at e set items i x).answer ≡ Ok answer.NoWindow
  -- U8: "Refusals 4, 5 and 8 apply and leave the state"; U9: 24 too, for "two ports with mode 1 (a mode change included)". A change is
  -- refused exactly by 4, 5 and 24, for the new mode with the run's other settings, and 8 never is; it answers its number, 0 where it is
  -- not refused,
  pub changed_exactly : (i m : ℕ) → IsChange items i m → (changed_at e set items i m).refusal ≡ new_mode_refusal (in_mode set m)
  -- and leaves the handset where it is
  pub change_leaves : (i m : ℕ) → IsChange items i m → (new_mode_refusal (in_mode set m) ≡ 0 → ⊥)
      → (changed_at e set items i m).handset ≡ handset_at e set items i
  -- "Take any window whose uplink subframe was fed too. If 01 bundles it": mode 0, or mode 1 where M = 1; U8: "by its own mode"
  pub bundled : (i s : ℕ) (x : Heard) → IsSubframe set items i s x
      → 0 < length (window_at set s) → (window_mode set items s ≡ 0) ⊎ (length (window_at set s) ≡ 1)
      → Bundled (settings_in set items s) (e.resource (settings_in set items s) (s % 10)) (reading_in e (settings_in set items s) sent s) (window_at set s)
      (in_time (sent_ago sent s) (heard_ago (heard_in_run set items) s) (window_at set s)) (fed_at e set items i x).answer
  -- "If 01 multiplexes it": mode 1, and M is not 1
  pub multiplexed : (i s : ℕ) (x : Heard) → IsSubframe set items i s x
      → 0 < length (window_at set s) → window_mode set items s ≡ 1 → (length (window_at set s) ≡ 1 → ⊥)
      → Multiplexed (settings_in set items s) (e.resource (settings_in set items s) (s % 10)) (reading_in e (settings_in set items s) sent s) (window_at set s)
      (heard_ago (heard_in_run set items) s)
      (in_time (sent_ago sent s) (heard_ago (heard_in_run set items) s) (window_at set s)) (fed_at e set items i x).answer

pub record Demand3 (e : Engine) : Type 0 where
  -- "In a window of M downlink subframes, the pairs of position and first CCE map, by 01's formula,"
  pub by_formula : (set : Settings) (n m c : ℕ) → window_refusal set n ≡ 0 → m < size_of set n → c < edge set.nrb 4
      → e.resource set n m c ≡ Ok (record { 0 = resource_number set.nrb set.n1 (size_of set n) m c })
  -- "one to one onto the resources N1 to N1 + M × N_4 − 1,"; U9: "One to one and the reading then mean the first port", here and in what
  -- follows
  pub one_to_one : (set : Settings) (n : ℕ) → window_refusal set n ≡ 0
      → OneToOne (size_of set n) (edge set.nrb 4) set.n1 (e.resource set n) (e.inverse set n)
  -- "and the station's reading, given bits it doesn't refuse, gives the pair back", whatever scheduled position it is told
  pub gives_back : (set : Settings) (n m c r b0 b1 : ℕ) (told : Option ℕ) → MayTell set n told → e.resource set n m c ≡ Ok (record { 0 = r })
      → GivesBack m c (e.read set n told r b0 b1)
  -- "Each downlink subframe is in exactly one window."
  pub exactly_one : (c d : ℕ) → downlink c (d % 10) ≡ true → InExactlyOne c d
  -- "from a fresh handset": accepted settings make one
  pub made : (set : Settings) → settings_refusal set ≡ 0 → (e.make set).refusal ≡ 0
  -- "For every list of feeds from a fresh handset, refused ones included, whichever valid grants were sent by the DAI rule and
  -- whichever of them were lost, this holds after it"; U8: changes of mode among them
  pub run : (set : Settings) → settings_refusal set ≡ 0 → (sent : ℕ → Send) → Schedule set sent
      → (items : List Item) → BringsSent set sent items → HoldsAfter e set sent items
