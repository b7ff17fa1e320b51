-- The runs of demand 3: document 01, "The runs of demand 3"; document 02, U1, U8 and U9. Their sentences stand above the definitions that
-- they give.
-- Assumes nothing.
use Rattle.std.specs.Prelude.{ℕ, ◌-◌, ◌%◌, ◌+◌, ◌<◌, true, cond, List, [], ◌∷◌, map, ◌⊎◌, ◌≡◌, eqb, leb, ltb, length, get_or, take}
use Rattle.frame.specs.declared.Settings.{Settings}
use Rattle.frame.specs.Order.{member, times_of}
use Rattle.frame.specs.Settings.{new_mode_refusal, in_mode}
use Rattle.frame.specs.Table.{window_of}
use Rattle.confirmation.specs.declared.Send.{Send}
use Rattle.confirmation.specs.declared.Send.TheVariants as send
use Rattle.confirmation.specs.Sent.{is_pdcch, is_block, dai_of, as_heard}
use Rattle.heard.specs.declared.Heard.{Heard}
use Rattle.heard.specs.declared.Heard.TheVariants.{Nothing, Granted, Scheduled, Released}
use Rattle.heard.specs.Heard.{is_block as is_heard_block, heard_refusal, cause_of}
use Rattle.handset.specs.Change.{Changed}
use Rattle.handset.specs.Feed.{Fed}
use Rattle.handset.specs.declared.Handset.{Handset}

-- "A run is a list of feeds from a fresh handset." U8: it "may now contain [mode] changes, refused ones too".
pub data Item : Type 0 where
  feed : Heard → Item
  change : ℕ → Item

-- Item i of a run, where it has one.
abbrev pub item_at : List Item → ℕ → Item
item_at items i = get_or items i (feed Nothing)

-- "Each gets the handset that the one before returned or left": the handset after a list of items, by the calls that feed it and that
-- change its mode.
abbrev pub handset_after : (Handset → Heard → Fed) → (Handset → ℕ → Changed) → Handset → List Item → Handset
handset_after fed changed h [] = h
handset_after fed changed h (feed x ∷ items) = handset_after fed changed (fed h x).handset items
handset_after fed changed h (change m ∷ items) = handset_after fed changed (changed h m).handset items

-- "A feed is refused exactly when a cause for a feed, .., is met at the run's next subframe, ..; .. what it brought is neither sent
-- nor heard. The other feeds, counted s = 0, 1, 2, .., are the run's subframes, s mod 10 in the frame."
-- The refusal of x at the subframe after `past`, the newest first: 9 to 12 and 20, then 18, which looks at the blocks heard before.
abbrev pub cause_after : Settings → List Heard → Heard → ℕ
cause_after set past x = cause_of set (length past % 10) (λ (a : ℕ). is_heard_block (get_or past (a - 1) Nothing)) x

-- What the run's subframes hear from here on, where those before heard `past`, the newest first. A change is no subframe.
abbrev pub heard_from : Settings → List Heard → List Item → List Heard
heard_from set past [] = []
heard_from set past (feed x ∷ items) =
    cond (eqb (cause_after set past x) 0) (x ∷ heard_from set (x ∷ past) items) (heard_from set past items)
heard_from set past (change m ∷ items) = heard_from set past items

-- What the run's subframes heard, subframe 0 first.
abbrev pub heard_in_run : Settings → List Item → List Heard
heard_in_run set items = heard_from set [] items

-- The run's next subframe at item i: as many feeds before it were not refused.
abbrev pub subframe_at : Settings → List Item → ℕ → ℕ
subframe_at set items i = length (heard_in_run set (take i items))

-- What a feed brings, its decoding left out.
abbrev pub sent_of : Heard → Send
sent_of Nothing = send.Nothing
sent_of (Granted g) = send.Granted (record { blocks = g.blocks; cce = g.cce; dai = g.dai })
sent_of (Scheduled b) = send.Scheduled (record { blocks = b.blocks })
sent_of (Released p) = send.Released (record { cce = p.cce; dai = p.dai })

-- What a list, one entry for each of the run's subframes, has k before subframe s; before the start `none`.
abbrev pub ago_in : {A : Type 0} → A → List A → ℕ → ℕ → A
ago_in none all s k = cond (leb k s) (get_or all (s - k) none) none

-- What was sent, and what was heard, k before subframe s; "before the start .. nothing".
abbrev pub sent_ago : (ℕ → Send) → ℕ → ℕ → Send
sent_ago sent s k = cond (leb k s) (sent (s - k)) send.Nothing

abbrev pub heard_ago : List Heard → ℕ → ℕ → Heard
heard_ago heard = ago_in Nothing heard

-- "Each s whose s mod 10 has a window in the table, past the end of the list too, has the window s − k_0, s − k_1, .."
abbrev pub window_at : Settings → ℕ → List ℕ
window_at set s = window_of set.config (s % 10)

-- U8: "Refusals 4, 5 .. apply and leave the state"; U9: so does 24 where there are two ports. The mode that stands after a change to m,
-- where `mode` stood.
abbrev pub standing : Settings → ℕ → ℕ → ℕ
standing set mode m = cond (eqb (new_mode_refusal (in_mode set m)) 0) m mode

-- The mode that stands at each of the run's subframes from here on, where `mode` stands and those before heard `past`.
abbrev pub modes_from : Settings → List Heard → ℕ → List Item → List ℕ
modes_from set past mode [] = []
modes_from set past mode (feed x ∷ items) =
    cond (eqb (cause_after set past x) 0) (mode ∷ modes_from set (x ∷ past) mode items) (modes_from set past mode items)
modes_from set past mode (change m ∷ items) = modes_from set past (standing set mode m) items

-- The mode that stood when each of the run's subframes was fed, subframe 0 first; the settings have the mode that the handset was made
-- with.
abbrev pub modes_in_run : Settings → List Item → List ℕ
modes_in_run set items = modes_from set [] set.mode items

-- The mode that stood when the subframe k before s was fed; before the start, the mode that the handset was made with.
abbrev pub stood_ago : Settings → List ℕ → ℕ → ℕ → ℕ
stood_ago set modes = ago_in set.mode modes

-- The largest number of a list; 0 of an empty one.
abbrev pub largest : List ℕ → ℕ
largest [] = 0
largest (k ∷ ks) = cond (ltb (largest ks) k) k (largest ks)

-- U8: "A window is answered in the mode that stood when its earliest downlink subframe was fed, or in the mode the handset was made
-- with if that lies before the start." The earliest subframe of the window s − k_0, s − k_1, .. is that of the largest k.
abbrev pub window_mode : Settings → List Item → ℕ → ℕ
window_mode set items s = stood_ago set (modes_in_run set items) s (largest (window_at set s))

-- The settings in which the window of s is answered and read: "each window is bundled or not by its own mode", and "the station is
-- told the mode per window".
abbrev pub settings_in : Settings → List Item → ℕ → Settings
settings_in set items s = in_mode set (window_mode set items s)

-- "its grants carry DAIs by the station's rule, lost ones counted": the j-th grant of a window in time order carries
-- ((j − 1) mod 4) + 1; here j came before. "the DAI rule .. then read[s] over PDCCHs only": releases count, scheduled blocks don't.
abbrev pub RuleFrom : ℕ → List Send → Type 0
RuleFrom j [] = Unit {0}
RuleFrom j (x ∷ sends) = (is_pdcch x ≡ true → dai_of x ≡ j % 4 + 1) × RuleFrom (cond (is_pdcch x) 1 0 + j) sends

-- What the station sends over an endless run: s is any subframe, past the end of the list too.
-- "In a downlink one the station sent a valid grant or nothing; before the start and in uplink subframes, nothing." U1: "lists may
-- hold scheduled blocks", and releases.
pub record Schedule (set : Settings) (sent : ℕ → Send) : Type 0 where
  -- "A grant, heard or lost, is valid if neither 9 to 12 below nor a refusal of a feed added later would refuse it"; 9 leaves uplink
  -- subframes nothing, 20 leaves special ones too short for data a release, and 18 a block its resource.
  pub valid : (s : ℕ) → heard_refusal set (s % 10) (as_heard (sent s)) ≡ 0
  pub rule : (s : ℕ) → RuleFrom 0 (map (sent_ago sent s) (times_of (window_at set s)))
  -- U1: scheduled blocks, "at most one sent in a window", heard or lost
  pub one : (s i j : ℕ) → member i (window_at set s) ≡ true → member j (window_at set s) ≡ true
      → is_block (sent_ago sent s i) ≡ true → is_block (sent_ago sent s j) ≡ true → i ≡ j

-- "A sent grant is heard if its feed brings it, with blocks carried, first CCE and DAI as sent, and lost if its feed brings
-- nothing. A feed not refused brings only what was sent."
abbrev pub Brings : Send → Heard → Type 0
Brings sent heard = (heard ≡ Nothing) ⊎ (sent_of heard ≡ sent)

abbrev pub BringsSent : Settings → (ℕ → Send) → List Item → Type 0
BringsSent set sent items =
    (s : ℕ) → s < length (heard_in_run set items) → Brings (sent s) (get_or (heard_in_run set items) s Nothing)
