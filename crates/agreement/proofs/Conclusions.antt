-- What a scheduler may conclude (specs/Confirmation.antt), of every engine that meets demand 3, and so of the engine of this
-- repository.
-- Assumes nothing.
use Rattle.std.proofs.Common.{Ok}
use Prim.Native.Nat.{ℕ, ◌/◌, ◌%◌, ◌^◌, ◌<◌}
use mathlib.Core.Bool.{Bool, true, false}
use mathlib.Core.List.{List, [], ◌∷◌}
use mathlib.Core.Logic.{◌⊎◌, inl, inr}
use mathlib.Core.Path.{◌≡◌, refl, ap, ◌∙◌}
use native.Mathlib.Decide.{ℕ_discrete}
use native.Mathlib.Omega.{arith}
use lib.ListN.{length, get_or}
use Rattle.frame.specs.declared.Settings.{Settings}
use Rattle.frame.specs.Layout.{downlink}
use Rattle.frame.specs.Order.{member, times_of}
use Rattle.frame.specs.Settings.{settings_refusal}
use Rattle.frame.proofs.Accepted.{accepted}
use Rattle.resource.specs.declared.Cce.{Cce}
use Rattle.station.specs.declared.Place.{Place}
use Rattle.station.specs.declared.Place.TheVariants as place
use Rattle.station.specs.declared.Reading.TheVariants as reading
use Rattle.station.specs.Readings.{place_position}
use Rattle.limit.specs.Rules.{Rule, Sound}
use Rattle.confirmation.specs.declared.Send.{Send}
use Rattle.confirmation.specs.Confirmed.{speaks_for, confirmed}
use Rattle.confirmation.proofs.Confirmed.{carried}
use Rattle.heard.specs.declared.Heard.{Heard}
use Rattle.heard.specs.Heard.{is_block}
use Rattle.reply.specs.declared.Reply.{Reply}
use Rattle.agreement.specs.Confirmation.{Replied, reading_at, sent_there, decoded_block, Conclusions}
use Rattle.agreement.specs.Demand3.{Engine, feedback_engine, fed_at, reading_in, HoldsAfter, Demand3}
use Rattle.agreement.specs.Run.{Item, sent_ago, heard_ago, heard_in_run, window_at, window_mode, settings_in, Schedule, Brings}
use Rattle.agreement.specs.Window.{is_heard, is_pdcch, in_time, Bundled, Multiplexed}
use Rattle.agreement.proofs.Confirmation.{inside, LastRead, BlockRead, last_read, delivered_ack, bundled_confirmed, multiplexed_confirmed}
use Rattle.agreement.proofs.Demand3.{demand3}
use Rattle.agreement.proofs.Feeds.{ago_brings}
use Rattle.agreement.proofs.Limit.{names_no_more_holds}
use Rattle.agreement.proofs.Modes.{schedule_in, window_good}

module _ (e : Engine) (d : Demand3 e) (set : Settings) (sent : ℕ → Send) (items : List Item) (s : ℕ) (r : Reply) (replied : Replied e set sent items s r) where
  abbrev H : ℕ → Heard
  H = heard_ago (heard_in_run set items) s

  -- The settings of the window, which are accepted, and what may be sent is the same in them.
  abbrev own : Settings
  own = settings_in set items s

  good : settings_refusal own ≡ 0
  good = window_good set replied.accepted items s

  schedule : Schedule own sent
  schedule = schedule_in set (window_mode set items s) sent replied.schedule

  -- What demand 3 says of a window: it is bundled, or it is multiplexed.
  abbrev IsBundled : Type 0
  IsBundled =
      Bundled own (e.resource own (s % 10)) (reading_in e own sent s) (window_at set s) (in_time (sent_ago sent s) H (window_at set s))
      (fed_at e set items replied.item replied.brought).answer

  abbrev IsMultiplexed : Type 0
  IsMultiplexed =
      Multiplexed own (e.resource own (s % 10)) (reading_in e own sent s) (window_at set s) H (in_time (sent_ago sent s) H (window_at set s))
      (fed_at e set items replied.item replied.brought).answer

  abbrev Answered : Type 0
  Answered = IsBundled ⊎ IsMultiplexed

  brought : (k : ℕ) → Brings (sent_ago sent s k) (heard_ago (heard_in_run set items) s k)
  brought k = ago_brings sent (heard_in_run set items) replied.brings s k

  holds : HoldsAfter e set sent items
  holds = d.run set replied.accepted sent replied.schedule items replied.brings

  -- A subframe that was answered with a reply has a window.
  pub has_window_holds : 0 < length (window_at set s)
  has_window_holds = go (window_at set s) refl (downlink set.config (s % 10)) refl
    where
      go : (ks : List ℕ) → window_at set s ≡ ks → (down : Bool) → downlink set.config (s % 10) ≡ down → 0 < length (window_at set s)
      go (k ∷ ks) is down b = rw is (omega arith)
      go [] is true b =
          let z : ◌≡◌ {A = ℕ} 0 1 = cc (replied.answered, holds.taken replied.item s replied.brought replied.subframe b) in
          absurd (omega arith)
      go [] is false b =
          let z : ◌≡◌ {A = ℕ} 0 1 = cc (replied.answered, holds.no_window replied.item s replied.brought replied.subframe b is) in
          absurd (omega arith)

  -- It says one of the two of every window with a position.
  window : (m : ℕ) → m < length (window_at set s)
      → Answered
  window m h = go (ℕ_discrete own.mode 0) (ℕ_discrete (length (window_at set s)) 1)
    where
      go : Dec (own.mode ≡ 0) → Dec (length (window_at set s) ≡ 1)
          → Answered
      go (yes mode) size = inl (holds.bundled replied.item s replied.brought replied.subframe (omega arith) (inl mode))
      go (no mode) (yes size) = inl (holds.bundled replied.item s replied.brought replied.subframe (omega arith) (inr size))
      go (no mode) (no size) =
          inr (holds.multiplexed replied.item s replied.brought replied.subframe (omega arith) (omega (arith, (accepted own good).mode)) size)

  abbrev ByPdcch : Type 0
  ByPdcch = LastRead own good sent schedule s H brought r (reading_in e own sent s)

  abbrev ByBlock : Type 0
  ByBlock = BlockRead own good sent schedule s H brought r (reading_in e own sent s)

  -- Where it is read as bundled, it is.
  bundled : (m : ℕ) → m < length (window_at set s) → (named : Place) (b0 b1 : ℕ) → reading_at e set sent items s r ≡ Ok (reading.Bundled named b0 b1) → ByPdcch ⊎ ByBlock
  bundled m h named b0 b1 is = go (window m h)
    where
      go : Answered → ByPdcch ⊎ ByBlock
      go (inl w) = last_read own good sent schedule s H brought r (e.resource own (s % 10)) (reading_in e own sent s) _ w replied.answered
      go (inr w) = let z : ◌≡◌ {A = ℕ} 0 1 = cc (is, (w.1 r replied.answered).is_read) in absurd (omega arith)

  -- Read as a PDCCH, it is the last one heard; read as the block, that was heard alone.
  by_pdcch : (m : ℕ) → m < length (window_at set s) → (named : ℕ) (c : Cce) (b0 b1 : ℕ) → reading_at e set sent items s r ≡ Ok (reading.Bundled (place.Pdcch named c) b0 b1)
      → (l : ByPdcch) × (get_or (window_at set s) named 0 ≡ l.k)
  by_pdcch m h named c b0 b1 is = go (bundled m h (place.Pdcch named c) b0 b1 is)
    where
      go : ByPdcch ⊎ ByBlock → (l : ByPdcch) × (get_or (window_at set s) named 0 ≡ l.k)
      go (inl l) =
          let same : named ≡ l.named = cc (is, l.is_read) in
          (l, ap (λ (m : ℕ). get_or (window_at set s) m 0) same ∙ l.is_at)
      go (inr l) = let z : ◌≡◌ {A = ℕ} 0 1 = cc (is, l.is_read) in absurd (omega arith)

  by_block : (m : ℕ) → m < length (window_at set s) → (named b0 b1 : ℕ) → reading_at e set sent items s r ≡ Ok (reading.Bundled (place.Block named) b0 b1)
      → (l : ByBlock) × (l.named ≡ named)
  by_block m h named b0 b1 is = go (bundled m h (place.Block named) b0 b1 is)
    where
      go : ByPdcch ⊎ ByBlock → (l : ByBlock) × (l.named ≡ named)
      go (inl l) = let z : ◌≡◌ {A = ℕ} 0 1 = cc (is, l.is_read) in absurd (omega arith)
      go (inr l) = let same : l.named ≡ named = cc (is, l.is_read) in (l, same)

  in_time_holds : (m : ℕ) → m < length (window_at set s) → member (get_or (window_at set s) m 0) (times_of (window_at set s)) ≡ true
  in_time_holds m h = inside own good sent schedule s H brought r m h

  heard_up_to_holds : (named : ℕ) (c : Cce) (b0 b1 : ℕ) → reading_at e set sent items s r ≡ Ok (reading.Bundled (place.Pdcch named c) b0 b1)
      → (m : ℕ) → m < length (window_at set s)
      → speaks_for (window_at set s) (sent_ago sent s) (get_or (window_at set s) named 0) (get_or (window_at set s) m 0) ≡ true
      → is_heard (H (get_or (window_at set s) m 0)) ≡ true
  heard_up_to_holds named c b0 b1 is m h speaks =
      let l = by_pdcch m h named c b0 b1 is in
      l.0.heard (get_or (window_at set s) m 0) (in_time_holds m h) (rw l.1 at speaks)

  lost_after_holds : (named : ℕ) (c : Cce) (b0 b1 : ℕ) → reading_at e set sent items s r ≡ Ok (reading.Bundled (place.Pdcch named c) b0 b1)
      → (m : ℕ) → m < length (window_at set s) → get_or (window_at set s) m 0 < get_or (window_at set s) named 0
      → is_pdcch (H (get_or (window_at set s) m 0)) ≡ false
  lost_after_holds named c b0 b1 is m h after =
      let l = by_pdcch m h named c b0 b1 is in
      l.0.lost (get_or (window_at set s) m 0) (in_time_holds m h) (rw l.1 at after)

  none_heard_holds : (named b0 b1 : ℕ) → reading_at e set sent items s r ≡ Ok (reading.Bundled (place.Block named) b0 b1)
      → (m : ℕ) → m < length (window_at set s) → is_pdcch (H (get_or (window_at set s) m 0)) ≡ false
  none_heard_holds named b0 b1 is m h = (by_block m h named b0 b1 is).0.none (get_or (window_at set s) m 0) (in_time_holds m h)

  block_heard_holds : (named b0 b1 : ℕ) → reading_at e set sent items s r ≡ Ok (reading.Bundled (place.Block named) b0 b1)
      → is_block (H (get_or (window_at set s) named 0)) ≡ true
  block_heard_holds named b0 b1 is =
      let l = by_block 0 has_window_holds named b0 b1 is in
      rw (← l.1) l.0.heard

  -- Where it is read as multiplexed, it is.
  multiplexed : (named : Place) (positions : ℕ) → reading_at e set sent items s r ≡ Ok (reading.Multiplexed named positions) → IsMultiplexed
  multiplexed named positions is = go (window 0 has_window_holds)
    where
      go : Answered → IsMultiplexed
      go (inl w) = by (last_read own good sent schedule s H brought r (e.resource own (s % 10)) (reading_in e own sent s) _ w replied.answered)
        where
          by : ByPdcch ⊎ ByBlock → IsMultiplexed
          by (inl l) = let z : ◌≡◌ {A = ℕ} 0 1 = cc (is, l.is_read) in absurd (omega arith)
          by (inr l) = let z : ◌≡◌ {A = ℕ} 0 1 = cc (is, l.is_read) in absurd (omega arith)
      go (inr w) = w

  delivered_heard_holds : (named : Place) (positions : ℕ) → reading_at e set sent items s r ≡ Ok (reading.Multiplexed named positions)
      → (m : ℕ) → m < length (window_at set s) → positions / 2 ^ m % 2 ≡ 1 → is_heard (H (get_or (window_at set s) m 0)) ≡ true
  delivered_heard_holds named positions is m h bit =
      let w = multiplexed named positions is in
      let same : (w.1 r replied.answered).delivered ≡ positions = cc (is, (w.1 r replied.answered).is_read) in
      (delivered_ack own good sent schedule s H brought r m (e.resource own (s % 10)) (reading_in e own sent s) _ w replied.answered h (rw same bit)).0

  none_names_more : (named : Place) (positions : ℕ) → reading_at e set sent items s r ≡ Ok (reading.Multiplexed named positions)
      → (rule : Rule) → Sound rule (length (window_at set s)) (sent_there set sent s) (place_position named) r.b0 r.b1
      → (m : ℕ) → rule (length (window_at set s)) (sent_there set sent s) (place_position named) r.b0 r.b1 m ≡ true
      → positions / 2 ^ m % 2 ≡ 1
  none_names_more named positions is rule sound m e =
      let reply = (multiplexed named positions is).1 r replied.answered in
      let there : reply.named ≡ named = cc (is, reply.is_read) in
      let same : reply.delivered ≡ positions = cc (is, reply.is_read) in
      rw same at (names_no_more_holds own sent s H brought reply rule (rw there sound) m (rw there e))

  confirmed_decoded_holds : (m block : ℕ) → confirmed (window_at set s) (sent_ago sent s) (reading_at e set sent items s r) m block ≡ true
      → decoded_block (H (get_or (window_at set s) m 0)) block ≡ true
  confirmed_decoded_holds m block c = go (window m (carried (window_at set s) (sent_ago sent s) (reading_at e set sent items s r) m block c).0)
    where
      go : Answered
          → decoded_block (H (get_or (window_at set s) m 0)) block ≡ true
      go (inl w) =
          bundled_confirmed own good sent schedule s H brought r m block (e.resource own (s % 10)) (reading_in e own sent s) _ w replied.answered c
      go (inr w) =
          multiplexed_confirmed own good sent schedule s H brought r m block (e.resource own (s % 10)) (reading_in e own sent s) _ w replied.answered c

-- Of every engine that meets demand 3.
pub conclusions : (e : Engine) → Demand3 e → Conclusions e
conclusions e d =
    record {
      confirmed_decoded = confirmed_decoded_holds e d;
      heard_up_to = heard_up_to_holds e d;
      lost_after = lost_after_holds e d;
      none_heard = none_heard_holds e d;
      block_heard = block_heard_holds e d;
      delivered_heard = delivered_heard_holds e d;
      names_no_more = none_names_more e d;
    }

-- Of the engine of this repository.
pub scheduler_may_conclude : Conclusions feedback_engine
scheduler_may_conclude = conclusions feedback_engine demand3
