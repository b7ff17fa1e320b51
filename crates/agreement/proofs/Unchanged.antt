-- Document 02, U1, moved nothing for a station that sends grants alone: what it added to demand 3 is empty in the runs of such a
-- station.
-- Assumes nothing.
use Rattle.std.proofs.Common.{None, Result, Ok}
use Rattle.resource.specs.declared.Resource.{Resource}
use Prim.Native.Nat.{ℕ, zero, suc, ◌-◌, ◌%◌}
use mathlib.Core.Bool.{Bool, true, false, cond, false≢true}
use mathlib.Core.List.{List, [], ◌∷◌, map}
use mathlib.Core.Logic.{◌⊎◌, inl, inr, ◌↔◌}
use mathlib.Core.Path.{◌≡◌, refl, sym, ap, ◌∙◌}
use lib.Dec.{leb}
use lib.ListN.{get_or}
use Rattle.frame.specs.declared.Settings.{Settings}
use Rattle.frame.specs.Order.{times_of}
use Rattle.frame.specs.Settings.{or_else}
use Rattle.confirmation.specs.declared.Send.{Send}
use Rattle.confirmation.specs.declared.Send.TheVariants as send
use Rattle.confirmation.specs.Sent.{is_block as is_sent_block, told_from, told_of}
use Rattle.heard.specs.declared.Grant.{Grant}
use Rattle.heard.specs.declared.Heard.{Heard}
use Rattle.heard.specs.declared.Heard.TheVariants.{Nothing, Granted, Scheduled, Released}
use Rattle.heard.specs.Heard.{is_block, heard_refusal, second_refusal, cause_of}
use Rattle.reply.specs.declared.Answer.{Answer}
use Rattle.reply.specs.declared.Answer.TheVariants as answer
use Rattle.reply.specs.declared.Reply.{Reply}
use Rattle.station.specs.declared.Place.{Place}
use Rattle.station.specs.declared.Place.TheVariants as place
use Rattle.station.specs.declared.Reading.{Reading}
use Rattle.agreement.specs.Demand3.{Engine, reading_in}
use Rattle.agreement.specs.Run.{Item, sent_of, sent_ago, heard_ago, heard_in_run, window_at, settings_in, Brings, BringsSent}
use Rattle.agreement.specs.Window.{Entry, is_heard, is_pdcch, any_of, BlockAt, lost_before, in_time, ReadAs, Bundled}
use Rattle.agreement.proofs.Entries.{all_of, entry, block_at, all_none}
use Rattle.agreement.proofs.Feeds.{ago_brings}

-- Nothing was sent, or a grant.
abbrev pub is_ordinary : Send → Bool
is_ordinary send.Nothing = true
is_ordinary (send.Granted g) = true
is_ordinary (send.Scheduled b) = false
is_ordinary (send.Released p) = false

no_block_sent : (x : Send) → is_ordinary x ≡ true → is_sent_block x ≡ false
no_block_sent send.Nothing e = refl
no_block_sent (send.Granted g) e = refl
no_block_sent (send.Scheduled b) e = absurd (false≢true e)
no_block_sent (send.Released p) e = refl

-- What is heard of it is nothing or a grant: no scheduled block, and a PDCCH where anything is heard.
heard_ordinary : (x : Send) (y : Heard) → is_ordinary x ≡ true → Brings x y → is_ordinary (sent_of y) ≡ true
heard_ordinary x y e (inl b) = rw b
heard_ordinary x y e (inr b) = rw b e

ordinary_heard : (y : Heard) → is_ordinary (sent_of y) ≡ true → (is_block y ≡ false) × (is_pdcch y ≡ is_heard y)
ordinary_heard Nothing e = (refl, refl)
ordinary_heard (Granted g) e = (refl, refl)
ordinary_heard (Scheduled b) e = absurd (false≢true e)
ordinary_heard (Released p) e = absurd (false≢true e)

-- What a reply names there is a grant.
named_grant : (y : Heard) → is_ordinary (sent_of y) ≡ true → (m : ℕ) (named : Place) → ReadAs m y named
    → (g : Grant) × (y ≡ Granted g) × (named ≡ place.Pdcch m g.cce)
named_grant Nothing e m named r = absurd r
named_grant (Granted g) e m named r = (g, refl, r)
named_grant (Scheduled b) e m named r = absurd (false≢true e)
named_grant (Released p) e m named r = absurd (false≢true e)

-- A refusal beside what was heard before is the refusal by itself: 18 is for scheduled blocks alone.
pub cause_alone : (set : Settings) (n : ℕ) (block : ℕ → Bool) (x : Heard) → is_block x ≡ false → cause_of set n block x ≡ heard_refusal set n x
unfolding cause_of second_refusal
cause_alone set n block x e = rw e (go (heard_refusal set n x))
  where
    go : (k : ℕ) → or_else k 0 ≡ k
    go zero = refl
    go (suc k) = refl

module _ (S : ℕ → Send) (H : ℕ → Heard) (ordinary : (k : ℕ) → is_ordinary (S k) ≡ true) (brings : (k : ℕ) → Brings (S k) (H k)) where
  ordinary_there : (k : ℕ) → is_ordinary (sent_of (H k)) ≡ true
  ordinary_there k = heard_ordinary (S k) (H k) (ordinary k) (brings k)

  heard_so : (k : ℕ) → (is_block (H k) ≡ false) × (is_pdcch (H k) ≡ is_heard (H k))
  heard_so k = ordinary_heard (H k) (ordinary_there k)

  untold : (ks : List ℕ) (m : ℕ) → told_from m ks S ≡ None
  untold [] m = refl
  untold (k ∷ ks) m = rw (no_block_sent (S k) (ordinary k)) (untold ks (suc m))

  no_block : (ts : List ℕ) → any_of is_block (map (entry S H) ts) ≡ false
  no_block ts = all_none S H is_block ts (all_of (λ (k : ℕ). is_block (H k) ≡ false) ts (λ k e. (heard_so k).0))

  all_pdcch : (ts : List ℕ) → any_of is_pdcch (map (entry S H) ts) ≡ any_of is_heard (map (entry S H) ts)
  all_pdcch [] = refl
  all_pdcch (k ∷ ts) = rw ((heard_so k).1, all_pdcch ts)

-- In a run of such a station, the window of subframe s.
module _ (set : Settings) (sent : ℕ → Send) (ordinary : (s : ℕ) → is_ordinary (sent s) ≡ true) (items : List Item) (brings : BringsSent set sent items) (s : ℕ) where
  abbrev pub H : ℕ → Heard
  H = heard_ago (heard_in_run set items) s

  abbrev pub es : List Entry
  es = in_time (sent_ago sent s) H (window_at set s)

  ordinary_ago : (k : ℕ) → is_ordinary (sent_ago sent s k) ≡ true
  ordinary_ago k = go (leb k s)
    where
      go : (b : Bool) → is_ordinary (cond b (sent (s - k)) send.Nothing) ≡ true
      go true = ordinary (s - k)
      go false = refl

  brought_ago : (k : ℕ) → Brings (sent_ago sent s k) (H k)
  brought_ago k = ago_brings sent (heard_in_run set items) brings s k

  -- The reading is told nothing.
  pub told_nothing : told_of (window_at set s) (sent_ago sent s) ≡ None
  told_nothing = untold (sent_ago sent s) H ordinary_ago brought_ago (window_at set s) 0

  pub reads_as_untold : (e : Engine) → reading_in e (settings_in set items s) sent s ≡ e.read (settings_in set items s) (s % 10) None
  reads_as_untold e = ap (e.read (settings_in set items s) (s % 10)) told_nothing

  -- No scheduled block is heard, and what is heard is a PDCCH.
  pub none_scheduled : any_of is_block es ≡ false
  none_scheduled = no_block (sent_ago sent s) H ordinary_ago brought_ago (times_of (window_at set s))

  pub never_alone : (k : ℕ) → BlockAt k es → ⊥
  never_alone k b =
      false≢true (sym (heard_so (sent_ago sent s) H ordinary_ago brought_ago k).0 ∙ (block_at (sent_ago sent s) H (times_of (window_at set s)) k b).1)

  pub heard_is_pdcch : any_of is_pdcch es ≡ any_of is_heard es
  heard_is_pdcch = all_pdcch (sent_ago sent s) H ordinary_ago brought_ago (times_of (window_at set s))

  -- A bundled reply is due exactly when a grant was heard and 0, 4 or 8 of the grants before the last heard one were lost.
  abbrev pub ZeroFourOrEight : Type 0
  ZeroFourOrEight = (lost_before es ≡ 0) ⊎ (lost_before es ≡ 4) ⊎ (lost_before es ≡ 8)

  abbrev pub Due : Type 0
  Due = ((any_of is_pdcch es ≡ true) × ZeroFourOrEight) ⊎ ((any_of is_pdcch es ≡ false) × (any_of is_block es ≡ true))

  pub due_as_before : Due ↔ ((any_of is_heard es ≡ true) × ZeroFourOrEight)
  due_as_before = (there, λ p. inl (heard_is_pdcch ∙ p.0, p.1))
    where
      there : Due → (any_of is_heard es ≡ true) × ZeroFourOrEight
      there (inl p) = (sym heard_is_pdcch ∙ p.0, p.1)
      there (inr p) = absurd (false≢true (sym none_scheduled ∙ p.1))

  pub sent_as_before : (resource : ℕ → ℕ → Result Resource ℕ) (read : ℕ → ℕ → ℕ → Result Reading ℕ) (a : Result Answer ℕ)
      → Bundled (settings_in set items s) resource read (window_at set s) es a
      → ((r : Reply) × (a ≡ Ok (answer.Sent r))) ↔ ((any_of is_heard es ≡ true) × ZeroFourOrEight)
  sent_as_before resource read a b = (λ r. due_as_before.0 (b.0.0 r), λ due. b.0.1 (due_as_before.1 due))

  -- What a multiplexed reply with index m is read as is a grant that was heard there.
  pub names_grant : (m : ℕ) (named : Place) → ReadAs m (H (get_or (window_at set s) m 0)) named
      → (g : Grant) × (H (get_or (window_at set s) m 0) ≡ Granted g) × (named ≡ place.Pdcch m g.cce)
  names_grant m named r =
      let k : ℕ = get_or (window_at set s) m 0 in
      named_grant (H k) (ordinary_there (sent_ago sent s) H ordinary_ago brought_ago k) m named r
