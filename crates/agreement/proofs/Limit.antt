-- No reader could credit more in a window of a run (document 02, U7): its state is one of those that limit/specs/Rules.antt counts,
-- since a feed brings nothing where nothing was sent.
-- Assumes nothing.
use Rattle.std.proofs.Common.{Result}
use Rattle.resource.specs.declared.Resource.{Resource}
use Prim.Native.Nat.{ℕ, ◌/◌, ◌%◌, ◌^◌, ◌<◌}
use mathlib.Core.Bool.{true, false, false≢true}
use mathlib.Core.List.{List, map}
use mathlib.Core.Logic.{inl, inr}
use mathlib.Core.Path.{◌≡◌, refl, sym, ap, ◌∙◌}
use native.Mathlib.Decide.{dec_lt}
use native.Mathlib.Omega.{arith}
use lib.ListN.{length, get_or, length-map, get_or-eq_default}
use borrow.Author.Tests.{lt-ltb}
use Rattle.frame.specs.declared.Settings.{Settings}
use Rattle.frame.proofs.Lists as lists
use Rattle.symbols.specs.declared.State.{State}
use Rattle.symbols.specs.declared.State.TheVariants.{Ack, Dtx}
use Rattle.symbols.specs.Delivered.{is_ack}
use Rattle.symbols.specs.Selection.{symbol_of, symbol}
use Rattle.station.specs.declared.Place.{Place}
use Rattle.station.specs.declared.Reading.{Reading}
use Rattle.station.specs.Readings.{place_position}
use Rattle.limit.specs.Rules.{Rule, SentBy, Sound}
use Rattle.limit.proofs.Best.{untold, all_counted, ours_best}
use Rattle.confirmation.specs.declared.Send.{Send}
use Rattle.confirmation.specs.Sent.{is_sent}
use Rattle.heard.specs.declared.Heard.{Heard}
use Rattle.heard.specs.declared.Heard.TheVariants.{Nothing, Granted, Scheduled, Released}
use Rattle.reply.specs.declared.Reply.{Reply}
use Rattle.agreement.specs.Confirmation.{sent_there}
use Rattle.agreement.specs.Run.{sent_of, sent_ago, window_at, Brings}
use Rattle.agreement.specs.Window.{state_in, ReadAs, MultiplexedReply}

-- Where nothing was sent, the position is D.
unsent_dtx : (x : Send) (y : Heard) → Brings x y → is_sent x ≡ false → state_in y ≡ Dtx
unsent_dtx x y (inl e) unsent = rw e
unsent_dtx x y (inr e) unsent = go y (sym (ap is_sent e ∙ unsent))
  where
    go : (y : Heard) → false ≡ is_sent (sent_of y) → state_in y ≡ Dtx
    go Nothing f = refl
    go (Granted g) f = absurd (false≢true f)
    go (Scheduled b) f = absurd (false≢true f)
    go (Released p) f = absurd (false≢true f)

-- What is read as this has its position.
read_position : (m : ℕ) (x : Heard) (named : Place) → ReadAs m x named → place_position named ≡ m
read_position m Nothing named e = absurd e
read_position m (Granted g) named e = ap place_position e
read_position m (Scheduled b) named e = ap place_position e
read_position m (Released p) named e = ap place_position e

module _ (set : Settings) (sent : ℕ → Send) (s : ℕ) (H : ℕ → Heard) (brings : (k : ℕ) → Brings (sent_ago sent s k) (H k)) where
  abbrev states : List State
  states = map (λ (k : ℕ). state_in (H k)) (window_at set s)

  outside : (p : ℕ) → (p < length (window_at set s) → ⊥) → get_or states p Dtx ≡ Dtx
  outside p h = get_or-eq_default states Dtx {n = p} (omega (arith, length-map (window_at set s) (λ (k : ℕ). state_in (H k))))

  unsent : (p : ℕ) → sent_there set sent s p ≡ false → get_or states p Dtx ≡ Dtx
  unsent p e = go (dec_lt p (length (window_at set s)))
    where
      go : Dec (p < length (window_at set s)) → get_or states p Dtx ≡ Dtx
      go (yes h) =
          lists.entry (λ (k : ℕ). state_in (H k)) (window_at set s) p Dtx 0 h
          ∙ unsent_dtx (sent_ago sent s (get_or (window_at set s) p 0)) (H (get_or (window_at set s) p 0)) (brings (get_or (window_at set s) p 0))
          (rw (lt-ltb p (length (window_at set s)) h) at e)
      go (no h) = outside p h

  module _ {resource : ℕ → ℕ → Result Resource ℕ} {read : ℕ → ℕ → ℕ → Result Reading ℕ} {r : Reply} (reply : MultiplexedReply set resource read (window_at set s) H states r) where
    -- The index is the position of what the reply is read as.
    index_read : place_position reply.named ≡ reply.index
    index_read = read_position reply.index (H (get_or (window_at set s) reply.index 0)) reply.named reply.is_heard

    -- The state of the window is counted, and sends the reply's symbol.
    sent_by : SentBy (length (window_at set s)) (sent_there set sent s) (place_position reply.named) r.b0 r.b1 states
    sent_by =
        record {
          counted = record { of_size = length-map (window_at set s) (λ (k : ℕ). state_in (H k)); unsent = unsent };
          symbol = rw index_read reply.is_symbol;
        }

    pub names_no_more_holds : (rule : Rule)
        → Sound rule (length (window_at set s)) (sent_there set sent s) (place_position reply.named) r.b0 r.b1
        → (m : ℕ) → rule (length (window_at set s)) (sent_there set sent s) (place_position reply.named) r.b0 r.b1 m ≡ true
        → reply.delivered / 2 ^ m % 2 ≡ 1
    names_no_more_holds rule sound m e = go (dec_lt m (length (window_at set s)))
      where
        -- what the rule names the best reader names, and so it is A in every state that sends the symbol
        in_every : (ss : List State) → length ss ≡ length (window_at set s) → symbol_of ss ≡ symbol reply.index r.b0 r.b1
            → get_or ss m Dtx ≡ Ack
        in_every ss size is =
            ours_best.sound (length (window_at set s)) (λ (p : ℕ). true) (place_position reply.named) r.b0 r.b1 ss
            (all_counted ss size (rw index_read is)) m
            (untold _ _ _ _ m (λ (p : ℕ). true) (sent_there set sent s) ∙ ours_best.most rule _ _ _ _ _ states sent_by sound m e)

        go : Dec (m < length (window_at set s)) → reply.delivered / 2 ^ m % 2 ≡ 1
        go (yes h) = (reply.exactly m h).1 in_every
        go (no h) = absurd (false≢true (ap is_ack (sym (outside m h) ∙ sound states sent_by m e)))
