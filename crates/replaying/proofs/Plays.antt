-- The loop over the records: what holds before record i, and what follows where it goes on, stops and ends. Assumes nothing.
use Prim.Native.Nat.{ℕ, suc, ◌+◌, ◌-◌, ◌*◌, ◌/◌, ◌%◌, ◌≤◌, ◌<◌}
use mathlib.Core.Bool.{cond}
use mathlib.Core.List.{List, [], ◌∷◌, ◌++◌, append_assoc, append-nil}
use mathlib.Core.Path.{◌≡◌, refl, sym, ap, ◌∙◌}
use native.Mathlib.Numerals.{add-one}
use native.Mathlib.Omega.{arith}
use lib.Dec.{eqb, eqb-suc-zero}
use lib.ListN.{length, take, drop, take-append-drop}
use lib.Seq.{length-take-le, drop-drop}
use Rattle.frame.specs.declared.Settings.{Settings}
use Rattle.counting.specs.Windows.{windows_before}
use Rattle.counting.proofs.Frames.{windows_most, windows_rise}
use Rattle.handset.specs.declared.Handset.{Handset}
use Rattle.handset.specs.Feed.{feed_of}
use Rattle.heard.specs.declared.Slot.{Slot}
use Rattle.heard.specs.Memory.{heard_in}
use Rattle.reader.specs.declared.accepted.Trace.{Trace}
use Rattle.reader.specs.Record.{used_in, record_slot}
use Rattle.reply.specs.declared.Answer.{Answer}
use Rattle.frame.proofs.Refused.{from_one}
use Rattle.std.proofs.Common.{Ok, Err}
use Rattle.frame.specs.Refusals.{number_in}
use Rattle.replaying.specs.declared.stop.Stop.{Stop}
use Rattle.replaying.specs.declared.windows.Windows.{Windows}
use Rattle.replaying.specs.declared.stop.Stop.TheVariants.{Refused, AtRecord}
use Rattle.replaying.specs.Ended.{replayed_by, FeedsRecord}
use Rattle.replaying.specs.Ready.{Ready}
use Rattle.replaying.specs.Replay.{brought_from, brought_in, Played, after, played, ended_as, written}
use Rattle.replaying.specs.Written.{answer_bytes, put_at, FitsBytes}
use Rattle.replaying.proofs.Brought.{brought_next}
use Rattle.replaying.proofs.Feeds.{TakenUp, taken_up, grows}
use Rattle.replaying.proofs.Putting.{take_put, drop_put, length_put}

-- Bytes before, in two parts.
after_after : (a b : List ℕ) (p : Played) → after (a ++ b) p ≡ after a (after b p)
after_after a b p = rw (append_assoc a b p.bytes)

module _ (trace : Trace) (h₀ : Handset) (old : Windows) where
  abbrev l : List ℕ
  l = trace.bytes.now

  abbrev records : ℕ
  records = trace.records

  -- All feeds.
  abbrev whole : Played
  whole = played h₀ 0 (brought_in l)

  -- Before a record: what was written is the bytes of the windows before it, and the feeds that are left give the rest.
  pub record Playing (windows : Windows) (h : Handset) (i : ℕ) : Type 0 where
    pub reference : windows.out.ghost_name ≡ old.out.ghost_name
    pub place : windows.written ≡ windows_before h₀.settings.config i
    pub same : length windows.out.now ≡ length old.out.now
    pub later : drop (8 * windows.written) windows.out.now ≡ drop (8 * windows.written) old.out.now
    pub settings : h.settings ≡ h₀.settings
    pub next : h.next ≡ i % 10
    pub left : after (take (8 * windows.written) windows.out.now) (played h i (brought_from l i (records - i))) ≡ whole

  module _ (ready : Ready trace h₀ old) where
    pub begins : Playing old h₀ 0
    unfolding windows_before brought_in
    begins =
        let all : records - 0 ≡ records = omega arith in
        record {
          reference = refl;
          place = ready.none;
          same = refl;
          later = refl;
          settings = refl;
          next = ready.begins;
          left = rw (ready.none, all) (ap (λ (count : ℕ). played h₀ 0 (brought_from l 0 count)) trace.counted);
        }

    module _ (windows : Windows) (h : Handset) (i : ℕ) (p : Playing windows h i) where
      abbrev out : List ℕ
      out = windows.out.now

      abbrev at : ℕ
      at = 8 * windows.written

      inside_all : i ≤ records → at ≤ length out
      inside_all few =
          let c : ℕ = h₀.settings.config in
          let all : i + (records - i) ≡ records = omega (arith, few) in
          let rise : windows_before c i ≤ windows_before c records = rw all at (windows_rise c i (records - i)) in
          omega (arith, rise, p.place, p.same, ready.room)

      -- The feeds ended with this; the answer and the output say it.
      closes : i ≤ records → (k j : ℕ) → record { refusal = k; number = j; bytes = take at out ++ [] } ≡ whole
          → (record { refusal = k; kind = cond (eqb k 0) 1 2; number = j; windows = windows.written } ≡ ended_as whole) × (out ≡ written whole.bytes old.out.now)
      closes few k j e =
          let front : length (take at out) ≡ at = length-take-le at out (inside_all few) in
          let eight : at / 8 ≡ windows.written = omega arith in
          rw (← e, append-nil (take at out), front, eight, ← p.later, take-append-drop at out) (refl, refl)

      -- No record is left.
      pub ends : i ≡ records → (replayed_by (record { windows = windows.written; end = Ok tt }) ≡ ended_as whole) × (out ≡ written whole.bytes old.out.now)
      unfolding played
      ends e =
          let none : records - i ≡ 0 = omega arith in
          closes (omega arith) 0 0 (rw none at p.left)

      module _ (inside : i < records) (t : Slot) (read : t ≡ used_in (record_slot l i)) where
        brings : brought_from l i (records - i) ≡ heard_in t ∷ brought_from l (suc i) (records - suc i)
        brings = brought_next l records i inside t read

        -- The record is refused.
        pub stops : (number : ℕ) → number ≡ i → (stop : Stop) → FeedsRecord number (Err stop) (feed_of h (heard_in t)).answer
            → (replayed_by (record { windows = windows.written; end = Err stop }) ≡ ended_as whole) × (out ≡ written whole.bytes old.out.now)
        unfolding played
        stops number same (Refused k) f = absurd f
        stops number same (AtRecord k j) f =
            let one = from_one k in
            let left = rw (brings, f.0, one.1) at p.left in
            rw (one.1, f.1, same) (rw (eqb-suc-zero one.0) at (closes (omega arith) (suc one.0) i left))

        -- It is not.
        module _ (a : Answer) (f : FeedsRecord i (Ok a) (feed_of h (heard_in t)).answer) where
          abbrev new : List ℕ
          new = answer_bytes h.next a

          taken : TakenUp h (heard_in t)
          taken = taken_up h (heard_in t) (ap number_in f)

          grown : at + length new ≡ 8 * windows_before h₀.settings.config (suc i)
          grown =
              let counted : (j : ℕ) → windows_before h.settings.config j ≡ windows_before h₀.settings.config j = λ j.
              ap (λ (s : Settings). windows_before s.config j) p.settings in
              omega (arith, rw f at (grows h (heard_in t) taken i p.next), counted i, counted (suc i), p.place)

          pub fits : (h.next ≤ 255) × FitsBytes a
          fits = (omega (arith, p.next), rw f at taken.gives.fits)

          pub few : records ≤ 65535 → windows.written < 65535
          few most = omega (arith, p.place, windows_most h₀.settings.config i, inside)

          pub room : at + length new ≤ length out
          room =
              let c : ℕ = h₀.settings.config in
              let all : suc i + (records - suc i) ≡ records = omega (arith, inside) in
              let rise : windows_before c (suc i) ≤ windows_before c records = rw all at (windows_rise c (suc i) (records - suc i)) in
              omega (arith, rise, grown, p.same, ready.room)

          pub goes_on : (h′ : Handset) (w : Windows) → h′ ≡ (feed_of h (heard_in t)).handset → w.out.ghost_name ≡ windows.out.ghost_name
              → 8 * w.written ≡ at + length new → w.out.now ≡ put_at at new out → Playing w h′ (i + 1)
          unfolding played
          goes_on h′ w fed name more put =
              let left = rw (brings, f, ← after_after (take at out) new) at p.left in
              rw fed
              (record {
                reference = name ∙ p.reference;
                place = rw add-one (omega (arith, grown, more));
                same = ap length put ∙ length_put out at new room ∙ p.same;
                later = rw (put, more) (drop_put out at new room ∙ sym (drop-drop (length new) at out) ∙ ap (drop (length new)) p.later ∙ drop-drop (length new) at old.out.now);
                settings = taken.settings ∙ p.settings;
                next = taken.next ∙ rw (p.next) (omega arith);
                left = rw (put, more, take_put out at new room, add-one) left;
              })
