-- The call and the running handset with the flags beside it agree: specs/Lists.antt, proved. Assumes nothing.
use Prim.Native.Nat.{ℕ, zero, suc, ◌+◌, ◌*◌, ◌/◌, ◌%◌}
use mathlib.Core.Bool.{Bool, true, false, cond, ◌&&◌, ◌||◌, not}
use mathlib.Core.List.{List, [], ◌∷◌, append-nil}
use mathlib.Core.Path.{◌≡◌, refl, sym, ap, ◌∙◌}
use native.Mathlib.Omega.{arith}
use lib.Dec.{eqb, leb}
use lib.ListN.{length, drop, drop_of_length-le}
use Rattle.std.proofs.Common.{Result, Ok, Err}
use Rattle.frame.specs.Refusals.{number_in}
use Rattle.heard.specs.declared.Heard.{Heard}
use Rattle.heard.specs.Memory.{bit, none}
use Rattle.reply.specs.declared.Answer.{Answer}
use Rattle.reply.specs.declared.Answer.TheVariants.{Taken, NoWindow, Silent, Sent}
use Rattle.reply.specs.Kinds.{kind_number}
use Rattle.handset.specs.declared.Handset.{Handset}
use Rattle.handset.specs.Feed.{Fed, fed_as, feed_refusal, feed_of}
use Rattle.reader.specs.Record.{slot_at, brought_by}
use Rattle.replaying.specs.Written.{window_bytes, window_fed, put_at}
use Rattle.registers.specs.declared.flags.Flags.{Flags}
use Rattle.registers.specs.Flags.{flags_in, flags_put, with_refusal, with_reply, without, raised}
use Rattle.registers.specs.Call.{refused_block, cleared_block, shown_block, window_brought, handset_fed, Obeyed, replied, obeyed, block_after, line_of, command_of}
use Rattle.registers.specs.Machine.{Written, Running, started, refuse, arrive, answered, has, drop_flags, interrupt, Stepped, refused_as, feed_step, step, flags_byte, shown_as, seen}
use Rattle.registers.specs.Lists.{rewritten, calls, runs, BlockEquals}

-- The three flags in a byte, and back.
flags_back : (a b c : Bool) → flags_in (bit a + 2 * bit b + 4 * bit c) ≡ record { ready = a; refused = b; overwritten = c }
flags_back true true true = refl
flags_back true true false = refl
flags_back true false true = refl
flags_back true false false = refl
flags_back false true true = refl
flags_back false true false = refl
flags_back false false true = refl
flags_back false false false = refl

put_back : (a b c : Bool) (f : Flags) → flags_put (bit a + 2 * bit b + 4 * bit c) f ≡ bit f.ready + 2 * bit f.refused + 4 * bit f.overwritten
put_back true true true f = omega arith
put_back true true false f = omega arith
put_back true false true f = omega arith
put_back true false false f = omega arith
put_back false true true f = omega arith
put_back false true false f = omega arith
put_back false false true f = omega arith
put_back false false false f = omega arith

rewritten_shown : (w v : Written) (r : Running) → rewritten w (shown_as v r) ≡ shown_as w r
rewritten_shown w v r = refl

-- Bit 0 of a byte.
first_bit : (x : ℕ) → has 0 x ≡ eqb (x % 2) 1
first_bit x = ap (λ (y : ℕ). eqb (y % 2) 1) (omega arith)

-- A flag that stays unless it is dropped, and one that is set where another was.
dropped : (a b : Bool) → (a && not b) ≡ cond b false a
dropped true true = refl
dropped true false = refl
dropped false true = refl
dropped false false = refl

besides : (a b : Bool) → (a || b) ≡ cond b true a
besides true true = refl
besides true false = refl
besides false true = refl
besides false false = refl

-- A reply of eight bytes over another one.
eight_over : (a b c d e f g h : ℕ) (new old : List ℕ) → length new ≡ 8 → length old ≡ 8
    → put_at 8 new (a ∷ b ∷ c ∷ d ∷ e ∷ f ∷ g ∷ h ∷ old) ≡ a ∷ b ∷ c ∷ d ∷ e ∷ f ∷ g ∷ h ∷ new
eight_over a b c d e f g h new old n o =
    let none : drop 8 old ≡ [] = drop_of_length-le old {i = 8} (omega (arith, o)) in
    rw (n, none, append-nil new)

module _ (w : Written) (r : Running) where
  -- The flags in byte 5 after a change of theirs.
  flags_changed : (change : Flags → Flags) (a b c : Bool)
      → change (record { ready = r.ready; refused = r.refused; overwritten = r.overwritten }) ≡ record { ready = a; refused = b; overwritten = c }
      → flags_put (flags_byte r) (change (flags_in (flags_byte r))) ≡ bit a + 2 * bit b + 4 * bit c
  flags_changed change a b c e =
      rw (flags_back r.ready r.refused r.overwritten, e)
      (put_back r.ready r.refused r.overwritten (record { ready = a; refused = b; overwritten = c }))

  refused_same : (k : ℕ) → refused_block (shown_as w r) k ≡ shown_as w (refuse k r)
  refused_same k =
      ap (λ (x : ℕ). w.slot.kind ∷ w.slot.cce ∷ w.slot.dai ∷ w.slot.results ∷ w.command ∷ x ∷ w.mask ∷ k ∷ r.reply)
      (flags_changed with_refusal r.ready true r.overwritten refl)

  cleared_same : cleared_block (shown_as w r) ≡ shown_as w (drop_flags w.slot.kind r)
  cleared_same =
      let x : ℕ = w.slot.kind in
      let first : (r.ready && not (eqb (x % 2) 1)) ≡ cond (has 0 x) false r.ready = rw (first_bit x) (dropped r.ready (eqb (x % 2) 1)) in
      ap (λ (y : ℕ). w.slot.kind ∷ w.slot.cce ∷ w.slot.dai ∷ w.slot.results ∷ w.command ∷ y ∷ w.mask ∷ r.number ∷ r.reply)
      (flags_changed (λ f. without f (flags_in x)) (cond (has 0 x) false r.ready) (cond (has 1 x) false r.refused) (cond (has 2 x) false r.overwritten)
      (rw (first, dropped r.refused (eqb (x / 2 % 2) 1), dropped r.overwritten (eqb (x / 4 % 2) 1))))

  shown_same : (reply : List ℕ) → length reply ≡ 8 → length r.reply ≡ 8 → shown_block (shown_as w r) reply ≡ shown_as w (arrive reply r)
  shown_same reply new old =
      eight_over w.slot.kind w.slot.cce w.slot.dai w.slot.results w.command _ w.mask r.number reply r.reply new old
      ∙ ap (λ (x : ℕ). w.slot.kind ∷ w.slot.cce ∷ w.slot.dai ∷ w.slot.results ∷ w.command ∷ x ∷ w.mask ∷ r.number ∷ reply)
      (flags_changed with_reply true r.refused (cond r.ready true r.overwritten) (rw (besides r.overwritten r.ready)))

  line_same : line_of (shown_as w r) ≡ interrupt w.mask r
  line_same =
      ap (λ (f : Flags). raised f (flags_in w.mask)) (flags_back r.ready r.refused r.overwritten)
      ∙ ap (λ (b : Bool). r.ready && b || r.refused && has 1 w.mask || r.overwritten && has 2 w.mask) (sym (first_bit w.mask))

-- A feed that is refused leaves the handset.
pub refusal_keeps : (h : Handset) (x : Heard) (k : ℕ) → (feed_of h x).answer ≡ Err k → (feed_of h x).handset ≡ h
unfolding feed_of
refusal_keeps h x k e = go (feed_refusal h x) e
  where
    go : (j : ℕ) → (fed_as j h x).answer ≡ Err k → (fed_as j h x).handset ≡ h
    go zero e = absurd (cc)
    go (suc j) e = refl

module _ (w : Written) (r : Running) (eight : length r.reply ≡ 8) where
  -- What a command did to the block and the handset is what it did to the running handset with its flags.
  record Same (o : Obeyed) (s : Stepped) : Type 0 where
    refusal : number_in o.block ≡ s.refusal
    block : block_after (shown_as w r) o.block ≡ shown_as w s.running
    handset : o.handset ≡ s.running.handset
    reply : length s.running.reply ≡ 8

  nothing : Same (record { block = Ok (shown_as w r); handset = r.handset }) (record { refusal = 0; running = r })
  nothing = record { refusal = refl; block = refl; handset = refl; reply = eight }

  refused : (k : ℕ) → Same (record { block = Err k; handset = r.handset }) (refused_as k r)
  refused k = record { refusal = refl; block = refused_same w r k; handset = refl; reply = eight }

  cleared : Same (record { block = Ok (cleared_block (shown_as w r)); handset = r.handset }) (record { refusal = 0; running = drop_flags w.slot.kind r })
  cleared = record { refusal = refl; block = cleared_same w r; handset = refl; reply = eight }

  module _ (h : Handset) where
    by_answer : (x : Result Answer ℕ) → ((k : ℕ) → x ≡ Err k → h ≡ r.handset)
        → Same (record { block = replied (shown_as w r) (window_fed r.handset.next x); handset = h })
        (record { refusal = number_in x; running = answered r.handset.next x h r })
    unfolding window_bytes
    by_answer (Err k) keeps = record { refusal = refl; block = refused_same w r k; handset = keeps k refl; reply = eight }
    by_answer (Ok Taken) keeps = record { refusal = refl; block = refl; handset = refl; reply = eight }
    by_answer (Ok NoWindow) keeps = record { refusal = refl; block = refl; handset = refl; reply = eight }
    by_answer (Ok Silent) keeps =
        record { refusal = refl; block = shown_same w r (window_bytes r.handset.next 0 0 0 0) refl eight; handset = refl; reply = refl }
    by_answer (Ok (Sent a)) keeps =
        let reply : List ℕ = window_bytes r.handset.next (kind_number a.kind) a.resource.0 a.b0 a.b1 in
        record { refusal = refl; block = shown_same w r reply refl eight; handset = refl; reply = refl }

  fed : Same (record { block = replied (shown_as w r) (window_brought (shown_as w r) r.handset); handset = handset_fed (shown_as w r) r.handset }) (feed_step w.slot r)
  unfolding window_brought handset_fed feed_step slot_at
  fed = go (leb w.slot.kind 3)
    where
      f : Fed
      f = feed_of r.handset (brought_by w.slot)

      go : (b : Bool) → Same (record { block = replied (shown_as w r) (cond b (window_fed r.handset.next f.answer) (Err 22)); handset = cond b f.handset r.handset })
          (cond b (record { refusal = number_in f.answer; running = answered r.handset.next f.answer f.handset r }) (refused_as 22 r))
      go true = by_answer f.handset f.answer (refusal_keeps r.handset (brought_by w.slot))
      go false = refused 22

  same : Same (obeyed (shown_as w r) r.handset) (step w r)
  unfolding obeyed step
  same = go (eqb w.command 0) (eqb w.command 1) (eqb w.command 2)
    where
      go : (a b c : Bool)
          → Same
          (cond a (record { block = Ok (shown_as w r); handset = r.handset })
          (cond b (record { block = replied (shown_as w r) (window_brought (shown_as w r) r.handset); handset = handset_fed (shown_as w r) r.handset })
          (cond c (record { block = Ok (cleared_block (shown_as w r)); handset = r.handset })
          (record { block = Err 28; handset = r.handset }))))
          (cond a (record { refusal = 0; running = r })
          (cond b (feed_step w.slot r)
          (cond c (record { refusal = 0; running = drop_flags w.slot.kind r })
          (refused_as 28 r))))
      go true b c = nothing
      go false true c = fed
      go false false true = cleared
      go false false false = refused 28

  pub eight_kept : length (step w r).running.reply ≡ 8
  eight_kept = same.reply

  pub seen_same : command_of (shown_as w r) r.handset ≡ seen w (step w r)
  unfolding command_of
  seen_same =
      let line : line_of (block_after (shown_as w r) (obeyed (shown_as w r) r.handset).block) ≡ interrupt w.mask (step w r).running
      = ap line_of same.block ∙ line_same w (step w r).running in
      rw (eight, same.refusal, line, same.block, same.handset)

along : (v : Written) (r : Running) → length r.reply ≡ 8 → (ws : List Written) → calls command_of (shown_as v r) r.handset ws ≡ runs r ws
along v r eight [] = refl
along v r eight (w ∷ ws) =
    let this = seen_same w r eight in
    let next = along w (step w r).running (eight_kept w r eight) ws in
    rw (this, next)

pub block_equals : BlockEquals command_of
block_equals = record { from_zeros = λ h ws. along nothing_written (started h) refl ws; onwards = along }
  where
    nothing_written : Written
    nothing_written = record { slot = none; command = 0; mask = 0 }
