-- What a call changes and what it leaves: specs/Exactly.antt, proved. Assumes nothing.
use Prim.Native.Nat.{ℕ, zero, suc, ◌+◌, ◌*◌, ◌/◌, ◌%◌, ◌≤◌, ◌<◌}
use mathlib.Core.Bool.{Bool, true, false, cond, ◌&&◌, ◌||◌}
use mathlib.Core.List.{List, [], ◌++◌, append-nil}
use mathlib.Core.Logic.{◌⊎◌, inl, inr}
use mathlib.Core.Path.{◌≡◌, refl, sym, ap, ◌∙◌}
use native.Mathlib.Omega.{arith}
use lib.Dec.{eqb, leb}
use lib.ListN.{length, get_or, take, drop, length-set, length-append, get_or-append, drop_of_length-le}
use lib.Seq.{length-take-le, get_or-take, drop_at}
use borrow.Author.Tests.{eqb-true, eqb-false, ne_eqb, lt-leb}
use Rattle.std.proofs.lemmas.Bool.{and_parts, or_cases}
use Rattle.std.proofs.lemmas.List.{get_or-set_same, get_or-set_other}
use Rattle.std.proofs.Common.{Result, Ok, Err}
use Rattle.frame.specs.Refusals.{number_in}
use Rattle.heard.specs.declared.Heard.{Heard}
use Rattle.heard.specs.Memory.{bit}
use Rattle.reply.specs.declared.Answer.{Answer}
use Rattle.reply.specs.declared.Answer.TheVariants.{Taken, NoWindow, Silent, Sent}
use Rattle.reply.specs.Kinds.{kind_number}
use Rattle.handset.specs.declared.Handset.{Handset}
use Rattle.handset.specs.Feed.{Fed, fed_as, feed_refusal, feed_of}
use Rattle.reader.specs.Record.{slot_at, brought_by}
use Rattle.replaying.specs.Written.{window_bytes, bytes_of, window_fed, put_at}
use Rattle.replaying.proofs.Putting.{length_put}
use Rattle.registers.specs.Exactly.{Shown, BothHave, CallExactly, CallsExactly}
use Rattle.registers.proofs.Lists.{refusal_keeps}
use Rattle.registers.specs.declared.flags.Flags.{Flags}
use Rattle.registers.specs.Flags.{flags_in, flags_put, with_refusal, with_reply, without, raised}
use Rattle.registers.specs.Call.{flagged, refused_block, cleared_block, shown_block, window_brought, handset_fed, Obeyed, replied, obeyed, block_after, line_of, AfterCommand, after_command, command_of}

-- A byte with flags put in: its bits are these, and what stands above them is as it was.
bits : (q : ℕ) (a b c : Bool)
    → ((q * 8 + bit a + 2 * bit b + 4 * bit c) % 2 ≡ bit a)
    × ((q * 8 + bit a + 2 * bit b + 4 * bit c) / 2 % 2 ≡ bit b)
    × ((q * 8 + bit a + 2 * bit b + 4 * bit c) / 4 % 2 ≡ bit c)
bits q true true true = (omega arith, omega arith, omega arith)
bits q true true false = (omega arith, omega arith, omega arith)
bits q true false true = (omega arith, omega arith, omega arith)
bits q true false false = (omega arith, omega arith, omega arith)
bits q false true true = (omega arith, omega arith, omega arith)
bits q false true false = (omega arith, omega arith, omega arith)
bits q false false true = (omega arith, omega arith, omega arith)
bits q false false false = (omega arith, omega arith, omega arith)

is_one : (a : Bool) → eqb (bit a) 1 ≡ a
is_one true = refl
is_one false = refl

flags_are : (x : ℕ) (f : Flags) → flags_in (flags_put x f) ≡ f
flags_are x f = let b = bits (x / 8) f.ready f.refused f.overwritten in rw (b.0, b.1, b.2, is_one f.ready, is_one f.refused, is_one f.overwritten)

above_kept : (x : ℕ) (f : Flags) → flags_put x f / 8 ≡ x / 8
above_kept x f = go f.ready f.refused f.overwritten
  where
    go : (a b c : Bool) → (x / 8 * 8 + bit a + 2 * bit b + 4 * bit c) / 8 ≡ x / 8
    go true true true = omega arith
    go true true false = omega arith
    go true false true = omega arith
    go true false false = omega arith
    go false true true = omega arith
    go false true false = omega arith
    go false false true = omega arith
    go false false false = omega arith

-- A command that there is, or another one.
abbrev Command : ℕ → Type 0
Command c = (c ≡ 0) ⊎ ((c ≡ 1) ⊎ ((c ≡ 2) ⊎ (2 < c)))

at_most_two : (c : ℕ) → Command c
at_most_two zero = inl refl
at_most_two (suc zero) = inr (inl refl)
at_most_two (suc (suc zero)) = inr (inr (inl refl))
at_most_two (suc (suc (suc c))) = inr (inr (inr (omega arith)))

-- A feed's refusal is not 0.
refusal_some : (h : Handset) (x : Heard) (k : ℕ) → (feed_of h x).answer ≡ Err k → k ≡ 0 → ⊥
unfolding feed_of
refusal_some h x k e none = go (feed_refusal h x) e
  where
    go : (j : ℕ) → (fed_as j h x).answer ≡ Err k → ⊥
    go zero e = absurd (cc)
    go (suc j) e = absurd (cc)

-- None, clear, a kind over 3 and a command over 2, with a handset; so is a block that has not 16 bytes.
abbrev quietly : List ℕ → Handset → Bool → Bool → Bool → Bool → AfterCommand
quietly b h whole none feed clear =
    cond whole
    (after_command b
    (cond none (record { block = Ok b; handset = h })
    (cond feed (record { block = Err 22; handset = h })
    (cond clear (record { block = Ok (cleared_block b); handset = h })
    (record { block = Err 28; handset = h })))))
    (record { told = record { refusal = 29; line = false; handset = h }; block = b })

other_handset : (b : List ℕ) (h other : Handset) → (get_or b 4 0 ≡ 1 → 3 < get_or b 0 0)
    → command_of b other
    ≡ record { told = record { refusal = (command_of b h).told.refusal; line = (command_of b h).told.line; handset = other }; block = (command_of b h).block }
unfolding command_of obeyed window_brought handset_fed slot_at
other_handset b h other quiet = by_command (eqb (get_or b 4 0) 1) refl
  where
    go : (whole none feed clear : Bool)
        → quietly b other whole none feed clear
        ≡ record {
          told = record { refusal = (quietly b h whole none feed clear).told.refusal; line = (quietly b h whole none feed clear).told.line; handset = other };
          block = (quietly b h whole none feed clear).block;
        }
    go false none feed clear = refl
    go true true feed clear = refl
    go true false true clear = refl
    go true false false true = refl
    go true false false false = refl

    by_command : (feed : Bool) → eqb (get_or b 4 0) 1 ≡ feed
        → command_of b other
        ≡ record { told = record { refusal = (command_of b h).told.refusal; line = (command_of b h).told.line; handset = other }; block = (command_of b h).block }
    by_command true e =
        rw (e, lt-leb (get_or b 0 0) 3 (quiet (eqb-true (get_or b 4 0) 1 e)))
        (go (eqb (length b) 16) (eqb (get_or b 4 0) 0) true (eqb (get_or b 4 0) 2))
    by_command false e = rw e (go (eqb (length b) 16) (eqb (get_or b 4 0) 0) false (eqb (get_or b 4 0) 2))

-- The line, bit by bit.
module _ (x y : ℕ) where
  ones : (u v : ℕ) → (eqb u 1 && eqb v 1) ≡ true → (u ≡ 1) × (v ≡ 1)
  ones u v e = let p = and_parts (eqb u 1) (eqb v 1) e in (eqb-true u 1 p.0, eqb-true v 1 p.1)

  high : raised (flags_in x) (flags_in y) ≡ true → (i : ℕ) × (i ≤ 2) × BothHave i x y
  high e = go (or_cases _ (eqb (x / 4 % 2) 1 && eqb (y / 4 % 2) 1) e)
    where
      first : (x % 2 ≡ 1) × (y % 2 ≡ 1) → BothHave 0 x y
      first e = (omega (arith, e.0), omega (arith, e.1))

      two : ((eqb (x % 2) 1 && eqb (y % 2) 1) ≡ true) ⊎ ((eqb (x / 2 % 2) 1 && eqb (y / 2 % 2) 1) ≡ true) → (i : ℕ) × (i ≤ 2) × BothHave i x y
      two (inl a) = (0, omega arith, first (ones (x % 2) (y % 2) a))
      two (inr b) = (1, omega arith, ones (x / 2 % 2) (y / 2 % 2) b)

      go : ((eqb (x % 2) 1 && eqb (y % 2) 1 || eqb (x / 2 % 2) 1 && eqb (y / 2 % 2) 1) ≡ true) ⊎ ((eqb (x / 4 % 2) 1 && eqb (y / 4 % 2) 1) ≡ true)
          → (i : ℕ) × (i ≤ 2) × BothHave i x y
      go (inl ab) = two (or_cases (eqb (x % 2) 1 && eqb (y % 2) 1) (eqb (x / 2 % 2) 1 && eqb (y / 2 % 2) 1) ab)
      go (inr c) = (2, omega arith, ones (x / 4 % 2) (y / 4 % 2) c)

  some_high : (i : ℕ) → i ≤ 2 → BothHave i x y → raised (flags_in x) (flags_in y) ≡ true
  some_high zero low e =
      let a : x % 2 ≡ 1 = omega (arith, e.0) in
      let b : y % 2 ≡ 1 = omega (arith, e.1) in
      rw (a, b)
  some_high (suc zero) low e = rw (e.0, e.1) (midst (eqb (x % 2) 1 && eqb (y % 2) 1) (eqb (x / 4 % 2) 1 && eqb (y / 4 % 2) 1))
    where
      midst : (a c : Bool) → (a || true || c) ≡ true
      midst true c = refl
      midst false c = refl
  some_high (suc (suc zero)) low e = rw (e.0, e.1) (last (eqb (x % 2) 1 && eqb (y % 2) 1) (eqb (x / 2 % 2) 1 && eqb (y / 2 % 2) 1))
    where
      last : (a b : Bool) → (a || b || true) ≡ true
      last true b = refl
      last false true = refl
      last false false = refl
  some_high (suc (suc (suc i))) low e = absurd (omega arith)

-- Bytes that are put at byte 8 leave those before.
before_put : (l new : List ℕ) → 8 ≤ length l → (i : ℕ) → i < 8 → get_or (put_at 8 new l) i 0 ≡ get_or l i 0
before_put l new long i low =
    let front : length (take 8 l) ≡ 8 = length-take-le 8 l long in
    get_or-append (take 8 l ++ new) (drop (8 + length new) l) 0 i (rw (length-append (take 8 l) new, front) (omega arith))
    ∙ get_or-append (take 8 l) new 0 i (rw front low)
    ∙ get_or-take 8 l i 0 low

-- What a command that is not refused leaves.
record Left (b new : List ℕ) : Type 0 where
  same_length : length new ≡ length b
  kept : (i : ℕ) → i ≤ 7 → (i ≡ 5 → ⊥) → get_or new i 0 ≡ get_or b i 0
  above : get_or new 5 0 / 8 ≡ get_or b 5 0 / 8

abbrev LeftOrRefused : List ℕ → Result (List ℕ) ℕ → Type 0
LeftOrRefused b (Ok new) = Left b new
LeftOrRefused b (Err k) = k ≡ 0 → ⊥

module _ (b : List ℕ) (whole : length b ≡ 16) where
  module _ (change : Flags → Flags) where
    flags_there : get_or (flagged change b) 5 0 ≡ flags_put (get_or b 5 0) (change (flags_in (get_or b 5 0)))
    flags_there = get_or-set_same b 5 _ 0 (omega (arith, whole))

    flags_above : get_or (flagged change b) 5 0 / 8 ≡ get_or b 5 0 / 8
    flags_above = ap (λ (x : ℕ). x / 8) flags_there ∙ above_kept (get_or b 5 0) (change (flags_in (get_or b 5 0)))

    flags_other : (i : ℕ) → (i ≡ 5 → ⊥) → get_or (flagged change b) i 0 ≡ get_or b i 0
    flags_other i other = get_or-set_other b 5 i _ 0 other

    flags_length : length (flagged change b) ≡ length b
    flags_length = length-set b 5 _

    left_flagged : Left b (flagged change b)
    left_flagged = record { same_length = flags_length; kept = λ i low other. flags_other i other; above = flags_above }

    left_put : (reply : List ℕ) → length reply ≡ 8 → Left b (put_at 8 reply (flagged change b))
    left_put reply eight =
        let long : 8 ≤ length (flagged change b) = omega (arith, flags_length, whole) in
        record {
          same_length = length_put (flagged change b) 8 reply (omega (arith, flags_length, whole, eight)) ∙ flags_length;
          kept = λ i low other. before_put (flagged change b) reply long i (omega arith) ∙ flags_other i other;
          above = ap (λ (x : ℕ). x / 8) (before_put (flagged change b) reply long 5 (omega arith)) ∙ flags_above;
        }

    -- A reply of eight bytes, and its flags.
    put_reply : (reply : List ℕ) → length reply ≡ 8 → drop 8 (put_at 8 reply (flagged change b)) ≡ reply
    put_reply reply eight =
        let none : drop (8 + length reply) (flagged change b) ≡ [] = drop_of_length-le (flagged change b) {i = 8 + length reply} (omega (arith, flags_length, whole, eight)) in
        rw (none, append-nil (take 8 (flagged change b) ++ reply))
        (drop_at (take 8 (flagged change b)) reply 8 (length-take-le 8 (flagged change b) (omega (arith, flags_length, whole))))

    put_flags : (reply : List ℕ) → flags_in (get_or (put_at 8 reply (flagged change b)) 5 0) ≡ change (flags_in (get_or b 5 0))
    put_flags reply =
        ap flags_in (before_put (flagged change b) reply (omega (arith, flags_length, whole)) 5 (omega arith) ∙ flags_there)
        ∙ flags_are (get_or b 5 0) (change (flags_in (get_or b 5 0)))

  left_as_it_was : Left b b
  left_as_it_was = record { same_length = refl; kept = λ i low other. refl; above = refl }

  by_answer : (n : ℕ) (x : Result Answer ℕ) → ((k : ℕ) → x ≡ Err k → k ≡ 0 → ⊥) → LeftOrRefused b (replied b (window_fed n x))
  unfolding window_bytes
  by_answer n (Err k) some = some k refl
  by_answer n (Ok Taken) some = left_as_it_was
  by_answer n (Ok NoWindow) some = left_as_it_was
  by_answer n (Ok Silent) some = left_put with_reply (window_bytes n 0 0 0 0) refl
  by_answer n (Ok (Sent a)) some = left_put with_reply (window_bytes n (kind_number a.kind) a.resource.0 a.b0 a.b1) refl

  -- What a command does, by the tests of its byte and of the record's kind, where the feed is f.
  abbrev done : Handset → Fed → Bool → Bool → Bool → Bool → Obeyed
  done h f a c d known =
      cond a (record { block = Ok b; handset = h })
      (cond c (record { block = replied b (cond known (window_fed h.next f.answer) (Err 22)); handset = cond known f.handset h })
      (cond d (record { block = Ok (cleared_block b); handset = h })
      (record { block = Err 28; handset = h })))

  module _ (h : Handset) where
    left : LeftOrRefused b (obeyed b h).block
    unfolding obeyed window_brought handset_fed
    left = go (eqb (get_or b 4 0) 0) (eqb (get_or b 4 0) 1) (eqb (get_or b 4 0) 2) (leb (slot_at b 0).kind 3)
      where
        f : Fed
        f = feed_of h (brought_by (slot_at b 0))

        go : (a c d known : Bool) → LeftOrRefused b (done h f a c d known).block
        go true c d known = left_as_it_was
        go false true d true = by_answer h.next f.answer (refusal_some h (brought_by (slot_at b 0)))
        go false true d false = λ e. omega arith
        go false false true known = left_flagged (λ f. without f (flags_in (get_or b 0 0)))
        go false false false known = λ e. omega arith

    -- Where a feed is refused the handset is as it was.
    refusal_leaves : (k : ℕ) → (obeyed b h).block ≡ Err k → (obeyed b h).handset ≡ h
    unfolding obeyed window_brought handset_fed
    refusal_leaves = go (eqb (get_or b 4 0) 0) (eqb (get_or b 4 0) 1) (eqb (get_or b 4 0) 2) (leb (slot_at b 0).kind 3)
      where
        f : Fed
        f = feed_of h (brought_by (slot_at b 0))

        fed : (x : Result Answer ℕ) → f.answer ≡ x → (k : ℕ) → replied b (window_fed h.next x) ≡ Err k → f.handset ≡ h
        fed (Err j) is k e = refusal_keeps h (brought_by (slot_at b 0)) j is
        fed (Ok Taken) is k e = absurd (cc)
        fed (Ok NoWindow) is k e = absurd (cc)
        fed (Ok Silent) is k e = absurd (cc)
        fed (Ok (Sent a)) is k e = absurd (cc)

        go : (a c d known : Bool) (k : ℕ) → (done h f a c d known).block ≡ Err k → (done h f a c d known).handset ≡ h
        go true c d known k e = refl
        go false true d true k e = fed f.answer refl k e
        go false true d false k e = refl
        go false false true known k e = refl
        go false false false known k e = refl

    -- Its refusal, by the numbers of bytes 4 and 0.
    number : number_in (obeyed b h).block
        ≡ cond (leb (get_or b 4 0) 2)
        (cond (eqb (get_or b 4 0) 1) (cond (leb (get_or b 0 0) 3) (number_in (feed_of h (brought_by (slot_at b 0))).answer) 22) 0)
        28
    unfolding obeyed window_brought handset_fed slot_at
    number = go (get_or b 4 0) (at_most_two (get_or b 4 0))
      where
        f : Fed
        f = feed_of h (brought_by (slot_at b 0))

        told : (x : Result Answer ℕ) → number_in (replied b (window_fed h.next x)) ≡ number_in x
        told (Err k) = refl
        told (Ok Taken) = refl
        told (Ok NoWindow) = refl
        told (Ok Silent) = refl
        told (Ok (Sent a)) = refl

        fed : (known : Bool) → number_in (replied b (cond known (window_fed h.next f.answer) (Err 22))) ≡ cond known (number_in f.answer) 22
        fed true = told f.answer
        fed false = refl

        go : (c : ℕ) → Command c
            → number_in (done h f (eqb c 0) (eqb c 1) (eqb c 2) (leb (get_or b 0 0) 3)).block
            ≡ cond (leb c 2) (cond (eqb c 1) (cond (leb (get_or b 0 0) 3) (number_in f.answer) 22) 0) 28
        go c (inl zeroth) = rw zeroth
        go c (inr (inl first)) = rw first (fed (leb (get_or b 0 0) 3))
        go c (inr (inr (inl second))) = rw second
        go c (inr (inr (inr over))) =
            rw (ne_eqb c 0 (λ e. omega arith), ne_eqb c 1 (λ e. omega arith), ne_eqb c 2 (λ e. omega arith), lt-leb c 2 over)

    made : command_of b h ≡ after_command b (obeyed b h)
    unfolding command_of
    made = rw whole

    -- What stays after any command, by its result.
    after_length : (x : Result (List ℕ) ℕ) → LeftOrRefused b x → length (block_after b x) ≡ length b
    after_length (Ok new) l = l.same_length
    after_length (Err k) l = length-set (flagged with_refusal b) 7 k ∙ flags_length with_refusal

    refused_other : (k i : ℕ) → (i ≡ 5 → ⊥) → (i ≡ 7 → ⊥) → get_or (refused_block b k) i 0 ≡ get_or b i 0
    refused_other k i five seven = get_or-set_other (flagged with_refusal b) 7 i k 0 seven ∙ flags_other with_refusal i five

    refused_flags : (k : ℕ) → get_or (refused_block b k) 5 0 ≡ flags_put (get_or b 5 0) (with_refusal (flags_in (get_or b 5 0)))
    refused_flags k = get_or-set_other (flagged with_refusal b) 7 5 k 0 (λ e. omega arith) ∙ flags_there with_refusal

    after_kept : (x : Result (List ℕ) ℕ) → LeftOrRefused b x → (i : ℕ) → i ≤ 6 → (i ≡ 5 → ⊥) → get_or (block_after b x) i 0 ≡ get_or b i 0
    after_kept (Ok new) l i low other = l.kept i (omega arith) other
    after_kept (Err k) l i low other = refused_other k i other (λ e. omega arith)

    after_above : (x : Result (List ℕ) ℕ) → LeftOrRefused b x → get_or (block_after b x) 5 0 / 8 ≡ get_or b 5 0 / 8
    after_above (Ok new) l = l.above
    after_above (Err k) l = ap (λ (y : ℕ). y / 8) (refused_flags k) ∙ above_kept (get_or b 5 0) (with_refusal (flags_in (get_or b 5 0)))

    after_number : (x : Result (List ℕ) ℕ) → LeftOrRefused b x → number_in x ≡ 0 → get_or (block_after b x) 7 0 ≡ get_or b 7 0
    after_number (Ok new) l e = l.kept 7 (omega arith) (λ e. omega arith)
    after_number (Err k) l e = absurd (l e)

    nothing_obeyed : get_or b 4 0 ≡ 0 → obeyed b h ≡ record { block = Ok b; handset = h }
    unfolding obeyed
    nothing_obeyed e = rw e

    clear_obeyed : get_or b 4 0 ≡ 2 → obeyed b h ≡ record { block = Ok (cleared_block b); handset = h }
    unfolding obeyed
    clear_obeyed e = rw e

    feed_obeyed : get_or b 4 0 ≡ 1 → obeyed b h ≡ record { block = replied b (window_brought b h); handset = handset_fed b h }
    unfolding obeyed
    feed_obeyed e = rw e

    -- A feed that is not refused.
    fed_shown : number_in (replied b (window_brought b h)) ≡ 0
        → Shown (bytes_of h.next (feed_of h (brought_by (slot_at b 0))).answer) b (block_after b (replied b (window_brought b h)))
        × (handset_fed b h ≡ (feed_of h (brought_by (slot_at b 0))).handset)
    unfolding window_brought handset_fed window_bytes
    fed_shown = go (leb (slot_at b 0).kind 3) f.answer refl
      where
        f : Fed
        f = feed_of h (brought_by (slot_at b 0))

        reply : (r : List ℕ) → length r ≡ 8 → (drop 8 (shown_block b r) ≡ r) × (flags_in (get_or (shown_block b r) 5 0) ≡ with_reply (flags_in (get_or b 5 0)))
        reply r eight = (put_reply with_reply r eight, put_flags with_reply r)

        go : (known : Bool) (x : Result Answer ℕ) → f.answer ≡ x → number_in (replied b (cond known (window_fed h.next x) (Err 22))) ≡ 0
            → Shown (bytes_of h.next x) b (block_after b (replied b (cond known (window_fed h.next x) (Err 22))))
            × (cond known f.handset h ≡ f.handset)
        go false x is e = absurd (omega arith)
        go true (Err k) is e = absurd (refusal_some h (brought_by (slot_at b 0)) k is e)
        go true (Ok Taken) is e = (refl, refl)
        go true (Ok NoWindow) is e = (refl, refl)
        go true (Ok Silent) is e = (reply (window_bytes h.next 0 0 0 0) refl, refl)
        go true (Ok (Sent a)) is e = (reply (window_bytes h.next (kind_number a.kind) a.resource.0 a.b0 a.b1) refl, refl)

    line_told : (command_of b h).told.line ≡ line_of (command_of b h).block
    line_told = rw made

    exactly : CallExactly command_of b h
    exactly =
        let k : ℕ = number_in (obeyed b h).block in
        record {
          refusal = rw (made, whole) number;
          same_length = ap (λ (a : AfterCommand). length a.block) made ∙ after_length (obeyed b h).block left;
          untouched = λ short. absurd (short whole);
          kept = λ i low other. ap (λ (a : AfterCommand). get_or a.block i 0) made ∙ after_kept (obeyed b h).block left i low other;
          above = ap (λ (a : AfterCommand). get_or a.block 5 0 / 8) made ∙ after_above (obeyed b h).block left;
          refused = λ k sixteen e.
              let s = shown k (obeyed b h).block refl (rw made at e) in (
                λ i five seven. ap (λ (a : AfterCommand). get_or a.block i 0) made ∙ s.0 i five seven,
                ap (λ (a : AfterCommand). get_or a.block 7 0) made ∙ s.1,
                ap (λ (a : AfterCommand). flags_in (get_or a.block 5 0)) made ∙ s.2,
                ap (λ (a : AfterCommand). a.told.handset) made ∙ s.3,
              );
          number_kept = λ e. ap (λ (a : AfterCommand). get_or a.block 7 0) made ∙ after_number (obeyed b h).block left (rw made at e);
          none = λ sixteen e. ap (λ (a : AfterCommand). a.block) made ∙ ap (λ (o : Obeyed). block_after b o.block) (nothing_obeyed e);
          clear = λ sixteen e.
              let is = ap (λ (a : AfterCommand). a.block) made ∙ ap (λ (o : Obeyed). block_after b o.block) (clear_obeyed e) in
              let dropped : Flags → Flags = λ f. without f (flags_in (get_or b 0 0)) in (
                λ i five. ap (λ (l : List ℕ). get_or l i 0) is ∙ flags_other dropped i five,
                ap (λ (l : List ℕ). flags_in (get_or l 5 0)) is
                    ∙ ap flags_in (flags_there dropped)
                    ∙ flags_are (get_or b 5 0) (dropped (flags_in (get_or b 5 0))),
              );
          any_handset = λ other quiet. other_handset b h other (quiet whole);
          fed = λ sixteen e none. rw (made, feed_obeyed e) (fed_shown (rw (made, feed_obeyed e) at none));
          line = λ sixteen.
              let x : ℕ = get_or (command_of b h).block 5 0 in
              let y : ℕ = get_or (command_of b h).block 6 0 in
              (λ e. high x y (sym line_told ∙ e), λ e. line_told ∙ some_high x y e.0 e.1 e.2);
        }
      where
        shown : (k : ℕ) (x : Result (List ℕ) ℕ) → (obeyed b h).block ≡ x → number_in x ≡ suc k
            → ((i : ℕ) → (i ≡ 5 → ⊥) → (i ≡ 7 → ⊥) → get_or (block_after b x) i 0 ≡ get_or b i 0)
            × (get_or (block_after b x) 7 0 ≡ suc k)
            × (flags_in (get_or (block_after b x) 5 0) ≡ with_refusal (flags_in (get_or b 5 0)))
            × ((obeyed b h).handset ≡ h)
        shown k (Ok new) is e = absurd (omega (arith, e))
        shown k (Err j) is e = (
          λ i five seven. refused_other j i five seven,
          get_or-set_same (flagged with_refusal b) 7 j 0 (omega (arith, flags_length with_refusal, whole)) ∙ e,
          ap flags_in (refused_flags j) ∙ flags_are (get_or b 5 0) (with_refusal (flags_in (get_or b 5 0))),
          refusal_leaves j is,
        )

short_left : (b : List ℕ) (h : Handset) → (length b ≡ 16 → ⊥) → command_of b h ≡ record { told = record { refusal = 29; line = false; handset = h }; block = b }
unfolding command_of
short_left b h short = rw (ne_eqb (length b) 16 short)

short_exactly : (b : List ℕ) (h : Handset) → (length b ≡ 16 → ⊥) → CallExactly command_of b h
short_exactly b h short =
    let made = short_left b h short in
    record {
      refusal = rw (made, ne_eqb (length b) 16 short);
      same_length = ap (λ (a : AfterCommand). length a.block) made;
      untouched = λ short. (ap (λ (a : AfterCommand). a.block) made, ap (λ (a : AfterCommand). a.told.line) made, ap (λ (a : AfterCommand). a.told.handset) made);
      kept = λ i low five. ap (λ (a : AfterCommand). get_or a.block i 0) made;
      above = ap (λ (a : AfterCommand). get_or a.block 5 0 / 8) made;
      refused = λ k sixteen e. absurd (short sixteen);
      number_kept = λ e. ap (λ (a : AfterCommand). get_or a.block 7 0) made;
      none = λ sixteen e. absurd (short sixteen);
      clear = λ sixteen e. absurd (short sixteen);
      any_handset = λ other quiet. rw (made, short_left b other short);
      fed = λ sixteen e none. absurd (short sixteen);
      line = λ sixteen. absurd (short sixteen);
    }

pub calls_exactly : CallsExactly command_of
calls_exactly b h = go (eqb (length b) 16) refl
  where
    go : (whole : Bool) → eqb (length b) 16 ≡ whole → CallExactly command_of b h
    go true e = exactly b (eqb-true (length b) 16 e) h
    go false e = short_exactly b h (eqb-false (length b) 16 e)
