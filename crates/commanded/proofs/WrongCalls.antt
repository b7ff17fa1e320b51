-- What the statements shut out, field by field: a call with a fault, and commands of which the field does not hold.
--
--   BlockEquals, from_zeros
--     a reply that finds no other one overwrites                 not_always_overwritten
--     no reply overwrites                                        not_never_overwritten
--     a command that is not refused resets byte 7                not_number_reset
--     and bit 1                                                  not_flag_reset
--     clear drops the flags of the mask                          not_clear_by_mask
--     byte 8 is the subframe after the one fed                   not_next_subframe
--     a silent window is no reply                                not_silent_unseen
--     a subframe that is taken is a reply                        not_taken_shown
--     a kind over 3 is not refused                               not_kind_fed
--     a command over 2 is none                                   not_command_taken
--     a refusal clears the reply                                 not_reply_cleared
--     a command is done once                                     not_command_reset
--     the line is that of the flags alone                        not_unmasked
--     the line is judged before the command                      not_line_before
--     what a record does not use is remembered                   not_unused_kept
--     the second port's resource is shown                        not_second_port
--     the high byte of the resource comes first                  not_high_first
--   BlockEquals, onwards: on a block that no list of commands from zeros leads to
--     bit 2 where byte 15 is not 0                               not_past_zeros
--   CallsExactly
--     refusal       28 before 29                                 not_command_first
--     same_length   half of the block is lost                    not_half
--     untouched     29 is shown in the block                     not_short_shown
--     kept          the command byte is reset                    not_command_kept
--     above         clear drops bits 3 to 7 of byte 5            not_above_dropped
--     refused       a refusal sets bit 0                         not_refusal_ready
--     number_kept   a command that is not refused resets byte 7  not_number_kept
--     none          none drops the three flags                   not_none_clears
--     clear         clear drops all three flags                  not_all_cleared
--     any_handset   none is refused 8 in a bad state             not_none_refused
--     fed           byte 8 is the subframe after the one fed     not_fed_next
--     line          the line is judged by all eight bits         not_all_bits
--   CommandsRun
--     equals        none shows a reply                           not_made_up
--     handset       a refused feed takes the subframe            not_subframe_taken
--     refusal       no refusal is told                           not_untold
--     reply         byte 8 is the subframe after the one fed     not_reply_next
--                   no reply is announced                        not_unannounced
--                   a subframe that is taken is a reply          not_taken_announced
--     other         none takes a subframe                        not_none_feeds
--   Its other fields, `item` and `holds`, speak of what is done alone, and not of a call.
-- Assumes nothing.
use Prim.Native.Nat.{ℕ, zero, suc, ◌+◌, ◌*◌, ◌/◌, ◌%◌, ◌≤◌}
use mathlib.Core.Bool.{Bool, false, cond, ◌&&◌, ◌||◌, false≢true}
use mathlib.Core.List.{List, [], ◌∷◌, ◌++◌}
use mathlib.Core.Path.{◌≡◌, refl, sym, ap}
use native.Mathlib.Omega.{arith}
use lib.Dec.{eqb, ltb}
use Rattle.std.proofs.Common.{Option, Some, None, Result, Ok}
use lib.ListN.{length, get_or, set, take, replicate}
use Rattle.heard.specs.declared.Heard.TheVariants.{Nothing}
use Rattle.heard.specs.Memory.{none, heard_in}
use Rattle.resource.specs.declared.Resource.{Resource}
use Rattle.handset.specs.declared.Handset.{Handset}
use Rattle.handset.specs.Feed.{feed_of}
use Rattle.handset.specs.Make.{fresh, no_settings, make_of}
use Rattle.handset.specs.Sound.{state_refusal}
use Rattle.reply.specs.declared.Answer.{Answer}
use Rattle.reply.specs.declared.Answer.TheVariants.{Sent}
use Rattle.reader.specs.Record.{slot_at, brought_by}
use Rattle.replaying.specs.Written.{window_bytes, bytes_of}
use Rattle.registers.specs.declared.flags.Flags.{Flags}
use Rattle.registers.specs.Call.{shown_block, AfterCommand, Call, line_of, command_of}
use Rattle.registers.specs.Exactly.{BothHave, CallsExactly}
use Rattle.registers.specs.Machine.{Written, Running}
use Rattle.registers.specs.Lists.{BlockEquals}
use Rattle.engines.proofs.Worked.{cell, times}
use Rattle.commanded.specs.Run.{Act, command, CommandsRun}
use Rattle.commanded.proofs.Worked.{commands, written, nothing_fed, cleared, made, two_ports}

-- The right call, with what it leaves of a block of 16 bytes changed, or of any.
abbrev changed : (List ℕ → Handset → AfterCommand → AfterCommand) → Call
changed change b h = cond (eqb (length b) 16) (change b h (command_of b h)) (command_of b h)

abbrev changed_any : (List ℕ → Handset → AfterCommand → AfterCommand) → Call
changed_any change b h = change b h (command_of b h)

-- Another block, by which the line is judged, another refusal, line or handset.
abbrev with_block : List ℕ → AfterCommand → AfterCommand
with_block b a = record { told = record { refusal = a.told.refusal; line = line_of b; handset = a.told.handset }; block = b }

abbrev with_refused : ℕ → AfterCommand → AfterCommand
with_refused k a = record { told = record { refusal = k; line = a.told.line; handset = a.told.handset }; block = a.block }

abbrev with_line : Bool → AfterCommand → AfterCommand
with_line line a = record { told = record { refusal = a.told.refusal; line = line; handset = a.told.handset }; block = a.block }

abbrev with_handset : Handset → AfterCommand → AfterCommand
with_handset h a = record { told = record { refusal = a.told.refusal; line = a.told.line; handset = h }; block = a.block }

-- Byte i, its bit of weight w, and a byte changed.
abbrev byte : ℕ → List ℕ → ℕ
byte i b = get_or b i 0

abbrev bit_set : ℕ → ℕ → Bool
bit_set w x = eqb (x / w % 2) 1

abbrev at_byte : ℕ → (ℕ → ℕ) → AfterCommand → AfterCommand
at_byte i change a = with_block (set a.block i (change (byte i a.block))) a

-- The command is a feed, and what is answered to its record; whether that is a window's, or of a subframe that is taken or has none.
abbrev answer : List ℕ → Handset → Result Answer ℕ
answer b h = (feed_of h (brought_by (slot_at b 0))).answer

abbrev fed_window : List ℕ → Handset → AfterCommand → Bool
fed_window b h a = eqb (byte 4 b) 1 && eqb a.told.refusal 0 && eqb (length (bytes_of h.next (answer b h))) 8

abbrev fed_other : List ℕ → Handset → AfterCommand → Bool
fed_other b h a = eqb (byte 4 b) 1 && eqb a.told.refusal 0 && eqb (length (bytes_of h.next (answer b h))) 0

-- The calls with one fault each.

always_overwritten : Call
always_overwritten = changed (λ b h a. cond (fed_window b h a) (at_byte 5 (λ x. x / 8 * 8 + 4 + x % 4) a) a)

never_overwritten : Call
never_overwritten = changed (λ b h a. cond (fed_window b h a) (at_byte 5 (λ x. x / 8 * 8 + byte 5 b % 8 / 4 * 4 + x % 4) a) a)

number_reset : Call
number_reset = changed (λ b h a. cond (eqb a.told.refusal 0) (at_byte 7 (λ x. 0) a) a)

flag_reset : Call
flag_reset = changed (λ b h a. cond (eqb a.told.refusal 0) (at_byte 5 (λ x. x / 4 * 4 + x % 2) a) a)

clear_by_mask : Call
clear_by_mask = changed (λ b h a. cond (eqb (byte 4 b) 2) (with_block (set (command_of (set b 0 (byte 6 b)) h).block 0 (byte 0 b)) a) a)

next_subframe : Call
next_subframe = changed (λ b h a. cond (fed_window b h a) (at_byte 8 suc a) a)

silent_unseen : Call
silent_unseen = changed (λ b h a. cond (fed_window b h a && eqb (byte 9 a.block) 0) (with_block b a) a)

taken_shown : Call
taken_shown = changed (λ b h a. cond (fed_other b h a) (with_block (shown_block a.block (window_bytes h.next 0 0 0 0)) a) a)

kind_fed : Call
kind_fed = changed (λ b h a. cond (eqb a.told.refusal 22) (with_refused 0 (with_block b a)) a)

command_taken : Call
command_taken = changed (λ b h a. cond (eqb a.told.refusal 28) (with_refused 0 (with_block b a)) a)

reply_cleared : Call
reply_cleared = changed (λ b h a. cond (eqb a.told.refusal 0) a (with_block (take 8 a.block ++ replicate 8 0) a))

command_reset : Call
command_reset = changed (λ b h a. at_byte 4 (λ x. 0) a)

unmasked : Call
unmasked = changed (λ b h a. with_line (ltb 0 (byte 5 a.block)) a)

line_before : Call
line_before = changed (λ b h a. with_line (line_of b) a)

-- the right block, and a handset that remembers the record as it stands
unused_kept : Call
unused_kept = changed (λ b h a. cond (eqb (byte 4 b) 1 && eqb a.told.refusal 0) (with_handset (feed_of h (heard_in (slot_at b 0))).handset a) a)

abbrev second_resource : Option Resource → ℕ
second_resource None = 0
second_resource (Some r) = r.0

abbrev second_in : Result Answer ℕ → ℕ
second_in (Ok (Sent r)) = second_resource r.second
second_in other = 0

second_port : Call
second_port = changed (λ b h a. cond (fed_window b h a) (at_byte 10 (λ x. second_in (answer b h) % 256) (at_byte 11 (λ x. second_in (answer b h) / 256) a)) a)

high_first : Call
high_first = changed (λ b h a. cond (fed_window b h a) (at_byte 10 (λ x. byte 11 a.block) (at_byte 11 (λ x. byte 10 a.block) a)) a)

past_zeros : Call
past_zeros = changed (λ b h a. cond (eqb (byte 15 b) 0) a (at_byte 5 (λ x. x / 8 * 8 + 4 + x % 4) a))

made_up : Call
made_up = changed (λ b h a. cond (eqb (byte 4 b) 0) (with_block (shown_block a.block (window_bytes 2 1 31 1 0)) a) a)

command_first : Call
command_first = changed_any (λ b h a. cond (ltb 2 (byte 4 b)) (with_refused 28 a) a)

half : Call
half = changed (λ b h a. with_block (take 8 a.block) a)

short_shown : Call
short_shown = changed_any (λ b h a. cond (eqb a.told.refusal 29) (at_byte 5 (λ x. 2) a) a)

above_dropped : Call
above_dropped = changed (λ b h a. cond (eqb (byte 4 b) 2) (at_byte 5 (λ x. x % 8) a) a)

refusal_ready : Call
refusal_ready = changed (λ b h a. cond (eqb a.told.refusal 0) a (at_byte 5 (λ x. x / 2 * 2 + 1) a))

none_clears : Call
none_clears = changed (λ b h a. cond (eqb (byte 4 b) 0) (at_byte 5 (λ x. x / 8 * 8) a) a)

all_cleared : Call
all_cleared = changed (λ b h a. cond (eqb (byte 4 b) 2) (at_byte 5 (λ x. x / 8 * 8) a) a)

none_refused : Call
none_refused = changed (λ b h a. cond (eqb (byte 4 b) 0) (with_refused (state_refusal h) a) a)

all_bits : Call
all_bits = changed (λ b h a. with_line (a.told.line || bit_set 128 (byte 5 a.block) && bit_set 128 (byte 6 a.block)) a)

subframe_taken : Call
subframe_taken = changed (λ b h a. cond (eqb a.told.refusal 0) a (with_handset (feed_of h Nothing).handset a))

untold : Call
untold = changed (λ b h a. with_refused 0 a)

unannounced : Call
unannounced = changed (λ b h a. cond (fed_window b h a) (at_byte 5 (λ x. byte 5 b) a) a)

none_feeds : Call
none_feeds = changed (λ b h a. cond (eqb (byte 4 b) 0) (with_handset (feed_of h Nothing).handset a) a)

unfoldable faults : Unit {0}
unfolding commands always_overwritten never_overwritten number_reset flag_reset clear_by_mask next_subframe silent_unseen taken_shown kind_fed command_taken reply_cleared command_reset unmasked line_before unused_kept second_port high_first past_zeros made_up command_first half short_shown above_dropped refusal_ready none_clears all_cleared none_refused all_bits subframe_taken untold unannounced none_feeds
faults = tt

-- BlockEquals: byte i, the line or the handset after the call of number k, from a fresh handset.

abbrev none_after : AfterCommand
none_after = record { told = record { refusal = 0; line = false; handset = made }; block = [] }

abbrev after : ℕ → List AfterCommand → AfterCommand
after k seen = get_or seen k none_after

abbrev byte_after : ℕ → ℕ → List AfterCommand → ℕ
byte_after k i seen = byte i (after k seen).block

abbrev line_after : ℕ → List AfterCommand → Bool
line_after k seen = (after k seen).told.line

-- The first window is that of subframe 2, the next one that of subframe 3; both are silent where nothing was fed.
abbrev one_silence : List Written
one_silence = nothing_fed 1 ∷ nothing_fed 1 ∷ nothing_fed 1 ∷ []

abbrev two_silences : List Written
two_silences = one_silence ++ (nothing_fed 1 ∷ [])

abbrev another : List Written
another = written 3 0 0 0 0 0 ∷ written 0 0 0 0 0 2 ∷ []

not_always_overwritten : BlockEquals always_overwritten → ⊥
unfolding faults
not_always_overwritten d = let e : 5 ≡ 1 = ap (byte_after 2 5) (d.from_zeros made one_silence) in omega (arith, e)

not_never_overwritten : BlockEquals never_overwritten → ⊥
unfolding faults
not_never_overwritten d = let e : 1 ≡ 5 = ap (byte_after 3 5) (d.from_zeros made two_silences) in omega (arith, e)

not_number_reset : BlockEquals number_reset → ⊥
unfolding faults
not_number_reset d = let e : 0 ≡ 28 = ap (byte_after 1 7) (d.from_zeros made another) in omega (arith, e)

not_flag_reset : BlockEquals flag_reset → ⊥
unfolding faults
not_flag_reset d = let e : 0 ≡ 2 = ap (byte_after 1 5) (d.from_zeros made another) in omega (arith, e)

not_clear_by_mask : BlockEquals clear_by_mask → ⊥
unfolding faults
not_clear_by_mask d = let e : 0 ≡ 1 = ap (byte_after 3 5) (d.from_zeros made (one_silence ++ (cleared 6 1 ∷ []))) in omega (arith, e)

not_next_subframe : BlockEquals next_subframe → ⊥
unfolding faults
not_next_subframe d = let e : 3 ≡ 2 = ap (byte_after 2 8) (d.from_zeros made one_silence) in omega (arith, e)

not_silent_unseen : BlockEquals silent_unseen → ⊥
unfolding faults
not_silent_unseen d = let e : 0 ≡ 2 = ap (byte_after 2 8) (d.from_zeros made one_silence) in omega (arith, e)

not_taken_shown : BlockEquals taken_shown → ⊥
unfolding faults
not_taken_shown d = let e : 1 ≡ 0 = ap (byte_after 0 5) (d.from_zeros made one_silence) in omega (arith, e)

not_kind_fed : BlockEquals kind_fed → ⊥
unfolding faults
not_kind_fed d = let e : 0 ≡ 22 = ap (byte_after 0 7) (d.from_zeros made (written 1 4 0 0 0 0 ∷ [])) in omega (arith, e)

not_command_taken : BlockEquals command_taken → ⊥
unfolding faults
not_command_taken d = let e : 0 ≡ 28 = ap (byte_after 0 7) (d.from_zeros made another) in omega (arith, e)

not_reply_cleared : BlockEquals reply_cleared → ⊥
unfolding faults
not_reply_cleared d = let e : 0 ≡ 2 = ap (byte_after 3 8) (d.from_zeros made (one_silence ++ another)) in omega (arith, e)

not_command_reset : BlockEquals command_reset → ⊥
unfolding faults
not_command_reset d = let e : 0 ≡ 1 = ap (byte_after 0 4) (d.from_zeros made one_silence) in omega (arith, e)

not_unmasked : BlockEquals unmasked → ⊥
unfolding faults
not_unmasked d = false≢true (sym (ap (line_after 0) (d.from_zeros made another)))

not_line_before : BlockEquals line_before → ⊥
unfolding faults
not_line_before d = false≢true (ap (line_after 2) (d.from_zeros made one_silence))

-- The second block's result without a second block: the newest subframe's results are 3 and not 1.
not_unused_kept : BlockEquals unused_kept → ⊥
unfolding faults
not_unused_kept d =
    let e : 3 ≡ 1 = ap (λ (seen : List AfterCommand). (get_or (after 0 seen).told.handset.past 0 none).results) (d.from_zeros made (written 1 1 3 1 3 0 ∷ [])) in
    omega (arith, e)

-- The reply of Worked.antt on two ports, the last of eight calls: resource 339, 83 and 1 in bytes, and 340.
abbrev two_blocks_fed : List Written
two_blocks_fed = written 1 1 5 1 7 0 ∷ written 1 1 12 2 5 0 ∷ times 6 (nothing_fed 0) []

not_second_port : BlockEquals second_port → ⊥
unfolding faults
not_second_port d = let e : 84 ≡ 83 = ap (byte_after 7 10) (d.from_zeros (make_of two_ports).handset two_blocks_fed) in omega (arith, e)

not_high_first : BlockEquals high_first → ⊥
unfolding faults
not_high_first d = let e : 1 ≡ 83 = ap (byte_after 7 10) (d.from_zeros (make_of two_ports).handset two_blocks_fed) in omega (arith, e)

-- A running handset whose last reply ends in 9.
not_past_zeros : BlockEquals past_zeros → ⊥
unfolding faults
not_past_zeros d =
    let r : Running = record { handset = made; ready = false; refused = false; overwritten = false; number = 0; reply = replicate 7 0 ++ (9 ∷ []) } in
    let e : 4 ≡ 0 = ap (byte_after 0 5) (d.onwards (nothing_fed 0) r refl (written 0 0 0 0 0 0 ∷ [])) in
    omega (arith, e)

-- CallsExactly: any block and handset.

abbrev block : ℕ → ℕ → ℕ → ℕ → List ℕ
block asked dropped flags mask = dropped ∷ 0 ∷ 0 ∷ 0 ∷ asked ∷ flags ∷ mask ∷ 9 ∷ replicate 8 0

not_command_first : CallsExactly command_first → ⊥
unfolding faults
not_command_first d = let e : 28 ≡ 29 = (d (replicate 5 9) made).refusal in omega (arith, e)

not_half : CallsExactly half → ⊥
unfolding faults
not_half d = let e : 8 ≡ 16 = (d (block 0 0 0 0) made).same_length in omega (arith, e)

not_short_shown : CallsExactly short_shown → ⊥
unfolding faults
not_short_shown d =
    let e : 2 ≡ 0 = ap (byte 5) ((d (replicate 15 0) made).untouched (λ e. omega (arith, e))).0 in
    omega (arith, e)

not_command_kept : CallsExactly command_reset → ⊥
unfolding faults
not_command_kept d = let e : 0 ≡ 2 = (d (block 2 0 0 0) made).kept 4 (omega arith) (λ e. omega (arith, e)) in omega (arith, e)

not_above_dropped : CallsExactly above_dropped → ⊥
unfolding faults
not_above_dropped d = let e : 0 ≡ 31 = (d (block 2 0 255 0) made).above in omega (arith, e)

not_refusal_ready : CallsExactly refusal_ready → ⊥
unfolding faults
not_refusal_ready d = false≢true (sym (ap (λ (f : Flags). f.ready) ((d (block 3 0 0 0) made).refused 27 refl refl).2))

not_number_kept : CallsExactly number_reset → ⊥
unfolding faults
not_number_kept d = let e : 0 ≡ 9 = (d (block 0 0 0 0) made).number_kept refl in omega (arith, e)

not_none_clears : CallsExactly none_clears → ⊥
unfolding faults
not_none_clears d = let e : 0 ≡ 1 = ap (byte 5) ((d (block 0 0 1 0) made).none refl refl) in omega (arith, e)

not_all_cleared : CallsExactly all_cleared → ⊥
unfolding faults
not_all_cleared d = false≢true (ap (λ (f : Flags). f.refused) ((d (block 2 1 3 0) made).clear refl refl).1)

not_none_refused : CallsExactly none_refused → ⊥
unfolding faults
not_none_refused d =
    let e : 8 ≡ 0 = ap (λ (a : AfterCommand). a.told.refusal) ((d (block 0 0 0 0) made).any_handset (fresh no_settings) (λ e. omega (arith, e))) in
    omega (arith, e)

-- subframe 2 of a fresh handset, which two feeds of nothing lead to
abbrev before_silence : Handset
before_silence = (feed_of (feed_of made Nothing).handset Nothing).handset

not_fed_next : CallsExactly next_subframe → ⊥
unfolding faults
not_fed_next d = let e : 3 ≡ 2 = ap (byte 0) ((d (block 1 0 0 0) before_silence).fed refl refl refl).0.0 in omega (arith, e)

not_all_bits : CallsExactly all_bits → ⊥
unfolding faults
not_all_bits d = let h = ((d (block 0 0 128 128) made).line refl).0 refl in none_of h.0 h.1 h.2
  where
    none_of : (i : ℕ) → i ≤ 2 → BothHave i 128 128 → ⊥
    none_of zero low e = omega (arith, e.0)
    none_of (suc zero) low e = omega (arith, e.0)
    none_of (suc (suc zero)) low e = omega (arith, e.0)
    none_of (suc (suc (suc i))) low e = omega arith

-- CommandsRun: a grant of DAI 0, which 12 refuses, and nothing.

abbrev refused_grant : Written
refused_grant = written 1 1 3 0 1 0

abbrev fed : Act
fed = command (nothing_fed 1)

not_made_up : CommandsRun made_up → ⊥
unfolding faults
not_made_up d =
    let none_written : Written = written 0 0 0 0 0 0 in
    let e : 2 ≡ 0 = ap (λ (a : AfterCommand). byte 8 a.block) ((d (cell 1 0) refl (command none_written ∷ [])).equals [] none_written ([], refl)) in
    omega (arith, e)

not_subframe_taken : CommandsRun subframe_taken → ⊥
unfolding faults
not_subframe_taken d =
    let before : List Act = command refused_grant ∷ [] in
    let e : 1 ≡ 0 = ap (λ (h : Handset). h.next) ((d (cell 1 0) refl (before ++ (fed ∷ []))).handset before (nothing_fed 1) ([], refl)) in
    omega (arith, e)

not_untold : CommandsRun untold → ⊥
unfolding faults
not_untold d =
    let e : 0 ≡ 12 = ((d (cell 1 0) refl (command refused_grant ∷ [])).refusal [] refused_grant ([], refl) refl).0 in
    omega (arith, e)

not_reply_next : CommandsRun next_subframe → ⊥
unfolding faults
not_reply_next d =
    let e : 3 ≡ 2 = ap (byte 0) ((d (cell 1 0) refl (fed ∷ fed ∷ fed ∷ [])).reply (fed ∷ fed ∷ []) (nothing_fed 1) ([], refl) refl refl).0 in
    omega (arith, e)

not_unannounced : CommandsRun unannounced → ⊥
unfolding faults
not_unannounced d =
    false≢true (ap (λ (f : Flags). f.ready) ((d (cell 1 0) refl (fed ∷ fed ∷ fed ∷ [])).reply (fed ∷ fed ∷ []) (nothing_fed 1) ([], refl) refl refl).1)

not_taken_announced : CommandsRun taken_shown → ⊥
unfolding faults
not_taken_announced d =
    let e : 1 ≡ 0 = ap (byte 5) ((d (cell 1 0) refl (fed ∷ [])).reply [] (nothing_fed 1) ([], refl) refl refl) in
    omega (arith, e)

not_none_feeds : CommandsRun none_feeds → ⊥
unfolding faults
not_none_feeds d =
    let e : 1 ≡ 0 = ap (λ (h : Handset). h.next) ((d (cell 1 0) refl (command (written 0 0 0 0 0 0) ∷ [])).other [] (written 0 0 0 0 0 0) ([], refl) refl) in
    omega (arith, e)
