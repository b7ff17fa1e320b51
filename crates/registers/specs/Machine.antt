-- The running handset with its flags beside it: document 02, U13, sentence by sentence, with no block and no byte of one but in what a
-- driver writes and in what it sees. specs/Lists.antt says that the block equals it.
-- Assumes nothing.
use Rattle.std.specs.Prelude.{ℕ, ◌+◌, ◌*◌, ◌/◌, ◌%◌, ◌^◌, Bool, true, false, cond, ◌&&◌, ◌||◌, List, ◌∷◌, replicate, eqb, leb, Result, Ok, Err}
use Rattle.frame.specs.Refusals.{number_in}
use Rattle.heard.specs.declared.Slot.{Slot}
use Rattle.heard.specs.Memory.{bit}
use Rattle.reply.specs.declared.Answer.{Answer}
use Rattle.reply.specs.declared.Answer.TheVariants.{Taken, NoWindow, Silent, Sent}
use Rattle.reply.specs.Kinds.{kind_number}
use Rattle.handset.specs.declared.Handset.{Handset}
use Rattle.handset.specs.Feed.{feed_of}
use Rattle.reader.specs.Record.{brought_by}
use Rattle.replaying.specs.Written.{window_bytes}
use Rattle.registers.specs.Call.{AfterCommand}

-- "only bytes 0 to 4 and 6 written in between": what a driver writes before a command, any numbers.
pub record Written : Type 0 where
  pub slot : Slot
  pub command : ℕ
  pub mask : ℕ

-- The running handset; whether a reply is ready, a command was refused, a reply was overwritten unread; the number of the last refusal
-- and the last reply, as a replay writes it.
pub record Running : Type 0 where
  pub handset : Handset
  pub ready : Bool
  pub refused : Bool
  pub overwritten : Bool
  pub number : ℕ
  pub reply : List ℕ

-- "from a fresh handset and a block of zeros": no flag, no refusal and no reply yet.
abbrev pub started : Handset → Running
started h = record { handset = h; ready = false; refused = false; overwritten = false; number = 0; reply = replicate 8 0 }

-- "bit 1 refusal, .. 7 the refusal number": a refusal leaves all else, the handset too.
abbrev pub refuse : ℕ → Running → Running
refuse k r =
    record { handset = r.handset; ready = r.ready; refused = true; overwritten = r.overwritten; number = k; reply = r.reply }

-- The handset after a feed that is not refused.
abbrev pub go_on : Handset → Running → Running
go_on h r =
    record { handset = h; ready = r.ready; refused = r.refused; overwritten = r.overwritten; number = r.number; reply = r.reply }

-- "Each answered window .. is a reply; bit 2 is set when one arrives with bit 0 still set." No feed drops a flag.
abbrev pub arrive : List ℕ → Running → Running
arrive reply r =
    record {
      handset = r.handset;
      ready = true;
      refused = r.refused;
      overwritten = cond r.ready true r.overwritten;
      number = r.number;
      reply = reply;
    }

-- What a feed comes to by its answer at subframe n: "silent ones too" are replies, "as in a replay, first port"; "taken" and "no window"
-- show nothing.
abbrev pub answered : ℕ → Result Answer ℕ → Handset → Running → Running
answered n (Err k) h r = refuse k r
answered n (Ok Taken) h r = go_on h r
answered n (Ok NoWindow) h r = go_on h r
answered n (Ok Silent) h r = arrive (window_bytes n 0 0 0 0) (go_on h r)
answered n (Ok (Sent a)) h r = arrive (window_bytes n (kind_number a.kind) a.resource.0 a.b0 a.b1) (go_on h r)

-- Bit i of a byte is set.
abbrev pub has : ℕ → ℕ → Bool
has i byte = eqb (byte / 2 ^ i % 2) 1

-- "clear drops those set in byte 0"
abbrev pub drop_flags : ℕ → Running → Running
drop_flags byte r =
    record {
      handset = r.handset;
      ready = cond (has 0 byte) false r.ready;
      refused = cond (has 1 byte) false r.refused;
      overwritten = cond (has 2 byte) false r.overwritten;
      number = r.number;
      reply = r.reply;
    }

-- A command: its refusal, 0 for none, and what is running after it.
pub record Stepped : Type 0 where
  pub refusal : ℕ
  pub running : Running

abbrev pub refused_as : ℕ → Running → Stepped
refused_as k r = record { refusal = k; running = refuse k r }

-- A feed: "22 for a kind over 3", else what the running handset answers to the record.
unfoldable pub feed_step : Slot → Running → Stepped
feed_step t r =
    let f = feed_of r.handset (brought_by t) in
    cond (leb t.kind 3) (record { refusal = number_in f.answer; running = answered r.handset.next f.answer f.handset r }) (refused_as 22 r)

-- "0 none, 1 feed, 2 clear"; "Refusal 28 .. is another command".
unfoldable pub step : Written → Running → Stepped
step w r =
    cond (eqb w.command 0) (record { refusal = 0; running = r })
    (cond (eqb w.command 1) (feed_step w.slot r)
    (cond (eqb w.command 2) (record { refusal = 0; running = drop_flags w.slot.kind r })
    (refused_as 28 r)))

-- "The interrupt line is high exactly if a flag and its mask bit are both set."
abbrev pub interrupt : ℕ → Running → Bool
interrupt mask r = r.ready && has 0 mask || r.refused && has 1 mask || r.overwritten && has 2 mask

-- The three flags in a byte.
abbrev pub flags_byte : Running → ℕ
flags_byte r = bit r.ready + 2 * bit r.refused + 4 * bit r.overwritten

-- The block that a driver sees: bytes 0 to 4 and 6 as it wrote them, and the flags, the refusal number and the reply that run beside the
-- handset.
abbrev pub shown_as : Written → Running → List ℕ
shown_as w r =
    w.slot.kind
    ∷ w.slot.cce
    ∷ w.slot.dai
    ∷ w.slot.results
    ∷ w.command
    ∷ flags_byte r
    ∷ w.mask
    ∷ r.number
    ∷ r.reply

-- All that is seen after a command.
abbrev pub seen : Written → Stepped → AfterCommand
seen w s =
    record {
      told = record { refusal = s.refusal; line = interrupt w.mask s.running; handset = s.running.handset };
      block = shown_as w s.running;
    }
