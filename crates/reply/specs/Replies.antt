-- The reply of a window: document 01, "The bundled reply" and "The multiplexed reply"; document 02, U1 and U9. The settings' mode is
-- the mode that the window is answered in.
-- Assumes nothing.
use Rattle.std.specs.Prelude.{Option, Some, None, Result, Ok, Err, ℕ, Bool, cond, not, ◌&&◌, List, map, eqb, length, get_or}
use Rattle.resource.specs.declared.Resource.{Resource}
use Rattle.frame.specs.declared.Settings.{Settings}
use Rattle.frame.specs.Settings.{bundles}
use Rattle.frame.specs.Table.{window_of}
use Rattle.resource.specs.Calls.{resource_of}
use Rattle.resource.specs.Ports.{second_port}
use Rattle.symbols.specs.declared.State.{State}
use Rattle.symbols.specs.declared.State.TheVariants.{Ack, Nack, Dtx}
use Rattle.symbols.specs.declared.Symbol.{Symbol}
use Rattle.symbols.specs.Selection.{symbol_of}
use Rattle.reply.specs.declared.Answer.{Answer}
use Rattle.reply.specs.declared.ReplyKind.{ReplyKind}
use Rattle.reply.specs.declared.Answer.TheVariants.{NoWindow, Silent, Sent}
use Rattle.fold.specs.declared.Seen.{Seen}
use Rattle.heard.specs.declared.View.{View}
use Rattle.heard.specs.declared.View.TheVariants.{Unheard, Pdcch, Block}
use Rattle.fold.specs.Fold.{expected, seen_of}
use Rattle.heard.specs.Memory.{bit}
use Rattle.reply.specs.Kinds.{kind_bundled, kind_multiplexed}

-- A reply of a kind (specs/Kinds.antt) with two bits, on the resource that the map gives and, of a handset with two ports, on the next
-- one too: U9, "replies carry both". The one place that makes a reply. A valid grant has a resource; without one nothing is sent, which
-- no state that 8 accepts comes to (handset/proofs/Silences.antt).
unfoldable pub reply_on : Settings → ReplyKind → Result Resource ℕ → ℕ → ℕ → Answer
reply_on s kind (Ok r) b0 b1 =
    Sent (record { kind = kind; resource = r; b0 = b0; b1 = b1; second = second_port s r.0 })
reply_on s kind (Err k) b0 b1 = Silent

-- A miss is shown: configurations 1 to 6 with V unequal to the expected value. Configuration 0 doesn't read the DAI.
unfoldable pub miss_shown : Settings → Seen → Bool
miss_shown s seen = not (eqb s.config 0) && not (eqb seen.v (expected seen.u))

-- Two bits (1b) for blocks 2, one (1a) for blocks 1, whose second is 0.
unfoldable pub second_bit : Settings → Seen → ℕ
second_bit s seen = cond (eqb s.blocks 2) (bit seen.second) 0

-- The configured resource of scheduled blocks, as a resource call's answer. (Where none is set it is 65535, which no state that 8
-- accepts comes to: it remembers no scheduled block then, handset/proofs/Scheduled.antt.)
abbrev pub on_scheduled : Settings → Result Resource ℕ
on_scheduled s = Ok (record { 0 = s.scheduled })

-- No PDCCH was heard: "If it is the only thing heard, the reply goes on a configured resource"; silent where nothing was.
unfoldable pub lone_answer : Settings → Seen → Answer
lone_answer s seen = cond seen.scheduled (reply_on s kind_bundled (on_scheduled s) (bit seen.first) (second_bit s seen)) Silent

-- The bundled reply: where U = 0 that of a lone scheduled block; silent where a miss is shown; else each block's bit is 1 (ACK) if
-- all that was heard decoded it, on the resource of the last heard PDCCH.
unfoldable pub bundled_answer : Settings → ℕ → Seen → Answer
bundled_answer s n seen =
    cond (eqb seen.u 0) (lone_answer s seen)
    (cond (miss_shown s seen) Silent
    (reply_on s kind_bundled (resource_of s n seen.position seen.cce.0) (bit seen.first) (second_bit s seen)))

-- State of a position: A if heard with every carried block decoded, N if heard otherwise, D if unheard.
unfoldable pub state_of : View → State
state_of Unheard = Dtx
state_of (Pdcch g) = cond (g.first && g.second) Ack Nack
state_of (Block b) = cond (b.first && b.second) Ack Nack

-- The resource of position m: that of a PDCCH's first CCE; of a scheduled block "its position uses that resource", the configured
-- one. (Nothing is sent on an unheard position: a symbol's index is always heard.)
unfoldable pub carrier_of : Settings → ℕ → ℕ → View → Result Resource ℕ
carrier_of s n m Unheard = resource_of s n m 0
carrier_of s n m (Pdcch g) = resource_of s n m g.cce.0
carrier_of s n m (Block b) = on_scheduled s

-- The state of a window: the states of its positions, in the order of K as printed.
unfoldable pub window_state : (ℕ → View) → List ℕ → List State
window_state view ks = map (λ (k : ℕ). state_of (view k)) ks

-- The symbol is sent on the resource of position i, its index.
unfoldable pub symbol_answer : Settings → ℕ → (ℕ → View) → List ℕ → Option Symbol → Answer
symbol_answer s n view ks (Some y) = reply_on s kind_multiplexed (carrier_of s n y.index (view (get_or ks y.index 0))) y.b0 y.b1
symbol_answer s n view ks None = Silent

unfoldable pub multiplexed_answer : Settings → ℕ → (ℕ → View) → List ℕ → Answer
multiplexed_answer s n view ks = symbol_answer s n view ks (symbol_of (window_state view ks))

-- The answer of uplink subframe n, where k ago stood what `view` says.
unfoldable pub window_answer : Settings → ℕ → (ℕ → View) → Answer
window_answer s n view =
    let ks : List ℕ = window_of s.config n in
    cond (eqb (length ks) 0) NoWindow
    (cond (bundles s (length ks)) (bundled_answer s n (seen_of view ks)) (multiplexed_answer s n view ks))
