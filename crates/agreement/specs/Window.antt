-- What demand 3 says of one window whose uplink subframe was fed: document 00, demand 3, and document 01, "The runs of demand 3";
-- document 02, U1 and U9.
-- Assumes nothing.
use Rattle.std.specs.Prelude.{Some, None, Result, Ok, ℕ, ◌+◌, ◌/◌, ◌%◌, ◌^◌, ◌<◌, ◌≤◌, Bool, true, false, cond, not, ◌&&◌, ◌||◌, List, [], ◌∷◌, map, ◌⊎◌, ◌↔◌, ◌≡◌, eqb, length, get_or}
use Rattle.resource.specs.declared.Resource.{Resource}
use Rattle.frame.specs.declared.Settings.{Settings}
use Rattle.frame.specs.Order.{times_of}
use Rattle.confirmation.specs.declared.Send.{Send}
use Rattle.confirmation.specs.Sent.{is_pdcch as is_sent_pdcch}
use Rattle.reply.specs.declared.Answer.{Answer}
use Rattle.reply.specs.declared.Answer.TheVariants as answer
use Rattle.heard.specs.declared.Heard.{Heard}
use Rattle.heard.specs.declared.Heard.TheVariants.{Nothing, Granted, Scheduled, Released}
use Rattle.heard.specs.Heard.{is_block}
use Rattle.reply.specs.declared.Reply.{Reply}
use Rattle.reply.specs.Kinds.{kind_bundled, kind_multiplexed}
use Rattle.station.specs.declared.Place.{Place}
use Rattle.station.specs.declared.Place.TheVariants as place
use Rattle.station.specs.declared.Reading.{Reading}
use Rattle.station.specs.declared.Reading.TheVariants as reading
use Rattle.symbols.specs.declared.State.{State}
use Rattle.symbols.specs.declared.State.TheVariants.{Ack, Nack, Dtx}
use Rattle.symbols.specs.Selection.{symbol_of, symbol}

-- A subframe of a window: its k, what was sent there and what was heard.
pub data Entry : Type 0 where
  at : (k : ℕ) → (sent : Send) → (heard : Heard) → Entry

-- The subframes of a window with K = ks, in time order: k falling.
abbrev pub in_time : (ℕ → Send) → (ℕ → Heard) → List ℕ → List Entry
in_time sent heard ks = map (λ (k : ℕ). at k (sent k) (heard k)) (times_of ks)

abbrev pub is_heard : Heard → Bool
is_heard Nothing = false
is_heard (Granted g) = true
is_heard (Scheduled b) = true
is_heard (Released p) = true

-- A PDCCH was heard: a grant, or a release, which "counts as a heard grant".
abbrev pub is_pdcch : Heard → Bool
is_pdcch Nothing = false
is_pdcch (Granted g) = true
is_pdcch (Scheduled b) = false
is_pdcch (Released p) = true

-- One of the window's subframes heard what the test names.
abbrev pub any_of : (Heard → Bool) → List Entry → Bool
any_of test [] = false
any_of test (at k sent heard ∷ es) = test heard || any_of test es

-- A PDCCH that was sent and not heard.
abbrev pub is_lost : Send → Heard → Bool
is_lost sent heard = is_sent_pdcch sent && not (is_heard heard)

-- The lost PDCCHs before the last heard one, the subframes in time order.
abbrev pub lost_before : List Entry → ℕ
lost_before [] = 0
lost_before (at k sent heard ∷ es) = cond (any_of is_pdcch es) (cond (is_lost sent heard) 1 0 + lost_before es) 0

-- U: the PDCCHs heard.
abbrev pub heard_pdcchs : List Entry → ℕ
heard_pdcchs [] = 0
heard_pdcchs (at k sent heard ∷ es) = cond (is_pdcch heard) 1 0 + heard_pdcchs es

-- The last heard PDCCH, by its k and its first CCE.
pub data Last : Type 0 where
  unheard : Last
  heard_at : (k cce : ℕ) → Last

abbrev pub as_last : ℕ → Heard → Last
as_last k Nothing = unheard
as_last k (Granted g) = heard_at k g.cce.0
as_last k (Scheduled b) = unheard
as_last k (Released p) = heard_at k p.cce.0

abbrev pub later : Last → Last → Last
later earlier unheard = earlier
later earlier (heard_at k c) = heard_at k c

abbrev pub last_heard : List Entry → Last
last_heard [] = unheard
last_heard (at k sent heard ∷ es) = later (as_last k heard) (last_heard es)

-- A scheduled block was heard k ago.
abbrev pub BlockAt : ℕ → List Entry → Type 0
BlockAt k [] = ⊥
BlockAt k (at j sent heard ∷ es) = ((j ≡ k) × (is_block heard ≡ true)) ⊎ BlockAt k es

-- What was heard decoded a block; a sole block stands for both, a release "decoded everything", and nothing heard leaves none
-- undecoded.
abbrev pub decoded_first : Heard → Bool
decoded_first Nothing = true
decoded_first (Granted g) = g.first
decoded_first (Scheduled b) = b.first
decoded_first (Released p) = true

abbrev pub decoded_second : Heard → Bool
decoded_second Nothing = true
decoded_second (Granted g) = cond (eqb g.blocks 2) g.second g.first
decoded_second (Scheduled b) = cond (eqb b.blocks 2) b.second b.first
decoded_second (Released p) = true

-- All that was heard, a scheduled block as well, decoded the block.
abbrev pub EveryHeard : (Heard → Bool) → List Entry → Type 0
EveryHeard decoded [] = Unit {0}
EveryHeard decoded (at k sent heard ∷ es) = (decoded heard ≡ true) × EveryHeard decoded es

-- State of a position: A if heard with every carried block decoded, N if heard otherwise, D if unheard.
abbrev pub state_in : Heard → State
state_in heard = cond (is_heard heard) (cond (decoded_first heard && decoded_second heard) Ack Nack) Dtx

-- A reply is sent, and it is this one; no reply is sent, and the answer is "silent".
abbrev pub SentExactly : Result Answer ℕ → Type 0 → (Reply → Type 0) → Type 0
SentExactly a Due Right =
    (((r : Reply) × (a ≡ Ok (answer.Sent r))) ↔ Due)
    × ((r : Reply) → a ≡ Ok (answer.Sent r) → Right r)
    × (((r : Reply) → a ≡ Ok (answer.Sent r) → ⊥) → a ≡ (Ok answer.Silent))

-- U9: "replies carry both": with two antenna ports the second port's resource is one above the first's, on which the reply is read; with
-- one port there is none.
abbrev pub CarriesBoth : Settings → Reply → Type 0
CarriesBoth set r = (set.ports ≡ 2 → r.second ≡ Some (record { 0 = r.resource.0 + 1 })) × (set.ports ≡ 1 → r.second ≡ None)

-- "If 01 bundles it": `set` are the settings in the window's own mode, `ks` is K as printed, `es` the window's subframes in time order;
-- `resource` is the resource call and `read` the station's reading, with the same settings and n = s mod 10, told the position of the
-- scheduled block that was sent.
pub record BundledReply (set : Settings) (resource : ℕ → ℕ → Result Resource ℕ) (read : ℕ → ℕ → ℕ → Result Reading ℕ) (ks : List ℕ) (es : List Entry) (r : Reply) : Type 0 where
  pub kind : r.kind ≡ kind_bundled
  -- "It is read as that last grant", U1: "the last heard grant, whose resource carries the reply, [is] over PDCCHs": its position is
  -- the place of its k in K, and the reply's bits are the ACK bits
  pub is_read : (k c : ℕ) → last_heard es ≡ heard_at k c
      → (m : ℕ) × (m < length ks) × (get_or ks m 0 ≡ k)
      × (resource m c ≡ Ok r.resource)
      × (read r.resource.0 r.b0 r.b1 ≡ Ok (reading.Bundled (place.Pdcch m (record { 0 = c })) r.b0 r.b1))
  -- U1: "A lone scheduled block is answered too; it .. is read as that block", on the configured resource
  pub alone : (k : ℕ) → any_of is_pdcch es ≡ false → BlockAt k es
      → (m : ℕ) × (m < length ks) × (get_or ks m 0 ≡ k)
      × (r.resource.0 ≡ set.scheduled)
      × (read r.resource.0 r.b0 r.b1 ≡ Ok (reading.Bundled (place.Block m) r.b0 r.b1))
  -- "and a block's bit is ACK exactly when every heard grant decoded it"; U1: "over a heard scheduled block as well"
  pub first : (r.b0 ≡ 1) ↔ EveryHeard decoded_first es
  pub second : set.blocks ≡ 2 → (r.b1 ≡ 1) ↔ EveryHeard decoded_second es
  -- a bit is 0 or 1; a one-bit reply's second is 0
  pub bits : (r.b0 ≤ 1) × (r.b1 ≤ 1) × (set.blocks ≡ 1 → r.b1 ≡ 0)
  -- U9: the resource above is that of the first port; this is the second's
  pub ports : CarriesBoth set r

abbrev pub Bundled : Settings → (ℕ → ℕ → Result Resource ℕ) → (ℕ → ℕ → ℕ → Result Reading ℕ) → List ℕ → List Entry → Result Answer ℕ → Type 0
Bundled set resource read ks es a =
    -- "a reply is sent exactly when a grant was heard and 0, 4 or 8 of its grants before the last heard one were lost", over PDCCHs;
    -- or when a scheduled block is the only thing heard
    SentExactly a
    (((any_of is_pdcch es ≡ true) × ((lost_before es ≡ 0) ⊎ (lost_before es ≡ 4) ⊎ (lost_before es ≡ 8)))
    ⊎ ((any_of is_pdcch es ≡ false) × (any_of is_block es ≡ true)))
    (BundledReply set resource read ks es)

-- What was heard at position m is read as this: a PDCCH by its first CCE, a scheduled block as that block.
abbrev pub ReadAs : ℕ → Heard → Place → Type 0
ReadAs m Nothing named = ⊥
ReadAs m (Granted g) named = named ≡ place.Pdcch m g.cce
ReadAs m (Scheduled b) named = named ≡ place.Block m
ReadAs m (Released p) named = named ≡ place.Pdcch m p.cce

-- The resource r carries it: a PDCCH's own, of a scheduled block the configured one.
abbrev pub Carries : Settings → (ℕ → ℕ → Result Resource ℕ) → Place → ℕ → Type 0
Carries set resource (place.Pdcch m c) r = resource m c.0 ≡ Ok (record { 0 = r })
Carries set resource (place.Block m) r = r ≡ set.scheduled

-- "If 01 multiplexes it": `states` are the states of its positions, in the order of K.
pub record MultiplexedReply (set : Settings) (resource : ℕ → ℕ → Result Resource ℕ) (read : ℕ → ℕ → ℕ → Result Reading ℕ) (ks : List ℕ) (heard : ℕ → Heard) (states : List State) (r : Reply) : Type 0 where
  pub kind : r.kind ≡ kind_multiplexed
  -- "01's symbol for its state is sent": its index and its two bits
  pub index : ℕ
  pub is_symbol : symbol_of states ≡ symbol index r.b0 r.b1
  -- the grant at its index, on whose resource it is sent; U1: a scheduled block there, whose "position uses that resource"
  pub named : Place
  pub is_heard : ReadAs index (heard (get_or ks index 0)) named
  pub on_resource : Carries set resource named r.resource.0
  -- "and read as the grant at its index", or as that block, "delivered for exactly the positions that are A in every state sending
  -- the same symbol": bit p of the set is position p
  pub delivered : ℕ
  pub is_read : read r.resource.0 r.b0 r.b1 ≡ Ok (reading.Multiplexed named delivered)
  pub exactly : (p : ℕ) → p < length ks
      → (delivered / 2 ^ p % 2 ≡ 1) ↔ ((ss : List State) → length ss ≡ length ks → symbol_of ss ≡ symbol index r.b0 r.b1 → get_or ss p Dtx ≡ Ack)
  pub no_other : delivered < 2 ^ length ks
  -- U9: two ports have no mode 1, so that there is no second resource
  pub one_port : r.second ≡ None

abbrev pub Multiplexed : Settings → (ℕ → ℕ → Result Resource ℕ) → (ℕ → ℕ → ℕ → Result Reading ℕ) → List ℕ → (ℕ → Heard) → List Entry → Result Answer ℕ → Type 0
Multiplexed set resource read ks heard es a =
    -- "is sent exactly when a grant was heard", or a scheduled block
    SentExactly a (any_of is_heard es ≡ true) (MultiplexedReply set resource read ks heard (map (λ (k : ℕ). state_in (heard k)) ks))
