-- What a station sent in a window, as a record for each position: document 02, U10, "A grant record beside the old one carries I_TBS ..
-- and N_PRB .. per block". The old one is `SentGrant` (crate `confirmation`), which stays as it is.
-- Assumes nothing.
use Rattle.std.specs.Prelude.{ℕ, cond, List, eqb, length, get_or, take}
use Rattle.frame.specs.Order.{position_of}
use Rattle.confirmation.specs.declared.Send.{Send}
use Rattle.confirmation.specs.declared.Send.TheVariants.{Nothing, Granted, Scheduled, Released}
use Rattle.confirming.specs.declared.Sent.{Sent}
use Rattle.confirming.specs.declared.SentWindow.{SentWindow}

-- Nothing sent: every number 0.
abbrev pub nothing_sent : Sent
nothing_sent = record { signalled = 0; blocks = 0; cce = record { 0 = 0 }; dai = 0; itbs0 = 0; nprb0 = 0; itbs1 = 0; nprb1 = 0 }

-- What a record says was sent. There is no number for its kind: a PDCCH was sent where `signalled` is not 0, a grant if it carries
-- blocks and a release if it carries none; without a PDCCH blocks are a scheduled block. So every record says something.
unfoldable pub send_of : Sent → Send
send_of x =
    cond (eqb x.signalled 0)
    (cond (eqb x.blocks 0) Nothing (Scheduled (record { blocks = x.blocks })))
    (cond (eqb x.blocks 0) (Released (record { cce = x.cce; dai = x.dai })) (Granted (record { blocks = x.blocks; cce = x.cce; dai = x.dai })))

-- The record at position m of a window of M positions; the records from M on are ignored.
abbrev pub record_at : ℕ → SentWindow → ℕ → Sent
record_at size w m = get_or (take size w.at) m nothing_sent

-- What was sent k subframes before the reply, in the window with K = ks: the record stands at the position of k.
abbrev pub sent_in : List ℕ → SentWindow → ℕ → Send
sent_in ks w k = send_of (record_at (length ks) w (position_of k ks))
