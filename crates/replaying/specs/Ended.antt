-- How a replay ends, in the code's terms, and the numbers that say so (specs/Replay.antt). The writing of a trace ends by the same.
-- Assumes nothing.
use Rattle.std.specs.Prelude.{ℕ, ◌≡◌, Option, Some, None, Result, Ok, Err}
use Rattle.frame.specs.declared.refusal.Refusal.{Refusal}
use Rattle.frame.specs.Refusals.{number_of}
use Rattle.reply.specs.declared.Answer.{Answer}
use Rattle.replaying.specs.declared.Outcome.{Outcome}
use Rattle.replaying.specs.declared.stop.Stop.{Stop}
use Rattle.replaying.specs.declared.stop.Stop.TheVariants.{Refused, AtRecord}
use Rattle.replaying.specs.Replay.{Replayed, replay_refused, replay_done, replay_stopped}

-- The refusal that stopped it.
abbrev pub stop_refusal : Stop → ℕ
stop_refusal (Refused r) = number_of r
stop_refusal (AtRecord r number) = number_of r

-- The kind: refused, and by no record, or stopped at a record.
abbrev pub stop_kind : Stop → ℕ
stop_kind (Refused r) = replay_refused
stop_kind (AtRecord r number) = replay_stopped

-- The record that was refused.
abbrev pub stopped_at : Stop → Option ℕ
stopped_at (Refused r) = None
stopped_at (AtRecord r number) = Some number

-- Its number, 0 for none.
abbrev pub stop_record : Stop → ℕ
stop_record (Refused r) = 0
stop_record (AtRecord r number) = number

-- The same of a result: where nothing stopped it, no refusal, done, and no record.
abbrev pub end_refusal : {T : Type 0} → Result T Stop → ℕ
end_refusal (Ok x) = 0
end_refusal (Err s) = stop_refusal s

abbrev pub end_kind : {T : Type 0} → Result T Stop → ℕ
end_kind (Ok x) = replay_done
end_kind (Err s) = stop_kind s

abbrev pub end_record : {T : Type 0} → Result T Stop → ℕ
end_record (Ok x) = 0
end_record (Err s) = stop_record s

-- What a replay of the code tells.
abbrev pub replayed_by : Outcome → Replayed
replayed_by r = record { refusal = end_refusal r.end; kind = end_kind r.end; number = end_record r.end; windows = r.windows }

-- What `?` makes of a refusal.
abbrev pub IsRefused : Refusal → Stop → Type 0
IsRefused r s = s ≡ Refused r

-- What a handset answers when it is fed record `number`: a refusal stops there.
abbrev pub FeedsRecord : ℕ → Result Answer Stop → Result Answer ℕ → Type 0
FeedsRecord number (Ok a) x = x ≡ Ok a
FeedsRecord number (Err (Refused r)) x = ⊥
FeedsRecord number (Err (AtRecord r i)) x = (x ≡ Err (number_of r)) × (i ≡ number)

-- The same where the answer is not asked for: the refusal alone.
abbrev pub TakesRecord : ℕ → Result (Unit {0}) Stop → ℕ → Type 0
TakesRecord number (Ok a) k = k ≡ 0
TakesRecord number (Err (Refused r)) k = ⊥
TakesRecord number (Err (AtRecord r i)) k = (k ≡ number_of r) × (i ≡ number)
