-- What a replay writes of a window: document 02, U3.
-- Assumes nothing.
use Rattle.std.specs.Prelude.{Option, Some, None, Result, Ok, Err, ℕ, ◌+◌, ◌≤◌, List, [], ◌∷◌, ◌++◌, length, take, drop}
use Rattle.trace.specs.Trace.{number_bytes}
use Rattle.reply.specs.Kinds.{kind_number}
use Rattle.reply.specs.declared.Answer.{Answer}
use Rattle.reply.specs.declared.Answer.TheVariants.{Taken, NoWindow, Silent, Sent}

-- "Each window gives eight bytes: n, kind (0 silent, 1 bundled, 2 multiplexed), resource in two, b0, b1 (all 0 if silent), two zeros."
unfoldable pub window_bytes : ℕ → ℕ → ℕ → ℕ → ℕ → List ℕ
window_bytes n kind resource b0 b1 = n ∷ kind ∷ (number_bytes resource ++ (b0 ∷ b1 ∷ 0 ∷ 0 ∷ []))

-- What the answer to subframe n gives: a window silent or answered its bytes; none for "taken" and "no window".
abbrev pub window_in : ℕ → Answer → Option (List ℕ)
window_in n Silent = Some (window_bytes n 0 0 0 0)
window_in n (Sent r) = Some (window_bytes n (kind_number r.kind) r.resource.0 r.b0 r.b1)
window_in n Taken = None
window_in n NoWindow = None

-- The bytes that are written of it; where there is none, nothing.
abbrev pub given : Option (List ℕ) → List ℕ
given (Some bytes) = bytes
given None = []

abbrev pub answer_bytes : ℕ → Answer → List ℕ
answer_bytes n a = given (window_in n a)

-- The same of a feed: a refused one gives nothing.
abbrev pub bytes_of : ℕ → Result Answer ℕ → List ℕ
bytes_of n (Ok a) = answer_bytes n a
bytes_of n (Err k) = []

-- What a feed gives where a refusal is told and not written as nothing.
abbrev pub window_fed : ℕ → Result Answer ℕ → Result (Option (List ℕ)) ℕ
window_fed n (Ok a) = Ok (window_in n a)
window_fed n (Err k) = Err k

-- Bytes written at a place of a list, over those that stood there.
abbrev pub put_at : ℕ → List ℕ → List ℕ → List ℕ
put_at at new old = take at old ++ new ++ drop (at + length new) old

-- What of an answer goes into a byte; every answer of a feed does (proofs/Feeds.antt).
abbrev pub FitsBytes : Answer → Type 0
FitsBytes (Sent r) = (r.b0 ≤ 255) × (r.b1 ≤ 255)
FitsBytes Silent = Unit {0}
FitsBytes Taken = Unit {0}
FitsBytes NoWindow = Unit {0}
