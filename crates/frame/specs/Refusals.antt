-- Refusals by their numbers: document 01, "Causes and their numbers", and those that document 02 adds, up to 29. In specs/ a refusal is its
-- number; here is which number each of the code's refusals has, and what a result of the code is in these terms.
-- Assumes nothing.
use Rattle.std.specs.Prelude.{ℕ, zero, suc, ◌≡◌, Result, Ok, Err}
use Rattle.frame.specs.declared.refusal.Refusal.{Refusal}
use Rattle.frame.specs.declared.refusal.Refusal.TheVariants as refusal

abbrev pub number_of : Refusal → ℕ
number_of refusal.Configuration = 1
number_of refusal.Bandwidth = 2
number_of refusal.N1 = 3
number_of refusal.Mode = 4
number_of refusal.Multiplexing = 5
number_of refusal.Blocks = 6
number_of refusal.Subframe = 7
number_of refusal.State = 8
number_of refusal.Uplink = 9
number_of refusal.Carried = 10
number_of refusal.Cce = 11
number_of refusal.Dai = 12
number_of refusal.Resource = 13
number_of refusal.Bits = 14
number_of refusal.Scratch = 15
number_of refusal.Claim = 16
number_of refusal.ScheduledResource = 17
number_of refusal.Scheduled = 18
number_of refusal.Special = 19
number_of refusal.Short = 20
number_of refusal.TraceLength = 21
number_of refusal.TraceParts = 22
number_of refusal.Output = 23
number_of refusal.Ports = 24
number_of refusal.SizeOrAccount = 25
number_of refusal.Total = 26
number_of refusal.Game = 27
number_of refusal.Command = 28
number_of refusal.RegisterBlock = 29

-- what the code's conversion to a number gives
abbrev pub IsNumber : Refusal → ℕ → Type 0
IsNumber r n = n ≡ number_of r

-- The refusal of a result; 0, no refusal, where it has a value.
abbrev pub refusal_in : {T : Type 0} → Result T Refusal → ℕ
refusal_in (Ok x) = 0
refusal_in (Err r) = number_of r

-- The refusal of a result in the papers' numbers; 0 where it has a value.
abbrev pub number_in : {T : Type 0} → Result T ℕ → ℕ
number_in (Ok x) = 0
number_in (Err k) = k

-- A result of the code with its refusal as a number.
abbrev pub numbered : {T : Type 0} → Result T Refusal → Result T ℕ
numbered (Ok x) = Ok x
numbered (Err r) = Err (number_of r)

-- A refusal, or where it is 0 the value.
abbrev pub unless_refused : {T : Type 0} → ℕ → T → Result T ℕ
unless_refused zero x = Ok x
unless_refused (suc k) x = Err (suc k)

-- A refusal, or where it is 0 the result, which may be refused further on.
abbrev pub refused_or : {T : Type 0} → ℕ → Result T ℕ → Result T ℕ
refused_or zero x = x
refused_or (suc k) x = Err (suc k)

-- No two refusals have the same number, and none has 0.
pub record NumbersApart : Type 0 where
  pub apart : (r s : Refusal) → number_of r ≡ number_of s → r ≡ s
  pub not_zero : (r : Refusal) → number_of r ≡ 0 → ⊥
