-- States as numbers: a number gives n states, those of its remainder by 3^n; a state's number gives the state; and a list of the
-- symbols of all states, read at a number, gives the symbol of its states.
-- Assumes nothing.
use Prim.Native.Nat.{ℕ, zero, suc, ◌+◌, ◌*◌, ◌/◌, ◌%◌, ◌^◌, ◌<◌}
use mathlib.Core.List.{List, [], ◌∷◌, ◌++◌, map}
use mathlib.Core.Path.{◌≡◌, refl, sym, ap, ap₂, ◌∙◌}
use native.Mathlib.Nat.{zero-add, pow-succ', one-le-pow, mod-lt, mod-eq_of_lt, mod-mod}
use native.Mathlib.Omega.{arith}
use lib.Arith.{digits_lt, digits_div, digits_mod, mod-mul}
use lib.ListN.{length, get_or}
use Rattle.std.proofs.Common.{Option, Some, None, slice_get}
use Rattle.std.specs.List.{range_with_len}
use Rattle.std.proofs.lemmas.List.FromFn.{get_or-map-range_with_len}
use Rattle.symbols.specs.declared.State.{State}
use Rattle.symbols.specs.declared.State.TheVariants.{Ack, Nack, Dtx}
use Rattle.symbols.specs.declared.Symbol.{Symbol}
use Rattle.symbols.specs.Coded.{state_digit, state_at, code_of, states_of}
use Rattle.symbols.specs.Selection.{symbol_of}
use Rattle.symbols.proofs.States.{other_silent}

pub states_length : (n code : ℕ) → length (states_of n code) ≡ n
states_length zero code = refl
states_length (suc n) code = ap suc (states_length n code)

threes : (n : ℕ) → 0 < 3 ^ n
threes n = one-le-pow n 3 (omega arith)

-- The n states of a number are those of its remainder by 3^n.
pub states_mod : (n code : ℕ) → states_of n (code % 3 ^ n) ≡ states_of n code
states_mod zero code = refl
states_mod (suc n) code =
    let q = code / 3 ^ n % 3 in
    let split : code % 3 ^ suc n ≡ q * 3 ^ n + code % 3 ^ n =
    ap (λ (x : ℕ). code % x) (pow-succ' 3 n) ∙ mod-mul code (omega arith) (threes n) in
    let below : code % 3 ^ n < 3 ^ n = mod-lt code (threes n) in
    let first : code % 3 ^ suc n / 3 ^ n % 3 ≡ q = rw (split, digits_div q below, mod-mod (code / 3 ^ n) 3) in
    let rest : code % 3 ^ suc n % 3 ^ n ≡ code % 3 ^ n = rw (split, digits_mod q below) in
    ap₂ ◌∷◌ (ap state_at first) (sym (states_mod n (code % 3 ^ suc n)) ∙ ap (states_of n) rest ∙ states_mod n code)

digit_below : (s : State) → state_digit s < 3
digit_below Ack = omega arith
digit_below Nack = omega arith
digit_below Dtx = omega arith

pub code_below : (ss : List State) → code_of ss < 3 ^ length ss
code_below [] = omega arith
code_below (s ∷ ss) = rw (pow-succ' 3 (length ss)) (digits_lt (digit_below s) (code_below ss))

digit_back : (s : State) → state_at (state_digit s) ≡ s
digit_back Ack = refl
digit_back Nack = refl
digit_back Dtx = refl

-- A state's number gives the state.
pub states_of_code : (ss : List State) → states_of (length ss) (code_of ss) ≡ ss
states_of_code [] = refl
states_of_code (s ∷ ss) =
    let n = length ss in
    let first : code_of (s ∷ ss) / 3 ^ n % 3 ≡ state_digit s =
    rw (digits_div (state_digit s) (code_below ss), mod-eq_of_lt (digit_below s)) in
    let rest : code_of (s ∷ ss) % 3 ^ n ≡ code_of ss = digits_mod (state_digit s) (code_below ss) in
    ap₂ ◌∷◌ (ap state_at first ∙ digit_back s) (sym (states_mod n (code_of (s ∷ ss))) ∙ ap (states_of n) rest ∙ states_of_code ss)

-- A list of the symbols of the states of a size, in the order of their numbers, but for the last, which is silent.
abbrev pub Lists : List Symbol → ℕ → Type 0
Lists ys size = map Some ys ++ (None ∷ []) ≡ map (λ (code : ℕ). symbol_of (states_of size code)) (range_with_len 0 (3 ^ size))

last_silent : (ys : List Symbol) (k : ℕ) → get_or (map Some ys ++ (None ∷ [])) k None ≡ slice_get ys k
last_silent [] zero = refl
last_silent [] (suc k) = refl
last_silent (y ∷ ys) zero = refl
last_silent (y ∷ ys) (suc k) = last_silent ys k

-- Read at the remainder of a state's number, it gives the state's symbol.
pub listed : (size code : ℕ) (ys : List Symbol) (y : Option Symbol) → Lists ys size → y ≡ slice_get ys (code % 3 ^ size)
    → y ≡ symbol_of (states_of size code)
listed size code ys y lists read =
    let k = code % 3 ^ size in
    let below : k < 3 ^ size = mod-lt code (threes size) in
    read
    ∙ sym (last_silent ys k)
    ∙ ap (λ (x : List (Option Symbol)). get_or x k None) lists
    ∙ get_or-map-range_with_len (λ (c : ℕ). symbol_of (states_of size c)) 0 (3 ^ size) k k None below (zero-add k)
    ∙ ap symbol_of (states_mod size code)

-- Windows of other sizes are silent.
pub others : (size code : ℕ) → (size ≡ 2 → ⊥) → (size ≡ 3 → ⊥) → (size ≡ 4 → ⊥) → None ≡ symbol_of (states_of size code)
others size code two three four =
    sym (other_silent (states_of size code) (rw states_length two) (rw states_length three) (rw states_length four))
