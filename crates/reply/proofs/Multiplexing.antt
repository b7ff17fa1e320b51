-- The number of a window's state as it is built, position by position, and the reply of the state's symbol.
-- Assumes nothing.
use Rattle.std.proofs.Common.{Result, Option, Some, None}
use Rattle.resource.specs.declared.Resource.{Resource}
use Prim.Native.Nat.{ℕ, ◌+◌, ◌*◌, ◌^◌, ◌<◌, ◌≤◌}
use mathlib.Core.Bool.{Bool, true, false, cond, not, ◌&&◌, ◌||◌, false≢true}
use mathlib.Core.List.{List, [], ◌∷◌, ◌++◌, map-append}
use mathlib.Core.Path.{◌≡◌, refl, sym, ap, ◌∙◌}
use native.Mathlib.Nat.{mul_assoc, pow-suc, pow-le-pow_right}
use native.Mathlib.Numerals.{add-one}
use native.Mathlib.Omega.{arith}
use lib.ListN.{length, get_or, take, length-append, length-map}
use lib.Seq.{take-suc, take-length, length-take-le}
use Rattle.frame.specs.declared.Settings.{Settings}
use Rattle.frame.specs.Table.{window_of}
use Rattle.frame.proofs.Windows.{window_k, window_size}
use Rattle.symbols.specs.declared.State.{State}
use Rattle.symbols.specs.declared.State.TheVariants.{Ack, Nack, Dtx}
use Rattle.symbols.specs.declared.Symbol.{Symbol}
use Rattle.symbols.specs.Coded.{state_digit, code_of, states_of}
use Rattle.symbols.specs.Selection.{symbol_of}
use Rattle.symbols.proofs.Codes.{code_below, states_of_code}
use Rattle.symbols.proofs.Rows.{index_heard}
use Rattle.reply.specs.declared.Answer.TheVariants.{Silent}
use Rattle.reply.specs.Kinds.{kind_multiplexed}
use Rattle.heard.specs.declared.View.{View}
use Rattle.heard.specs.declared.View.TheVariants.{Unheard, Pdcch, Block}
use Rattle.heard.specs.Memory.{sees_pdcch, sees_block, first_failed, second_failed}
use Rattle.reply.specs.Replies.{reply_on, state_of, carrier_of, window_state, symbol_answer, multiplexed_answer}

-- The digit of a position, from what a reply sees of it.
both_decoded : (first second : Bool) → cond (not first || not second) 1 0 ≡ state_digit (cond (first && second) Ack Nack)
both_decoded true true = refl
both_decoded true false = refl
both_decoded false second = refl

pub digit_heard : (x : View) → (sees_pdcch x || sees_block x) ≡ true → cond (first_failed x || second_failed x) 1 0 ≡ state_digit (state_of x)
unfolding state_of
digit_heard Unheard e = absurd (false≢true e)
digit_heard (Pdcch g) e = both_decoded g.first g.second
digit_heard (Block b) e = both_decoded b.first b.second

pub digit_unheard : (x : View) → (sees_pdcch x || sees_block x) ≡ false → 2 ≡ state_digit (state_of x)
unfolding state_of
digit_unheard Unheard e = refl
digit_unheard (Pdcch g) e = absurd (false≢true (sym e))
digit_unheard (Block b) e = absurd (false≢true (sym e))

-- One position more is one digit more.
pub code_more : (ss : List State) (s : State) → code_of (ss ++ (s ∷ [])) ≡ code_of ss * 3 + state_digit s
code_more [] s = omega arith
code_more (t ∷ ss) s =
    rw (code_more ss s, length-append ss (s ∷ []), add-one (length ss), pow-suc 3 (length ss))
    (omega (arith, mul_assoc (state_digit t) (3 ^ length ss) 3))

module _ (F : ℕ → View) where
  pub state_length : (ks : List ℕ) → length (window_state F ks) ≡ length ks
  unfolding window_state
  state_length ks = length-map ks (λ (k : ℕ). state_of (F k))

  state_more : (ks : List ℕ) (m : ℕ) → m < length ks
      → window_state F (take (m + 1) ks) ≡ window_state F (take m ks) ++ (state_of (F (get_or ks m 0)) ∷ [])
  unfolding window_state
  state_more ks m h = rw (add-one, take-suc ks m 0 h, map-append)

  -- The number of the first m positions' state.
  abbrev pub code_to : ℕ → List ℕ → ℕ
  code_to m ks = code_of (window_state F (take m ks))

  -- The first m positions of nine give a number of at most eight digits.
  code_room : (ks : List ℕ) (m : ℕ) → m ≤ 8 → m ≤ length ks → code_to m ks ≤ 6560
  code_room ks m eight h =
      let size : length (window_state F (take m ks)) ≤ 8 = omega (arith, state_length (take m ks), length-take-le m ks h) in
      let top : 3 ^ length (window_state F (take m ks)) ≤ 3 ^ 8 = pow-le-pow_right (omega arith) size in
      omega (arith, code_below (window_state F (take m ks)))

pub digit_most : (s : State) → state_digit s ≤ 2
digit_most Ack = omega arith
digit_most Nack = omega arith
digit_most Dtx = omega arith

pub window_small : (c n : ℕ) (ks : List ℕ) → ks ≡ window_of c n → length ks ≤ 9
window_small c n ks looked = rw looked (window_size c n)

-- The k of a window's positions.
pub k_range : (c n : ℕ) (ks : List ℕ) → ks ≡ window_of c n → (m : ℕ) → m < length ks → (1 ≤ get_or ks m 0) × (get_or ks m 0 ≤ 13)
k_range c n ks looked m h =
    let k = window_k c n m (rw looked at h) in
    rw looked (omega arith, omega arith)

-- The loop over the positions of a window: another digit fits sixteen bits, and leads to the next position.
module _ (c n : ℕ) (F : ℕ → View) (ks : List ℕ) (looked : ks ≡ window_of c n) (m code : ℕ) (before : code ≡ code_to F m ks) where
  pub code_small : m < length ks → code * 3 + 2 < 65536
  code_small h =
      let size : length ks ≤ 9 = rw looked (window_size c n) in
      omega (arith, code_room F ks m (omega arith) (omega arith))

  pub code_next : m < length ks → (x : View) → x ≡ F (get_or ks m 0) → code * 3 + state_digit (state_of x) ≡ code_to F (m + 1) ks
  code_next h x seen =
      rw (before, seen, state_more F ks m h, code_more (window_state F (take m ks)) (state_of (F (get_or ks m 0))))

  -- No position left.
  pub code_end : length ks ≤ m → m ≤ length ks → code ≡ code_of (window_state F (window_of c n))
  code_end low high =
      let all : m ≡ length ks = omega arith in
      before ∙ rw (all, take-length ks, looked)

-- The symbol of the number is that of the window's state.
module _ (s : Settings) (n : ℕ) (F : ℕ → View) (ks : List ℕ) (looked : ks ≡ window_of s.config n) (code : ℕ)
    (coded : code ≡ code_of (window_state F (window_of s.config n))) (y : Option Symbol) (sent : y ≡ symbol_of (states_of (length ks) code)) where
  symbol_read : symbol_of (window_state F (window_of s.config n)) ≡ y
  symbol_read =
      let size : length (window_state F (window_of s.config n)) ≡ length ks = state_length F (window_of s.config n) ∙ rw looked in
      sym (sent ∙ ap symbol_of (rw (coded, ← size) (states_of_code (window_state F (window_of s.config n)))))

  -- Its index is a position of the window.
  pub index_small : (x : Symbol) → y ≡ Some x → x.index < length ks
  index_small x e =
      let size : length (window_state F (window_of s.config n)) ≡ length ks = state_length F (window_of s.config n) ∙ rw looked in
      omega (arith, (index_heard (window_state F (window_of s.config n)) x.index x.b0 x.b1 (symbol_read ∙ e)).0, size)

  -- The subframe at its index is one of those remembered.
  pub index_k : (x : Symbol) → y ≡ Some x → (1 ≤ get_or ks x.index 0) × (get_or ks x.index 0 ≤ 13)
  index_k x e =
      let k = window_k s.config n x.index (rw looked at (index_small x e)) in
      rw looked (omega arith, omega arith)

  pub symbol_silent : y ≡ None → multiplexed_answer s n F (window_of s.config n) ≡ Silent
  unfolding multiplexed_answer symbol_answer
  symbol_silent e = rw (symbol_read ∙ e)

  pub symbol_sent : (x : Symbol) → y ≡ Some x → (v : View) → v ≡ F (get_or ks x.index 0)
      → (at : Result Resource ℕ) → at ≡ carrier_of s n x.index v
      → multiplexed_answer s n F (window_of s.config n) ≡ reply_on s kind_multiplexed at x.b0 x.b1
  unfolding multiplexed_answer symbol_answer
  symbol_sent x e v ev at em = rw (symbol_read ∙ e, ← looked, ← ev, ← em)
