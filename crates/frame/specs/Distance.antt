-- Which uplink subframe answers for a downlink subframe d: document 01, "Frame and windows", read the other way round. Subframe d is
-- k before n, and K of n has that k.
-- Assumes nothing.
use Rattle.std.specs.Prelude.{ℕ, zero, suc, ◌+◌, ◌-◌, ◌*◌, ◌<◌, ◌≤◌, ◌%◌, Bool, true, false, cond, ◌↔◌, ◌≡◌, eqb, length, get_or, Result, Ok, Err}
use Rattle.frame.specs.declared.Answered.{Answered}
use Rattle.frame.specs.declared.Settings.{Settings}
use Rattle.frame.specs.Layout.{downlink}
use Rattle.frame.specs.Once.{InWindow}
use Rattle.frame.specs.Order.{member, position_of}
use Rattle.frame.specs.Refusals.{unless_refused}
use Rattle.frame.specs.Settings.{or_else, settings_refusal}
use Rattle.frame.specs.Table.{window_of}

-- The largest k, at most the bound, for which subframe d is in the window of subframe d + k; 0 where there is none.
unfoldable pub distance_up_to : ℕ → ℕ → ℕ → ℕ
distance_up_to zero c d = zero
distance_up_to (suc k) c d = cond (member (suc k) (window_of c ((d + suc k) % 10))) (suc k) (distance_up_to k c d)

-- How far after subframe d the uplink subframe stands that has d in its window; 0 where no window has it. No k is over 13.
unfoldable pub distance_of : ℕ → ℕ → ℕ
distance_of c d = distance_up_to 13 c d

-- That uplink subframe, by its number in the frame.
unfoldable pub uplink_of : ℕ → ℕ → ℕ
uplink_of c d = (d + distance_of c d) % 10

-- The subframe a before n, by its number in the frame: 9 is -1 modulo 10.
abbrev pub before : ℕ → ℕ → ℕ
before n a = (n + 9 * a) % 10

-- The subframe at position m of the window of n, by its number in the frame: 01's n − k_m. Of an endless run it is the subframe that
-- stands there (`position_subframe` in proofs/Windows.antt).
unfoldable pub subframe_of : ℕ → ℕ → ℕ → ℕ
subframe_of c n m = before n (get_or (window_of c n) m 0)

-- The subframe a before n is answered in the same uplink subframe as n: that is a further from it. For a downlink n this is to lie
-- in n's window (SharesExactly).
unfoldable pub shares : ℕ → ℕ → ℕ → Bool
shares c n a = eqb (distance_of c n + a) (distance_of c (before n a))

-- What `shares` says of the subframes d, which is downlink, and d - a of an endless run: it is true exactly if both are in the
-- window of one uplink subframe.
abbrev pub SharesExactly : ℕ → ℕ → ℕ → Type 0
SharesExactly c d a =
    downlink c (d % 10) ≡ true → a ≤ d
    → (shares c (d % 10) a ≡ true) ↔ ((s i j : ℕ) × InWindow c s i d × InWindow c s j (d - a))

-- The position of d in its window, that is of k in K as printed.
unfoldable pub answered_position : ℕ → ℕ → ℕ
answered_position c d = position_of (distance_of c d) (window_of c (uplink_of c d))

-- 7: a subframe that is not downlink, which no window has, or one over 9.
unfoldable pub no_downlink_refusal : ℕ → ℕ → ℕ
no_downlink_refusal c d = cond (downlink c d) 0 7

-- The call for one downlink subframe refuses the settings, then 7.
unfoldable pub answered_refusal : Settings → ℕ → ℕ
answered_refusal s d = or_else (settings_refusal s) (no_downlink_refusal s.config d)

-- The answer for downlink subframe d: n, k and the position of d in the window of n.
unfoldable pub answered_of : Settings → ℕ → Result Answered ℕ
answered_of s d =
    unless_refused (answered_refusal s d)
    (record { n = uplink_of s.config d; k = distance_of s.config d; position = answered_position s.config d })

-- What it is to answer for d: n is k after d, and k stands at position m of n's window.
pub record Answers (c d n k m : ℕ) : Type 0 where
  pub uplink : (d + k) % 10 ≡ n
  pub position : m < length (window_of c n)
  pub distance : get_or (window_of c n) m 0 ≡ k

-- These n, k and m answer for d, and no others do.
pub record AnswersAlone (c d n k m : ℕ) : Type 0 where
  pub answers : Answers c d n k m
  pub only : (n' k' m' : ℕ) → Answers c d n' k' m' → (n' ≡ n) × (k' ≡ k) × (m' ≡ m)

-- In an accepted cell a downlink subframe is answered, by the numbers of the call and no others. Any other subframe is refused 7, and
-- none of the frame's ten that is not downlink is answered by any numbers.
pub record EachAnswered (s : Settings) (d : ℕ) : Type 0 where
  pub answered : downlink s.config d ≡ true → (a : Answered) × (answered_of s d ≡ Ok a) × AnswersAlone s.config d a.n a.k a.position
  pub refused : downlink s.config d ≡ false → answered_of s d ≡ Err 7
  pub none : d ≤ 9 → downlink s.config d ≡ false → (n k m : ℕ) → Answers s.config d n k m → ⊥
