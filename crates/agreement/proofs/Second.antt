-- 18 at a feed of a run is a second scheduled block in one window, in the words of the table of windows.
-- Assumes nothing.
use Prim.Native.Nat.{ℕ, ◌-◌, ◌%◌, ◌≤◌}
use mathlib.Core.Bool.{Bool, true, false, cond, false≢true}
use mathlib.Core.List.{List}
use mathlib.Core.Logic.{◌↔◌}
use mathlib.Core.Path.{◌≡◌, refl, sym, ◌∙◌}
use native.Mathlib.Decide.{dec_le}
use native.Mathlib.Omega.{arith}
use lib.ListN.{get_or}
use borrow.Author.Tests.{le-leb, lt-leb}
use Rattle.frame.specs.declared.Settings.{Settings}
use Rattle.frame.specs.Layout.{downlink}
use Rattle.frame.proofs.Shares.{shares_exactly}
use Rattle.heard.specs.declared.Heard.{Heard}
use Rattle.heard.specs.declared.Heard.TheVariants.{Nothing, Scheduled}
use Rattle.heard.specs.declared.ScheduledBlock.{ScheduledBlock}
use Rattle.heard.specs.Heard.{is_block, heard_refusal, block_before, second_refusal, cause_of}
use Rattle.heard.proofs.Before.{before_exactly}
use Rattle.heard.proofs.Valid.{valid}
use Rattle.agreement.specs.Demand3.{SecondIn}
use Rattle.agreement.specs.Run.{heard_ago}

module _ (set : Settings) (heard : List Heard) (s : ℕ) (b : ScheduledBlock) (alone : heard_refusal set (s % 10) (Scheduled b) ≡ 0) where
  -- whether a block was heard a before
  abbrev block : ℕ → Bool
  block a = is_block (heard_ago heard s a)

  abbrev cause : ℕ
  cause = cause_of set (s % 10) (λ (a : ℕ). is_block (heard_ago heard s a)) (Scheduled b)

  cause_is : cause ≡ cond (block_before 13 set.config (s % 10) block) 18 0
  unfolding cause_of second_refusal
  cause_is = rw alone

  down : downlink set.config (s % 10) ≡ true
  down = (valid set (s % 10) (Scheduled b) alone).0.is_downlink

  -- one that was heard before stands in the run
  in_run : (a : ℕ) → is_block (heard_ago heard s a) ≡ true → (a ≤ s) × (is_block (get_or heard (s - a) Nothing) ≡ true)
  in_run a e = go (dec_le a s) e
    where
      go : Dec (a ≤ s) → is_block (heard_ago heard s a) ≡ true → (a ≤ s) × (is_block (get_or heard (s - a) Nothing) ≡ true)
      go (yes h) e = (h, rw (le-leb a s h) at e)
      go (no h) e = absurd (false≢true (rw (lt-leb a s (omega arith)) at e))

  found : cause ≡ 18 → SecondIn set.config heard s
  found e =
      let p = (before_exactly set.config (s % 10) block down).0 (told (block_before 13 set.config (s % 10) block) (sym cause_is ∙ e)) in
      let q = in_run p.0 p.2 in
      let w = (shares_exactly set.config s p.0 down q.0).0 p.3 in
      (s - p.0, w.0, w.1, w.2, omega (arith, p.1, q.0), w.3, w.4, q.1)
    where
      told : (t : Bool) → ◌≡◌ {A = ℕ} (cond t 18 0) 18 → t ≡ true
      told true e = refl
      told false e = absurd (omega arith)

  given : SecondIn set.config heard s → cause ≡ 18
  given (d, u, i, j, before, here, there, was) =
      let back : s - (s - d) ≡ d = omega arith in
      let share = (shares_exactly set.config s (s - d) down (omega arith)).1 (u, i, j, here, rw back there) in
      let one : is_block (heard_ago heard s (s - d)) ≡ true = rw (le-leb (s - d) s (omega arith), back) was in
      cause_is ∙ rw ((before_exactly set.config (s % 10) block down).1 (s - d, omega arith, one, share))

  pub second_exactly : (cause ≡ 18) ↔ SecondIn set.config heard s
  second_exactly = (found, given)
