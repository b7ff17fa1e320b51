-- What a handset saw in a window, from what was sent and heard in it: U counts the heard PDCCHs, V is the DAI that the rule gives the
-- last of them, and a scheduled block was seen exactly if one was heard.
-- Assumes nothing.
use Prim.Native.Nat.{ℕ, ◌+◌, ◌-◌, ◌%◌, ◌≤◌}
use mathlib.Core.Bool.{true}
use mathlib.Core.List.{List, map}
use mathlib.Core.Path.{◌≡◌, ◌∙◌}
use native.Mathlib.Omega.{arith}
use lib.ListN.{length}
use Rattle.frame.specs.Order.{order_of, times_of}
use Rattle.frame.specs.Table.{window_of}
use Rattle.frame.proofs.Times.{in_time_order}
use Rattle.confirmation.specs.declared.Send.{Send}
use Rattle.heard.specs.declared.Heard.{Heard}
use Rattle.heard.specs.declared.View.{View}
use Rattle.heard.specs.Heard.{is_block, view_of}
use Rattle.fold.specs.declared.Seen.{Seen}
use Rattle.fold.specs.Fold.{unseen, seen_of}
use Rattle.agreement.specs.Run.{RuleFrom, Brings}
use Rattle.agreement.specs.Window.{Entry, is_pdcch, any_of, lost_before, heard_pdcchs}
use Rattle.agreement.proofs.Entries.{all_of, of_window, in_time_holds, entry, seen_entries, ruled, brought, entries_length}
use Rattle.agreement.proofs.Folded.{fold_in, counted, block_seen, numbered, few}

module _ (c n : ℕ) (S : ℕ → Send) (H : ℕ → Heard) where
  -- The window's subframes in time order, and the fold over them.
  abbrev pub entries : List Entry
  entries = map (entry S H) (times_of (window_of c n))

  abbrev pub seen_in : Seen
  seen_in = fold_in (window_of c n) unseen (map (entry S H) (times_of (window_of c n)))

  pub seen_folded : (F : ℕ → View) → ((k : ℕ) → 1 ≤ k → k ≤ 13 → F k ≡ view_of (H k)) → seen_of F (window_of c n) ≡ seen_in
  unfolding seen_of order_of
  seen_folded F view =
      seen_entries S H F (window_of c n) (times_of (window_of c n)) unseen
      (all_of _ (times_of (window_of c n))
      (λ k e.
      let w = of_window c n k (in_time_holds c n k e) in
      (w.back, view k w.least w.most)))

  pub u_counted : seen_in.u ≡ heard_pdcchs entries
  u_counted = counted (window_of c n) entries unseen ∙ omega arith

  pub v_numbered : RuleFrom 0 (map S (times_of (window_of c n))) → ((k : ℕ) → 1 ≤ k → k ≤ 13 → Brings (S k) (H k))
      → any_of is_pdcch entries ≡ true → seen_in.v ≡ (0 + heard_pdcchs entries + lost_before entries - 1) % 4 + 1
  v_numbered rule brings some =
      numbered (window_of c n) entries unseen 0
      (ruled S H (times_of (window_of c n)) 0 rule)
      (brought S H (times_of (window_of c n))
      (all_of _ (times_of (window_of c n))
      (λ k e. let w = of_window c n k (in_time_holds c n k e) in brings k w.least w.most)))
      some

  pub entries_few : heard_pdcchs entries + lost_before entries ≤ length (window_of c n)
  entries_few = omega (arith, few entries, entries_length S H (times_of (window_of c n)), (in_time_order c n).size)

  pub block_heard_holds : seen_in.scheduled ≡ any_of is_block entries
  block_heard_holds = block_seen (window_of c n) entries unseen
