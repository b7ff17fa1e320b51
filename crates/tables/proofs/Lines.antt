-- Lines that a writer has after those that it had, from none to one more.
-- Assumes nothing.
use Rattle.std.proofs.Common.{ℕ, ◌+◌, ◌≡◌, List, ◌++◌, Option, add-one, append-nil, append_assoc}
use Rattle.std.proofs.KnownBytes.{Appends-nil, Appends-trans}
use Rattle.std.specs.Io.KnownBytes.{Appends}
use Rattle.tables.specs.Text.{lines_below}

module _ (line : ℕ → List ℕ) where
  pub none_written : (now : Option (List ℕ)) → Appends now now (lines_below line 0)
  unfolding lines_below
  none_written now = Appends-nil now

  pub more_written : (old now new : Option (List ℕ)) (i : ℕ) (text : List ℕ) → Appends old now (lines_below line i) → Appends now new text
      → text ≡ line i → Appends old new (lines_below line (i + 1))
  unfolding lines_below
  more_written old now new i text before next e = rw (add-one, ← e) (Appends-trans old now new (lines_below line i) text before next)

  pub none_after : (old now : Option (List ℕ)) (first : List ℕ) → Appends old now first → Appends old now (first ++ lines_below line 0)
  unfolding lines_below
  none_after old now first before = rw append-nil before

  pub more_after : (old now new : Option (List ℕ)) (first : List ℕ) (i : ℕ) (text : List ℕ) → Appends old now (first ++ lines_below line i)
      → Appends now new text → text ≡ line i → Appends old new (first ++ lines_below line (i + 1))
  unfolding lines_below
  more_after old now new first i text before next e =
      rw (add-one, ← append_assoc, ← e) (Appends-trans old now new (first ++ lines_below line i) text before next)
