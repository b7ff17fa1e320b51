-- 25 for the sizes of a window, record by record.
-- Assumes nothing.
use mathlib.Core.List.{List, [], ◌∷◌}
use mathlib.Core.Path.{◌≡◌, refl, ap, ◌∙◌}
use Rattle.std.specs.List.{list_any}
use Rattle.confirming.specs.declared.Sent.{Sent}
use Rattle.credit.specs.Credit.{bad_record, bad_records}

any_is : (l : List Sent) → list_any bad_record l ≡ bad_records l
unfolding bad_records
any_is [] = refl
any_is (x ∷ l) = rw (any_is l)

-- A bad record of a list that is the window's records.
pub any_bad : (l records : List Sent) → l ≡ records → list_any bad_record l ≡ bad_records records
any_bad l records e = any_is l ∙ ap bad_records e
