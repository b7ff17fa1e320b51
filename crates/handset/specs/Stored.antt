-- What the bytes of a slot can hold. A feed that is not refused brings nothing else.
-- Assumes nothing.
use Rattle.std.specs.Prelude.{◌≤◌}
use Rattle.heard.specs.declared.Heard.{Heard}
use Rattle.heard.specs.declared.Heard.TheVariants.{Nothing, Granted, Scheduled, Released}

abbrev pub Storable : Heard → Type 0
Storable Nothing = Unit {0}
Storable (Granted g) = (g.cce.0 ≤ 255) × (g.dai ≤ 255)
Storable (Scheduled b) = Unit {0}
Storable (Released p) = (p.cce.0 ≤ 255) × (p.dai ≤ 255)
