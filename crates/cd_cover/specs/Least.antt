-- The lesser of two places.
use Rattle.std.specs.Prelude.{Option, Some, None, if◌then◌else◌}
use Rattle.cd_base.specs.declared.place.Place.{Place}
use Rattle.cd_base.specs.Places.{stands_before}

-- the one that stands before the other, where there are two; what there is, where there are not
abbrev pub earlier_of : Option Place → Option Place → Option Place
earlier_of None other = other
earlier_of (Some p) None = Some p
earlier_of (Some p) (Some q) = if stands_before q p then Some q else Some p
