-- Sets of places as lists of ranges: when such a list is in order, the list with one range more, two lists as one, and
-- the least place of a set.
use Rattle.std.specs.Prelude.{◌≡◌, ◌<◌, Bool, true, false, not, ◌&&◌, ◌||◌, nat_lt, nat_le, ◌==◌, List, [], ◌∷◌, Option, Some, None, if◌then◌else◌, min, max}
use Rattle.cd_base.specs.declared.place.Place.{Place}
use Rattle.cd_base.specs.declared.place.Range.{Range}
use Rattle.cd_base.specs.Words.{PlaceSet, in_ranges}

-- r ends before s begins, and they do not touch
abbrev pub is_before : Range → Range → Bool
is_before r s = nat_lt r.region s.region || ((r.region == s.region) && nat_lt r.high s.low)

-- r is before each of these
abbrev pub IsBeforeAll : Range → List Range → Type 0
IsBeforeAll r [] = Unit {0}
IsBeforeAll r (s ∷ rest) = (is_before r s ≡ true) × IsBeforeAll r rest

-- no range is empty, and each is before all that come after it
abbrev pub IsOrdered : List Range → Type 0
IsOrdered [] = Unit {0}
IsOrdered (r ∷ rest) = (r.low < r.high) × IsBeforeAll r rest × IsOrdered rest

-- the least range that holds two ranges of one region
abbrev pub hull : Range → Range → Range
hull r s = record r { low = min r.low s.low; high = max r.high s.high }

-- ranges in order, with one more: it is joined with those that it overlaps or touches
abbrev pub with_range : Range → List Range → List Range
with_range r [] = r ∷ []
with_range r (s ∷ rest) =
    if is_before s r then s ∷ with_range r rest else (if is_before r s then r ∷ with_range s rest else with_range (hull r s) rest)

-- r begins before s
abbrev pub begins_before : Range → Range → Bool
begins_before r s = nat_lt r.region s.region || ((r.region == s.region) && nat_lt r.low s.low)

-- r ends where s begins, or before
abbrev pub ends_before : Range → Range → Bool
ends_before r s = nat_lt r.region s.region || ((r.region == s.region) && nat_le r.high s.low)

-- the ranges of two lists by their beginnings
abbrev pub by_start : List Range → List Range → List Range
by_start [] ss = ss
by_start (r ∷ rs) [] = r ∷ rs
by_start (r ∷ rs) (s ∷ ss) = if begins_before s r then s ∷ by_start (r ∷ rs) ss else r ∷ by_start rs (s ∷ ss)

-- a range, and ranges that begin no earlier: each is joined with the next where they overlap or touch
abbrev pub united_from : Range → List Range → List Range
united_from r [] = r ∷ []
united_from r (s ∷ rest) = if is_before r s then r ∷ united_from s rest else united_from (hull r s) rest

-- ranges by their beginnings, joined where they overlap or touch
abbrev pub united : List Range → List Range
united [] = []
united (r ∷ rest) = united_from r rest

-- p stands before q: by region, then by index
abbrev pub stands_before : Place → Place → Bool
stands_before p q = nat_lt p.region q.region || ((p.region == q.region) && nat_lt p.index q.index)

-- the least place of a set; none where it has no place
abbrev pub IsLeast : PlaceSet → Option Place → Type 0
IsLeast places None = (q : Place) → places q ≡ false
IsLeast places (Some p) = (places p ≡ true) × ((q : Place) → places q ≡ true → stands_before q p ≡ false)

-- the places of both sets
abbrev pub in_both : List Range → List Range → PlaceSet
in_both rs ss = λ q. in_ranges rs q && in_ranges ss q

-- the places of the second set that are not in the first
abbrev pub in_second_alone : List Range → List Range → PlaceSet
in_second_alone rs ss = λ q. in_ranges ss q && not (in_ranges rs q)
