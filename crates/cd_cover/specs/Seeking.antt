-- The way to a reference's target, one domain at a time.
use Rattle.std.specs.Prelude.{◌&&◌, List, Option, None, Some}
use Rattle.cd_base.specs.declared.place.Range.{Range}
use Rattle.cd_base.specs.Words.{PlaceSet, in_range}
use Rattle.cd_tree.specs.declared.domain.Entry.{Entry}
use Rattle.cd_cover.specs.Links.{Frame, holder, by_holder, written_since}

-- the range that is sought above a domain with these entries, or none where they have the target
abbrev pub sought_above : Range → List Entry → Option Range
sought_above r entries = by_holder (holder r 0 entries) (Some r) (λ at. None) (λ outer. Some outer)

-- the places of one range that are written on the way to the target of another
abbrev pub written_on_the_way : Range → Range → List Frame → PlaceSet
written_on_the_way own sought frames q = in_range own q && written_since sought frames q
