-- The words of a hull, its own or shared.
use Rattle.std.specs.Prelude.{ℕ, Bool, true, false, List, take, drop}
use Rattle.std.specs.Arc.{arc_value}
use Rattle.cd_field.specs.declared.region_words.RegionWords.{RegionWords}
use Rattle.cd_field.specs.declared.region_words.RegionWords.TheVariants.{Own, Shared}

abbrev pub words_held : RegionWords → List ℕ
words_held (Own list) = list.items
words_held (Shared some) = take some.count (drop some.first (arc_value some.all).items)

abbrev pub are_own : RegionWords → Bool
are_own (Own list) = true
are_own (Shared some) = false
