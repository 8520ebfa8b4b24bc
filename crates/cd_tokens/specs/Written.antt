-- Regions, places and kinds as the tokens that they are written as.
use Rattle.std.specs.Prelude.{ℕ, ◌+◌, List, [], ◌∷◌, ◌++◌, slice_get, if◌then◌else◌, codes, decimal}
use Rattle.std.specs.List.{join_by}
use Rattle.std.specs.Option.{option_map_or}
use Rattle.cd_base.specs.declared.place.Place.{Place}
use Rattle.cd_tree.specs.declared.document.Region.{Region}
use Rattle.cd_tree.specs.declared.kinds.Kind.{Kind}
use Rattle.cd_tree.specs.declared.kinds.KindName.{KindName}
use Rattle.cd_tree.specs.KindSets.{has_kind}

-- the name of the region with this number; no bytes where there is none
abbrev pub region_token : List Region → ℕ → List ℕ
region_token regions number = option_map_or (λ region. region.name) (slice_get regions number) []

-- NAME[INDEX]
abbrev pub place_token : List Region → Place → List ℕ
place_token regions place = region_token regions place.region ++ (codes "[" ++ (decimal place.index ++ codes "]"))

-- the name of a kind; no bytes where there is none
abbrev pub kind_token : List KindName → Kind → List ℕ
kind_token kinds kind = option_map_or (λ k. k.name) (slice_get kinds kind.0) []

-- the kinds that are in a set, of a list of kinds whose first is the kind `at`
abbrev pub kinds_in : ℕ → ℕ → List KindName → List KindName
kinds_in set at [] = []
kinds_in set at (kind ∷ kinds) =
    if has_kind set (record { 0 = at }) then kind ∷ kinds_in set (at + 1) kinds else kinds_in set (at + 1) kinds

-- the names of some kinds, joined by commas, or `none` where there are none
abbrev pub names_token : List KindName → List ℕ
names_token [] = codes "none"
names_token (kind ∷ kinds) = join_by (λ k. k.name) (codes ",") (kind ∷ kinds)

-- a set of kinds, in the order of declaration
abbrev pub kinds_token : List KindName → ℕ → List ℕ
kinds_token kinds set = names_token (kinds_in set 0 kinds)
