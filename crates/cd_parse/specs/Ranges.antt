-- Ranges and places of the regions declared so far.
use Rattle.std.specs.Prelude.{ℕ, ◌+◌, Bool, ◌&&◌, nat_lt, nat_le, ◌==◌, List, [], ◌∷◌, length, take, drop, position, Option, None, Some, Result, Ok, Err, if◌then◌else◌}
use Rattle.std.specs.Str.{bytes_eq}
use Rattle.cd_base.specs.declared.place.Place.{Place}
use Rattle.cd_base.specs.declared.place.Range.{Range}
use Rattle.cd_tree.specs.declared.document.Region.{Region}
use Rattle.cd_tokens.specs.declared.wrong.Wrong.{Wrong}
use Rattle.cd_tokens.specs.declared.wrong.Wrong.TheVariants.{Form, NoRegion, Outside}
use Rattle.cd_tokens.specs.declared.sums.Variable.{Variable}
use Rattle.cd_tokens.specs.Wrongs.{both, ◌>>=◌}
use Rattle.cd_tokens.specs.Sums.{expression, is_dot, bounds_at}
use Rattle.cd_tokens.specs.Names.{base_name, numbered_name, name}

-- all words of the region with this number
abbrev pub whole : ℕ → Region → Range
whole at region = record { region = at; low = 0; high = region.length }

-- all words of the region with this name among these, which are numbered from `at` on
abbrev pub region_from : ℕ → List Region → List ℕ → Result Range Wrong
region_from at [] name = Err NoRegion
region_from at (region ∷ regions) name =
    if bytes_eq region.name name then Ok (whole at region) else region_from (at + 1) regions name

abbrev pub region_named : List Region → List ℕ → Result Range Wrong
region_named regions name = region_from 0 regions name

-- all words of the region that a token names
unfoldable pub region_in : List Variable → List Region → List ℕ → Result Range Wrong
region_in variables regions token = name variables token >>= region_named regions

-- the same of a base alone, and of a base and a number
abbrev pub base_region : List Region → List ℕ → Result Range Wrong
base_region regions token = base_name token >>= region_named regions

abbrev pub numbered_region : List Variable → List Region → List ℕ → List ℕ → Result Range Wrong
numbered_region variables regions base number = numbered_name variables base number >>= region_named regions

-- ---- parts of a region

-- the words from `low` to below `high` of a region
abbrev pub some_words : Range → ℕ → ℕ → Result Range Wrong
some_words region low high =
    if nat_lt low high && nat_le high region.high
    then Ok (record { region = region.region; low = low; high = high })
    else Err Outside

-- the word at an index of a region
abbrev pub one_place : Range → ℕ → Result Place Wrong
one_place region index =
    if nat_lt index region.high then Ok (record { region = region.region; index = index }) else Err Outside

-- the range of one word of a region
abbrev pub one_word : Range → ℕ → Result Range Wrong
one_word region index =
    if nat_lt index region.high
    then Ok (record { region = region.region; low = index; high = index + 1 })
    else Err Outside

abbrev pub is_opening : ℕ → Bool
is_opening b = b == 91

abbrev pub is_closing : ℕ → Bool
is_closing b = b == 93

-- what stands before a `]` that ends a token
abbrev pub before_closing : List ℕ → Option ℕ → Option (List ℕ)
before_closing token None = None
before_closing token (Some at) = if at + 1 == length token then Some (take at token) else None

abbrev pub bracketed : List ℕ → Option (List ℕ)
bracketed token = before_closing token (position is_closing token)

-- the word of a region with the index that stands in brackets
abbrev pub index_in : List Variable → List Region → List ℕ → Option (List ℕ) → Result Place Wrong
index_in variables regions region None = Err Form
index_in variables regions region (Some index) =
    both (region_in variables regions region) (expression variables index) >>= λ p. one_place p.0 p.1

-- the words of a region that stand in brackets: E, or E..E where the first dot stands at this place
abbrev pub part_at : List Variable → List Region → List ℕ → List ℕ → Option ℕ → Result Range Wrong
part_at variables regions region numbers None =
    both (region_in variables regions region) (expression variables numbers) >>= λ p. one_word p.0 p.1
part_at variables regions region numbers (Some at) =
    both (region_in variables regions region) (bounds_at variables numbers (Some at)) >>= λ p. some_words p.0 p.1.0 p.1.1

abbrev pub part_in : List Variable → List Region → List ℕ → Option (List ℕ) → Result Range Wrong
part_in variables regions region None = Err Form
part_in variables regions region (Some numbers) = part_at variables regions region numbers (position is_dot numbers)

-- a range whose first `[` stands at this place
abbrev pub range_at : List Variable → List Region → List ℕ → Option ℕ → Result Range Wrong
range_at variables regions token None = region_in variables regions token
range_at variables regions token (Some at) =
    part_in variables regions (take at token) (bracketed (drop (at + 1) token))

-- NAME, NAME[E..E] or NAME[E]
unfoldable pub range_in : List Variable → List Region → List ℕ → Result Range Wrong
range_in variables regions token = range_at variables regions token (position is_opening token)

abbrev pub place_at : List Variable → List Region → List ℕ → Option ℕ → Result Place Wrong
place_at variables regions token None = Err Form
place_at variables regions token (Some at) =
    index_in variables regions (take at token) (bracketed (drop (at + 1) token))

-- NAME[E]
unfoldable pub place_in : List Variable → List Region → List ℕ → Result Place Wrong
place_in variables regions token = place_at variables regions token (position is_opening token)
