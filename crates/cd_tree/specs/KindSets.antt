-- Sets of kinds: the number whose bit k says whether kind k is in the set.
use Rattle.std.specs.Prelude.{ℕ, ◌+◌, ◌/◌, ◌%◌, ◌^◌, Bool, ◌&&◌, nat_lt, ◌==◌, bit_or, bit_and, bit_xor, if◌then◌else◌, List, [], ◌∷◌}
use Rattle.cd_tree.specs.declared.kinds.Kind.{Kind}
use Rattle.cd_tree.specs.declared.kinds.KindName.{KindName}
use Rattle.cd_tree.specs.Limits.{kinds_limit}

abbrev pub no_kinds : ℕ
no_kinds = 0

-- the set of one kind; a number at the limit or above is no kind
abbrev pub only_kind : Kind → ℕ
only_kind kind = if nat_lt kind.0 kinds_limit then 2 ^ kind.0 else 0

abbrev pub with_kind : ℕ → Kind → ℕ
with_kind kinds kind = bit_or kinds (only_kind kind)

abbrev pub has_kind : ℕ → Kind → Bool
has_kind kinds kind = nat_lt kind.0 kinds_limit && ((kinds / 2 ^ kind.0) % 2 == 1)

-- the kinds of the first set that are not in the second
abbrev pub kinds_without : ℕ → ℕ → ℕ
kinds_without kinds others = bit_xor kinds (bit_and kinds others)

-- the halting kinds of a document
abbrev pub halting_from : ℕ → List KindName → ℕ
halting_from at [] = 0
halting_from at (name ∷ names) =
    bit_or (if name.halts then only_kind (record { 0 = at }) else 0) (halting_from (at + 1) names)

abbrev pub halting : List KindName → ℕ
halting names = halting_from 0 names
