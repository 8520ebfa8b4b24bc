-- The marks by which a draft sees that a name is free without a look at its domains: each domain that it has is marked, by its
-- parent and its name.
use Rattle.std.specs.Prelude.{◌≡◌, ℕ, ◌+◌, ◌*◌, ◌%◌, Bool, true, List, [], ◌∷◌, length, Option, None, Some, slice_get}
use Rattle.cd_tree.specs.declared.domain.NodeId.{NodeId}
use Rattle.cd_tree.specs.declared.domain.Domain.{Domain}

-- the mark of a parent
abbrev pub first_mark : Option NodeId → ℕ
first_mark None = 0
first_mark (Some parent) = parent.0 % 16384

-- the mark with one byte more
abbrev pub next_mark : ℕ → ℕ → ℕ
next_mark mark byte = (33 * mark + byte) % 16384

-- the mark with all bytes of a name
abbrev pub mark_behind : ℕ → List ℕ → ℕ
mark_behind mark [] = mark
mark_behind mark (byte ∷ bytes) = mark_behind (next_mark mark byte) bytes

-- the mark of a child with this name
abbrev pub mark_of : Option NodeId → List ℕ → ℕ
mark_of parent name = mark_behind (first_mark parent) name

abbrev pub IsMarked : List Bool → Option NodeId → List ℕ → Type 0
IsMarked marks parent name = slice_get marks (mark_of parent name) ≡ Some true

abbrev pub AllMarked : List Bool → List Domain → Type 0
AllMarked marks [] = Unit {0}
AllMarked marks (domain ∷ domains) = IsMarked marks domain.parent domain.name × AllMarked marks domains

pub record AreMarked (marks : List Bool) (domains : List Domain) : Type 0 where
  pub count : length marks ≡ 16384
  pub all : AllMarked marks domains
