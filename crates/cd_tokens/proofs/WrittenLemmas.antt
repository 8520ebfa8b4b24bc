-- The names of kinds as they are written one by one.
use Rattle.std.proofs.Common.{Bool, true, false, ℕ, List, ◌++◌, codes}
use Rattle.std.specs.List.{flat_map}
use Rattle.cd_tree.specs.declared.kinds.KindName.{KindName}
use Rattle.cd_tokens.specs.Written.{names_token}

-- what is still to come of the names of some kinds, where none was written yet or some were
abbrev pub names_left : Bool → List KindName → List ℕ
names_left true kinds = names_token kinds
names_left false kinds = flat_map (λ kind. codes "," ++ kind.name) kinds
