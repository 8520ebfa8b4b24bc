-- What a program is: a list of kinds and a list of domains in preorder, within the limits.
use Rattle.std.specs.Prelude.{◌≡◌, ℕ, suc, ◌^◌, ◌<◌, ◌≤◌, List, [], ◌∷◌, None, Some, length, slice_get, sum_by, IsSomeAnd, All, Contains}
use Rattle.cd_tree.specs.declared.domain.NodeId.{NodeId}
use Rattle.cd_tree.specs.declared.domain.Item.{Item}
use Rattle.cd_tree.specs.declared.domain.Item.TheVariants.{Run, Group}
use Rattle.cd_tree.specs.declared.domain.Entry.{Entry}
use Rattle.cd_tree.specs.declared.domain.Domain.{Domain}
use Rattle.cd_tree.specs.declared.kinds.KindName.{KindName}
use Rattle.cd_tree.specs.Limits.{members_limit, retry_limit, entries_limit, kinds_limit, domains_limit, depth_limit, items_limit, preserves_limit}
use Rattle.cd_tree.specs.Operations.{op_reads, op_writes, IsFull, FitsShape}
use Rattle.cd_tree.specs.Domains.{root_of, node_numbers, node_depth, numbers_from}

-- a program as contracts see it
pub record TreeModel : Type 0 where
  pub kinds : List KindName
  pub domains : List Domain

-- the same program with other names of kinds
abbrev pub with_kinds : TreeModel → List KindName → TreeModel
with_kinds tree kinds = record tree { kinds = kinds }

-- each member of a group of domain `at` is a later domain, and has it as its parent
abbrev pub NamesChildren : List Domain → ℕ → List NodeId → Type 0
NamesChildren domains at [] = Unit {0}
NamesChildren domains at (id ∷ ids) =
    (at < id.0) × IsSomeAnd (slice_get domains id.0) (λ child. child.parent ≡ Some (record { 0 = at })) × NamesChildren domains at ids

-- an operation's ranges have places and its shape is right; a group has members, not too many, which are children
abbrev pub FitsItems : List Domain → ℕ → List Item → Type 0
FitsItems domains at [] = Unit {0}
FitsItems domains at (Run op ∷ items) =
    All IsFull (op_writes op ∷ op_reads op) × FitsShape op × FitsItems domains at items
FitsItems domains at (Group ids ∷ items) =
    (0 < length ids) × (length ids ≤ members_limit) × NamesChildren domains at ids × FitsItems domains at items

-- one domain among all: its name is no path, its tries and entries are within the limits, its items fit
pub record FitsDomain (kinds : List KindName) (domains : List Domain) (at : ℕ) (domain : Domain) : Type 0 where
  pub name : Contains domain.name 47 → ⊥
  pub tries : 0 < domain.retry
  pub retry : domain.retry ≤ retry_limit
  pub detects : domain.detects < 2 ^ length kinds
  pub entries : length domain.entries ≤ entries_limit
  pub ranges : All (λ (entry : Entry). IsFull entry.range) domain.entries
  pub items : FitsItems domains at domain.items

abbrev pub EachFits : List KindName → List Domain → ℕ → List Domain → Type 0
EachFits kinds domains at [] = Unit {0}
EachFits kinds domains at (domain ∷ rest) = FitsDomain kinds domains at domain × EachFits kinds domains (suc at) rest

-- no two children of one parent have the same name
abbrev pub SiblingsDiffer : List Domain → Type 0
SiblingsDiffer domains =
    (i j : ℕ) (one other : Domain) → slice_get domains i ≡ Some one → slice_get domains j ≡ Some other
    → one.parent ≡ other.parent → one.name ≡ other.name → i ≡ j

-- no two kinds have the same name
abbrev pub KindsDiffer : List KindName → Type 0
KindsDiffer kinds =
    (i j : ℕ) (one other : KindName) → slice_get kinds i ≡ Some one → slice_get kinds j ≡ Some other
    → one.name ≡ other.name → i ≡ j

-- a program: not empty, the root first and without a parent, walked in preorder by the numbers 0, 1, .. once each
pub record IsTree (tree : TreeModel) : Type 0 where
  pub some : 0 < length tree.domains
  pub root : IsSomeAnd (slice_get tree.domains 0) (λ domain. domain.parent ≡ None)
  pub preorder : node_numbers (root_of tree.domains) ≡ numbers_from 0 (length tree.domains)
  pub each : EachFits tree.kinds tree.domains 0 tree.domains
  pub siblings : SiblingsDiffer tree.domains
  pub kinds : KindsDiffer tree.kinds
  pub few_kinds : length tree.kinds ≤ kinds_limit
  pub few : length tree.domains ≤ domains_limit
  pub depth : node_depth (root_of tree.domains) ≤ depth_limit
  pub items : sum_by (λ (domain : Domain). length domain.items) tree.domains ≤ items_limit
  pub preserves : sum_by (λ (domain : Domain). length domain.entries) tree.domains ≤ preserves_limit
