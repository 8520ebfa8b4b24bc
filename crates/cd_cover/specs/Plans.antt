-- What a plan is: a program whose static questions are settled, with the answers that a run asks for.
use Rattle.std.specs.Prelude.{◌≡◌, ℕ, ◌≤◌, List, map, Option, Some, IsSome}
use Rattle.cd_tree.specs.declared.domain.NodeId.{NodeId}
use Rattle.cd_tree.specs.declared.domain.How.TheVariants.{Refer}
use Rattle.cd_tree.specs.declared.domain.Entry.{Entry}
use Rattle.cd_tree.specs.TreeModel.{TreeModel, IsTree}
use Rattle.cd_tree.specs.Limits.{need_limit}
use Rattle.cd_tree.specs.Domains.{Node, node, nodes_from, root_of}
use Rattle.cd_tree.specs.Meaning.{IsDisjoint, IsCovered, node_need}
use Rattle.cd_tree.specs.Legal.{entry_at}
use Rattle.cd_foot.specs.declared.footprints.Foot.{Foot}
use Rattle.cd_foot.specs.Feet.{AreFeet}
use Rattle.cd_cover.specs.Links.{frames_of, link_in, entry_link, IsFresh}

-- a plan as contracts see it: the program, its footprints, the link of each entry, the need of each domain
pub record PlanModel : Type 0 where
  pub tree : TreeModel
  pub feet : List Foot
  pub links : List (List (Option (NodeId × ℕ)))
  pub needs : List ℕ

-- the links of a domain's entries
abbrev pub links_of : TreeModel → Node → List (Option (NodeId × ℕ))
links_of tree (node id domain body) = map (entry_link (frames_of tree.domains id)) domain.entries

-- each reference of a program has a link, and is fresh
abbrev pub HasFreshLinks : TreeModel → Type 0
HasFreshLinks tree =
    (id : NodeId) (at : ℕ) (entry : Entry) → entry_at tree.domains id at ≡ Some entry → entry.how ≡ Refer
    → IsSome (link_in entry.range (frames_of tree.domains id)) × IsFresh entry.range (frames_of tree.domains id)

-- what a plan promises
pub record IsPlan (plan : PlanModel) : Type 0 where
  pub program : IsTree plan.tree
  pub footprints : AreFeet plan.tree.domains plan.feet
  pub disjoint : IsDisjoint (root_of plan.tree.domains)
  pub covered : IsCovered (root_of plan.tree.domains)
  pub linked : HasFreshLinks plan.tree
  pub link : plan.links ≡ map (links_of plan.tree) (nodes_from 0 plan.tree.domains)
  pub need : plan.needs ≡ map node_need (nodes_from 0 plan.tree.domains)
  pub within : node_need (root_of plan.tree.domains) ≤ need_limit
