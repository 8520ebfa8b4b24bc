-- Which two members of one group interfere first: by their parent in preorder, their group, the first member, the second.
use Rattle.std.specs.Prelude.{◌≡◌, List, [], ◌∷◌, ◌++◌, Option, None, Some}
use Rattle.cd_base.specs.Places.{IsLeast}
use Rattle.cd_tree.specs.declared.domain.Domain.{Domain}
use Rattle.cd_tree.specs.declared.refusal.Refusal.{Refusal}
use Rattle.cd_tree.specs.declared.refusal.Refusal.TheVariants.{Overlap}
use Rattle.cd_tree.specs.Domains.{Node, Body, Members, stop, run, group, no_more, member, number_of, body_of, nodes_from}
use Rattle.cd_tree.specs.Meaning.{clash, DoNotClash}
use Rattle.cd_tree.specs.Refusals.{FirstOf}

-- a domain with each of these members
abbrev pub pairs_with : Node → Members → List (Node × Node)
pairs_with one no_more = []
pairs_with one (member other rest) = (one, other) ∷ pairs_with one rest

-- two members of a group, the one before the other
abbrev pub pairs_among : Members → List (Node × Node)
pairs_among no_more = []
pairs_among (member first rest) = pairs_with first rest ++ pairs_among rest

-- two members of one group of a body, group by group
abbrev pub sibling_pairs : Body → List (Node × Node)
sibling_pairs stop = []
sibling_pairs (run op rest) = sibling_pairs rest
sibling_pairs (group members rest) = pairs_among members ++ sibling_pairs rest

-- what is refused of two members: both by their numbers, and the least place at which they interfere
abbrev pub OverlapOf : Node × Node → Option Refusal → Type 0
OverlapOf (one, other) None = DoNotClash one other
OverlapOf (one, other) (Some (Overlap a b place)) =
    (a.0 ≡ number_of one) × (b.0 ≡ number_of other) × IsLeast (clash one other) (Some place)
OverlapOf (one, other) (Some _) = ⊥

-- the first overlap in a program
abbrev pub FirstOverlap : List Domain → Option Refusal → Type 0
FirstOverlap domains answer = FirstOf (λ d. FirstOf OverlapOf (sibling_pairs (body_of d))) (nodes_from 0 domains) answer
