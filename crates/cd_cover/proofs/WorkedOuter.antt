-- A worked program of four levels: which references lead out of each domain, in which order, and how a walk comes to them.
use Rattle.std.proofs.Common.{◌≡◌, ℕ, true, false, List, [], ◌∷◌, map, Option, None, Some, refl}
use Rattle.std.specs.Option.{option_map}
use Rattle.std.specs.List.{flat_map}
use Rattle.cd_tree.specs.declared.domain.NodeId.{NodeId}
use Rattle.cd_tree.specs.declared.domain.Item.TheVariants.{Group}
use Rattle.cd_tree.specs.declared.domain.Domain.{Domain}
use Rattle.cd_tree.specs.TreeModel.{TreeModel}
use Rattle.cd_base.specs.Words.{Words}
use Rattle.cd_tree.specs.Domains.{Node, node_of, nodes_from, node_numbers, body_of, root_of}
use Rattle.cd_tree.specs.FirstItems.{first_items, waiting_words}
use Rattle.cd_tree.specs.Meaning.{body_writes}
use Rattle.cd_cover.specs.Links.{written_before}
use Rattle.cd_cover.specs.Outer.{outer_references}
use Rattle.cd_cover.specs.Plans.{links_of}
use Rattle.cd_cover.specs.PlanLaws.{need_of}
use Rattle.cd_cover.specs.OuterLaws.{leading_of}
use Rattle.cd_cover.specs.OuterLeft.{left_at}
use Rattle.cd_cover.proofs.Worked.{number, part, place, copied, referred, domain, program}

-- the root keeps two ranges; under it domain 1 refers to one of them, domain 2 to what domain 1 refers to, and domain 3 to
-- what domains 2 and 0 keep; domain 4 stands beside domain 1
abbrev levels : List Domain
levels =
    domain None (copied (part 0 0 8) ∷ copied (part 1 0 4) ∷ []) (Group (number 1 ∷ number 4 ∷ []) ∷ [])
    ∷ domain (Some (number 0)) (referred (part 0 0 8) ∷ []) (Group (number 2 ∷ []) ∷ [])
    ∷ domain (Some (number 1)) (copied (part 1 0 2) ∷ referred (part 0 2 6) ∷ []) (Group (number 3 ∷ []) ∷ [])
    ∷ domain (Some (number 2)) (referred (part 0 3 5) ∷ referred (part 1 0 1) ∷ referred (part 1 1 4) ∷ []) []
    ∷ domain (Some (number 0)) (referred (part 1 0 4) ∷ []) []
    ∷ []

abbrev tree : TreeModel
tree = record { kinds = []; domains = levels }

abbrev links : List (List (Option (NodeId × ℕ)))
links = map (links_of tree) (nodes_from 0 levels)

abbrev outer_of : ℕ → Option (List (NodeId × ℕ))
outer_of n = option_map outer_references (node_of levels (number n))

-- a reference to a reference to a reference
three_levels :
    links
    ≡ (None ∷ None ∷ [])
    ∷ (Some (number 0, 0) ∷ [])
    ∷ (None ∷ Some (number 1, 0) ∷ [])
    ∷ (Some (number 2, 1) ∷ Some (number 2, 0) ∷ Some (number 0, 1) ∷ [])
    ∷ (Some (number 0, 1) ∷ [])
    ∷ []
three_levels = refl

-- nothing leads out of the root
of_root : outer_of 0 ≡ Some []
of_root = refl

-- its own reference, and one from two levels below; those that domains 1 and 2 keep do not lead out
of_first : outer_of 1 ≡ Some ((number 1, 0) ∷ (number 3, 2) ∷ [])
of_first = refl

of_second : outer_of 2 ≡ Some ((number 2, 1) ∷ (number 3, 2) ∷ [])
of_second = refl

-- all three lead out of domain 3, and domain 4's is no concern of the others
of_third : outer_of 3 ≡ Some ((number 3, 0) ∷ (number 3, 1) ∷ (number 3, 2) ∷ [])
of_third = refl

-- the same by the links of the domains of a subtree
by_links : option_map (λ d. flat_map (leading_of links 1) (node_numbers d)) (node_of levels (number 1)) ≡ outer_of 1
by_links = refl

-- a walk from the first entry of domain 1 on, and from behind its first outer reference on
walk_begins : left_at links 1 (record { node = 1; entry = 0; left = 3 }) ≡ (number 1, 0) ∷ (number 3, 2) ∷ []
walk_begins = refl

walk_goes_on : left_at links 1 (record { node = 1; entry = 1; left = 3 }) ≡ (number 3, 2) ∷ []
walk_goes_on = refl

-- behind the last there is nothing, though domain 4 has a reference to the root
walk_ends : left_at links 1 (record { node = 3; entry = 3; left = 1 }) ≡ []
walk_ends = refl

-- the needs of a chain of domains: two blocks a reference, one a copy
needs : map (λ (n : ℕ). need_of levels (number n)) (0 ∷ 1 ∷ 2 ∷ 3 ∷ 4 ∷ []) ≡ 15 ∷ 11 ∷ 9 ∷ 6 ∷ 2 ∷ []
needs = refl

-- ---- words at a group

-- the root of the other worked program fills words 2 and 3 before its group, and word 5 behind it
abbrev whole : Node
whole = root_of (program (referred (part 0 4 8) ∷ []) [])

abbrev begun : Words
begun p = Some p.index

filled_before : waiting_words whole 1 begun (place 0 3) ≡ Some 1
filled_before = refl

-- the range to which its child refers has the words that the root's copy keeps
as_begun : waiting_words whole 1 begun (place 0 4) ≡ Some 4
as_begun = refl

not_yet : waiting_words whole 1 begun (place 0 5) ≡ Some 5
not_yet = refl

-- what stands before the child's group is the first item
first_item : written_before 1 (body_of whole) (place 0 3) ≡ body_writes (first_items 1 (body_of whole)) (place 0 3)
first_item = refl

written_there : written_before 1 (body_of whole) (place 0 3) ≡ true
written_there = refl

not_behind : written_before 1 (body_of whole) (place 0 5) ≡ false
not_behind = refl
