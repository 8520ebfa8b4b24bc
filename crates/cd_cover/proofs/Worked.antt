-- Worked cases of links, targets, stale places and outer references.
use Rattle.std.proofs.Common.{◌≡◌, ℕ, true, false, List, [], ◌∷◌, Option, None, Some, refl}
use Rattle.cd_base.specs.declared.place.Place.{Place}
use Rattle.cd_base.specs.declared.place.Range.{Range}
use Rattle.cd_base.specs.declared.pattern.Pattern.TheVariants.{Const}
use Rattle.cd_tree.specs.declared.domain.NodeId.{NodeId}
use Rattle.cd_tree.specs.declared.domain.Item.{Item}
use Rattle.cd_tree.specs.declared.domain.Item.TheVariants.{Run, Group}
use Rattle.cd_tree.specs.declared.domain.How.TheVariants.{Copy, Refer, Regen}
use Rattle.cd_tree.specs.declared.domain.Entry.{Entry}
use Rattle.cd_tree.specs.declared.domain.Domain.{Domain}
use Rattle.cd_tree.specs.declared.operation.Op.TheVariants.{Fill}
use Rattle.cd_tree.specs.Domains.{Node, first_of_all, nodes_from, root_of}
use Rattle.cd_tree.specs.Meaning.{node_need}
use Rattle.cd_cover.specs.Links.{frames_of, link_of, target_in, stale}
use Rattle.cd_cover.specs.Outer.{outer_references}

abbrev pub number : ℕ → NodeId
number n = record { 0 = n }

abbrev pub part : ℕ → ℕ → ℕ → Range
part region low high = record { region = region; low = low; high = high }

abbrev pub place : ℕ → ℕ → Place
place region index = record { region = region; index = index }

abbrev pub copied : Range → Entry
copied range = record { range = range; how = Copy }

abbrev pub referred : Range → Entry
referred range = record { range = range; how = Refer }

abbrev pub given_anew : Range → Entry
given_anew range = record { range = range; how = Regen (Const 7) }

abbrev pub domain : Option NodeId → List Entry → List Item → Domain
domain parent entries items =
    record { name = []; parent = parent; retry = 1; detects = 0; entries = entries; items = items }

-- the root writes words 2 and 3 of region 0 before the group and word 5 behind it; its child, word 6 before its own group
abbrev pub root : Domain
root =
    domain None (copied (part 0 0 8) ∷ copied (part 1 0 4) ∷ [])
    (Run (Fill (part 0 2 4) 1) ∷ Group (number 1 ∷ number 3 ∷ []) ∷ Run (Fill (part 0 5 6) 1) ∷ [])

abbrev pub between : List Entry → Domain
between entries =
    domain (Some (number 0)) entries (Run (Fill (part 0 6 7) 1) ∷ Group (number 2 ∷ []) ∷ [])

abbrev pub last : List Entry → Domain
last entries = domain (Some (number 1)) entries []

-- a member beside, which writes word 1 of region 1
abbrev pub beside : Domain
beside = domain (Some (number 0)) [] (Run (Fill (part 1 1 2) 1) ∷ [])

abbrev pub program : List Entry → List Entry → List Domain
program middle inner = root ∷ between middle ∷ last inner ∷ beside ∷ []

-- ---- links

-- a reference leads to a reference, and on to the root's copy
to_a_reference : link_of (program (referred (part 0 0 8) ∷ []) (referred (part 0 4 6) ∷ [])) (number 2) 0 ≡ Some (number 1, 0)
to_a_reference = refl

on_to_a_copy : target_in (part 0 4 6) (frames_of (program (referred (part 0 0 8) ∷ []) []) (number 2)) ≡ Some (number 0, 0)
on_to_a_copy = refl

-- no entry above holds the range: one ends before it does
no_link : link_of (program (referred (part 1 0 3) ∷ []) (referred (part 1 2 5) ∷ [])) (number 2) 0 ≡ None
no_link = refl

-- the nearest domain with such an entry is taken, though one further up has one too
nearest : link_of (program (copied (part 1 0 1) ∷ copied (part 0 0 8) ∷ []) (referred (part 0 4 6) ∷ [])) (number 2) 0 ≡ Some (number 1, 1)
nearest = refl

-- of two entries of one domain, the first
first_of_two : link_of (program (copied (part 0 2 8) ∷ referred (part 0 0 8) ∷ []) (referred (part 0 4 6) ∷ [])) (number 2) 0 ≡ Some (number 1, 0)
first_of_two = refl

-- an entry that a pattern gives anew is passed over
passed_over : link_of (program (given_anew (part 0 0 8) ∷ []) (referred (part 0 4 6) ∷ [])) (number 2) 0 ≡ Some (number 0, 0)
passed_over = refl

-- a copy has no link
no_reference : link_of (program (copied (part 0 0 8) ∷ []) (copied (part 0 4 6) ∷ [])) (number 2) 0 ≡ None
no_reference = refl

-- ---- stale places

-- the link is a reference, so what the root writes before the group counts
stale_through : stale (part 0 3 5) (frames_of (program (referred (part 0 0 8) ∷ []) []) (number 2)) (place 0 3) ≡ true
stale_through = refl

-- so does what stands between
stale_between : stale (part 0 4 8) (frames_of (program (referred (part 0 0 8) ∷ []) []) (number 2)) (place 0 6) ≡ true
stale_between = refl

-- what is written behind the group does not
fresh_behind : stale (part 0 4 6) (frames_of (program (referred (part 0 0 8) ∷ []) []) (number 2)) (place 0 5) ≡ false
fresh_behind = refl

-- the target is the copy between, so what the root writes does not
fresh_below : stale (part 0 3 5) (frames_of (program (copied (part 0 0 8) ∷ []) []) (number 2)) (place 0 3) ≡ false
fresh_below = refl

-- what a member beside writes in the same group does not
fresh_beside : stale (part 1 0 4) (frames_of (program (referred (part 1 0 4) ∷ []) []) (number 2)) (place 1 1) ≡ false
fresh_beside = refl

-- ---- outer references

-- the view of domain 1
abbrev view_of_second : List Domain → Node
view_of_second domains = first_of_all (nodes_from_second domains)
  where
    nodes_from_second : List Domain → List Node
    nodes_from_second [] = []
    nodes_from_second (first ∷ rest) = nodes_from 1 rest

-- its own reference to the root, and one below it; not the one below it that it holds itself
outer : outer_references (view_of_second (program (copied (part 1 0 4) ∷ referred (part 0 0 2) ∷ []) (referred (part 1 1 2) ∷ referred (part 0 4 6) ∷ [])))
    ≡ (number 1, 1) ∷ (number 2, 1) ∷ []
outer = refl

-- ---- need

-- the root's entries need one block each, its child's reference two, and the last one's copy of 65 words two
need : node_need (root_of (program (referred (part 0 0 8) ∷ []) (copied (part 0 0 65) ∷ []))) ≡ 6
need = refl
