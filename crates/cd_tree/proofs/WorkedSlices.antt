-- Worked cases of subtrees as slices and of places in groups: a root with a group of two members, one of which has a member
-- of its own, and behind an operation another group.
use Rattle.std.proofs.Common.{◌≡◌, ℕ, ◌+◌, List, [], ◌∷◌, None, Some, map, refl, arith}
use Rattle.cd_tree.specs.declared.domain.Item.TheVariants.{Run, Group}
use Rattle.cd_tree.specs.declared.domain.Domain.{Domain}
use Rattle.cd_tree.specs.declared.groups.GroupPlace.{GroupPlace}
use Rattle.cd_tree.specs.declared.operation.Op.TheVariants.{Fill}
use Rattle.cd_tree.specs.Domains.{root_of, body_of, node_numbers}
use Rattle.cd_tree.specs.Slices.{node_size, among, in_slice, slice_end, GroupsFollow, children_in, FillSlice}
use Rattle.cd_tree.specs.Groups.{StandsIn, IsPlaceOf}
use Rattle.cd_tree.proofs.WorkedForms.{number, root, inner, part}

abbrev five : List Domain
five =
    root 1 0 [] (Group (number 1 ∷ number 3 ∷ []) ∷ Run (Fill (part 0 0 4) 7) ∷ Group (number 4 ∷ []) ∷ [])
    ∷ inner 0 1 0 [] (Group (number 2 ∷ []) ∷ [])
    ∷ inner 1 1 0 [] []
    ∷ inner 0 1 0 [] []
    ∷ inner 0 1 0 [] []
    ∷ []

-- the slices of the five end behind 4, 2, 2, 3 and 4; where there is no domain there is no slice
ends_of_five : map (λ n. slice_end five (number n)) (0 ∷ 1 ∷ 2 ∷ 3 ∷ 4 ∷ 5 ∷ []) ≡ 5 ∷ 3 ∷ 3 ∷ 4 ∷ 5 ∷ 5 ∷ []
ends_of_five = refl

children_of_root : children_in (Group (number 1 ∷ number 3 ∷ []) ∷ Run (Fill (part 0 0 4) 7) ∷ Group (number 4 ∷ []) ∷ []) ≡ number 1 ∷ number 3 ∷ number 4 ∷ []
children_of_root = refl

numbers_of_five : node_numbers (root_of five) ≡ 0 ∷ 1 ∷ 2 ∷ 3 ∷ 4 ∷ []
numbers_of_five = refl

-- 1 and 2 stand in the slice from 1 that has two
in_slice_of_two : map (in_slice 1 2) (0 ∷ 1 ∷ 2 ∷ 3 ∷ []) ≡ map (among (1 ∷ 2 ∷ [])) (0 ∷ 1 ∷ 2 ∷ 3 ∷ [])
in_slice_of_two = refl

abbrev at : ℕ → ℕ → GroupPlace
at item member = record { item = item; member = member }

-- 3 is the second member of the first group of 0, 4 the first of the second, and 2 stands under 1
places_of_five :
    IsPlaceOf five (number 0) None × IsPlaceOf five (number 3) (Some (at 0 1))
    × IsPlaceOf five (number 4) (Some (at 2 0)) × IsPlaceOf five (number 2) (Some (at 0 0))
places_of_five = (refl, refl, refl, refl)

two_under_one : StandsIn five (number 1) (number 2) (at 0 0)
two_under_one = refl

-- the slices of the children of 0 follow each other from 1 to 5
fill_of_root : FillSlice five 1 (number 1 ∷ number 3 ∷ number 4 ∷ []) 5
fill_of_root = (refl, omega arith, (refl, omega arith, (refl, omega arith, refl)))

groups_of_root : GroupsFollow 1 (body_of (root_of five))
groups_of_root = ((refl, (refl, tt)), ((refl, tt), tt))
