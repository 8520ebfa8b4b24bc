-- Subtrees are slices: the numbers below a run of numbers are runs, and members follow each other in them.
use Rattle.std.proofs.Common.{◌≡◌, ℕ, zero, suc, ◌+◌, ◌-◌, ◌≤◌, Bool, false, ◌||◌, ◌==◌, List, ◌∷◌, length, ap, sym, ◌∙◌, arith}
use Rattle.std.proofs.lemmas.Bool.Decides.{nat_tests}
use Rattle.cd_tree.specs.Domains.{Node, Body, Members, node, stop, run, group, no_more, member, root_of, number_of, body_of, node_numbers, body_numbers, member_numbers, numbers_from, Throughout, ThroughoutBody, ThroughoutMembers}
use Rattle.cd_tree.specs.TreeModel.{TreeModel, IsTree}
use Rattle.cd_tree.specs.Laws.{OfEach}
use Rattle.cd_tree.specs.Slices.{node_size, IsSlice, among, in_slice, MembersFollow, GroupsFollow}
use Rattle.cd_tree.proofs.Walk.{length-numbers_from, Parts, numbers_parted}
use Rattle.cd_tree.proofs.EachDomain.{of_each}

-- a run of numbers is a run of as many as it has
pub as_long : (numbers : List ℕ) (at n : ℕ) → numbers ≡ numbers_from at n → numbers ≡ numbers_from at (length numbers)
as_long numbers at n is = is ∙ ap (numbers_from at) (sym (length-numbers_from at n) ∙ ap length (sym is))

-- a domain whose numbers are a run stands at its front, and its body's are the rest
pub record Headed (number : ℕ) (below : List ℕ) (at : ℕ) : Type 0 where
  pub here : number ≡ at
  pub rest : below ≡ numbers_from (suc at) (length below)

pub headed : (number : ℕ) (below : List ℕ) (at n : ℕ) → number ∷ below ≡ numbers_from at n → Headed number below at
headed number below at zero is = absurd (cc)
headed number below at (suc n) is =
    let tail : below ≡ numbers_from (suc at) n = cc in
    record { here = cc; rest = as_long below (suc at) n tail }

-- a subtree is a slice, and ends within some numbers
pub record EndsWithin (end : ℕ) (d : Node) : Type 0 where
  pub slice : IsSlice d
  pub within : number_of d + node_size d ≤ end

mutual
  -- a run of numbers is one in each subtree
  node_sliced : (d : Node) (at n end : ℕ) → node_numbers d ≡ numbers_from at n → at + n ≤ end → Throughout (EndsWithin end) d
  node_sliced (node id domain body) at n end is within =
      let head : Headed id.0 (body_numbers body) at = headed id.0 (body_numbers body) at n is in
      let own : node_numbers (node id domain body) ≡ numbers_from at (length (node_numbers (node id domain body))) =
      as_long (node_numbers (node id domain body)) at n is in
      let long : suc (length (body_numbers body)) ≡ n = ap length is ∙ length-numbers_from at n in (
        record {
          slice = own ∙ ap (λ (k : ℕ). numbers_from k (length (node_numbers (node id domain body)))) (sym head.here);
          within = ends_by id.0 at n end (length (body_numbers body)) head.here long within;
        },
        body_sliced body (suc at) (length (body_numbers body)) end head.rest (omega arith),
      )
    where
      ends_by : (id at n end many : ℕ) → id ≡ at → suc many ≡ n → at + n ≤ end → id + suc many ≤ end
      ends_by id at n end many here long within = omega arith

  body_sliced : (body : Body) (at n end : ℕ) → body_numbers body ≡ numbers_from at n → at + n ≤ end → ThroughoutBody (EndsWithin end) body
  body_sliced stop at n end is within = tt
  body_sliced (run op rest) at n end is within = body_sliced rest at n end is within
  body_sliced (group members rest) at n end is within =
      let parts : Parts (member_numbers members) (body_numbers rest) at n =
      numbers_parted (member_numbers members) (body_numbers rest) at n is in (
        members_sliced members at (length (member_numbers members)) end parts.front (omega (arith, parts.long)),
        body_sliced rest (at + length (member_numbers members)) (n - length (member_numbers members)) end parts.back (omega (arith, parts.long)),
      )

  members_sliced : (members : Members) (at n end : ℕ) → member_numbers members ≡ numbers_from at n → at + n ≤ end
      → ThroughoutMembers (EndsWithin end) members
  members_sliced no_more at n end is within = tt
  members_sliced (member first rest) at n end is within =
      let parts : Parts (node_numbers first) (member_numbers rest) at n =
      numbers_parted (node_numbers first) (member_numbers rest) at n is in (
        node_sliced first at (length (node_numbers first)) end parts.front (omega (arith, parts.long)),
        members_sliced rest (at + length (node_numbers first)) (n - length (node_numbers first)) end parts.back (omega (arith, parts.long)),
      )

pub slices_end_within : (tree : TreeModel) → IsTree tree → OfEach tree (EndsWithin (length tree.domains))
slices_end_within tree is =
    of_each tree is (EndsWithin (length tree.domains))
    (node_sliced (root_of tree.domains) 0 (length tree.domains) (length tree.domains) is.preorder (omega arith))

pub subtrees_are_slices : (tree : TreeModel) → IsTree tree → OfEach tree IsSlice
subtrees_are_slices tree is id d found = (slices_end_within tree is id d found).slice

-- the numbers of a run are those from its first to before its end
pub among_run : (at many n : ℕ) → among (numbers_from at many) n ≡ in_slice at many n
among_run at zero n = outside at n
  where
    outside : (at n : ℕ) → false ≡ in_slice at 0 n
    outside at n = grind (arith, nat_tests)
among_run at (suc many) n =
    ap (λ (b : Bool). (n == at) || b) (among_run (suc at) many n) ∙ one_more at many n
  where
    one_more : (at many n : ℕ) → (n == at) || in_slice (suc at) many n ≡ in_slice at (suc many) n
    one_more at many n = grind (arith, nat_tests)

pub slices_have_their_numbers : (tree : TreeModel) → IsTree tree
    → OfEach tree (λ d. (n : ℕ) → among (node_numbers d) n ≡ in_slice (number_of d) (node_size d) n)
slices_have_their_numbers tree is id d found n =
    ap (λ (numbers : List ℕ). among numbers n) (subtrees_are_slices tree is id d found) ∙ among_run (number_of d) (node_size d) n

-- a domain whose numbers are a run has the first of them
pub head_number : (d : Node) (at : ℕ) → node_numbers d ≡ numbers_from at (length (node_numbers d)) → number_of d ≡ at
head_number (node id domain body) at is = (headed id.0 (body_numbers body) at (length (node_numbers (node id domain body))) is).here

members_follow : (members : Members) (at n : ℕ) → member_numbers members ≡ numbers_from at n → MembersFollow at members
members_follow no_more at n is = tt
members_follow (member first rest) at n is =
    let parts : Parts (node_numbers first) (member_numbers rest) at n =
    numbers_parted (node_numbers first) (member_numbers rest) at n is in (
      head_number first at parts.front,
      members_follow rest (at + length (node_numbers first)) (n - length (node_numbers first)) parts.back,
    )

groups_follow : (body : Body) (at n : ℕ) → body_numbers body ≡ numbers_from at n → GroupsFollow at body
groups_follow stop at n is = tt
groups_follow (run op rest) at n is = groups_follow rest at n is
groups_follow (group members rest) at n is =
    let parts : Parts (member_numbers members) (body_numbers rest) at n =
    numbers_parted (member_numbers members) (body_numbers rest) at n is in (
      members_follow members at (length (member_numbers members)) parts.front,
      groups_follow rest (at + length (member_numbers members)) (n - length (member_numbers members)) parts.back,
    )

own_groups_follow : (d : Node) → IsSlice d → GroupsFollow (suc (number_of d)) (body_of d)
own_groups_follow (node id domain body) is =
    groups_follow body (suc id.0) (length (body_numbers body))
    (headed id.0 (body_numbers body) id.0 (length (node_numbers (node id domain body))) is).rest

pub members_are_slices : (tree : TreeModel) → IsTree tree → OfEach tree (λ d. GroupsFollow (suc (number_of d)) (body_of d))
members_are_slices tree is id d found = own_groups_follow d (subtrees_are_slices tree is id d found)
