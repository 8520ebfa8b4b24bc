-- The children of a domain fill its slice: each stands where the slice of the one before it ends.
use Rattle.std.proofs.Common.{◌≡◌, ℕ, suc, ◌+◌, ◌-◌, ◌<◌, ◌≤◌, List, [], ◌∷◌, ◌++◌, Option, None, Some, IsSomeAnd, length, get_or, slice_get, refl, ap, sym, ◌∙◌, subst, arith}
use Rattle.std.specs.Option.{option_map_or}
use Rattle.std.proofs.lemmas.Option.{slice_get-get_or}
use Rattle.cd_tree.specs.declared.domain.NodeId.{NodeId}
use Rattle.cd_tree.specs.declared.domain.Item.{Item}
use Rattle.cd_tree.specs.declared.domain.Item.TheVariants.{Run, Group}
use Rattle.cd_tree.specs.declared.domain.Domain.{Domain}
use Rattle.cd_tree.specs.Domains.{Node, node, put_first, members_by, body_by, node_of, number_of, node_numbers, body_numbers, member_numbers, numbers_from}
use Rattle.cd_tree.specs.TreeModel.{TreeModel, IsTree, NamesChildren, FitsItems}
use Rattle.cd_tree.specs.Slices.{node_size, slice_end, children_in, FillSlice}
use Rattle.cd_tree.proofs.View.{domain_fits, nested_view_follows}
use Rattle.cd_tree.proofs.Walk.{length-numbers_from, Parts, numbers_parted}
use Rattle.cd_tree.proofs.EachDomain.{number_there}
use Rattle.cd_tree.proofs.Slices.{headed, head_number, slices_end_within, subtrees_are_slices}

-- a domain that stands for none
abbrev nobody : Domain
nobody = record { name = []; parent = None; retry = 1; detects = 0; entries = []; items = [] }

-- a run is as long as the list that it is
run_length : (numbers : List ℕ) (at n : ℕ) → numbers ≡ numbers_from at n → length numbers ≡ n
run_length numbers at n is = ap length is ∙ length-numbers_from at n

-- where a domain's slice ends
pub ends_behind : (domains : List Domain) (id : NodeId) (d : Node) → node_of domains id ≡ Some d → slice_end domains id ≡ id.0 + node_size d
ends_behind domains id d found = ap (λ (o : Option Node). id.0 + option_map_or node_size o 0) found

-- a subtree is not empty
some_there : (d : Node) → 0 < node_size d
some_there (node id domain body) = omega arith

fill_first : (domains : List Domain) (id : NodeId) (ids more : List NodeId) (d : Node) (at end : ℕ) → node_of domains id ≡ Some d
    → node_numbers d ≡ numbers_from at (node_size d) → FillSlice domains (at + node_size d) (ids ++ more) end
    → FillSlice domains at (id ∷ (ids ++ more)) end
fill_first domains id ids more d at end found front rest =
    let number : number_of d ≡ id.0 = number_there 0 domains id.0 d found ∙ omega arith in
    let here : id.0 ≡ at = sym number ∙ head_number d at front in
    let ends : at + node_size d ≡ slice_end domains id = ap (λ (k : ℕ). k + node_size d) (sym here) ∙ sym (ends_behind domains id d found) in
    let some : 0 < node_size d = some_there d in
    (here, omega arith, subst (λ (k : ℕ). FillSlice domains k (ids ++ more) end) ends rest)

-- each of these numbers is that of a domain that is there
abbrev AllThere : List Domain → List NodeId → Type 0
AllThere domains [] = Unit {0}
AllThere domains (id ∷ ids) = ((d : Node) × (node_of domains id ≡ Some d)) × AllThere domains ids

all_there : (tree : TreeModel) → IsTree tree → (at : ℕ) (ids : List NodeId) → NamesChildren tree.domains at ids → AllThere tree.domains ids
all_there tree is at [] named = tt
all_there tree is at (id ∷ ids) (above, child, named) =
    (view_there tree is at id (slice_get tree.domains id.0) refl child, all_there tree is at ids named)
  where
    view_there : (tree : TreeModel) → IsTree tree → (at : ℕ) (id : NodeId) (found : Option Domain) → slice_get tree.domains id.0 ≡ found
        → IsSomeAnd found (λ child. child.parent ≡ Some (record { 0 = at })) → (d : Node) × (node_of tree.domains id ≡ Some d)
    view_there tree is at id None same child = absurd child
    view_there tree is at id (Some domain) same child =
        (node id domain (body_by (node_of tree.domains) domain.items), nested_view_follows tree is id domain same)

fill_members : (domains : List Domain) (ids more : List NodeId) (at n behind end : ℕ) → AllThere domains ids
    → member_numbers (members_by (node_of domains) ids) ≡ numbers_from at n → behind ≡ at + n → FillSlice domains behind more end
    → FillSlice domains at (ids ++ more) end
fill_members domains [] more at n behind end there is ends rest =
    let none : 0 ≡ n = run_length [] at n is in
    let here : behind ≡ at = omega arith in
    subst (λ (k : ℕ). FillSlice domains k more end) here rest
fill_members domains (id ∷ ids) more at n behind end ((d, found), there) is ends rest =
    let later : List ℕ = member_numbers (members_by (node_of domains) ids) in
    let both : node_numbers d ++ later ≡ numbers_from at n =
    ap (λ (o : Option Node). member_numbers (put_first o (members_by (node_of domains) ids))) (sym found) ∙ is in
    let parts : Parts (node_numbers d) later at n = numbers_parted (node_numbers d) later at n both in
    fill_first domains id ids more d at end found parts.front
    (fill_members domains ids more (at + node_size d) (n - node_size d) behind end there parts.back (omega (arith, parts.long)) rest)

fill_items : (tree : TreeModel) → IsTree tree → (parent : ℕ) (items : List Item) (at n end : ℕ) → FitsItems tree.domains parent items
    → body_numbers (body_by (node_of tree.domains) items) ≡ numbers_from at n → at + n ≡ end → FillSlice tree.domains at (children_in items) end
fill_items tree is parent [] at n end fits run ends =
    let none : 0 ≡ n = run_length [] at n run in
    omega arith
fill_items tree is parent (Run op ∷ items) at n end (full, shape, fits) run ends = fill_items tree is parent items at n end fits run ends
fill_items tree is parent (Group ids ∷ items) at n end (some, few, named, fits) run ends =
    let here : List ℕ = member_numbers (members_by (node_of tree.domains) ids) in
    let later : List ℕ = body_numbers (body_by (node_of tree.domains) items) in
    let parts : Parts here later at n = numbers_parted here later at n run in
    fill_members tree.domains ids (children_in items) at (length here) (at + length here) end (all_there tree is parent ids named) parts.front refl
    (fill_items tree is parent items (at + length here) (n - length here) end fits parts.back (omega (arith, parts.long)))

pub children_fill_slices : (tree : TreeModel) → IsTree tree → (id : NodeId) (domain : Domain) → slice_get tree.domains id.0 ≡ Some domain
    → FillSlice tree.domains (suc id.0) (children_in domain.items) (slice_end tree.domains id)
children_fill_slices tree is id domain there =
    let below : List ℕ = body_numbers (body_by (node_of tree.domains) domain.items) in
    let view : Node = node id domain (body_by (node_of tree.domains) domain.items) in
    let found : node_of tree.domains id ≡ Some view = nested_view_follows tree is id domain there in
    let run : below ≡ numbers_from (suc id.0) (length below) =
    (headed id.0 below id.0 (length (id.0 ∷ below)) (subtrees_are_slices tree is id view found)).rest in
    let ends : suc id.0 + length below ≡ slice_end tree.domains id =
    sums id.0 (length below) ∙ sym (ends_behind tree.domains id view found) in
    fill_items tree is id.0 domain.items (suc id.0) (length below) (slice_end tree.domains id) (domain_fits tree is id domain there).items run ends
  where
    sums : (id n : ℕ) → suc id + n ≡ id + suc n
    sums id n = omega arith

-- a domain's slice ends behind the domain, and within the program
pub slice_ends : (tree : TreeModel) → IsTree tree → (id : NodeId) → id.0 < length tree.domains
    → (id.0 < slice_end tree.domains id) × (slice_end tree.domains id ≤ length tree.domains)
slice_ends tree is id within =
    ends (get_or tree.domains id.0 nobody) (slice_get-get_or tree.domains id.0 nobody within)
  where
    ends : (domain : Domain) → slice_get tree.domains id.0 ≡ Some domain
        → (id.0 < slice_end tree.domains id) × (slice_end tree.domains id ≤ length tree.domains)
    ends domain there =
        let view : Node = node id domain (body_by (node_of tree.domains) domain.items) in
        let found : node_of tree.domains id ≡ Some view = nested_view_follows tree is id domain there in
        let end : slice_end tree.domains id ≡ id.0 + node_size view = ends_behind tree.domains id view found in
        let low : id.0 + node_size view ≤ length tree.domains = (slices_end_within tree is id view found).within in
        (omega arith, omega arith)
