-- Paths and subtrees: a domain stands in the subtree of another exactly where the other is on its path.
use Rattle.std.proofs.Common.{◌≡◌, ◌⊎◌, inl, inr, ℕ, zero, suc, ◌+◌, ◌<◌, ◌≤◌, List, [], ◌∷◌, ◌++◌, Option, None, Some, length, slice_get, refl, sym, ap, ◌∙◌, subst, arith}
use Rattle.std.specs.Option.{option_map_or}
use Rattle.std.specs.List.{Contains}
use Rattle.std.proofs.lemmas.Option.{slice_get_within, same_Some}
use Rattle.std.proofs.lemmas.List.Elements.{Contains-append_left, Contains-push, Contains-push_cases}
use Rattle.cd_base.proofs.ListLemmas.{some_of}
use Rattle.cd_tree.specs.declared.domain.NodeId.{NodeId}
use Rattle.cd_tree.specs.declared.domain.Domain.{Domain}
use Rattle.cd_tree.specs.TreeModel.{TreeModel, IsTree}
use Rattle.cd_tree.specs.Domains.{Node, node_of, root_of, node_numbers, numbers_from}
use Rattle.cd_tree.specs.Scripts.{path_of}
use Rattle.cd_tree.proofs.View.{domain_here}
use Rattle.cd_cover.specs.OuterLaws.{SubtreesByPaths}
use Rattle.cd_cover.proofs.Downward.{Known, known_of, view_in, domain_behind, same_id, IsNamed, downward, upward, contains_first, contains_behind, numbers_cases, numbers_of_child}

-- a domain on a path that is not its end is on the parent's
pub record Above (domains : List Domain) (domain : Domain) (up : NodeId) : Type 0 where
  pub parent : NodeId
  pub over : Domain
  pub is_parent : domain.parent ≡ Some parent
  pub there : slice_get domains parent.0 ≡ Some over
  pub on_path : Contains (path_of domains parent) up

pub path_itself : (domains : List Domain) → Known domains → (id : NodeId) (domain : Domain) → slice_get domains id.0 ≡ Some domain
    → Contains (path_of domains id) id
path_itself domains all id domain there =
    subst (λ (ids : List NodeId). Contains ids id) (sym (all.path id domain there))
    (Contains-push (option_map_or (path_of domains) domain.parent []) id)

pub path_of_child : (domains : List Domain) → Known domains → (id parent : NodeId) (domain : Domain) → slice_get domains id.0 ≡ Some domain
    → domain.parent ≡ Some parent → path_of domains id ≡ path_of domains parent ++ id ∷ []
path_of_child domains all id parent domain there up =
    all.path id domain there ∙ ap (λ (o : Option NodeId). option_map_or (path_of domains) o [] ++ id ∷ []) up

pub path_up : (domains : List Domain) → Known domains → (id parent : NodeId) (domain : Domain) → slice_get domains id.0 ≡ Some domain
    → domain.parent ≡ Some parent → (up : NodeId) → Contains (path_of domains parent) up → Contains (path_of domains id) up
path_up domains all id parent domain there is up on =
    subst (λ (ids : List NodeId). Contains ids up) (sym (path_of_child domains all id parent domain there is))
    (Contains-append_left (path_of domains parent) (id ∷ []) up on)

pub parent_there : (domains : List Domain) → Known domains → (id parent : NodeId) (domain : Domain) → slice_get domains id.0 ≡ Some domain
    → domain.parent ≡ Some parent → (over : Domain) × (slice_get domains parent.0 ≡ Some over)
parent_there domains all id parent domain there is =
    let before : parent.0 < id.0 = all.before id parent domain there is in
    let within : id.0 < length domains = slice_get_within domains id.0 domain there in
    domain_here domains parent.0 (omega arith)

above_by : (domains : List Domain) → Known domains → (id : NodeId) (domain : Domain) → slice_get domains id.0 ≡ Some domain
    → (up : NodeId) (parent : Option NodeId) → domain.parent ≡ parent → Contains (option_map_or (path_of domains) parent []) up
    → Above domains domain up
above_by domains all id domain there up None is on = absurd (omega (arith, on.1))
above_by domains all id domain there up (Some parent) is on =
    let over = parent_there domains all id parent domain there is in
    record { parent = parent; over = over.0; is_parent = is; there = over.1; on_path = on }

-- a domain on a path is the path's end, or is on the parent's path
pub path_cases : (domains : List Domain) → Known domains → (id : NodeId) (domain : Domain) → slice_get domains id.0 ≡ Some domain
    → (up : NodeId) → Contains (path_of domains id) up → (id ≡ up) ⊎ Above domains domain up
path_cases domains all id domain there up on =
    elim (Contains-push_cases (option_map_or (path_of domains) domain.parent []) id up
    (subst (λ (ids : List NodeId). Contains ids up) (all.path id domain there) on)) [
      | inl above ↦ inr (above_by domains all id domain there up domain.parent refl above)
      | inr same ↦ inl same
    ]

-- what is on a path stands before its end, or is it
pub path_before : (domains : List Domain) → Known domains → (id : NodeId) (domain : Domain) → slice_get domains id.0 ≡ Some domain
    → (up : NodeId) → Contains (path_of domains id) up → up.0 ≤ id.0
path_before domains all =
    upward domains (λ id domain. (up : NodeId) → Contains (path_of domains id) up → up.0 ≤ id.0)
    (λ id domain there rest up on.
    elim (path_cases domains all id domain there up on) [
      | inl same ↦
          let equal : id.0 ≡ up.0 = ap (λ (i : NodeId). i.0) same in
          omega arith
      | inr above ↦
          let before : above.parent.0 < id.0 = all.before id above.parent domain there above.is_parent in
          let beyond : up.0 ≤ above.parent.0 = rest above.parent above.over before above.there up above.on_path in
          omega arith
    ])

-- the path of a domain on a path is a part of it
pub path_through : (domains : List Domain) → Known domains → (id : NodeId) (domain : Domain) → slice_get domains id.0 ≡ Some domain
    → (between up : NodeId) → Contains (path_of domains id) between → Contains (path_of domains between) up → Contains (path_of domains id) up
path_through domains all =
    upward domains
    (λ id domain. (between up : NodeId) → Contains (path_of domains id) between → Contains (path_of domains between) up → Contains (path_of domains id) up)
    (λ id domain there rest between up on beyond.
    elim (path_cases domains all id domain there between on) [
      | inl same ↦ subst (λ (i : NodeId). Contains (path_of domains i) up) (sym same) beyond
      | inr above ↦
          path_up domains all id above.parent domain there above.is_parent up
          (rest above.parent above.over (all.before id above.parent domain there above.is_parent) above.there between up above.on_path beyond)
    ])

-- of two domains on a path the one that does not stand behind the other is on the other's path
pub path_order : (domains : List Domain) → Known domains → (id : NodeId) (domain : Domain) → slice_get domains id.0 ≡ Some domain
    → (between up : NodeId) → Contains (path_of domains id) between → Contains (path_of domains id) up → up.0 ≤ between.0
    → Contains (path_of domains between) up
path_order domains all =
    upward domains
    (λ id domain.
    (between up : NodeId) → Contains (path_of domains id) between → Contains (path_of domains id) up → up.0 ≤ between.0
    → Contains (path_of domains between) up)
    (λ id domain there rest between up on beyond order.
    elim (path_cases domains all id domain there between on) [
      | inl same ↦ subst (λ (i : NodeId). Contains (path_of domains i) up) same beyond
      | inr above ↦
          let before : above.parent.0 < id.0 = all.before id above.parent domain there above.is_parent in
          let low : between.0 ≤ above.parent.0 = path_before domains all above.parent above.over above.there between above.on_path in
          elim (path_cases domains all id domain there up beyond) [
            | inl same ↦
                let equal : id.0 ≡ up.0 = ap (λ (i : NodeId). i.0) same in
                absurd (omega arith)
            | inr higher ↦
                let one : above.parent ≡ higher.parent =
                same_Some above.parent higher.parent (sym above.is_parent ∙ higher.is_parent) in
                rest above.parent above.over before above.there between up above.on_path
                (subst (λ (i : NodeId). Contains (path_of domains i) up) (sym one) higher.on_path) order
          ]
    ])

-- ---- subtrees

-- what stands in a subtree has its top on the path
pub top_on_path : (domains : List Domain) → Known domains → (id : NodeId) (domain : Domain) → slice_get domains id.0 ≡ Some domain
    → (below : NodeId) (last : Domain) → slice_get domains below.0 ≡ Some last → Contains (node_numbers (view_in domains id domain)) below.0
    → Contains (path_of domains below) id
top_on_path domains all =
    downward domains
    (λ id domain.
    (below : NodeId) (last : Domain) → slice_get domains below.0 ≡ Some last → Contains (node_numbers (view_in domains id domain)) below.0
    → Contains (path_of domains below) id)
    (λ id domain there rest below last here among.
    elim (numbers_cases domains all id domain there below.0 among) [
      | inl same ↦
          let one : id ≡ below = same_id id below same in
          subst (λ (i : NodeId). Contains (path_of domains i) id) one (path_itself domains all id domain there)
      | inr found ↦
          path_through domains all below last here found.id id
          (rest found.id found.child.domain found.child.later found.child.there below last here found.among)
          (path_up domains all found.id id found.child.domain found.child.there found.child.parent id (path_itself domains all id domain there))
    ])

-- the subtree of a domain in a subtree is a part of it
pub numbers_through : (domains : List Domain) → Known domains → (id : NodeId) (domain : Domain) → slice_get domains id.0 ≡ Some domain
    → (between : NodeId) (other : Domain) → slice_get domains between.0 ≡ Some other
    → Contains (node_numbers (view_in domains id domain)) between.0
    → (n : ℕ) → Contains (node_numbers (view_in domains between other)) n → Contains (node_numbers (view_in domains id domain)) n
numbers_through domains all =
    downward domains
    (λ id domain.
    (between : NodeId) (other : Domain) → slice_get domains between.0 ≡ Some other
    → Contains (node_numbers (view_in domains id domain)) between.0
    → (n : ℕ) → Contains (node_numbers (view_in domains between other)) n → Contains (node_numbers (view_in domains id domain)) n)
    (λ id domain there rest between other here among n inside.
    elim (numbers_cases domains all id domain there between.0 among) [
      | inl same ↦
          let one : between ≡ id = same_id between id (sym same) in
          let found : slice_get domains id.0 ≡ Some other = subst (λ (i : NodeId). slice_get domains i.0 ≡ Some other) one here in
          let both : other ≡ domain = cc in
          let seen : view_in domains between other ≡ view_in domains id domain =
          ap (λ (i : NodeId). view_in domains i other) one ∙ ap (view_in domains id) both in
          subst (λ (d : Node). Contains (node_numbers d) n) seen inside
      | inr found ↦
          numbers_of_child domains all id domain there found.id found.child.domain found.child.there found.named n
          (rest found.id found.child.domain found.child.later found.child.there between other here found.among n inside)
    ])

-- the parent of a domain has it in its subtree, where any domain before it has
pub record InParent (domains : List Domain) (below : NodeId) (last : Domain) : Type 0 where
  pub parent : NodeId
  pub over : Domain
  pub there : slice_get domains parent.0 ≡ Some over
  pub is_parent : last.parent ≡ Some parent
  pub among : Contains (node_numbers (view_in domains parent over)) below.0

pub in_parent : (domains : List Domain) → Known domains → (id : NodeId) (domain : Domain) → slice_get domains id.0 ≡ Some domain
    → (below : NodeId) (last : Domain) → slice_get domains below.0 ≡ Some last → Contains (node_numbers (view_in domains id domain)) below.0
    → (id ≡ below) ⊎ InParent domains below last
in_parent domains all =
    downward domains
    (λ id domain.
    (below : NodeId) (last : Domain) → slice_get domains below.0 ≡ Some last → Contains (node_numbers (view_in domains id domain)) below.0
    → (id ≡ below) ⊎ InParent domains below last)
    (λ id domain there rest below last here among.
    elim (numbers_cases domains all id domain there below.0 among) [
      | inl same ↦
          let one : id ≡ below = same_id id below same in
          inl one
      | inr found ↦
          elim (rest found.id found.child.domain found.child.later found.child.there below last here found.among) [
            | inr further ↦ inr further
            | inl same ↦
                let other : slice_get domains found.id.0 ≡ Some last =
                subst (λ (i : NodeId). slice_get domains i.0 ≡ Some last) (sym same) here in
                let both : found.child.domain ≡ last = cc in
                inr (record {
                  parent = id;
                  over = domain;
                  there = there;
                  is_parent = ap (λ (d : Domain). d.parent) (sym both) ∙ found.child.parent;
                  among = numbers_of_child domains all id domain there found.id found.child.domain found.child.there found.named below.0 found.among;
                })
          ]
    ])

-- the root has all in its subtree
among_numbers : (at n k : ℕ) → k < n → Contains (numbers_from at n) (at + k)
among_numbers at zero k below = absurd (omega arith)
among_numbers at (suc n) zero below =
    let same : at ≡ at + 0 = omega arith in
    subst (Contains (numbers_from at (suc n))) same (contains_first at (numbers_from (suc at) n))
among_numbers at (suc n) (suc k) below =
    let same : suc at + k ≡ at + suc k = omega arith in
    subst (Contains (numbers_from at (suc n))) same
    (contains_behind at (numbers_from (suc at) n) (suc at + k) (among_numbers (suc at) n k (omega arith)))

root_view : (domains : List Domain) → Known domains → (domain : Domain) → slice_get domains 0 ≡ Some domain
    → root_of domains ≡ view_in domains (record { 0 = 0 }) domain
root_view [] all domain there = absurd (cc)
root_view (first ∷ rest) all domain there =
    let found : node_of (first ∷ rest) (record { 0 = 0 }) ≡ Some (view_in (first ∷ rest) (record { 0 = 0 }) domain) =
    all.view (record { 0 = 0 }) domain there in
    same_Some (root_of (first ∷ rest)) (view_in (first ∷ rest) (record { 0 = 0 }) domain) found

pub in_own_parent : (tree : TreeModel) → IsTree tree → Known tree.domains → (id parent : NodeId) (domain : Domain)
    → slice_get tree.domains id.0 ≡ Some domain → domain.parent ≡ Some parent → InParent tree.domains id domain
in_own_parent tree is all id parent domain there up =
    let top : NodeId = record { 0 = 0 } in
    let root = some_of (slice_get tree.domains 0) (λ d. d.parent ≡ None) is.root in
    let within : id.0 < length tree.domains = slice_get_within tree.domains id.0 domain there in
    let numbers : node_numbers (view_in tree.domains top root.0) ≡ numbers_from 0 (length tree.domains) =
    ap node_numbers (sym (root_view tree.domains all root.0 root.1)) ∙ is.preorder in
    let number : 0 + id.0 ≡ id.0 = omega arith in
    let among : Contains (node_numbers (view_in tree.domains top root.0)) id.0 =
    subst (λ (ns : List ℕ). Contains ns id.0) (sym numbers)
    (subst (Contains (numbers_from 0 (length tree.domains))) number (among_numbers 0 (length tree.domains) id.0 within)) in
    elim (in_parent tree.domains all top root.0 root.1 id domain there among) [
      | inr found ↦ found
      | inl same ↦
          let other : slice_get tree.domains 0 ≡ Some domain = subst (λ (i : NodeId). slice_get tree.domains i.0 ≡ Some domain) (sym same) there in
          let both : root.0 ≡ domain = cc in
          let none : domain.parent ≡ None = ap (λ (d : Domain). d.parent) (sym both) ∙ root.2 in
          absurd (cc)
    ]

-- a child is named by a group of its parent
pub child_is_named : (tree : TreeModel) → IsTree tree → Known tree.domains → (id parent : NodeId) (domain : Domain)
    → slice_get tree.domains id.0 ≡ Some domain → domain.parent ≡ Some parent
    → (over : Domain) → slice_get tree.domains parent.0 ≡ Some over → IsNamed id over.items
child_is_named tree is all id parent domain there up over over_there =
    let found : InParent tree.domains id domain = in_own_parent tree is all id parent domain there up in
    let one : found.parent ≡ parent = same_Some found.parent parent (sym found.is_parent ∙ up) in
    let other : slice_get tree.domains parent.0 ≡ Some found.over =
    subst (λ (i : NodeId). slice_get tree.domains i.0 ≡ Some found.over) one found.there in
    let both : found.over ≡ over = cc in
    let view : view_in tree.domains found.parent found.over ≡ view_in tree.domains parent over =
    ap (λ (i : NodeId). view_in tree.domains i found.over) one ∙ ap (view_in tree.domains parent) both in
    let before : parent.0 < id.0 = all.before id parent domain there up in
    elim (numbers_cases tree.domains all parent over over_there id.0
    (subst (λ (v : Node). Contains (node_numbers v) id.0) view found.among)) [
      | inl same ↦ absurd (omega arith)
      | inr below ↦
          let on : Contains (path_of tree.domains id) below.id =
          top_on_path tree.domains all below.id below.child.domain below.child.there id domain there below.among in
          elim (path_cases tree.domains all id domain there below.id on) [
            | inl same ↦ subst (λ (i : NodeId). IsNamed i over.items) (sym same) below.named
            | inr above ↦
                let parents : above.parent ≡ parent = same_Some above.parent parent (sym above.is_parent ∙ up) in
                let low : below.id.0 ≤ above.parent.0 =
                path_before tree.domains all above.parent above.over above.there below.id above.on_path in
                let number : above.parent.0 ≡ parent.0 = ap (λ (i : NodeId). i.0) parents in
                let later : parent.0 < below.id.0 = below.child.later in
                absurd (omega arith)
          ]
    ]

-- a domain on a path has the path's end in its subtree
pub end_in_subtree : (tree : TreeModel) → IsTree tree → Known tree.domains → (below : NodeId) (last : Domain)
    → slice_get tree.domains below.0 ≡ Some last
    → (id : NodeId) (domain : Domain) → slice_get tree.domains id.0 ≡ Some domain → Contains (path_of tree.domains below) id
    → Contains (node_numbers (view_in tree.domains id domain)) below.0
end_in_subtree tree is all =
    upward tree.domains
    (λ below last.
    (id : NodeId) (domain : Domain) → slice_get tree.domains id.0 ≡ Some domain → Contains (path_of tree.domains below) id
    → Contains (node_numbers (view_in tree.domains id domain)) below.0)
    (λ below last here rest id domain there on.
    elim (path_cases tree.domains all below last here id on) [
      | inl same ↦
          let number : id.0 ≡ below.0 = ap (λ (i : NodeId). i.0) (sym same) in
          subst (Contains (node_numbers (view_in tree.domains id domain))) number (numbers_first tree.domains id domain)
      | inr above ↦
          let found : InParent tree.domains below last = in_own_parent tree is all below above.parent last here above.is_parent in
          let one : above.parent ≡ found.parent = same_Some above.parent found.parent (sym above.is_parent ∙ found.is_parent) in
          let onward : Contains (path_of tree.domains found.parent) id =
          subst (λ (i : NodeId). Contains (path_of tree.domains i) id) one above.on_path in
          numbers_through tree.domains all id domain there found.parent found.over found.there
          (rest found.parent found.over (all.before below found.parent last here found.is_parent) found.there id domain there onward)
          below.0 found.among
    ])
  where
    numbers_first : (domains : List Domain) (id : NodeId) (domain : Domain) → Contains (node_numbers (view_in domains id domain)) id.0
    numbers_first domains id domain = (0, omega arith, refl)

pub subtrees_by_paths : SubtreesByPaths
subtrees_by_paths tree is id below d found within =
    let all : Known tree.domains = known_of tree is in
    let last = domain_here tree.domains below.0 within in
    let top = domain_behind tree.domains id d found in (
      λ among.
          top_on_path tree.domains all id top.0 top.1 below last.0 last.1
          (subst (λ (v : Node). Contains (node_numbers v) below.0) (top.2 all) among),
      λ on.
          subst (λ (v : Node). Contains (node_numbers v) below.0) (sym (top.2 all))
          (end_in_subtree tree is all below last.0 last.1 id top.0 top.1 on),
    )
