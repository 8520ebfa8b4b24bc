-- The last of the children that items name, and the end of its slice.
use Rattle.std.proofs.Common.{◌≡◌, ℕ, suc, ◌+◌, ◌-◌, ◌<◌, ◌≤◌, List, [], ◌∷◌, ◌++◌, Some, length, take, drop, get_or, slice_get, refl, ap, sym, ◌∙◌, subst, arith}
use Rattle.std.proofs.lemmas.List.{append_assoc, append-nil, take-append-drop}
use Rattle.cd_base.proofs.ListLemmas.{drop-read}
use Rattle.cd_tree.specs.declared.domain.NodeId.{NodeId}
use Rattle.cd_tree.specs.declared.domain.Item.{Item}
use Rattle.cd_tree.specs.declared.domain.Item.TheVariants.{Run, Group}
use Rattle.cd_tree.specs.declared.domain.Domain.{Domain}
use Rattle.cd_tree.specs.TreeModel.{TreeModel, IsTree}
use Rattle.cd_tree.specs.Slices.{slice_end, children_in, FillSlice}
use Rattle.cd_tree.proofs.Filled.{children_fill_slices, slice_ends}

-- a child stands last among some
abbrev pub IsLast : List NodeId → NodeId → Type 0
IsLast ids id = (front : List NodeId) × (ids ≡ front ++ id ∷ [])

children_more : (item : Item) (items : List Item) → children_in (item ∷ items) ≡ children_in (item ∷ []) ++ children_in items
children_more (Run op) items = refl
children_more (Group ids) items = ap (λ (front : List NodeId). front ++ children_in items) (sym (append-nil ids))

children_joined : (items others : List Item) → children_in (items ++ others) ≡ children_in items ++ children_in others
children_joined [] others = refl
children_joined (Run op ∷ items) others = children_joined items others
children_joined (Group ids ∷ items) others =
    ap (λ (rest : List NodeId). ids ++ rest) (children_joined items others) ∙ sym (append_assoc ids (children_in items) (children_in others))

-- the last child of an item behind which no item has one
pub last_of_all : (items : List Item) (k : ℕ) (item : Item) (id : NodeId) → 0 < k → k ≤ length items → item ≡ get_or items (k - 1) item
    → children_in (drop k items) ≡ [] → IsLast (children_in (item ∷ [])) id → IsLast (children_in items) id
last_of_all items k item id some within is none (front, last) =
    let behind : k - 1 + 1 ≡ k = omega arith in
    let rest : drop (k - 1) items ≡ item ∷ drop k items =
    drop-read items (k - 1) item (omega arith) is ∙ ap (λ (n : ℕ). item ∷ drop n items) behind in
    let tail : children_in (drop (k - 1) items) ≡ front ++ id ∷ [] =
    ap children_in rest ∙ children_more item (drop k items)
    ∙ ap (λ (more : List NodeId). children_in (item ∷ []) ++ more) none
    ∙ append-nil (children_in (item ∷ [])) ∙ last in (
      children_in (take (k - 1) items) ++ front,
      ap children_in (sym (take-append-drop (k - 1) items))
          ∙ children_joined (take (k - 1) items) (drop (k - 1) items)
          ∙ ap (λ (more : List NodeId). children_in (take (k - 1) items) ++ more) tail
          ∙ sym (append_assoc (children_in (take (k - 1) items)) front (id ∷ [])),
    )

-- the last of some slices that follow each other
record Ends (domains : List Domain) (at : ℕ) (id : NodeId) (end : ℕ) : Type 0 where
  from : at ≤ id.0
  below : id.0 < end
  same : slice_end domains id ≡ end

fill_last : (domains : List Domain) (front : List NodeId) (id : NodeId) (at end : ℕ) → FillSlice domains at (front ++ id ∷ []) end → Ends domains at id end
fill_last domains [] id at end (here, grows, ends) = record { from = omega arith; below = omega arith; same = ends }
fill_last domains (first ∷ front) id at end (here, grows, fill) =
    let rest : Ends domains (slice_end domains first) id end = fill_last domains front id (slice_end domains first) end fill in
    let up : slice_end domains first ≤ id.0 = rest.from in
    record { from = omega arith; below = rest.below; same = rest.same }

-- the last child of a domain: a later one, which is there, and its slice ends where the domain's does
pub record LastChild (domains : List Domain) (id last : NodeId) : Type 0 where
  pub later : id.0 < last.0
  pub there : last.0 < length domains
  pub same : slice_end domains last ≡ slice_end domains id

pub last_child : (tree : TreeModel) → IsTree tree → (id : NodeId) (domain : Domain) (items : List Item) (last : NodeId)
    → slice_get tree.domains id.0 ≡ Some domain → id.0 < length tree.domains → items ≡ domain.items
    → IsLast (children_in items) last → LastChild tree.domains id last
last_child tree is id domain items last there within same (front, ends) =
    let all : children_in domain.items ≡ front ++ last ∷ [] = ap children_in (sym same) ∙ ends in
    let fill : FillSlice tree.domains (suc id.0) (front ++ last ∷ []) (slice_end tree.domains id) =
    subst (λ (ids : List NodeId). FillSlice tree.domains (suc id.0) ids (slice_end tree.domains id)) all
    (children_fill_slices tree is id domain there) in
    let at_end : Ends tree.domains (suc id.0) last (slice_end tree.domains id) =
    fill_last tree.domains front last (suc id.0) (slice_end tree.domains id) fill in
    let up : suc id.0 ≤ last.0 = at_end.from in
    let below : last.0 < slice_end tree.domains id = at_end.below in
    let high : slice_end tree.domains id ≤ length tree.domains = (slice_ends tree is id within).1 in
    record { later = omega arith; there = omega arith; same = at_end.same }

-- a domain without children ends its slice
pub no_child : (tree : TreeModel) → IsTree tree → (id : NodeId) (domain : Domain) (items : List Item)
    → slice_get tree.domains id.0 ≡ Some domain → items ≡ domain.items → children_in items ≡ [] → suc id.0 ≡ slice_end tree.domains id
no_child tree is id domain items there same none =
    subst (λ (ids : List NodeId). FillSlice tree.domains (suc id.0) ids (slice_end tree.domains id)) (ap children_in (sym same) ∙ none)
    (children_fill_slices tree is id domain there)
