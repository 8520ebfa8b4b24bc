-- The outer references of a domain ascend: by their domains, and by their entries in one domain.
use Rattle.std.proofs.Common.{◌≡◌, inl, inr, ℕ, zero, suc, ◌≤◌, List, [], ◌∷◌, ◌++◌, Option, All, length, slice_index_or, refl, sym, ap, ◌∙◌, subst, arith}
use Rattle.std.specs.List.{flat_map}
use Rattle.std.proofs.lemmas.Bool.{cases_Bool}
use Rattle.std.proofs.lemmas.List.Elements.{All-nil, All-cons, All-head, All-tail, All-append, All-weaker}
use Rattle.cd_tree.specs.declared.domain.NodeId.{NodeId}
use Rattle.cd_tree.specs.Domains.{node_numbers, number_of, numbers_from}
use Rattle.cd_cover.specs.OuterLaws.{ComesBefore, Ascend, OuterAscend, leads_before, leading_before, leading_of}
use Rattle.cd_cover.proofs.Grounds.{slices}
use Rattle.cd_cover.proofs.OuterLemmas.{outer_in_order}

-- entries of one domain from a number on
abbrev InRow : NodeId → ℕ → NodeId × ℕ → Type 0
InRow id at (other, k) = (other ≡ id) × (at ≤ k)

-- entries of domains from a number on
abbrev InRows : ℕ → NodeId × ℕ → Type 0
InRows n (other, k) = n ≤ other.0

row_later : (id : NodeId) (at : ℕ) (reference : NodeId × ℕ) → InRow id (suc at) reference → InRow id at reference
row_later id at (other, k) (same, later) = (same, omega arith)

row_behind : (id : NodeId) (at : ℕ) (reference : NodeId × ℕ) → InRow id (suc at) reference → ComesBefore (id, at) reference
row_behind id at (other, k) (same, later) = inr (sym same, later)

row_all : (first : ℕ) (id : NodeId) (at : ℕ) (links : List (Option (NodeId × ℕ))) → All (InRow id at) (leading_before first id at links)
row_all first id at [] = All-nil (InRow id at)
row_all first id at (link ∷ links) =
    let rest : All (InRow id at) (leading_before first id (suc at) links) =
    All-weaker (InRow id (suc at)) (InRow id at) (row_later id at) (leading_before first id (suc at) links) (row_all first id (suc at) links) in
    elim (cases_Bool (leads_before first link)) [
      | inl leads ↦ rw leads (All-cons (InRow id at) (id, at) (leading_before first id (suc at) links) (refl, omega arith) rest)
      | inr not ↦ rw not rest
    ]

row_ascends : (first : ℕ) (id : NodeId) (at : ℕ) (links : List (Option (NodeId × ℕ))) → Ascend (leading_before first id at links)
row_ascends first id at [] = tt
row_ascends first id at (link ∷ links) =
    let later : List (NodeId × ℕ) = leading_before first id (suc at) links in
    elim (cases_Bool (leads_before first link)) [
      | inl leads ↦
          rw leads (
            All-weaker (InRow id (suc at)) (ComesBefore (id, at)) (row_behind id at) later (row_all first id (suc at) links),
            row_ascends first id (suc at) links,
          )
      | inr not ↦ rw not (row_ascends first id (suc at) links)
    ]

-- one list and then another
ascend_joined : (xs ys : List (NodeId × ℕ)) → Ascend xs → Ascend ys → All (λ x. All (ComesBefore x) ys) xs → Ascend (xs ++ ys)
ascend_joined [] ys one other each = other
ascend_joined (x ∷ xs) ys (first, one) other each = (
  All-append (ComesBefore x) xs ys first (All-head (λ z. All (ComesBefore z) ys) x xs each),
  ascend_joined xs ys one other (All-tail (λ z. All (ComesBefore z) ys) x xs each),
)

rows_later : (n : ℕ) (reference : NodeId × ℕ) → InRows (suc n) reference → InRows n reference
rows_later n (other, k) later = omega arith

row_in_rows : (n : ℕ) (reference : NodeId × ℕ) → InRow (record { 0 = n }) 0 reference → InRows n reference
row_in_rows n (other, k) (same, later) =
    let number : other.0 ≡ n = ap (λ (i : NodeId). i.0) same in
    omega arith

rows_all : (links : List (List (Option (NodeId × ℕ)))) (first n left : ℕ) → All (InRows n) (flat_map (leading_of links first) (numbers_from n left))
rows_all links first n zero = All-nil (InRows n)
rows_all links first n (suc left) =
    All-append (InRows n) (leading_of links first n) (flat_map (leading_of links first) (numbers_from (suc n) left))
    (All-weaker (InRow (record { 0 = n }) 0) (InRows n) (row_in_rows n) (leading_of links first n)
    (row_all first (record { 0 = n }) 0 (slice_index_or links n [])))
    (All-weaker (InRows (suc n)) (InRows n) (rows_later n) (flat_map (leading_of links first) (numbers_from (suc n) left))
    (rows_all links first (suc n) left))

before_rows : (n : ℕ) (reference other : NodeId × ℕ) → InRow (record { 0 = n }) 0 reference → InRows (suc n) other → ComesBefore reference other
before_rows n (id, at) (further, k) (same, low) later =
    let number : id.0 ≡ n = ap (λ (i : NodeId). i.0) same in
    inl (omega arith)

rows_ascend : (links : List (List (Option (NodeId × ℕ)))) (first n left : ℕ) → Ascend (flat_map (leading_of links first) (numbers_from n left))
rows_ascend links first n zero = tt
rows_ascend links first n (suc left) =
    let rest : List (NodeId × ℕ) = flat_map (leading_of links first) (numbers_from (suc n) left) in
    ascend_joined (leading_of links first n) rest (row_ascends first (record { 0 = n }) 0 (slice_index_or links n []))
    (rows_ascend links first (suc n) left)
    (All-weaker (InRow (record { 0 = n }) 0) (λ x. All (ComesBefore x) rest)
    (λ x own. All-weaker (InRows (suc n)) (ComesBefore x) (λ y later. before_rows n x y own later) rest (rows_all links first (suc n) left))
    (leading_of links first n) (row_all first (record { 0 = n }) 0 (slice_index_or links n [])))

pub outer_ascend : OuterAscend
outer_ascend plan is id d found =
    subst Ascend
    (ap (flat_map (leading_of plan.links (number_of d))) (sym (slices plan.tree is.program id d found)) ∙ sym (outer_in_order plan is id d found))
    (rows_ascend plan.links (number_of d) (number_of d) (length (node_numbers d)))
