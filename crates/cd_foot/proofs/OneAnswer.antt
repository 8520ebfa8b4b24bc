-- A program has one first overlap, since two of its members clash first at one place.
use Rattle.std.proofs.Common.{◌≡◌, ℕ, List, Option, None, Some, refl, ap, sym, ◌∙◌}
use Rattle.cd_base.specs.declared.place.Place.{Place}
use Rattle.cd_base.specs.Places.{IsLeast}
use Rattle.cd_base.proofs.RangeLemmas.{IsLeast-same}
use Rattle.cd_tree.specs.declared.domain.NodeId.{NodeId}
use Rattle.cd_tree.specs.declared.domain.Domain.{Domain}
use Rattle.cd_tree.specs.declared.refusal.Refusal.{Refusal}
use Rattle.cd_tree.specs.declared.refusal.Refusal.TheVariants.{Overlap}
use Rattle.cd_tree.specs.Domains.{Node, number_of, body_of, nodes_from}
use Rattle.cd_tree.specs.Meaning.{clash}
use Rattle.cd_tree.specs.Refusals.{FirstOf}
use Rattle.cd_tree.proofs.RefusalLemmas.{HasOne, first_is_one}
use Rattle.cd_foot.specs.Overlaps.{sibling_pairs, OverlapOf, FirstOverlap}

-- what is refused of two members that interfere first at this place
abbrev overlap_at : Node → Node → Option Place → Option Refusal
overlap_at one other None = None
overlap_at one other (Some place) = Some (Overlap (record { 0 = number_of one }) (record { 0 = number_of other }) place)

same_overlap : (a b : NodeId) (m n : ℕ) (place : Place) → a.0 ≡ m → b.0 ≡ n
    → Some (Overlap (record { 0 = m }) (record { 0 = n }) place) ≡ Some (Overlap a b place)
same_overlap a b m n place first second =
    let at_first : ℕ → Option Refusal = λ k. Some (Overlap (record { 0 = k }) (record { 0 = n }) place) in
    let at_second : ℕ → Option Refusal = λ k. Some (Overlap a (record { 0 = k }) place) in
    sym (ap at_first first) ∙ sym (ap at_second second)

comes : (one other : Node) (answer : Option Refusal) → OverlapOf (one, other) answer
    → (place : Option Place) × IsLeast (clash one other) place × (overlap_at one other place ≡ answer)
comes one other None says = (None, says, refl)
comes one other (Some (Overlap a b place)) says =
    (Some place, says.2, same_overlap a b (number_of one) (number_of other) place says.0 says.1)
comes one other (Some _) never = absurd never

overlap_is_one : (pair : Node × Node) → HasOne (OverlapOf pair)
overlap_is_one (first, second) one other p q =
    let here = comes first second one p in
    let there = comes first second other q in
    sym here.2 ∙ ap (overlap_at first second) (IsLeast-same (clash first second) here.0 there.0 here.1 there.1) ∙ there.2

-- the two first overlaps of a program are the same
pub first_overlap_is_one : (domains : List Domain) → HasOne (FirstOverlap domains)
first_overlap_is_one domains =
    first_is_one (λ d. FirstOf OverlapOf (sibling_pairs (body_of d)))
    (λ d. first_is_one OverlapOf overlap_is_one (sibling_pairs (body_of d)))
    (nodes_from 0 domains)
