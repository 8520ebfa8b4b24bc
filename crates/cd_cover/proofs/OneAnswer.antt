-- A program has one first flaw, since each of its questions has one answer.
use Rattle.std.proofs.Common.{◌≡◌, ◌⊎◌, ℕ, ◌<◌, ◌≤◌, true, List, Option, None, Some, is_some, IsSome, refl, ap, sym, subst, ◌∙◌, inl, inr, arith}
use Rattle.std.proofs.lemmas.Bool.{true≢false}
use Rattle.cd_base.specs.declared.place.Place.{Place}
use Rattle.cd_base.specs.declared.place.Range.{Range}
use Rattle.cd_base.specs.Places.{IsLeast}
use Rattle.cd_base.proofs.RangeLemmas.{IsLeast-same}
use Rattle.cd_tree.specs.declared.domain.NodeId.{NodeId}
use Rattle.cd_tree.specs.declared.domain.How.{How}
use Rattle.cd_tree.specs.declared.domain.How.TheVariants.{Copy, Refer, Regen}
use Rattle.cd_tree.specs.declared.domain.Entry.{Entry}
use Rattle.cd_tree.specs.declared.domain.Domain.{Domain}
use Rattle.cd_tree.specs.declared.refusal.Which.{Which}
use Rattle.cd_tree.specs.declared.refusal.Which.TheVariants as which
use Rattle.cd_tree.specs.declared.refusal.Refusal.{Refusal}
use Rattle.cd_tree.specs.declared.refusal.Refusal.TheVariants.{Uncovered, NoTarget, Stale, Limit}
use Rattle.cd_tree.specs.Domains.{Node, node, number_of, nodes_from, root_of}
use Rattle.cd_tree.specs.Limits.{need_limit}
use Rattle.cd_tree.specs.Meaning.{uncovered, node_need}
use Rattle.cd_tree.specs.Refusals.{FirstOf, numbered}
use Rattle.cd_tree.proofs.RefusalLemmas.{HasOne, then_is_one, first_is_one}
use Rattle.cd_cover.specs.Links.{Frame, frames_of, link_in, stale}
use Rattle.cd_cover.specs.Checks.{CoverageOf, ReferenceOf, EntryOf, NumberedEntryOf, DomainOf, NeedOf, FirstFlaw}

-- ---- what entries leave out

-- what is refused of a domain whose entries leave out this place first
abbrev left_out : Node → Option Place → Option Refusal
left_out d None = None
left_out d (Some place) = Some (Uncovered (record { 0 = number_of d }) place)

same_domain : (id : NodeId) (n : ℕ) (place : Place) → id.0 ≡ n → Some (Uncovered (record { 0 = n }) place) ≡ Some (Uncovered id place)
same_domain id n place same = let at : ℕ → Option Refusal = λ k. Some (Uncovered (record { 0 = k }) place) in sym (ap at same)

coverage_comes : (d : Node) (answer : Option Refusal) → CoverageOf d answer
    → (place : Option Place) × IsLeast (uncovered d) place × (left_out d place ≡ answer)
coverage_comes d None says = (None, says, refl)
coverage_comes d (Some (Uncovered id place)) says = (Some place, says.1, same_domain id (number_of d) place says.0)
coverage_comes d (Some _) never = absurd never

coverage_is_one : (d : Node) → HasOne (CoverageOf d)
coverage_is_one d one other p q =
    let here = coverage_comes d one p in
    let there = coverage_comes d other q in
    sym here.2 ∙ ap (left_out d) (IsLeast-same (uncovered d) here.0 there.0 here.1 there.1) ∙ there.2

-- ---- references

-- what is refused of a reference that is stale first at this place
abbrev stale_at : NodeId → ℕ → Option Place → Option Refusal
stale_at id at None = None
stale_at id at (Some place) = Some (Stale id at place)

-- a reference has no link, or it has one and is stale first at a place, or at none
abbrev Comes : NodeId → List Frame → ℕ → Range → Option Refusal → Type 0
Comes id frames at r answer =
    ((link_in r frames ≡ None) × (answer ≡ Some (NoTarget id at)))
    ⊎ (IsSome (link_in r frames) × ((place : Option Place) × IsLeast (stale r frames) place × (stale_at id at place ≡ answer)))

same_target : (id other : NodeId) (at entry : ℕ) → other ≡ id → entry ≡ at → Some (NoTarget other entry) ≡ Some (NoTarget id at)
same_target id other at entry p q =
    let at_domain : NodeId → Option Refusal = λ n. Some (NoTarget n entry) in
    let at_entry : ℕ → Option Refusal = λ k. Some (NoTarget id k) in
    ap at_domain p ∙ ap at_entry q

same_stale : (id other : NodeId) (at entry : ℕ) (place : Place) → other ≡ id → entry ≡ at → Some (Stale id at place) ≡ Some (Stale other entry place)
same_stale id other at entry place p q =
    let at_domain : NodeId → Option Refusal = λ n. Some (Stale n entry place) in
    let at_entry : ℕ → Option Refusal = λ k. Some (Stale id k place) in
    sym (ap at_domain p ∙ ap at_entry q)

reference_comes : (id : NodeId) (frames : List Frame) (at : ℕ) (r : Range) (answer : Option Refusal) → ReferenceOf id frames at r answer
    → Comes id frames at r answer
reference_comes id frames at r None says = inr (says.0, (None, says.1, refl))
reference_comes id frames at r (Some (NoTarget other entry)) says = inl (says.2, same_target id other at entry says.0 says.1)
reference_comes id frames at r (Some (Stale other entry place)) says =
    inr (says.2, (Some place, says.3, same_stale id other at entry place says.0 says.1))
reference_comes id frames at r (Some _) never = absurd never

linked_or_not : {A : Type 0} (link : Option A) → link ≡ None → IsSome link → ⊥
linked_or_not {A} link none some =
    let never : is_some {T = A} None ≡ true = subst (λ (o : Option A). is_some o ≡ true) none some in true≢false (sym never)

reference_agree : (id : NodeId) (frames : List Frame) (at : ℕ) (r : Range) (one other : Option Refusal)
    → Comes id frames at r one → Comes id frames at r other → one ≡ other
reference_agree id frames at r one other (inl p) (inl q) = p.1 ∙ sym q.1
reference_agree id frames at r one other (inl p) (inr q) = absurd (linked_or_not (link_in r frames) p.0 q.0)
reference_agree id frames at r one other (inr p) (inl q) = absurd (linked_or_not (link_in r frames) q.0 p.0)
reference_agree id frames at r one other (inr (some, p)) (inr (linked, q)) =
    sym p.2 ∙ ap (stale_at id at) (IsLeast-same (stale r frames) p.0 q.0 p.1 q.1) ∙ q.2

reference_is_one : (id : NodeId) (frames : List Frame) (at : ℕ) (r : Range) → HasOne (ReferenceOf id frames at r)
reference_is_one id frames at r one other p q =
    reference_agree id frames at r one other (reference_comes id frames at r one p) (reference_comes id frames at r other q)

entry_is_one : (id : NodeId) (frames : List Frame) (at : ℕ) (r : Range) (how : How) → HasOne (EntryOf id frames at r how)
entry_is_one id frames at r Copy = λ one other p q. p ∙ sym q
entry_is_one id frames at r Refer = reference_is_one id frames at r
entry_is_one id frames at r (Regen pattern) = λ one other p q. p ∙ sym q

numbered_is_one : (id : NodeId) (frames : List Frame) (entry : ℕ × Entry) → HasOne (NumberedEntryOf id frames entry)
numbered_is_one id frames (at, entry) = entry_is_one id frames at entry.range entry.how

-- ---- whole programs

domain_is_one : (domains : List Domain) (d : Node) → HasOne (DomainOf domains d)
domain_is_one domains (node id domain body) =
    then_is_one (CoverageOf (node id domain body)) (FirstOf (NumberedEntryOf id (frames_of domains id)) (numbered 0 domain.entries))
    (coverage_is_one (node id domain body))
    (first_is_one (NumberedEntryOf id (frames_of domains id)) (numbered_is_one id (frames_of domains id)) (numbered 0 domain.entries))

same_need : (limit : Which) (count need : ℕ) → limit ≡ which.Need → count ≡ need → Some (Limit limit count) ≡ Some (Limit which.Need need)
same_need limit count need p q =
    let at_limit : Which → Option Refusal = λ w. Some (Limit w count) in
    let at_count : ℕ → Option Refusal = λ n. Some (Limit which.Need n) in
    ap at_limit p ∙ ap at_count q

-- the need is within the limit, or is refused
abbrev NeedComes : ℕ → Option Refusal → Type 0
NeedComes need answer = ((need ≤ need_limit) × (answer ≡ None)) ⊎ ((need_limit < need) × (answer ≡ Some (Limit which.Need need)))

above : (count need : ℕ) → count ≡ need → need_limit < count → need_limit < need
above count need same more = omega (arith, same, more)

need_comes : (root : Node) (answer : Option Refusal) → NeedOf root answer → NeedComes (node_need root) answer
need_comes root None within = inl (within, refl)
need_comes root (Some (Limit limit count)) (limited, counted, more) =
    inr (above count (node_need root) counted more, same_need limit count (node_need root) limited counted)
need_comes root (Some _) never = absurd never

not_both : (need : ℕ) → need ≤ need_limit → need_limit < need → ⊥
not_both need within more = omega arith

need_agree : (need : ℕ) (one other : Option Refusal) → NeedComes need one → NeedComes need other → one ≡ other
need_agree need one other (inl p) (inl q) = p.1 ∙ sym q.1
need_agree need one other (inl p) (inr q) = absurd (not_both need p.0 q.0)
need_agree need one other (inr p) (inl q) = absurd (not_both need q.0 p.0)
need_agree need one other (inr p) (inr q) = p.1 ∙ sym q.1

need_is_one : (root : Node) → HasOne (NeedOf root)
need_is_one root one other p q = need_agree (node_need root) one other (need_comes root one p) (need_comes root other q)

-- two first flaws of a program are the same
pub first_flaw_is_one : (domains : List Domain) → HasOne (FirstFlaw domains)
first_flaw_is_one domains =
    then_is_one (FirstOf (DomainOf domains) (nodes_from 0 domains)) (NeedOf (root_of domains))
    (first_is_one (DomainOf domains) (domain_is_one domains) (nodes_from 0 domains)) (need_is_one (root_of domains))
