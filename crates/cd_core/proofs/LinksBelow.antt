-- The links of a member's outer references: each leads to an entry of its parent, whose keep comes first in what is kept for the
-- member, or is the link of an outer reference of the parent.
use Rattle.std.proofs.Common.{◌≡◌, ◌⊎◌, ℕ, zero, suc, ◌≤◌, ◌==◌, Bool, true, false, ◌&&◌, nat_le, List, [], ◌∷◌, Option, None, Some, slice_get, IsSomeAnd, if◌then◌else◌, Contains, ap, subst, sym, inl, inr, arith}
use Rattle.std.specs.Option.{option_and_then}
use Rattle.std.proofs.lemmas.Bool.{and_parts, eq-eqb, ne_eqb}
use Rattle.std.proofs.lemmas.Bool.Decides.{nat_tests}
use Rattle.std.proofs.lemmas.List.Elements.{All-contains}
use Rattle.cd_base.proofs.ListLemmas.{some_of}
use Rattle.cd_base.specs.declared.place.Range.{Range}
use Rattle.cd_tree.specs.declared.domain.NodeId.{NodeId}
use Rattle.cd_tree.specs.declared.domain.Entry.{Entry}
use Rattle.cd_tree.specs.declared.domain.How.{How}
use Rattle.cd_tree.specs.declared.domain.How.TheVariants.{Copy, Refer, Regen}
use Rattle.cd_tree.specs.declared.domain.Domain.{Domain}
use Rattle.cd_tree.specs.Domains.{Node, node_of}
use Rattle.cd_tree.specs.Legal.{entry_at, OfPattern}
use Rattle.cd_cover.specs.Laws.{HoldsLink}
use Rattle.cd_cover.specs.Links.{link_of, is_kept, holds_range}
use Rattle.cd_cover.specs.Outer.{outer_references}
use Rattle.cd_cover.specs.OuterLaws.{OuterAreThese, OuterAreReferences, OuterOfMembers, IsChild, LiesAbove, LinksTo}
use Rattle.cd_cover.specs.PlanLaws.{ReferencesHaveLinks, LinkHolds}
use Rattle.cd_cover.specs.Plans.{PlanModel, IsPlan}
use Rattle.cd_tries.specs.declared.keep.Pieces.{Pieces}
use Rattle.cd_tries.specs.declared.keep.Keep.{Keep}
use Rattle.cd_tries.specs.declared.keep.Keep.TheVariants as by
use Rattle.cd_tries.specs.Keeping.{Known, Cover, KeepFits, KeepsFit, pieces_of, pieces_in, linked, linked_by}
use Rattle.cd_core.specs.Asks.{levels_below}
use Rattle.cd_core.specs.Fits.{LinksAreKept}
use Rattle.cd_core.specs.StateModel.{StateModel}
use Rattle.cd_core.proofs.Facts.{there_and}
use Rattle.cd_core.proofs.Grounds.{view_in}

-- the pieces cover a range
abbrev Covering : Known → Range → Pieces → Type 0
Covering known range pieces = Cover known pieces range

-- ---- the keep of an entry that can be referred to

no_pattern : (entry : Entry) (how : How) → is_kept how ≡ true → OfPattern (λ r pattern. Unit {0}) entry how → ⊥
no_pattern entry Copy kept is = is
no_pattern entry Refer kept is = is
no_pattern entry (Regen pattern) kept is = absurd (cc)

keep_covers : (known : Known) (entry : Entry) (keep : Keep) → is_kept entry.how ≡ true → KeepFits known entry keep
    → IsSomeAnd (pieces_of keep) (Covering known entry.range)
keep_covers known entry (by.Copied pieces) kept fits = fits.0
keep_covers known entry (by.Shared pieces) kept fits = fits.0
keep_covers known entry by.Pattern kept fits = absurd (no_pattern entry entry.how kept fits)

keep_at : (known : Known) (entries : List Entry) (keeps : List Keep) (k : ℕ) (entry : Entry) → KeepsFit known entries keeps
    → slice_get entries k ≡ Some entry → is_kept entry.how ≡ true → IsSomeAnd (pieces_in (slice_get keeps k)) (Covering known entry.range)
keep_at known [] keeps k entry fits e kept = absurd (cc)
keep_at known (first ∷ entries) [] k entry fits e kept = absurd fits
keep_at known (first ∷ entries) (keep ∷ keeps) zero entry fits e kept =
    let same : first ≡ entry = cc in
    let P : Entry → Type 0 = λ x. KeepFits known x keep in
    keep_covers known entry keep kept (subst P same fits.0)
keep_at known (first ∷ entries) (keep ∷ keeps) (suc k) entry fits e kept = keep_at known entries keeps k entry fits.1 e kept

narrower : (known : Known) (outer r : Range) (pieces : Pieces) → holds_range outer r ≡ true → Covering known outer pieces → Covering known r pieces
narrower known outer r pieces holds cover =
    let ends : (nat_le outer.low r.low && nat_le r.high outer.high) ≡ true =
    (and_parts (outer.region == r.region) (nat_le outer.low r.low && nat_le r.high outer.high) holds).1 in
    let from : nat_le outer.low r.low ≡ true = (and_parts (nat_le outer.low r.low) (nat_le r.high outer.high) ends).0 in
    let to : nat_le r.high outer.high ≡ true = (and_parts (nat_le outer.low r.low) (nat_le r.high outer.high) ends).1 in
    let low : outer.low ≤ r.low = grind (arith, nat_tests) in
    let high : r.high ≤ outer.high = grind (arith, nat_tests) in
    record { cut = cover.cut; low = omega (arith, low, cover.low); high = omega (arith, high, cover.high) }

narrower_still : (known : Known) (outer r : Range) (o : Option Pieces) → holds_range outer r ≡ true → IsSomeAnd o (Covering known outer)
    → IsSomeAnd o (Covering known r)
narrower_still known outer r None holds h = h
narrower_still known outer r (Some pieces) holds h = narrower known outer r pieces holds h

-- ---- the two kinds of links

-- a link to an entry of a domain is found among what the domain keeps
own_link : (plan : PlanModel) (s : StateModel) (domain : Domain) (known : Known) (id : NodeId) (r : Range) (link : Option (NodeId × ℕ))
    → slice_get plan.tree.domains s.node.0 ≡ Some domain → KeepsFit known domain.entries s.keeps
    → IsSomeAnd link (λ (to : NodeId × ℕ). to.0 ≡ s.node) → IsSomeAnd link (LinkHolds plan.tree.domains id r)
    → IsSomeAnd (linked_by (levels_below s) link) (Covering known r)
own_link plan s domain known id r None listed fits same holds = absurd same
own_link plan s domain known id r (Some (up, at)) listed fits same holds =
    let N : NodeId → Type 0 = λ n. IsSomeAnd (entry_at plan.tree.domains n at) (HoldsLink r) in
    let D : Option Domain → Type 0 = λ o. IsSomeAnd (option_and_then (λ (x : Domain). slice_get x.entries at) o) (HoldsLink r) in
    let own : IsSomeAnd (slice_get domain.entries at) (HoldsLink r) = subst D listed (subst N same holds.1) in
    let found : (entry : Entry) × (slice_get domain.entries at ≡ Some entry) × HoldsLink r entry =
    some_of (slice_get domain.entries at) (HoldsLink r) own in
    let kept : IsSomeAnd (pieces_in (slice_get s.keeps at)) (Covering known r) =
    narrower_still known found.0.range r (pieces_in (slice_get s.keeps at)) found.2.1
    (keep_at known domain.entries s.keeps at found.0 fits found.1 found.2.0) in
    let test : (s.node.0 == up.0) ≡ true = eq-eqb s.node.0 up.0 (sym (ap (λ (n : NodeId). n.0) same)) in
    let P : Bool → Type 0 = λ b. IsSomeAnd (if b then pieces_in (slice_get s.keeps at) else linked s.above (up, at)) (Covering known r) in
    subst P (sym test) kept

-- a link that leads above a domain is found where the domain finds it
upper_link : (plan : PlanModel) (s : StateModel) (known : Known) (r : Range) (link : Option (NodeId × ℕ))
    → IsSomeAnd link (λ (to : NodeId × ℕ). LiesAbove plan.tree.domains s.node to.0) → IsSomeAnd (linked_by s.above link) (Covering known r)
    → IsSomeAnd (linked_by (levels_below s) link) (Covering known r)
upper_link plan s known r None lies h = absurd lies
upper_link plan s known r (Some (up, at)) lies h =
    let test : (s.node.0 == up.0) ≡ false = ne_eqb s.node.0 up.0 (λ e. absurd (omega (arith, e, lies.1))) in
    let P : Bool → Type 0 = λ b. IsSomeAnd (if b then pieces_in (slice_get s.keeps at) else linked s.above (up, at)) (Covering known r) in
    subst P (sym test) h

-- ---- both

pub record OuterLaws : Type 0 where
  pub these : OuterAreThese
  pub references : OuterAreReferences
  pub links : ReferencesHaveLinks
  pub members : OuterOfMembers

-- what a domain keeps and what is kept above it serves its members
pub member_links : OuterLaws → (plan : PlanModel) (s : StateModel) (domain : Domain) (known : Known) (id : NodeId) (view : Node) → IsPlan plan
    → slice_get plan.tree.domains s.node.0 ≡ Some domain → node_of plan.tree.domains s.node ≡ Some (view_in plan.tree s.node domain)
    → KeepsFit known domain.entries s.keeps → LinksAreKept plan known (view_in plan.tree s.node domain) s.above
    → node_of plan.tree.domains id ≡ Some view → IsChild plan.tree.domains s.node id → LinksAreKept plan known view (levels_below s)
member_links l plan s domain known id view is_plan listed is fits kept is_view child reference entry outer stands =
    let d : Node = view_in plan.tree s.node domain in
    let link : Option (NodeId × ℕ) = link_of plan.tree.domains reference.0 reference.1 in
    let way : LinksTo plan.tree.domains s.node reference ⊎ Contains (outer_references d) reference =
    All-contains (λ (x : NodeId × ℕ). LinksTo plan.tree.domains s.node x ⊎ Contains (outer_references d) x) (outer_references view) reference
    (l.members plan is_plan s.node id d view is is_view child) outer in
    let refer : IsSomeAnd (entry_at plan.tree.domains reference.0 reference.1) (λ (x : Entry). x.how ≡ Refer) =
    All-contains (λ (x : NodeId × ℕ). IsSomeAnd (entry_at plan.tree.domains x.0 x.1) (λ (y : Entry). y.how ≡ Refer)) (outer_references view) reference
    (l.references plan is_plan id view is_view) outer in
    let refers : entry.how ≡ Refer =
    there_and (λ (x : Entry). x.how ≡ Refer) (entry_at plan.tree.domains reference.0 reference.1) entry stands refer in
    elim way [
      | inl to ↦
          own_link plan s domain known reference.0 entry.range link listed fits to
          (l.links plan is_plan reference.0 reference.1 entry stands refers)
      | inr one ↦
          upper_link plan s known entry.range link ((l.these plan is_plan s.node d is reference).0 one).1 (kept reference entry one stands)
    ]
