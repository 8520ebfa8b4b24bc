-- What a plan and an accepted script give a domain that is tried, and the laws of lower crates on which the proofs rest.
use Rattle.std.proofs.Common.{◌≡◌, ℕ, zero, suc, ◌+◌, ◌≤◌, ◌<◌, ◌^◌, true, false, nat_lt, List, [], ◌∷◌, Option, Some, None, All, IsTrue, IsSomeAnd, length, get_or, slice_get, sum_by, refl, ap, subst, sym, ◌∙◌, arith}
use Rattle.std.proofs.lemmas.Bool.{and_parts}
use Rattle.std.proofs.lemmas.Bool.Decides.{nat_tests}
use Rattle.cd_base.specs.declared.place.Place.{Place}
use Rattle.cd_tree.specs.declared.domain.NodeId.{NodeId}
use Rattle.cd_tree.specs.declared.domain.Entry.{Entry}
use Rattle.cd_tree.specs.declared.domain.How.TheVariants.{Refer}
use Rattle.cd_tree.specs.declared.domain.Domain.{Domain}
use Rattle.cd_tree.specs.declared.document.Fault.{Fault}
use Rattle.cd_tree.specs.CountLaws.{NumbersAreDistinct}
use Rattle.cd_tree.specs.Domains.{Node, domain_of, nodes_from, node_of}
use Rattle.cd_tree.specs.FirstItems.{ItemsBehind}
use Rattle.cd_tree.specs.FrontLaws.{FirstPointIsThere, PassesGroups, FrontsLead}
use Rattle.cd_tree.specs.Laws.{NestedViewFollows, ReachIsEntries, DetectableByPaths}
use Rattle.cd_tree.specs.Legal.{entry_at}
use Rattle.cd_tree.specs.Locality.{CoveredInPrograms}
use Rattle.cd_tree.specs.Meaning.{in_entries, node_reach, IsCovered}
use Rattle.cd_tree.specs.Scripts.{IsAccepted, declared_for}
use Rattle.cd_tree.specs.KindSets.{has_kind}
use Rattle.cd_cover.specs.Links.{link_of}
use Rattle.cd_cover.specs.OuterLaws.{OuterAreThese}
use Rattle.cd_cover.specs.PlanLaws.{ReferencesHaveLinks}
use Rattle.cd_cover.specs.Plans.{PlanModel, IsPlan}
use Rattle.cd_tries.specs.declared.keep.Pieces.{Pieces}
use Rattle.cd_tries.specs.declared.shelf.Level.{Level}
use Rattle.cd_tries.specs.Fitting.{StrikesWithin, LinksCover}
use Rattle.cd_tries.specs.Keeping.{Known, Cover, linked_by}
use Rattle.cd_tries.specs.KeepLaws.{PreservedAreHeld, PreservedAreGiven, PreservedIsLegal, LapsesAreAnswered}
use Rattle.cd_tries.specs.Preserving.{links_for}
use Rattle.cd_tries.specs.TryLaws.{PointsKeep, TriesKeep}
use Rattle.cd_core.specs.LawsBelow.{MoreLaws}
use Rattle.cd_core.specs.Fits.{LinksAreKept}
use Rattle.cd_core.proofs.Grounds.{view_in, body_in}
use Rattle.cd_core.proofs.Keeping.{StandAt, stand_here, stand_behind, own_is_outer}

-- a domain that is listed is one of the list
pub listed_below : {A : Type 0} (xs : List A) (k : ℕ) (x : A) → slice_get xs k ≡ Some x → k < length xs
listed_below {A} [] k x e = absurd (cc)
listed_below {A} (y ∷ ys) zero x e = omega arith
listed_below {A} (y ∷ ys) (suc k) x e = omega (arith, listed_below ys k x e)

pub there_and : {A : Type 0} (P : A → Type 0) (x : Option A) (a : A) → x ≡ Some a → IsSomeAnd x P → P a
there_and {A} P x a e h = let Q : Option A → Type 0 = λ o. IsSomeAnd o P in subst Q e h

-- what a domain reaches are the places of its entries
pub reach_is : MoreLaws → (plan : PlanModel) (id : NodeId) (domain : Domain) → IsPlan plan
    → slice_get plan.tree.domains id.0 ≡ Some domain → (p : Place) → node_reach (view_in plan.tree id domain) p ≡ in_entries domain.entries p
reach_is l plan id domain is_plan listed p =
    l.reach (view_in plan.tree id domain) p
    (l.covered plan.tree is_plan.program is_plan.covered id (view_in plan.tree id domain) (l.follows plan.tree is_plan.program id domain listed))

-- the faults of an accepted script strike in the entries of their domain, with kinds
pub strikes_within : MoreLaws → (plan : PlanModel) (id : NodeId) (domain : Domain) (faults : List Fault) → IsPlan plan
    → slice_get plan.tree.domains id.0 ≡ Some domain → IsAccepted plan.tree faults → StrikesWithin id domain.entries faults
strikes_within l plan id domain faults is_plan listed accepted k x short same =
    let fault : Fault = get_or faults k x in
    let d : Node = view_in plan.tree id domain in
    let is : node_of plan.tree.domains fault.node ≡ Some d =
    ap (λ (n : ℕ). slice_get (nodes_from 0 plan.tree.domains) n) same ∙ l.follows plan.tree is_plan.program id domain listed in
    let struck : (fault.item ≤ length domain.items) × (node_reach d fault.place ≡ true) =
    there_and (λ (e : Node). (fault.item ≤ length (domain_of e).items) × (node_reach e fault.place ≡ true)) (node_of plan.tree.domains fault.node) d is (accepted.strikes k x short) in
    let below : fault.node.0 < length plan.tree.domains = omega (arith, same, listed_below plan.tree.domains id.0 domain listed) in
    let kind : IsTrue (has_kind (declared_for plan.tree.domains fault.node) fault.kind) =
    (l.detectable plan.tree faults is_plan.program).1 accepted.found k x short below in
    let test : nat_lt fault.kind.0 16 ≡ true = (and_parts (nat_lt fault.kind.0 16) _ kind).0 in
    (sym (reach_is l plan id domain is_plan listed fault.place) ∙ struck.1, grind (arith, nat_tests))

-- the links of a domain's own references are kept above
pub own_links : MoreLaws → (plan : PlanModel) (id : NodeId) (domain : Domain) (known : Known) (above : List Level) → IsPlan plan
    → slice_get plan.tree.domains id.0 ≡ Some domain → LinksAreKept plan known (view_in plan.tree id domain) above
    → (at : ℕ) (entries : List Entry) → StandAt plan id at entries
    → LinksCover known (links_for plan.tree.domains id above) at entries
own_links l plan id domain known above is_plan listed kept at [] stand = tt
own_links l plan id domain known above is_plan listed kept at (entry ∷ entries) stand = (
  λ refers. kept (id, at) entry
      (own_is_outer l.outer l.links l.follows plan id domain at entry is_plan listed (stand_here plan id at entry entries stand) refers)
      (stand_here plan id at entry entries stand),
  own_links l plan id domain known above is_plan listed kept (suc at) entries (stand_behind plan id at entry entries stand),
)
