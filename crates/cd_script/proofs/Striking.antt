-- A fault as it was found: it can strike, and its kind is declared.
use Rattle.std.proofs.Common.{◌≡◌, ℕ, ◌≤◌, Bool, false, true, IsTrue, List, length, Option, None, Some, IsSomeAnd, ap, sym, subst, arith}
use Rattle.std.specs.Option.{option_map_or}
use Rattle.cd_base.specs.declared.place.Place.{Place}
use Rattle.cd_tree.specs.declared.domain.NodeId.{NodeId}
use Rattle.cd_tree.specs.declared.domain.Domain.{Domain}
use Rattle.cd_tree.specs.declared.document.RawFault.{RawFault}
use Rattle.cd_tree.specs.declared.document.Fault.{Fault}
use Rattle.cd_tree.specs.declared.kinds.Kind.{Kind}
use Rattle.cd_tree.specs.KindSets.{has_kind}
use Rattle.cd_tree.specs.Domains.{Node, domain_of, node_of}
use Rattle.cd_tree.specs.Meaning.{node_reach}
use Rattle.cd_tree.specs.TreeModel.{TreeModel}
use Rattle.cd_tree.specs.Scripts.{declared_for, CanStrike}
use Rattle.cd_script.specs.Acceptance.{last_point, reaches, IsFoundAs, HasKind}
use Rattle.cd_script.proofs.Views.{items_in, items_seen}

abbrev pub reach_in : Option Node → Place → Bool
reach_in found p = option_map_or (λ d. node_reach d p) found false

abbrev pub StrikesIn : Option Node → ℕ → Place → Type 0
StrikesIn found item p = IsSomeAnd found (λ d. (item ≤ length (domain_of d).items) × (node_reach d p ≡ true))

strikes_in : (found : Option Node) (item : ℕ) (p : Place) → item ≤ items_in found → reach_in found p ≡ true → StrikesIn found item p
strikes_in None item p below inside = absurd (cc)
strikes_in (Some d) item p below inside = (below, inside)

struck_in : (found : Option Node) (item : ℕ) (p : Place) → StrikesIn found item p → (item ≤ items_in found) × (reach_in found p ≡ true)
struck_in None item p strikes = absurd strikes
struck_in (Some d) item p strikes = strikes

-- what has a point of its domain and a place in its reach can strike
pub can_strike : (domains : List Domain) (id : NodeId) (item : ℕ) (p : Place) → item ≤ last_point domains id → reaches domains id p ≡ true
    → StrikesIn (node_of domains id) item p
can_strike domains id item p below inside =
    strikes_in (node_of domains id) item p (omega (arith, items_seen domains id)) inside

-- and the other way round
pub strikes_there : (tree : TreeModel) (fault : Fault) → CanStrike tree fault
    → (fault.item ≤ last_point tree.domains fault.node) × (reaches tree.domains fault.node fault.place ≡ true)
strikes_there tree fault strikes =
    let both : (fault.item ≤ items_in (node_of tree.domains fault.node)) × (reach_in (node_of tree.domains fault.node) fault.place ≡ true) =
    struck_in (node_of tree.domains fault.node) fault.item fault.place strikes in
    (subst (λ (n : ℕ). fault.item ≤ n) (items_seen tree.domains fault.node) both.0, both.1)

-- a fault that is found as it was read can strike
pub found_strikes : (tree : TreeModel) (raw : RawFault) (fault : Fault) → IsFoundAs tree.domains raw fault → HasKind tree.domains raw fault.node
    → CanStrike tree fault
found_strikes tree raw fault found has =
    let item : fault.item ≡ raw.item = ap (λ (f : Fault). f.item) found.1 in
    let place : fault.place ≡ raw.place = ap (λ (f : Fault). f.place) found.1 in
    can_strike tree.domains fault.node fault.item fault.place
    (subst (λ (n : ℕ). n ≤ last_point tree.domains fault.node) (sym item) has.0.0)
    (subst (λ (p : Place). reaches tree.domains fault.node p ≡ true) (sym place) has.0.1)

-- the kind of a fault is declared for its domain
abbrev pub IsDeclared : List Domain → Fault → Type 0
IsDeclared domains fault = IsTrue (has_kind (declared_for domains fault.node) fault.kind)

pub found_declared : (domains : List Domain) (raw : RawFault) (fault : Fault) → IsFoundAs domains raw fault → HasKind domains raw fault.node
    → has_kind (declared_for domains fault.node) fault.kind ≡ true
found_declared domains raw fault found has =
    subst (λ (kind : Kind). has_kind (declared_for domains fault.node) kind ≡ true) (sym (ap (λ (f : Fault). f.kind) found.1)) has.1
