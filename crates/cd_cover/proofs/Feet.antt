-- Footprints against the sets that they stand for.
use Rattle.std.proofs.Common.{◌≡◌, ◌<◌, Bool, true, false, ◌&&◌, List, Option, IsSomeAnd, length, slice_get, refl, ap, ◌∙◌}
use Rattle.cd_base.specs.declared.place.Place.{Place}
use Rattle.cd_base.specs.declared.place.Range.{Range}
use Rattle.cd_base.specs.Words.{in_range, in_ranges}
use Rattle.cd_base.specs.Places.{IsLeast}
use Rattle.cd_base.proofs.ListLemmas.{some_of, some_and}
use Rattle.cd_base.proofs.LeastLemmas.{IsLeast-of}
use Rattle.cd_tree.specs.declared.domain.NodeId.{NodeId}
use Rattle.cd_tree.specs.TreeModel.{TreeModel, IsTree}
use Rattle.cd_tree.specs.Domains.{node_of, number_of}
use Rattle.cd_tree.specs.Meaning.{node_writes}
use Rattle.cd_tree.proofs.View.{domain_here}
use Rattle.cd_foot.specs.declared.footprints.Foot.{Foot}
use Rattle.cd_foot.specs.Feet.{AreFeet}
use Rattle.cd_cover.proofs.Views.{view_number}

and-swap : (a b : Bool) → (a && b) ≡ (b && a)
and-swap true true = refl
and-swap true false = refl
and-swap false true = refl
and-swap false false = refl

pub least_written : (tree : TreeModel) → IsTree tree → (feet : List Foot) → AreFeet tree.domains feet → (node : NodeId)
    → node.0 < length tree.domains → (ranges : List Range) (r : Range) (x : Option Place)
    → IsSomeAnd (slice_get feet node.0) (λ foot. ranges ≡ foot.writes)
    → IsLeast (λ q. in_ranges ranges q && in_range r q) x
    → IsSomeAnd (node_of tree.domains node) (λ d. IsLeast (λ q. in_range r q && node_writes d q) x)
least_written tree is feet are node within ranges r x foot least =
    let domain = domain_here tree.domains node.0 within in
    let view = some_of (node_of tree.domains node) (λ d. number_of d ≡ node.0) (view_number tree.domains node domain.0 domain.1) in
    let found = some_of (slice_get feet node.0) (λ foot. ranges ≡ foot.writes) foot in
    some_and (node_of tree.domains node) (λ d. IsLeast (λ q. in_range r q && node_writes d q) x) view.0 view.1
    (IsLeast-of (λ q. in_ranges ranges q && in_range r q) (λ q. in_range r q && node_writes view.0 q) x
    (λ q.
    and-swap (in_ranges ranges q) (in_range r q)
    ∙ ap (λ b. in_range r q && b)
    (ap (λ (rs : List Range). in_ranges rs q) found.2 ∙ (are.each node view.0 found.0 view.1 found.1).writes q))
    least)
