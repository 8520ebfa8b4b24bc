-- In a program each domain has the right shapes, and is covered and disjoint where the program is.
use Rattle.std.proofs.Common.{ℕ, List, [], ◌∷◌, Option, sym, subst}
use Rattle.cd_tree.specs.declared.domain.NodeId.{NodeId}
use Rattle.cd_tree.specs.declared.domain.Item.{Item}
use Rattle.cd_tree.specs.declared.domain.Item.TheVariants.{Run, Group}
use Rattle.cd_tree.specs.declared.domain.Domain.{Domain}
use Rattle.cd_tree.specs.Domains.{Node, body_of, body_by, node_of, root_of, Throughout}
use Rattle.cd_tree.specs.Meaning.{GroupsApart, IsDisjoint, IsCovered}
use Rattle.cd_tree.specs.TreeModel.{TreeModel, IsTree, FitsItems}
use Rattle.cd_tree.specs.Laws.{OfEach}
use Rattle.cd_tree.specs.Locality.{ShapesFit, OwnShapesFit, AllShapesFit}
use Rattle.cd_tree.proofs.View.{domain_fits}
use Rattle.cd_tree.proofs.EachDomain.{Behind, behind_view, views_throughout, of_each}
use Rattle.cd_tree.proofs.Covers.{CoversOwn, covers_own, is_covered}

items_fit : (find : NodeId → Option Node) (domains : List Domain) (at : ℕ) (items : List Item) → FitsItems domains at items
    → ShapesFit (body_by find items)
items_fit find domains at [] fits = tt
items_fit find domains at (Run op ∷ items) (full, shape, fits) = (shape, items_fit find domains at items fits)
items_fit find domains at (Group ids ∷ items) (some, few, children, fits) = items_fit find domains at items fits

own_shapes_fit : (tree : TreeModel) → IsTree tree → OfEach tree OwnShapesFit
own_shapes_fit tree is id d found =
    let b : Behind tree.domains id d = behind_view tree is id d found in
    subst OwnShapesFit (sym b.view)
    (items_fit (node_of tree.domains) tree.domains id.0 b.domain.items (domain_fits tree is id b.domain b.there).items)

pub shapes_fit_in_programs : (tree : TreeModel) → IsTree tree → OfEach tree AllShapesFit
shapes_fit_in_programs tree is id d found =
    views_throughout OwnShapesFit 0 tree.domains (λ k e there. own_shapes_fit tree is (record { 0 = k }) e there) id.0 d found

-- what holds from the root of a program down holds from each domain down
each_throughout : (P : Node → Type 0) (tree : TreeModel) → IsTree tree → Throughout P (root_of tree.domains) → OfEach tree (Throughout P)
each_throughout P tree is below id d found =
    views_throughout P 0 tree.domains (λ k e there. of_each tree is P below (record { 0 = k }) e there) id.0 d found

pub disjoint_in_programs : (tree : TreeModel) → IsTree tree → IsDisjoint (root_of tree.domains) → OfEach tree IsDisjoint
disjoint_in_programs tree is disjoint = each_throughout (λ e. GroupsApart (body_of e)) tree is disjoint

pub covered_in_programs : (tree : TreeModel) → IsTree tree → IsCovered (root_of tree.domains) → OfEach tree IsCovered
covered_in_programs tree is covered id d found =
    is_covered d (each_throughout CoversOwn tree is (covers_own (root_of tree.domains) covered) id d found)
