use Rattle.std.proofs.Common.{rules, ◌≡◌, ◌<◌, List, None, Some, length, slice_get, sym, subst}
use Rattle.cd_tree.specs.declared.domain.Item.{Item}
use Rattle.cd_tree.specs.declared.domain.Item.TheVariants.{Run, Group}
use Rattle.cd_tree.specs.Groups.{IsPlaceOf}
use Rattle.cd_cells.proofs.Siblings.{at_index, group_found, has_parent, item_within, member_there, place_so}
use Rattle.cd_cells.proofs.groups.siblings_of.Goals as goal

pub returns-in_default-clause-group : goal.returns-in_default-clause-group
returns-in_default-clause-group c = λ above. (
    let listed : slice_get c.args.plan.now.tree.domains c.args.node.0 ≡ Some c.node.result.now = search rules in
    let none : c.node.result.now.parent ≡ None = search rules in
    absurd (has_parent c.children_stand_once.ensures.children c.args.plan.now c.args.node.0 c.node.result.now c.tree-tree.ensures.sound listed none above)
    )

pub bounds-items-place : goal.bounds-items-place
bounds-items-place c =
    let listed : slice_get c.args.plan.now.tree.domains c.args.node.0 ≡ Some c.node.result.now = search rules in
    let up : c.node.result.now.parent ≡ Some c.in-Some.parent = search rules in
    let above : slice_get c.args.plan.now.tree.domains c.in-Some.parent.0 ≡ Some c.node-2.result.now = search rules in
    let place : IsPlaceOf c.args.plan.now.tree.domains c.args.node (Some c.in-Some-place_of.place) = search rules in
    let items : c.items.result.now ≡ c.node-2.result.now.items = search rules in
    subst (λ (xs : List Item). c.in-Some-place_of.place.item < length xs) (sym items)
    (item_within c.node-2.result.now.items c.args.node c.in-Some-place_of.place.item c.in-Some-place_of.place.member
    (place_so c.args.plan.now.tree.domains c.args.node c.in-Some.parent c.node.result.now c.node-2.result.now c.in-Some-place_of.place listed up above place))

pub returns-in-Run-clause-group : goal.returns-in-Run-clause-group
returns-in-Run-clause-group c = λ later. (
    let listed : slice_get c.args.plan.now.tree.domains c.args.node.0 ≡ Some c.node.result.now = search rules in
    let up : c.node.result.now.parent ≡ Some c.in-Some.parent = search rules in
    let above : slice_get c.args.plan.now.tree.domains c.in-Some.parent.0 ≡ Some c.node-2.result.now = search rules in
    let place : IsPlaceOf c.args.plan.now.tree.domains c.args.node (Some c.in-Some-place_of.place) = search rules in
    let items : c.items.result.now ≡ c.node-2.result.now.items = search rules in
    let within : c.in-Some-place_of.place.item < length c.node-2.result.now.items =
    item_within c.node-2.result.now.items c.args.node c.in-Some-place_of.place.item c.in-Some-place_of.place.member
    (place_so c.args.plan.now.tree.domains c.args.node c.in-Some.parent c.node.result.now c.node-2.result.now c.in-Some-place_of.place listed up above place) in
    let is_run : c.index-items-place.result ≡ Run c.in-Run.field-0 = search rules in
    let here : slice_get c.node-2.result.now.items c.in-Some-place_of.place.item ≡ Some (Run c.in-Run.field-0) =
    at_index c.node-2.result.now.items c.items.result.now c.in-Some-place_of.place.item c.index-items-place.result (Run c.in-Run.field-0) items within
    c.index-items-place.is is_run in
    absurd (member_there c.node-2.result.now.items c.args.node c.in-Some-place_of.place.item c.in-Some-place_of.place.member (Run c.in-Run.field-0) here
    (place_so c.args.plan.now.tree.domains c.args.node c.in-Some.parent c.node.result.now c.node-2.result.now c.in-Some-place_of.place listed up above place))
    )

pub returns-in-Group-clause-group : goal.returns-in-Group-clause-group
returns-in-Group-clause-group c = λ later. (
    let listed : slice_get c.args.plan.now.tree.domains c.args.node.0 ≡ Some c.node.result.now = search rules in
    let up : c.node.result.now.parent ≡ Some c.in-Some.parent = search rules in
    let above : slice_get c.args.plan.now.tree.domains c.in-Some.parent.0 ≡ Some c.node-2.result.now = search rules in
    let place : IsPlaceOf c.args.plan.now.tree.domains c.args.node (Some c.in-Some-place_of.place) = search rules in
    let items : c.items.result.now ≡ c.node-2.result.now.items = search rules in
    let within : c.in-Some-place_of.place.item < length c.node-2.result.now.items =
    item_within c.node-2.result.now.items c.args.node c.in-Some-place_of.place.item c.in-Some-place_of.place.member
    (place_so c.args.plan.now.tree.domains c.args.node c.in-Some.parent c.node.result.now c.node-2.result.now c.in-Some-place_of.place listed up above place) in
    let is_group : c.index-items-place.result ≡ Group c.items-in-Group.result.now = search rules in
    let here : slice_get c.node-2.result.now.items c.in-Some-place_of.place.item ≡ Some (Group c.items-in-Group.result.now) =
    at_index c.node-2.result.now.items c.items.result.now c.in-Some-place_of.place.item c.index-items-place.result (Group c.items-in-Group.result.now) items within
    c.index-items-place.is is_group in
    sym (group_found c.children_stand_once.ensures.once c.children_stand_once.ensures.children c.args.plan.now c.in-Some.parent c.args.node c.node-2.result.now
    c.in-Some-place_of.place.item c.in-Some-place_of.place.member c.items-in-Group.result.now c.tree-tree.ensures.sound above here
    (member_there c.node-2.result.now.items c.args.node c.in-Some-place_of.place.item c.in-Some-place_of.place.member (Group c.items-in-Group.result.now) here
    (place_so c.args.plan.now.tree.domains c.args.node c.in-Some.parent c.node.result.now c.node-2.result.now c.in-Some-place_of.place listed up above place)))
    )
