use Rattle.std.proofs.Common.{◌≡◌, ◌<◌, ◌∙◌, length, get_or, sym, subst, All}
use Rattle.std.proofs.lemmas.List.{drop_more}
use Rattle.cd_tree.specs.declared.domain.NodeId.{NodeId}
use Rattle.cd_tree.specs.Operations.{IsFull}
use Rattle.cd_foot.specs.Gathered.{side_at}
use Rattle.cd_foot.proofs.GatherLemmas.{full_where_ordered, gathers_none, gathers_more, gathers_all, side_found}
use Rattle.cd_foot.proofs.gathered.add_members.Goals as goal

pub loop-member-init : goal.loop-member-init
loop-member-init c = gathers_none (side_at c.args.side c.args.feet.now) c.args.members.now c.args.ranges.now.items

pub loop-member-preserved : goal.loop-member-preserved
loop-member-preserved c =
    let none : NodeId = record { 0 = 0 } in
    let member : NodeId = get_or c.args.members.now c.loop-member.member-index none in
    let within : member.0 < length c.args.feet.now = c.requires c.loop-member.member-index none c.loop-member-test.true in
    let set : c.ranges-in-loop-member.result.now ≡ side_at c.args.side c.args.feet.now member =
    c.ranges-in-loop-member.ensures.value ∙ side_found c.args.side c.args.feet.now member c.index-feet-member.result _ within c.index-feet-member.is c.set_of-places.ensures in
    let full : All IsFull c.ranges-in-loop-member.result.now =
    subst (All IsFull) (sym c.ranges-in-loop-member.ensures.value) (full_where_ordered _ c.ranges-in-loop-member.ensures.order) in
    gathers_more (side_at c.args.side c.args.feet.now) c.args.members.now c.loop-member.member-index member c.args.ranges.now.items
    c.loop-member.ranges.items c.ranges-in-loop-member.result.now c.extend_from_slice.new.self.items
    (drop_more c.args.members.now c.loop-member.member-index none c.loop-member-test.true)
    set full c.in_ok-extend_from_slice.ensures.items c.loop-member.invariant

pub returns : goal.returns
returns c =
    let all = gathers_all (side_at c.args.side c.args.feet.now) c.args.members.now c.loop-member.member-index c.args.ranges.now.items
    c.loop-member.ranges.items c.loop-member-test.false c.loop-member.invariant in
    record { ranges = all.0; full = all.1 }
