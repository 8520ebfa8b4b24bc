use Rattle.std.proofs.Common.{refl}
use Rattle.cd_base.proofs.ListLemmas.{drop-read}
use Rattle.cd_foot.specs.Gathered.{item_side}
use Rattle.cd_foot.proofs.GatherLemmas.{gathers_none, gathers_more, gathers_all}
use Rattle.cd_foot.proofs.gathered.add_items.Goals as goal

pub loop-item-init : goal.loop-item-init
loop-item-init c = gathers_none (item_side c.args.side c.args.feet.now) c.args.items.now c.args.ranges.now.items

pub loop-item-preserved : goal.loop-item-preserved
loop-item-preserved c =
    let own = item_side c.args.side c.args.feet.now in
    gathers_more own c.args.items.now c.loop-item.item-index c.item-item.result c.args.ranges.now.items c.loop-item.ranges.items
    (own c.item-item.result) c.add_item.new.ranges.items
    (drop-read c.args.items.now c.loop-item.item-index c.item-item.result c.loop-item-test.true c.item-item.is)
    refl c.in_ok-add_item.ensures.full c.in_ok-add_item.ensures.ranges c.loop-item.invariant

pub returns : goal.returns
returns c =
    let all = gathers_all (item_side c.args.side c.args.feet.now) c.args.items.now c.loop-item.item-index c.args.ranges.now.items
    c.loop-item.ranges.items c.loop-item-test.false c.loop-item.invariant in
    record { ranges = all.0; full = all.1 }
