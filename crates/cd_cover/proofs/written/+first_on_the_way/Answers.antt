use Rattle.std.proofs.Common.{rules, ℕ, ◌<◌, arith}
use Rattle.cd_cover.proofs.Way.{ends_here, goes_on}
use Rattle.cd_cover.proofs.Grounds.{parents}
use Rattle.cd_cover.proofs.written.+first_on_the_way.Goals as goal
use Rattle.cd_cover.proofs.written.+first_on_the_way.Goals.{In-Some}

-- the parent stands before the domain
parent_first : (t : ℕ) (c : In-Some t) → c.in-Some.parent.0 < c.args.node.0
parent_first t c = parents c.args.program.now.tree.now c.requires.program.sound c.args.node c.in-Some.parent c.node.result.now c.node.ensures c.in-Some.is

pub first_before-here-requires-clause-parent : goal.first_before-here-requires-clause-parent
first_before-here-requires-clause-parent t c =
    let before = parent_first t ((goal.at.first_before-here-requires-clause-parent t c).In-Some) in
    omega arith

pub node-requires-in-Some : goal.node-requires-in-Some
node-requires-in-Some t c =
    let before = parent_first t ((goal.at.node-requires-in-Some t c).In-Some) in
    omega arith

pub first_on_the_way-requires : goal.first_on_the_way-requires
first_on_the_way-requires t c =
    let before = parent_first t ((goal.at.first_on_the_way-requires t c).In-Some) in
    search (rules, before)

pub returns-in-None-seek_above : goal.returns-in-None-seek_above
returns-in-None-seek_above t c =
    ends_here c.args.program.now.tree.now c.requires.program.sound c.the_nested_view_follows_the_list.ensures c.frames_go_up.ensures.up c.args.node c.in-Some.parent
    c.node.result.now c.node-in-Some.result.now c.node.ensures c.in-Some.is c.node-in-Some.ensures c.args.own c.args.sought
    c.items.result.now c.items.ensures.value c.seek_above.result c.seek_above.ensures c.in-None-seek_above.is c.first_before-here.result c.first_before-here.ensures

pub returns-in-Some-seek_above : goal.returns-in-Some-seek_above
returns-in-Some-seek_above t c =
    goes_on c.args.program.now.tree.now c.requires.program.sound c.the_nested_view_follows_the_list.ensures c.frames_go_up.ensures.up c.args.node c.in-Some.parent
    c.node.result.now c.node-in-Some.result.now c.node.ensures c.in-Some.is c.node-in-Some.ensures c.args.own c.args.sought
    c.in-Some-seek_above.outer c.items.result.now c.items.ensures.value c.seek_above.result c.seek_above.ensures c.in-Some-seek_above.is
    c.first_before-here.result c.first_on_the_way.result c.earlier.result c.first_before-here.ensures c.first_on_the_way.ensures
    c.earlier.ensures
