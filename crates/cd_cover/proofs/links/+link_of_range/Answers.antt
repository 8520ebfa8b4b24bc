use Rattle.std.proofs.Common.{rules, ℕ, ◌<◌, arith}
use Rattle.cd_cover.proofs.Grounds.{parents}
use Rattle.cd_cover.proofs.links.+link_of_range.Goals as goal
use Rattle.cd_cover.proofs.links.+link_of_range.Goals.{In-Some}

-- the parent stands before the domain
parent_first : (t : ℕ) (c : In-Some t) → c.in-Some.parent.0 < c.args.node.0
parent_first t c = parents c.args.tree.now c.requires.tree c.args.node c.in-Some.parent c.node.result.now c.node.ensures c.in-Some.is

pub node-requires-in-Some : goal.node-requires-in-Some
node-requires-in-Some t c =
    let before = parent_first t ((goal.at.node-requires-in-Some t c).In-Some) in
    omega arith

pub link_of_range-requires : goal.link_of_range-requires
link_of_range-requires t c =
    let before = parent_first t ((goal.at.link_of_range-requires t c).In-Some) in
    search (rules, before)
