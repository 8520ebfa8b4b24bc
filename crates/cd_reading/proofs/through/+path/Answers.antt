use Rattle.std.proofs.Common.{rules, ◌<◌, ◌≤◌, ◌+◌, ◌*◌, ℕ, List, length, Result, Ok, Err, IfOk, arith}
use Rattle.cd_tree.specs.declared.domain.NodeId.{NodeId}
use Rattle.cd_reading.proofs.through.+path.Goals as goal
use Rattle.cd_reading.proofs.through.+path.Goals.{path_above-In-Some}

-- the parent stands before the domain
parent_first : (t : ℕ) (c : path_above-In-Some t) → c.in-Some.parent.0 < c.args.node.0
parent_first t c =
    c.paths_go_from_parent_to_child.ensures.parents c.args.tree.now c.requires.tree c.args.node c.in-Some.parent c.node.result.now c.node.ensures
    c.in-Some.is

-- the path of the parent is no longer than this domain's number
few_below : {E : Type 0} (result : Result (List NodeId) E) (p n : ℕ) → p < n → IfOk result (λ path. length path ≤ p + 1)
    → IfOk result (λ path. length path ≤ n)
few_below (Ok path) p n before few = omega arith
few_below (Err e) p n before few = few

pub path_above-path_of-requires : goal.path_above-path_of-requires
path_above-path_of-requires t c =
    let before : c.in-Some.parent.0 < c.args.node.0 = parent_first t ((goal.at.path_above-path_of-requires t c).In-Some) in
    let less : 2 * c.in-Some.parent.0 + 1 < 2 * c.args.node.0 = omega arith in
    let within : c.in-Some.parent.0 < length c.args.tree.now.domains = omega (arith, c.requires.node) in
    search (rules, less, within)

pub path_above-returns-in-Some-clause-few : goal.path_above-returns-in-Some-clause-few
path_above-returns-in-Some-clause-few t c =
    few_below c.path_of.result c.in-Some.parent.0 c.args.node.0
    (parent_first t ((goal.at.path_above-returns-in-Some-clause-few t c).In-Some)) c.path_of.ensures.few
