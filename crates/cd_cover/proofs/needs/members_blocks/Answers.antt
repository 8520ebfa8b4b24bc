use Rattle.std.proofs.Common.{ℕ, ◌+◌, ◌≤◌, take, sum_by, get_or, slice_index, arith}
use Rattle.std.proofs.lemmas.List.Sums.{sum_by_more_le}
use Rattle.cd_tree.specs.declared.domain.NodeId.{NodeId}
use Rattle.cd_cover.proofs.needs.members_blocks.Goals as goal

abbrev no_member : NodeId
no_member = record { 0 = 0 }

pub overflow_add-all : goal.overflow_add-all
overflow_add-all c =
    let need : NodeId → ℕ = λ id. slice_index c.args.needs.now id.0 in
    let i : ℕ = c.loop-member.member-index in
    let part : sum_by need (take i c.args.members.now) + need (get_or c.args.members.now i no_member) ≤ sum_by need c.args.members.now =
    sum_by_more_le need c.args.members.now i no_member c.loop-member-test.true in
    omega (arith, part, c.loop-member.invariant, c.requires.fits)
