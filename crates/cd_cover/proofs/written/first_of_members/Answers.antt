use Rattle.std.proofs.Common.{◌+◌, drop, subst, sym}
use Rattle.cd_tree.specs.declared.domain.NodeId.{NodeId}
use Rattle.cd_tree.specs.Domains.{node_of}
use Rattle.cd_cover.proofs.LeastLemmas.{Leaves, leaves_all}
use Rattle.cd_cover.proofs.Steps.{by_members, member_less, members_end}
use Rattle.cd_cover.proofs.written.first_of_members.Goals as goal

abbrev no_member : NodeId
no_member = record { 0 = 0 }

pub first_of_domain-requires-clause-node : goal.first_of_domain-requires-clause-node
first_of_domain-requires-clause-node c =
    c.requires.members c.loop-member.member-index no_member c.loop-member-test.true

pub loop-member-init : goal.loop-member-init
loop-member-init c = leaves_all (by_members c.args.range (node_of c.args.program.now.tree.now.domains) c.args.members.now)

pub loop-member-preserved : goal.loop-member-preserved
loop-member-preserved c =
    let find = node_of c.args.program.now.tree.now.domains in
    let i = c.loop-member.member-index in
    subst
    (λ found. Leaves found (by_members c.args.range find (drop (i + 1) c.args.members.now)) (by_members c.args.range find c.args.members.now))
    (sym c.earlier-found.ensures)
    (member_less c.args.range find c.args.members.now i no_member c.loop-member.found c.first_of_domain.result
    (by_members c.args.range find c.args.members.now) c.loop-member-test.true c.first_of_domain.ensures c.loop-member.invariant)

pub returns : goal.returns
returns c =
    members_end c.args.range (node_of c.args.program.now.tree.now.domains) c.args.members.now c.loop-member.member-index c.loop-member.found
    c.loop-member-test.false c.loop-member.invariant
