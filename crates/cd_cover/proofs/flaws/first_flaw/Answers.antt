use Rattle.std.proofs.Common.{◌≡◌, ◌≤◌, ◌∙◌, sym, length, arith}
use Rattle.cd_tree.specs.Domains.{nodes_from}
use Rattle.cd_tree.proofs.View.{length-nodes_from}
use Rattle.cd_cover.proofs.FirstLemmas.{domain_hit, domain_miss, domains_end}
use Rattle.cd_cover.proofs.flaws.first_flaw.Goals as goal

pub returns-then-is_some : goal.returns-then-is_some
returns-then-is_some c =
    domain_hit c.args.program.now.tree.now.domains c.loop-k.k (nodes_from 0 c.args.program.now.tree.now.domains) c.in_ok-flaw.flaw c.in_ok-flaw.ensures
    c.loop-k.invariant (sym c.is_some.ensures ∙ c.if-is_some.true)

pub loop-k-preserved : goal.loop-k-preserved
loop-k-preserved c =
    domain_miss c.args.program.now.tree.now.domains c.loop-k.k (nodes_from 0 c.args.program.now.tree.now.domains) c.in_ok-flaw.flaw c.in_ok-flaw.ensures
    c.loop-k.invariant (sym c.is_some.ensures ∙ c.if-is_some.false)

pub returns : goal.returns
returns c =
    let all : length (nodes_from 0 c.args.program.now.tree.now.domains) ≡ length c.args.program.now.tree.now.domains = length-nodes_from 0 c.args.program.now.tree.now.domains in
    let past : length (nodes_from 0 c.args.program.now.tree.now.domains) ≤ c.loop-k.k = omega arith in
    domains_end c.args.program.now.tree.now.domains c.loop-k.k (nodes_from 0 c.args.program.now.tree.now.domains) past c.loop-k.invariant
