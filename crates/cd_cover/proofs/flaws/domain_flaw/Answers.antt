use Rattle.std.proofs.Common.{subst}
use Rattle.cd_tree.specs.Domains.{node_of}
use Rattle.cd_tree.specs.declared.refusal.Refusal.{Refusal}
use Rattle.std.proofs.Common.{Option, IsSomeAnd}
use Rattle.cd_cover.specs.Checks.{CoverageOf}
use Rattle.cd_cover.proofs.FirstLemmas.{domain_clear}
use Rattle.cd_cover.proofs.flaws.domain_flaw.Goals as goal

pub returns-in-None : goal.returns-in-None
returns-in-None c =
    domain_clear c.args.program.now.tree.now c.requires.program.sound c.the_nested_view_follows_the_list.ensures c.args.node c.node.result.now c.node.ensures
    c.items-entries.result.now c.items-entries.ensures.value
    (subst (λ (answer : Option Refusal). IsSomeAnd (node_of c.args.program.now.tree.now.domains c.args.node) (λ d. CoverageOf d answer)) c.in-None.is
    c.in_ok-coverage_flaw.ensures)
    c.entries_flaw.result c.entries_flaw.ensures
