use Rattle.std.proofs.Common.{Option, IsSomeAnd, subst}
use Rattle.cd_base.specs.declared.place.Place.{Place}
use Rattle.cd_base.specs.Places.{IsLeast}
use Rattle.cd_tree.specs.Domains.{node_of}
use Rattle.cd_tree.specs.Meaning.{uncovered}
use Rattle.cd_cover.proofs.Coverage.{uncovered_at}
use Rattle.cd_cover.proofs.flaws.coverage_flaw.Goals as goal

pub returns-in-Some : goal.returns-in-Some
returns-in-Some c =
    uncovered_at c.args.program.now.tree.now.domains c.args.node c.in-Some.place c.requires.node
    (subst (λ (found : Option Place). IsSomeAnd (node_of c.args.program.now.tree.now.domains c.args.node) (λ d. IsLeast (uncovered d) found)) c.in-Some.is
    c.in_ok-first_uncovered.ensures)
