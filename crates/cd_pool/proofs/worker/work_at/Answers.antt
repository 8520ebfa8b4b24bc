use Rattle.std.proofs.Common.{rules, [], ap, sym, subst, ◌∙◌}
use Rattle.cd_core.specs.Steps.{CanMove}
use Rattle.cd_cells.specs.Working.{StillWorks}
use Rattle.cd_pool.proofs.worker.work_at.Goals as goal

pub work_on-requires-clause-goes : goal.work_on-requires-clause-goes
work_on-requires-clause-goes g c κs within =
    let won = c.in-Some.ensures.claims [] c.requires.works in
    record { ask = won.ask; works = won.now; moves = subst CanMove (sym won.ready.0) tt; answers = won.ready.1 }

pub returns-in_err-note-in-None-clause-still : goal.returns-in_err-note-in-None-clause-still
returns-in_err-note-in-None-clause-still g c =
    let still : StillWorks g.F.Field.model g.P.Pass.model c.claim.new.self = ([], [], (c.in-None.ensures.claims [] c.requires.works).now) in
    search (rules, still)

pub returns-in_ok-note-in-None-clause-done : goal.returns-in_ok-note-in-None-clause-done
returns-in_ok-note-in-None-clause-done g c = record { same = c.claim.ensures.same; works = (c.in-None.ensures.claims [] c.requires.works).now }
