use Rattle.std.proofs.Common.{[], ◌∷◌}
use Rattle.cd_cells.proofs.TurnLemmas.{ends_so, sends_so}
use Rattle.cd_cells.proofs.work.take_turn.Goals as goal

pub send_members-requires-clause-sends : goal.send_members-requires-clause-sends
send_members-requires-clause-sends g c κs within =
    sends_so g.F.Field.model g.P.Pass.model c.args.cells.now c.args.plan.now c.args.state c.advance.new.self c.in-Group.children.items c.requires.plan c.requires.goes
    c.in-Group.ensures.exact c.in-Group.ensures.fits.1 c.in-Group.ensures.stands c.in-Group.ensures.stays c.in-Group.ensures.onward.0

pub come_back-requires-clause-ends : goal.come_back-requires-clause-ends
come_back-requires-clause-ends g c κs within =
    ends_so g.F.Field.model g.P.Pass.model c.args.cells.now c.args.plan.now c.args.state c.advance.new.self c.requires.plan c.requires.goes
    c.in-Done.ensures.stands c.in-Done.ensures.stays c.in-Done.ensures.onward

pub come_back-requires-in-Escalated-clause-ends : goal.come_back-requires-in-Escalated-clause-ends
come_back-requires-in-Escalated-clause-ends g c κs within =
    ends_so g.F.Field.model g.P.Pass.model c.args.cells.now c.args.plan.now c.args.state c.advance.new.self c.requires.plan c.requires.goes
    c.in-Escalated.ensures.stands c.in-Escalated.ensures.stays c.in-Escalated.ensures.onward

pub returns-in-NoMemory-clause-still : goal.returns-in-NoMemory-clause-still
returns-in-NoMemory-clause-still g c = (c.requires.goes.ask ∷ [], [], c.requires.goes.works)
