use Rattle.cd_state_tests.proofs.BoardLemmas.{none_held, room_back}
use Rattle.cd_state_tests.proofs.tests.keeps.gives_up.Goals as goal

pub returns-clause-nothing : goal.returns-clause-nothing
returns-clause-nothing g c =
    none_held c.args.keeps.now (g.P.Pass.model c.args.pass.now) (g.P.Pass.model c.give_up_all.new.pass) c.requires.holds c.give_up_all.ensures

pub returns-clause-room : goal.returns-clause-room
returns-clause-room g c =
    room_back c.args.keeps.now (g.P.Pass.model c.args.pass.now) (g.P.Pass.model c.give_up_all.new.pass) c.requires.room c.give_up_all.ensures
