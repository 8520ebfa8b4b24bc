use Rattle.cd_parts_tests.proofs.TrialLemmas.{hits_present, ready_begun, ready_reached, ready_wrote}
use Rattle.cd_parts_tests.proofs.tests.machine_calls.comes_to_a_point.Goals as goal

pub reached-requires : goal.reached-requires
reached-requires g c =
    hits_present (g.F.Field.model c.write.new.self) 0
    (ready_wrote (g.F.Field.model c.begin.new.self) (g.F.Field.model c.write.new.self) _ _ c.write.ensures
    (ready_begun (g.F.Field.model c.args.field.now) (g.F.Field.model c.begin.new.self) _ _ c.in_ok-begin.ensures c.requires))

pub returns : goal.returns
returns g c =
    ready_reached (g.F.Field.model c.write.new.self) (g.F.Field.model c.reached.new.self) 0 c.in_ok-reached.ensures
    (ready_wrote (g.F.Field.model c.begin.new.self) (g.F.Field.model c.write.new.self) _ _ c.write.ensures
    (ready_begun (g.F.Field.model c.args.field.now) (g.F.Field.model c.begin.new.self) _ _ c.in_ok-begin.ensures c.requires))
