use Rattle.std.proofs.Common.{refl}
use Rattle.cd_field.specs.FieldModel.{reached_point}
use Rattle.cd_parts_tests.proofs.TrialLemmas.{hits_present, ready_reached, same_as}
use Rattle.cd_parts_tests.proofs.tests.trials.change.Goals as goal

pub reached-requires : goal.reached-requires
reached-requires g c = hits_present (g.F.Field.model c.args.field.now) c.pick-in_default.result c.requires

pub returns-in_ok-reached-in_default-clause-ready : goal.returns-in_ok-reached-in_default-clause-ready
returns-in_ok-reached-in_default-clause-ready g c =
    ready_reached (g.F.Field.model c.args.field.now) (g.F.Field.model c.reached.new.self) c.pick-in_default.result
    c.in_ok-reached-in_default.ensures c.requires

pub returns-in_ok-reached-in_default-clause-same : goal.returns-in_ok-reached-in_default-clause-same
returns-in_ok-reached-in_default-clause-same g c =
    same_as (g.F.Field.model c.args.field.now) (reached_point (g.F.Field.model c.args.field.now) c.pick-in_default.result) _
    c.in_ok-reached-in_default.ensures refl refl
