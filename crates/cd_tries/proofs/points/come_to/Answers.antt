use Rattle.cd_tries.proofs.Pointing.{hits_present}
use Rattle.cd_tries.proofs.points.come_to.Goals as goal

pub reached-requires : goal.reached-requires
reached-requires g c =
    hits_present (g.F.Field.model c.args.field.now).node c.args.domain.now (g.F.Field.model c.args.field.now) c.args.point c.requires.runs
