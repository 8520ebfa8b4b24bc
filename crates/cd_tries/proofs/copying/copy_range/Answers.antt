use Rattle.std.proofs.Common.{arith}
use Rattle.cd_tries.proofs.Cutting.{all_copied}
use Rattle.cd_tries.proofs.copying.copy_range.Goals as goal

pub returns : goal.returns
returns g c =
    all_copied (g.F.Field.model c.args.field.now).words c.args.range c.loop-k.k c.loop-k.ids (g.P.Pass.model c.args.pass.now)
    (g.P.Pass.model c.loop-k.pass) (omega (arith, c.loop-k-test.false, c.loop-k.auto.k-end, c.count_pieces-k-end.ensures)) c.loop-k.invariant
