use Rattle.std.proofs.Common.{◌∷◌, IsTrue, rules}
use Rattle.cd_tree.specs.Operations.{op_reads, op_writes}
use Rattle.cd_parts_tests.proofs.OneRegionLemmas.{on_board}
use Rattle.cd_parts_tests.proofs.tests.kernels.run.Goals as goal

pub apply-requires-clause-present : goal.apply-requires-clause-present
apply-requires-clause-present g c κs within =
    let fits : IsTrue c.fits.result = search rules in
    on_board (g.F.Field.model c.args.field.now) (op_writes c.args.op ∷ op_reads c.args.op) c.requires (c.fits.ensures.places fits)
