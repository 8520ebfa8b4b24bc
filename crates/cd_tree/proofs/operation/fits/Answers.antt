use Rattle.std.proofs.Common.{Bool, ◌↔◌, IsTrue, sym, subst}
use Rattle.cd_tree.specs.Operations.{FitsShape}
use Rattle.cd_tree.proofs.ShapeTests.{shape_says}
use Rattle.cd_tree.proofs.operation.fits.Goals as goal

pub returns-clause-shape : goal.returns-clause-shape
returns-clause-shape c = subst (λ (b : Bool). IsTrue b ↔ FitsShape c.args.op.now) (sym c.has_shape.ensures) (shape_says c.args.op.now)
