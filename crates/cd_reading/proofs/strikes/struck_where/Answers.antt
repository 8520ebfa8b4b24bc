use Rattle.cd_reading.proofs.StruckLemmas.{never_struck}
use Rattle.cd_reading.proofs.strikes.struck_where.Goals as goal

pub returns-else-marks-node : goal.returns-else-marks-node
returns-else-marks-node c =
    never_struck c.args.faults.now c.args.marks.now c.args.node.0 _ c.new.result c.requires.marks c.requires.node c.if-marks-node.false c.new.ensures
