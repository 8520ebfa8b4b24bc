use Rattle.cd_field.proofs.CutLemmas.{covered_by_known}
use Rattle.cd_field.proofs.flat_words.FlatWords.part.Goals as goal

pub cut_hulls-requires : goal.cut_hulls-requires
cut_hulls-requires c =
    covered_by_known c.args.self.now.ranges.items c.args.ranges.now c.args.self.now.hulls.items c.args.self.now.covered c.requires
