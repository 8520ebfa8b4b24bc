use Rattle.cd_keep.specs.Arcs.{model_of}
use Rattle.cd_keep.proofs.arc_pass.ArcPassPass.fetch.Goals as goal

pub words-requires : goal.words-requires
unfolding model_of
words-requires c = c.args.self.now.known.each c.args.id c.requires.held
