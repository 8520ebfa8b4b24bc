use Rattle.std.proofs.Common.{rules}
use Rattle.cd_keep.specs.Layers.{layers_of}
use Rattle.cd_keep.proofs.KnownLemmas.{known_in-closed}
use Rattle.cd_keep.proofs.kept.Kept.close.Goals as goal

pub returns-in-Ok-clause-same : goal.returns-in-Ok-clause-same
returns-in-Ok-clause-same c =
    known_in-closed (layers_of c.args.self.now.layers) (layers_of c.put_last.new.layers) c.args.self.now.latest c.replace-full.result
    c.replace-full.new.dest c.in-Ok.ensures.layers (search rules) (search rules)
