use Rattle.std.proofs.Common.{◌∙◌}
use Rattle.cd_script.proofs.Views.{reach_recorded}
use Rattle.cd_script.proofs.fault.reaches.Goals as goal

pub returns : goal.returns
returns c =
    c.has.ensures
    ∙ reach_recorded c.args.tree.now.domains c.args.feet.now c.requires.feet c.args.node c.requires.node c.reach.result.now c.reach.ensures
    c.args.place
