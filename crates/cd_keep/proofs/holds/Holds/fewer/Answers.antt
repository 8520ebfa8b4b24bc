use Rattle.std.proofs.Common.{ap, ◌+◌, ◌∙◌, length, List}
use Rattle.cd_keep.specs.declared.keep_id.KeepId.{KeepId}
use Rattle.cd_keep.specs.Holding.{times}
use Rattle.cd_keep.proofs.HoldLemmas.{length-less, times-less}
use Rattle.cd_keep.proofs.holds.Holds.fewer.Goals as goal

pub returns-clause-counts : goal.returns-clause-counts
returns-clause-counts c = ap times c.after.ensures ∙ times-less c.args.self.now.ids c.args.id

pub returns-clause-held : goal.returns-clause-held
returns-clause-held c = ap (λ (ids : List KeepId). length ids + 1) c.after.ensures ∙ length-less c.args.self.now.ids c.args.id c.requires
