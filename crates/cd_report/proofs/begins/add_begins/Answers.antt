use Rattle.std.proofs.Common.{◌++◌, string_bytes}
use Rattle.cd_report.specs.Texts.{begins_lines}
use Rattle.cd_report.proofs.TextLemmas.{begins_next}
use Rattle.cd_report.proofs.begins.add_begins.Goals as goal

pub loop-k-preserved : goal.loop-k-preserved
loop-k-preserved c =
    begins_next c.args.tree.now.domains c.loop-k.k c.at.result c.args.begins.now (string_bytes c.loop-k.text) (string_bytes c.add_begins_line.new.text)
    (string_bytes c.args.text.now ++ begins_lines c.args.tree.now.domains 0 c.args.begins.now)
    c.at.ensures c.loop-k.invariant c.in_ok-add_begins_line.ensures
