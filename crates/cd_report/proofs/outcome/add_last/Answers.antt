use Rattle.std.proofs.Common.{◌≡◌, ◌++◌, ◌∙◌, Option, sym, subst, string_bytes}
use Rattle.std.specs.Prelude.{OnOk}
use Rattle.cd_tree.specs.declared.domain.NodeId.{NodeId}
use Rattle.cd_report.specs.Texts.{end_text}
use Rattle.cd_report.proofs.TextLemmas.{last_of}
use Rattle.cd_report.proofs.outcome.add_last.Goals as goal

pub returns-in-Some : goal.returns-in-Some
returns-in-Some c =
    subst
    (λ (o : Option NodeId). OnOk c.add_path.result (string_bytes c.add_path.new.text ≡ string_bytes c.args.text.now ++ end_text c.args.tree.now.domains o))
    (c.in-Some.ensures.value ∙ sym (last_of c.args.nodes.now)) c.add_path.ensures
