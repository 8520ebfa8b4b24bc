use Rattle.std.proofs.Common.{List, ℕ, ◌++◌, ◌∙◌, sym, ap, arith, string_bytes}
use Rattle.std.proofs.lemmas.List.{append-nil}
use Rattle.cd_report.proofs.TextLemmas.{path_missing}
use Rattle.cd_report.proofs.outcome.add_path.Goals as goal

pub returns-then-node-count : goal.returns-then-node-count
returns-then-node-count c =
    sym (ap (λ (t : List ℕ). string_bytes c.args.text.now ++ t) (path_missing c.args.tree.now.domains c.args.node (omega (arith, c.if-node-count.true, c.count.ensures.value)))
    ∙ append-nil (string_bytes c.args.text.now))
