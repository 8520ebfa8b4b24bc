use Rattle.std.proofs.Common.{◌≡◌, ◌++◌, codes, string_bytes, refl}
use Rattle.std.proofs.lemmas.Result.{IfOk-weaker}
use Rattle.std.specs.Fmt.{decimal}
use Rattle.cd_tree.specs.declared.event.Event.TheVariants.{Lapsed}
use Rattle.cd_report.specs.Records.{event_line}
use Rattle.cd_report.proofs.RecordLemmas.{lapsed_line}
use Rattle.cd_report.proofs.events.lapsed.Goals as goal

pub returns : goal.returns
returns c =
    IfOk-weaker c.format.result
    (λ text. string_bytes text ≡ codes "lapsed " ++ (decimal c.args.node.0 ++ (codes " " ++ (decimal c.args.entry ++ (codes " seen " ++ (decimal c.args.seen ++ (codes " found " ++ (decimal c.args.found ++ codes "\n"))))))))
    (λ text. (kinds : _) (regions : _) → string_bytes text ≡ event_line kinds regions (Lapsed c.args.node c.args.entry c.args.seen c.args.found))
    (λ text e kinds regions. lapsed_line kinds regions _ c.args.node c.args.entry c.args.seen c.args.found (string_bytes text) refl e)
    c.format.ensures.ok
