use Rattle.std.proofs.Common.{◌≡◌, ◌++◌, codes, string_bytes, refl}
use Rattle.std.proofs.lemmas.Result.{IfOk-weaker}
use Rattle.std.specs.Fmt.{decimal}
use Rattle.cd_tree.specs.declared.event.Event.TheVariants.{Fell}
use Rattle.cd_report.specs.Records.{event_line}
use Rattle.cd_report.proofs.RecordLemmas.{fell_line}
use Rattle.cd_report.proofs.events.fell.Goals as goal

pub returns : goal.returns
returns c =
    IfOk-weaker c.format.result
    (λ text. string_bytes text ≡ codes "fell " ++ (decimal c.args.node.0 ++ (codes " " ++ (decimal c.args.entry ++ (codes " " ++ (string_bytes c.in_ok-token.token ++ (codes " wanted " ++ (decimal c.args.wanted ++ (codes " found " ++ (decimal c.args.found ++ codes "\n"))))))))))
    (λ text. (kinds : _) → string_bytes text ≡ event_line kinds c.args.regions.now (Fell c.args.node c.args.entry c.args.place c.args.wanted c.args.found))
    (λ text e kinds. fell_line kinds c.args.regions.now _ c.args.node c.args.entry c.args.place c.args.wanted c.args.found (string_bytes c.in_ok-token.token) (string_bytes text)
    refl c.in_ok-token.ensures e)
    c.format.ensures.ok
