use Rattle.std.proofs.Common.{◌≡◌, ◌++◌, codes, string_bytes}
use Rattle.std.proofs.lemmas.Result.{IfOk-weaker}
use Rattle.std.specs.Fmt.{decimal}
use Rattle.std.specs.Option.{option_copied}
use Rattle.cd_report.specs.Texts.{refusal_text}
use Rattle.cd_report.proofs.TextLemmas.{overlap_text, uncovered_text, no_target_text, stale_text}
use Rattle.cd_report.proofs.refusal.refusal_text.Goals as goal

pub returns-in_ok-place-in-Overlap : goal.returns-in_ok-place-in-Overlap
returns-in_ok-place-in-Overlap c =
    IfOk-weaker c.format-in-Overlap.result
    (λ text. string_bytes text ≡ codes "E9 " ++ (string_bytes c.in_ok-one-in-Overlap.one ++ (codes " " ++ (string_bytes c.in_ok-other-in-Overlap.other ++ (codes " " ++ string_bytes c.in_ok-place-in-Overlap.place)))))
    (λ text. string_bytes text ≡ refusal_text (option_copied c.args.document) c.args.refusal.now)
    (λ text e. overlap_text (option_copied c.args.document) c.args.refusal.now c.in-Overlap.one c.in-Overlap.other c.in-Overlap.place (string_bytes c.in_ok-one-in-Overlap.one) (string_bytes c.in_ok-other-in-Overlap.other) (string_bytes c.in_ok-place-in-Overlap.place) (string_bytes text)
    c.in-Overlap.is c.in_ok-one-in-Overlap.ensures c.in_ok-other-in-Overlap.ensures c.in_ok-place-in-Overlap.ensures e)
    c.format-in-Overlap.ensures.ok

pub returns-in_ok-place-in-Uncovered : goal.returns-in_ok-place-in-Uncovered
returns-in_ok-place-in-Uncovered c =
    IfOk-weaker c.format-in-Uncovered.result
    (λ text. string_bytes text ≡ codes "E10 " ++ (string_bytes c.in_ok-path-in-Uncovered.path ++ (codes " " ++ string_bytes c.in_ok-place-in-Uncovered.place)))
    (λ text. string_bytes text ≡ refusal_text (option_copied c.args.document) c.args.refusal.now)
    (λ text e. uncovered_text (option_copied c.args.document) c.args.refusal.now c.in-Uncovered.node c.in-Uncovered.place (string_bytes c.in_ok-path-in-Uncovered.path) (string_bytes c.in_ok-place-in-Uncovered.place) (string_bytes text)
    c.in-Uncovered.is c.in_ok-path-in-Uncovered.ensures c.in_ok-place-in-Uncovered.ensures e)
    c.format-in-Uncovered.ensures.ok

pub returns-in_ok-path-in-NoTarget : goal.returns-in_ok-path-in-NoTarget
returns-in_ok-path-in-NoTarget c =
    IfOk-weaker c.format-in-NoTarget.result
    (λ text. string_bytes text ≡ codes "E11 " ++ (string_bytes c.in_ok-path-in-NoTarget.path ++ (codes " entry " ++ decimal c.in-NoTarget.entry)))
    (λ text. string_bytes text ≡ refusal_text (option_copied c.args.document) c.args.refusal.now)
    (λ text e. no_target_text (option_copied c.args.document) c.args.refusal.now c.in-NoTarget.node c.in-NoTarget.entry (string_bytes c.in_ok-path-in-NoTarget.path) (string_bytes text)
    c.in-NoTarget.is c.in_ok-path-in-NoTarget.ensures e)
    c.format-in-NoTarget.ensures.ok

pub returns-in_ok-place-in-Stale : goal.returns-in_ok-place-in-Stale
returns-in_ok-place-in-Stale c =
    IfOk-weaker c.format-in-Stale.result
    (λ text. string_bytes text ≡ codes "E12 " ++ (string_bytes c.in_ok-path-in-Stale.path ++ (codes " entry " ++ (decimal c.in-Stale.entry ++ (codes " " ++ string_bytes c.in_ok-place-in-Stale.place)))))
    (λ text. string_bytes text ≡ refusal_text (option_copied c.args.document) c.args.refusal.now)
    (λ text e. stale_text (option_copied c.args.document) c.args.refusal.now c.in-Stale.node c.in-Stale.entry c.in-Stale.place (string_bytes c.in_ok-path-in-Stale.path) (string_bytes c.in_ok-place-in-Stale.place) (string_bytes text)
    c.in-Stale.is c.in_ok-path-in-Stale.ensures c.in_ok-place-in-Stale.ensures e)
    c.format-in-Stale.ensures.ok
