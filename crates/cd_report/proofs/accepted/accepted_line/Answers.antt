use Rattle.std.proofs.Common.{◌≡◌, ◌++◌, ◌∙◌, ap, codes, length, string_bytes}
use Rattle.std.proofs.lemmas.Result.{IfOk-weaker}
use Rattle.std.specs.Fmt.{decimal}
use Rattle.cd_report.specs.Texts.{accepted_line, word_count}
use Rattle.cd_report.proofs.CountLemmas.{accepted_made}
use Rattle.cd_report.proofs.accepted.accepted_line.Goals as goal

pub returns : goal.returns
returns c =
    IfOk-weaker c.format.result
    (λ text. string_bytes text ≡ codes "# accepted domains " ++ (decimal c.count-domains.result ++ (codes " items " ++ (decimal c.items_and_entries-items.result.0 ++ (codes " entries " ++ (decimal c.items_and_entries-items.result.1 ++ (codes " words " ++ (decimal c.word_count-words.result ++ (codes " need " ++ (decimal c.args.need ++ (codes " faults " ++ decimal (length c.items-2.result.now))))))))))) ++ codes "\n")
    (λ text. string_bytes text ≡ accepted_line c.args.document.now c.args.need)
    (λ text e. accepted_made c.args.document.now c.count-domains.result c.items_and_entries-items.result.0 c.items_and_entries-items.result.1 c.word_count-words.result
    c.args.need (length c.items-2.result.now) (string_bytes text) c.count-domains.ensures.value c.items_and_entries-items.ensures.items c.items_and_entries-items.ensures.entries
    (c.word_count-words.ensures ∙ ap word_count c.items.ensures.value) (ap length c.items-2.ensures.value) e)
    c.format.ensures.ok
