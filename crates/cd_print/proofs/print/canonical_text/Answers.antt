use Rattle.std.proofs.Common.{◌<◌, length, refl, string_bytes, arith}
use Rattle.cd_print.proofs.ProgramLemmas.{document_text}
use Rattle.cd_print.proofs.print.canonical_text.Goals as goal

pub returns : goal.returns
returns c =
    let some : 0 < length c.args.document.now.tree.domains = omega (arith, c.count-count.ensures.value, c.if-prove.false) in
    document_text c.args.document.now c.items.result.now
    (string_bytes c.in_ok-text.text) (string_bytes c.add_kinds.new.text) (string_bytes c.add_lines.new.text)
    (string_bytes c.add_domain.new.text) (string_bytes c.add_faults.new.text) some
    c.items.ensures.value c.in_ok-text.ensures.ok c.in_ok-add_kinds.ensures c.in_ok-add_lines.ensures c.in_ok-add_domain.ensures c.in_ok-add_faults.ensures
