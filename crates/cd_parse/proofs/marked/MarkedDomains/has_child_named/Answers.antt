use Rattle.std.proofs.Common.{◌≡◌, ℕ, false, List, Some, slice_get, sym, ap, ◌∙◌, arith}
use Rattle.std.proofs.lemmas.Option.{slice_get-get_or}
use Rattle.cd_tree.specs.declared.domain.Domain.{Domain}
use Rattle.cd_parse.specs.Draft.{has_child_named}
use Rattle.cd_parse.specs.Marks.{mark_of}
use Rattle.cd_parse.proofs.MarkLemmas.{unmarked_is_free}
use Rattle.cd_parse.proofs.marked.MarkedDomains.has_child_named.Goals as goal

pub returns-else-index : goal.returns-else-index
returns-else-index c =
    let free : slice_get c.self.inside.marks.items (mark_of c.args.parent c.args.name.now) ≡ Some false =
    ap (λ (at : ℕ). slice_get c.self.inside.marks.items at) (sym c.mark_of.ensures.value)
    ∙ slice_get-get_or c.self.inside.marks.items c.mark_of.result c.index.result.now (omega (arith, c.mark_of.ensures.below, c.self.invariant.count))
    ∙ ap Some (sym c.index.ensures ∙ c.if-index.false) in
    c.if-index.false
    ∙ sym (unmarked_is_free c.self.inside.marks.items c.args.parent c.args.name.now c.self.inside.domains.items free c.self.invariant.all)
    ∙ ap (λ (domains : List Domain). has_child_named domains c.args.parent c.args.name.now) c.self.view_is
