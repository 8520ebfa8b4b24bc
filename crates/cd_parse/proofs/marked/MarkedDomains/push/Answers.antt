use Rattle.std.proofs.Common.{◌≡◌, ℕ, List, set, true, sym, ap, ◌∙◌, subst}
use Rattle.cd_tree.specs.declared.domain.Domain.{Domain}
use Rattle.cd_parse.specs.Marks.{mark_of, AreMarked}
use Rattle.cd_parse.proofs.MarkLemmas.{marked_more, marked_yet}
use Rattle.cd_parse.proofs.marked.MarkedDomains.push.Goals as goal

pub invariant_of-self : goal.invariant_of-self
invariant_of-self c =
    subst (λ (domains : List Domain). AreMarked (set c.self.inside.marks.items c.mark_of-mark.result true) domains)
    (sym c.in_err-push.ensures.items)
    (marked_yet c.self.inside.marks.items c.self.inside.domains.items c.mark_of-mark.result c.mark_of-mark.ensures.below c.self.invariant)

pub invariant_of-self-2 : goal.invariant_of-self-2
invariant_of-self-2 c =
    let is : c.mark_of-mark.result ≡ mark_of c.args.domain.parent c.args.domain.name =
    c.mark_of-mark.ensures.value
    ∙ ap (λ (name : List ℕ). mark_of c.args.domain.parent name) (c.as_bytes.ensures.value ∙ c.as_str.ensures) in
    subst (λ (domains : List Domain). AreMarked (set c.self.inside.marks.items c.mark_of-mark.result true) domains)
    (sym c.in_ok-push.ensures.items)
    (marked_more c.self.inside.marks.items c.self.inside.domains.items c.args.domain c.mark_of-mark.result is c.mark_of-mark.ensures.below
    c.self.invariant)
