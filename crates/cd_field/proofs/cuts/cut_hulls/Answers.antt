use Rattle.std.proofs.Common.{List, subst}
use Rattle.cd_field.specs.declared.spans.Span.{Span}
use Rattle.cd_field.specs.Hulls.{HullModel}
use Rattle.cd_field.specs.Spans.{HoldRanges}
use Rattle.cd_field.proofs.CutLemmas.{AreCuts, cuts_cover, cuts_words, cuts_here}
use Rattle.cd_field.proofs.cuts.cut_hulls.Goals as goal

pub returns-clause-covered : goal.returns-clause-covered
returns-clause-covered c =
    let whole : List HullModel = c.args.whole.now.items in
    let H : List HullModel → Type 0 = λ v. HoldRanges v c.args.ranges.now c.in_ok-spans.spans.items in
    let P : List Span → Type 0 = λ v. AreCuts whole v c.in_ok-hulls.hulls.items in
    cuts_cover whole c.args.ranges.now c.in_ok-spans.spans.items c.in_ok-hulls.hulls.items (subst H c.deref.ensures.value c.in_ok-spans.ensures)
    (subst P c.deref-2.ensures.value c.in_ok-hulls.ensures.cuts)

pub returns-clause-words : goal.returns-clause-words
returns-clause-words c =
    let whole : List HullModel = c.args.whole.now.items in
    let H : List HullModel → Type 0 = λ v. HoldRanges v c.args.ranges.now c.in_ok-spans.spans.items in
    let P : List Span → Type 0 = λ v. AreCuts whole v c.in_ok-hulls.hulls.items in
    cuts_words whole c.args.ranges.now c.in_ok-spans.spans.items c.in_ok-hulls.hulls.items (subst H c.deref.ensures.value c.in_ok-spans.ensures)
    (subst P c.deref-2.ensures.value c.in_ok-hulls.ensures.cuts)

pub returns-clause-lost : goal.returns-clause-lost
returns-clause-lost c =
    let whole : List HullModel = c.args.whole.now.items in
    let H : List HullModel → Type 0 = λ v. HoldRanges v c.args.ranges.now c.in_ok-spans.spans.items in
    let P : List Span → Type 0 = λ v. AreCuts whole v c.in_ok-hulls.hulls.items in
    cuts_here whole c.args.ranges.now c.in_ok-spans.spans.items c.in_ok-hulls.hulls.items (subst H c.deref.ensures.value c.in_ok-spans.ensures)
    (subst P c.deref-2.ensures.value c.in_ok-hulls.ensures.cuts)
