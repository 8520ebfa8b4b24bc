use Rattle.std.proofs.Common.{◌≡◌, ℕ, ◌+◌, ◌<◌, ◌∙◌, sym, ap, List, [], ◌∷◌, Option, drop, length, slice_index_or, arith}
use Rattle.std.proofs.lemmas.List.{get_or_default}
use Rattle.cd_tree.specs.declared.domain.NodeId.{NodeId}
use Rattle.cd_cover.specs.OuterLaws.{leading_before}
use Rattle.cd_cover.specs.OuterLeft.{leading_from}
use Rattle.cd_cover.proofs.OuterSteps.{left_hit, left_miss, left_none}
use Rattle.cd_cover.proofs.outer.next_leading.Goals as goal

pub loop-at-preserved : goal.loop-at-preserved
loop-at-preserved c =
    let id : NodeId = record { 0 = c.loop-at.at.node } in
    let within : c.loop-at.at.node < length c.args.links.now = omega arith in
    let row : c.items.result.now ≡ slice_index_or c.args.links.now c.loop-at.at.node [] =
    c.items.ensures.value ∙ c.index-links-at.is
    ∙ get_or_default c.args.links.now c.loop-at.at.node c.index-links-at.result [] within in
    let none : leading_from c.args.links.now c.args.first c.loop-at.at.node c.loop-at.at.entry ≡ [] =
    ap (λ (xs : List (Option (NodeId × ℕ))). leading_before c.args.first id c.loop-at.at.entry (drop c.loop-at.at.entry xs)) (sym row)
    ∙ c.in_default.ensures.value id in
    record {
      same = c.loop-at.invariant.same
          ∙ left_miss c.args.links.now c.args.first c.loop-at.at.node c.loop-at.at.entry c.loop-at.at.left c.loop-at-test.true none;
      within = (omega arith, c.loop-at.invariant.within.1);
    }

pub returns-in-Some-clause-next : goal.returns-in-Some-clause-next
returns-in-Some-clause-next c =
    let id : NodeId = record { 0 = c.loop-at.at.node } in
    let within : c.loop-at.at.node < length c.args.links.now = omega arith in
    let row : c.items.result.now ≡ slice_index_or c.args.links.now c.loop-at.at.node [] =
    c.items.ensures.value ∙ c.index-links-at.is
    ∙ get_or_default c.args.links.now c.loop-at.at.node c.index-links-at.result [] within in
    let found : leading_from c.args.links.now c.args.first c.loop-at.at.node c.loop-at.at.entry
    ≡ (id, c.in-Some.entry)
    ∷ leading_before c.args.first id (c.in-Some.entry + 1) (drop (c.in-Some.entry + 1) (slice_index_or c.args.links.now c.loop-at.at.node [])) =
    ap (λ (xs : List (Option (NodeId × ℕ))). leading_before c.args.first id c.loop-at.at.entry (drop c.loop-at.at.entry xs)) (sym row)
    ∙ c.in-Some.ensures.value id
    ∙ ap
    (λ (xs : List (Option (NodeId × ℕ))).
    (id, c.in-Some.entry) ∷ leading_before c.args.first id (c.in-Some.entry + 1) (drop (c.in-Some.entry + 1) xs))
    row in
    c.loop-at.invariant.same
    ∙ left_hit c.args.links.now c.args.first c.loop-at.at.node c.loop-at.at.entry c.loop-at.at.left c.in-Some.entry c.loop-at-test.true found

pub returns-clause-next : goal.returns-clause-next
returns-clause-next c =
    c.loop-at.invariant.same
    ∙ left_none c.args.links.now c.args.first c.loop-at.at.node c.loop-at.at.entry c.loop-at.at.left c.loop-at-test.false
