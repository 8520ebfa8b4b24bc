use Rattle.std.proofs.Common.{◌≡◌, ◌<◌, ◌∙◌, ℕ, List, length, ap, arith}
use Rattle.std.proofs.lemmas.List.{get_or_default}
use Rattle.cd_field.specs.declared.spans.Span.{Span}
use Rattle.cd_field.specs.Hulls.{HullModel, no_hull, hull_at}
use Rattle.cd_field.specs.Spans.{span_at, cut}
use Rattle.cd_field.proofs.CutLemmas.{still_whole, pushed_long, cut_more}
use Rattle.cd_field.proofs.cuts.cut_each.Goals as goal

pub loop-region-preserved : goal.loop-region-preserved
loop-region-preserved c =
    let whole : List HullModel = c.loop-region.whole.items in
    let first : List HullModel = c.args.whole.now.items in
    let spans : List Span = c.args.spans.now in
    let i : ℕ = c.loop-region.region in
    let old : HullModel = c.index_mut.result.now in
    let same : whole ≡ first = c.loop-region.invariant.same in
    let short : i < length whole = omega (arith, c.loop-region-test.true, c.requires.long, ap (λ (v : List HullModel). length v) same) in
    let read : old ≡ hull_at first i =
    c.index_mut.ensures.value ∙ get_or_default whole i old no_hull short ∙ ap (λ (v : List HullModel). hull_at v i) same in
    record {
      same = still_whole whole i old c.cut_one.new.hull c.index_mut.ensures.value c.cut_one.ensures.same ∙ same;
      long = pushed_long c.loop-region.hulls.items c.push.new.self.items c.in_ok-hull.hull i c.loop-region.invariant.long c.in_ok-push.ensures.items;
      each = cut_more first spans c.loop-region.hulls.items c.push.new.self.items c.in_ok-hull.hull i c.loop-region.invariant.long
          c.in_ok-push.ensures.items (c.in_ok-hull.ensures.cut ∙ ap (λ (h : HullModel). cut h (span_at spans i)) read) c.loop-region.invariant.each;
    }
