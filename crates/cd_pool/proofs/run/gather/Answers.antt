use Rattle.std.proofs.Common.{rules, ◌≡◌, [], ◌∷◌, Ok, sym, subst}
use Rattle.std.specs.Vec.Iter.{into_iter_items}
use Rattle.std.proofs.lemmas.List.Elements.{All-tail}
use Rattle.cd_pool.specs.Working.{HandBack, HandsBack, MetWant}
use Rattle.cd_pool.proofs.Passing.{same_on}
use Rattle.cd_pool.proofs.run.gather.Goals as goal

pub loop-back-preserved : goal.loop-back-preserved
loop-back-preserved g c =
    let items : into_iter_items c.loop-back.back-iterator ≡ c.in-Some.back ∷ into_iter_items c.next.new.self = search rules in
    let done : c.in-Some.back ≡ Ok c.in_ok-back.field-0 = search rules in
    let whole : into_iter_items c.loop-back.back-iterator ≡ Ok c.in_ok-back.field-0 ∷ into_iter_items c.next.new.self = search (rules, items, done) in (
      record {
        same = same_on c.args.cells.now c.loop-back.cells c.join.new.self c.loop-back.invariant.0.same c.join.ensures.same;
        works = (c.join.ensures.joins [] [] c.loop-back.invariant.0.works).now;
      },
      All-tail (HandsBack g.F.Field.model g.P.Pass.model c.args.cells.now) c.in-Some.back (into_iter_items c.next.new.self)
          (subst (HandBack g.F.Field.model g.P.Pass.model c.args.cells.now) items c.loop-back.invariant.1),
      (λ met. c.loop-back.invariant.2 (subst MetWant (sym whole) met)),
      (λ met. subst MetWant whole (c.loop-back.invariant.3 met)),
    )
