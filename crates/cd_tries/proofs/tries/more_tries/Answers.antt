use Rattle.std.proofs.Common.{◌≡◌, true, false, ap, subst, sym, ◌∙◌}
use Rattle.cd_field.specs.FieldModel.{FieldModel}
use Rattle.cd_keep.specs.PassModel.{PassModel}
use Rattle.cd_tries.specs.Fitting.{CanTry}
use Rattle.cd_tries.specs.Running.{Means, means, stops, tried_again, has_next}
use Rattle.cd_tries.proofs.Trying.{tries_again, tries_end, tries_go_on}
use Rattle.cd_tries.proofs.tries.more_tries.Goals as goal

pub one_more-requires-clause-tries : goal.one_more-requires-clause-tries
one_more-requires-clause-tries g c =
    let P : PassModel → Type 0 = λ v. CanTry (means c.args.attempt.now.node c.args.attempt.now.domain.now c.args.attempt.now.halts v.known c.args.attempt.now.keeps.now)
    (g.F.Field.model c.loop-begin.field) (g.P.Pass.model c.loop-begin.pass) in
    λ _ _. subst P (sym c.loop-begin.invariant.same) c.loop-begin.invariant.tries

pub loop-begin-preserved : goal.loop-begin-preserved
loop-begin-preserved g c =
    let with : Means = means c.args.attempt.now.node c.args.attempt.now.domain.now c.args.attempt.now.halts (g.P.Pass.model c.args.pass.now).known c.args.attempt.now.keeps.now in
    let m : FieldModel = g.F.Field.model c.loop-begin.field in
    let n : FieldModel = g.F.Field.model c.one_more.new.field in
    let is : tried_again with c.saturating_add-begin.result m ≡ stops n c.in_ok-stop.stop =
    ap (λ (v : PassModel). tried_again (means c.args.attempt.now.node c.args.attempt.now.domain.now c.args.attempt.now.halts v.known c.args.attempt.now.keeps.now) c.saturating_add-begin.result m)
    (sym c.loop-begin.invariant.same)
    ∙ c.in_ok-stop.ensures.field in
    let more : has_next c.loop-begin.course ≡ true = sym c.has_next.ensures ∙ c.loop-begin-test.true in
    record {
      tries = tries_again with c.saturating_add-begin.result m n (g.P.Pass.model c.loop-begin.pass) (g.P.Pass.model c.one_more.new.pass) c.in_ok-stop.stop
          c.loop-begin.invariant.tries is c.in_ok-stop.ensures.pass;
      same = c.in_ok-stop.ensures.pass ∙ c.loop-begin.invariant.same;
      left = tries_go_on with m n c.loop-begin.course c.saturating_add-begin.result c.in_ok-stop.stop _ more c.saturating_add-begin.ensures is
          c.loop-begin.invariant.left;
    }

pub returns-clause-course : goal.returns-clause-course
returns-clause-course g c =
    let with : Means = means c.args.attempt.now.node c.args.attempt.now.domain.now c.args.attempt.now.halts (g.P.Pass.model c.args.pass.now).known c.args.attempt.now.keeps.now in
    let over : has_next c.loop-begin.course ≡ false = sym c.has_next.ensures ∙ c.loop-begin-test.false in
    tries_end with (g.F.Field.model c.loop-begin.field) c.loop-begin.course _ over c.loop-begin.invariant.left
