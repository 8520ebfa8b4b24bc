use Rattle.std.proofs.Common.{◌≡◌, ◌-◌, refl}
use Rattle.std.proofs.lemmas.Bool.{eq-eqb}
use Rattle.std.proofs.lemmas.Result.{IfOk-weaker}
use Rattle.cd_tree.specs.KindSets.{no_kinds}
use Rattle.cd_core.specs.Advancing.{verdict_of}
use Rattle.cd_core.specs.StateModel.{StateModel, state_model}
use Rattle.cd_core.specs.Trying.{TriedFrom}
use Rattle.cd_core.specs.declared.state.Stage.TheVariants.{Lost}
use Rattle.cd_core.specs.declared.verdict.Verdict.{Verdict}
use Rattle.cd_core.proofs.Losses.{lost_again, one_less}
use Rattle.cd_core.proofs.state.NodeState.tries_after_loss.Goals as goal

pub returns : goal.returns
returns g c =
    let old : StateModel = state_model g.F.Field.model g.P.Pass.model c.args.self.now in
    let mid : StateModel = state_model g.F.Field.model g.P.Pass.model c.try_once_more.new.self in
    let new : StateModel = state_model g.F.Field.model g.P.Pass.model c.rule.new.self in
    IfOk-weaker c.rule.result
    (λ (verdict : Verdict). verdict ≡ verdict_of c.args.plan.now mid.node c.in_ok-course.course.spare c.in_ok-course.course.stop)
    (λ (verdict : Verdict). TriedFrom (Lost c.args.spare c.args.cause c.args.over) c.args.plan.now c.args.domain.now old new verdict)
    (λ verdict says.
    lost_again c.args.plan.now c.args.domain.now old mid new c.args.spare (c.args.spare - 1) c.args.cause c.args.over mid.field c.in_ok-course.course
    verdict (one_less c.args.spare c.if-spare-eq0.false) (eq-eqb c.args.over no_kinds (c.if-not-is_none.ensures.0 refl)) c.in_ok-course.ensures.so
    c.in_ok-course.ensures.stays says c.rule.ensures.stays)
    c.rule.ensures.verdict
