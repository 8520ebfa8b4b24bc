-- The tries that are due at a stage, joined with what the domain's count becomes.
use Rattle.std.proofs.Common.{◌≡◌, List, refl, ap, sym, subst, ◌∙◌, slice_set}
use Rattle.cd_tree.specs.declared.domain.Domain.{Domain}
use Rattle.cd_field.specs.FieldModel.{FieldModel}
use Rattle.cd_keep.specs.PassModel.{PassModel}
use Rattle.cd_cover.specs.Plans.{PlanModel}
use Rattle.cd_tries.specs.declared.keep.Keep.{Keep}
use Rattle.cd_tries.specs.declared.tries.Course.{Course}
use Rattle.cd_core.specs.declared.state.Stage.{Stage}
use Rattle.cd_core.specs.declared.state.Stage.TheVariants.{Ready, Waiting, Resumed, Lost, Ended}
use Rattle.cd_core.specs.declared.verdict.Verdict.{Verdict}
use Rattle.cd_core.specs.Advancing.{Judged, BeginsSo, TriesSo, judged_course, verdict_of, state_sending}
use Rattle.cd_core.specs.StateModel.{StateModel}
use Rattle.cd_core.specs.Trying.{TriedFrom}

-- a course of tries, and the count that it leaves
pub ruled : (plan : PlanModel) (domain : Domain) (stage : Stage) (old mid new : StateModel) (keeps : List Keep) (m : FieldModel) (q : PassModel)
    (course : Course) (verdict : Verdict)
    → TriesSo plan domain old keeps q (judged_course plan old.node (record { field = m; course = course })) stage
    → mid ≡ record old { keeps = keeps; field = m; pass = q }
    → verdict ≡ verdict_of plan mid.node course.spare course.stop
    → new ≡ record mid { counts = slice_set mid.counts 0 course.begin }
    → TriedFrom stage plan domain old new verdict
ruled plan domain stage old mid new keeps m q course verdict tried middle says counted = record {
  keeps = keeps;
  pass = q;
  judged = judged_course plan old.node (record { field = m; course = course });
  tried = tried;
  is = says ∙ ap (λ (s : StateModel). verdict_of plan s.node course.spare course.stop) middle;
  state =
      let whole : new ≡ record (record old { keeps = keeps; field = m; pass = q }) { counts = slice_set old.counts 0 course.begin } =
      counted ∙ ap (λ (s : StateModel). record s { counts = slice_set s.counts 0 course.begin }) middle in
      let P : StateModel → Type 0 = λ s. s ≡ record (state_sending old keeps course.begin m q) { stage = s.stage } in
      subst P (sym whole) refl;
}

-- a state whose stage was taken has the tries that are due at the stage
begins_still : (plan : PlanModel) (domain : Domain) (s : StateModel) (stage : Stage) (keeps : List Keep) (q : PassModel) (j : Judged)
    → BeginsSo plan domain (record s { stage = stage }) keeps q j → BeginsSo plan domain s keeps q j
begins_still plan domain s stage keeps q j b = record { saved = b.saved; preserved = b.preserved; tried = b.tried }

tries_still : (plan : PlanModel) (domain : Domain) (s : StateModel) (other due : Stage) (keeps : List Keep) (q : PassModel) (j : Judged)
    → TriesSo plan domain (record s { stage = other }) keeps q j due → TriesSo plan domain s keeps q j due
tries_still plan domain s other Ready keeps q j so = begins_still plan domain s other keeps q j so
tries_still plan domain s other (Waiting spare point) keeps q j so = so
tries_still plan domain s other (Resumed spare point) keeps q j so = so
tries_still plan domain s other (Lost spare cause over) keeps q j so = so
tries_still plan domain s other (Ended ending) keeps q j so = so

pub tried_still : (plan : PlanModel) (domain : Domain) (old new : StateModel) (other due : Stage) (verdict : Verdict)
    → TriedFrom due plan domain (record old { stage = other }) new verdict → TriedFrom due plan domain old new verdict
tried_still plan domain old new other due verdict t = record {
  keeps = t.keeps;
  pass = t.pass;
  judged = t.judged;
  tried = tries_still plan domain old other due t.keeps t.pass t.judged t.tried;
  is = t.is;
  state = t.state;
}
