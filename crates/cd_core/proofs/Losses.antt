-- The tries that follow a loss.
use Rattle.std.proofs.Common.{◌≡◌, ℕ, zero, suc, ◌-◌, ◌==◌, Bool, true, slice_set, refl, ap, sym, ◌∙◌, arith}
use Rattle.cd_tree.specs.declared.domain.Domain.{Domain}
use Rattle.cd_tree.specs.declared.event.Cause.{Cause}
use Rattle.cd_tree.specs.KindSets.{no_kinds}
use Rattle.cd_field.specs.FieldModel.{FieldModel}
use Rattle.cd_cover.specs.Plans.{PlanModel}
use Rattle.cd_tries.specs.declared.tries.Course.{Course}
use Rattle.cd_tries.specs.Running.{Means, Tried, next_begin, tried_again, tries_from}
use Rattle.cd_core.specs.declared.state.Stage.TheVariants.{Lost}
use Rattle.cd_core.specs.declared.verdict.Verdict.{Verdict}
use Rattle.cd_core.specs.Advancing.{after_loss, judged_course, means_of, own_count, verdict_of}
use Rattle.cd_core.specs.StateModel.{StateModel}
use Rattle.cd_core.specs.Trying.{TriedFrom}
use Rattle.cd_core.proofs.Making.{ruled}

-- a number that is not zero, by the one before
pub one_less : (n : ℕ) → (n ≡ 0 → ⊥) → n ≡ suc (n - 1)
one_less zero some = absurd (some refl)
one_less (suc n) some = omega arith

tries_again : (plan : PlanModel) (with : Means) (spare more begin : ℕ) (m : FieldModel) (cause : Cause) (over : ℕ) (b : Bool) (tried : Tried)
    → spare ≡ suc more → b ≡ true → tried ≡ tries_from with more (next_begin begin) (tried_again with (next_begin begin) m)
    → judged_course plan with.node tried ≡ after_loss plan with spare begin m cause over b
tries_again plan with spare more begin m cause over b tried one none is =
    ap (λ (t : Tried). judged_course plan with.node t) is
    ∙ ap (λ (c : Bool). after_loss plan with (suc more) begin m cause over c) (sym none)
    ∙ ap (λ (n : ℕ). after_loss plan with n begin m cause over b) (sym one)

-- where one is to spare and nothing is left over, another try follows
pub lost_again : (plan : PlanModel) (domain : Domain) (old mid new : StateModel) (spare more : ℕ) (cause : Cause) (over : ℕ) (m : FieldModel)
    (course : Course) (verdict : Verdict) → spare ≡ suc more → (over == no_kinds) ≡ true
    → record { field = m; course = course } ≡ tries_from (means_of plan domain old.node old.pass.known old.keeps) more (next_begin (own_count old))
    (tried_again (means_of plan domain old.node old.pass.known old.keeps) (next_begin (own_count old)) old.field)
    → mid ≡ record old { field = m } → verdict ≡ verdict_of plan mid.node course.spare course.stop
    → new ≡ record mid { counts = slice_set mid.counts 0 course.begin } → TriedFrom (Lost spare cause over) plan domain old new verdict
lost_again plan domain old mid new spare more cause over m course verdict one none so stays says counted =
    ruled plan domain (Lost spare cause over) old mid new old.keeps m old.pass course verdict (
      refl,
      refl,
      tries_again plan (means_of plan domain old.node old.pass.known old.keeps) spare more (own_count old) old.field cause over (over == no_kinds)
          (record { field = m; course = course }) one none so,
    ) stays says counted
