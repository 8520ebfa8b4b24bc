-- The members of a group as they are sent one after another: what was sent with what is left is the whole.
use Rattle.std.proofs.Common.{◌≡◌, List, [], ◌∷◌, ◌++◌, All, ap, subst, sym, ◌∙◌, append_assoc}
use Rattle.std.proofs.lemmas.List.Elements.{All-tail}
use Rattle.cd_tree.specs.declared.domain.NodeId.{NodeId}
use Rattle.cd_field.specs.FieldModel.{without}
use Rattle.cd_keep.specs.PassModel as passes
use Rattle.cd_cover.specs.PlanLaws.{need_of}
use Rattle.cd_cover.specs.Plans.{PlanModel}
use Rattle.cd_core.specs.Advancing.{all_sent, field_behind, pass_behind, sent}
use Rattle.cd_core.specs.Asks.{foot_of}
use Rattle.cd_core.specs.StateModel.{StateModel}
use Rattle.cd_core.specs.Trying.{CanSendAll, IsBelow}

-- a state `now` that was `old` and has sent some of these, with the members that are left and the states of those that were sent
pub record Leads (plan : PlanModel) (old now : StateModel) (ids left : List NodeId) (states : List StateModel) : Type 0 where
  pub stays : now ≡ record old { field = now.field; pass = now.pass }
  pub below : All (IsBelow plan old) left
  pub can : CanSendAll plan left now.field now.pass
  pub whole : states ++ all_sent plan old left now.field now.pass ≡ all_sent plan old ids old.field old.pass
  pub machine : field_behind plan left now.field ≡ field_behind plan ids old.field
  pub rest : pass_behind plan left now.pass ≡ pass_behind plan ids old.pass

-- the state after a member was sent
abbrev pub one_less : PlanModel → StateModel → NodeId → StateModel
one_less plan s id = record s {
  field = without s.field (foot_of plan id).writes;
  pass = passes.without s.pass (need_of plan.tree.domains id);
}

sent_one : (plan : PlanModel) (old now : StateModel) (ids left after : List NodeId) (states : List StateModel) (id : NodeId) (child : StateModel)
    → left ≡ id ∷ after → child ≡ sent plan now id now.field now.pass → Leads plan old now ids left states
    → Leads plan old (one_less plan now id) ids after (states ++ child ∷ [])
sent_one plan old now ids left after states id child is so l =
    let can : CanSendAll plan (id ∷ after) now.field now.pass = subst (λ (x : List NodeId). CanSendAll plan x now.field now.pass) is l.can in
    let all : All (IsBelow plan old) (id ∷ after) = subst (All (IsBelow plan old)) is l.below in
    let more : List StateModel =
    all_sent plan old after (without now.field (foot_of plan id).writes) (passes.without now.pass (need_of plan.tree.domains id)) in
    let same : child ≡ sent plan old id now.field now.pass = so ∙ ap (λ (x : StateModel). sent plan x id now.field now.pass) l.stays in
    record {
      stays = ap (λ (x : StateModel). one_less plan x id) l.stays;
      below = All-tail (IsBelow plan old) id after all;
      can = can.3;
      whole = append_assoc states (child ∷ []) more ∙ ap (λ (x : StateModel). states ++ x ∷ more) same
          ∙ ap (λ (x : List NodeId). states ++ all_sent plan old x now.field now.pass) (sym is) ∙ l.whole;
      machine = ap (λ (x : List NodeId). field_behind plan x now.field) (sym is) ∙ l.machine;
      rest = ap (λ (x : List NodeId). pass_behind plan x now.pass) (sym is) ∙ l.rest;
    }

pub one_sent : (plan : PlanModel) (old now next : StateModel) (ids left after : List NodeId) (states more : List StateModel) (id : NodeId) (child : StateModel)
    → left ≡ id ∷ after → child ≡ sent plan now id now.field now.pass → next ≡ one_less plan now id → more ≡ states ++ child ∷ []
    → Leads plan old now ids left states → Leads plan old next ids after more
one_sent plan old now next ids left after states more id child is so then grown l =
    let S : StateModel → Type 0 = λ x. Leads plan old x ids after more in
    let C : List StateModel → Type 0 = λ x. Leads plan old (one_less plan now id) ids after x in
    subst S (sym then) (subst C (sym grown) (sent_one plan old now ids left after states id child is so l))
