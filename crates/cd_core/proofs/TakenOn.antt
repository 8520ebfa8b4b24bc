-- Members that are taken one after another: what is left of them gives what all of them give.
use Rattle.std.proofs.Common.{◌≡◌, ℕ, Bool, List, [], ◌∷◌, Option, None, Some, refl, ap, sym, subst, ◌∙◌}
use Rattle.cd_tree.specs.declared.event.Cause.{Cause}
use Rattle.cd_tree.proofs.KindLemmas.{bit_or-assoc}
use Rattle.cd_core.specs.StateModel.{StateModel}
use Rattle.cd_core.specs.Resuming.{escalation, first_escalation, with_more}
use Rattle.cd_core.specs.TakingBack.{CanTakeAll, CanTakeNext, took, took_all}

-- from a state, those that are left can be taken, and give what all of them give from the first state
pub record TakesOn (commit : Bool) (first : StateModel) (all : List StateModel) (s : StateModel) (left : List StateModel) (lost : Option (Cause × ℕ)) : Type 0 where
  pub can : CanTakeAll commit s left
  pub gives : took_all commit s left ≡ took_all commit first all
  pub loses : with_more lost (first_escalation left) ≡ first_escalation all

pub takes_first : (commit : Bool) (s : StateModel) (all : List StateModel) → CanTakeAll commit s all → TakesOn commit s all s all None
takes_first commit s all can = record { can = can; gives = refl; loses = refl }

with_more-none : (lost : Option (Cause × ℕ)) → with_more lost None ≡ lost
with_more-none None = refl
with_more-none (Some first) = refl

with_more-assoc : (a b c : Option (Cause × ℕ)) → with_more (with_more a b) c ≡ with_more a (with_more b c)
with_more-assoc None b c = refl
with_more-assoc (Some a) None c = refl
with_more-assoc (Some (cause, over)) (Some (other, more)) None = refl
with_more-assoc (Some (cause, over)) (Some (other, more)) (Some (third, most)) =
    let pair : ℕ → Option (Cause × ℕ) = λ n. Some (cause, n) in ap pair (bit_or-assoc over more most)

-- what is left begins with a member that can be taken
pub can_take_next : (commit : Bool) (first : StateModel) (all : List StateModel) (s : StateModel) (left : List StateModel) (lost : Option (Cause × ℕ))
    (child : StateModel) (rest : List StateModel) → TakesOn commit first all s left lost → left ≡ child ∷ rest → CanTakeNext s commit child
can_take_next commit first all s left lost child rest on is =
    let P : List StateModel → Type 0 = λ xs. CanTakeAll commit s xs in (subst P is on.can).0

pub takes_next : (commit : Bool) (first : StateModel) (all : List StateModel) (s : StateModel) (left : List StateModel) (lost : Option (Cause × ℕ))
    (child : StateModel) (rest : List StateModel) (new : StateModel) (more now : Option (Cause × ℕ))
    → TakesOn commit first all s left lost → left ≡ child ∷ rest → new ≡ took commit s child → more ≡ escalation child.stage → now ≡ with_more lost more
    → TakesOn commit first all new rest now
takes_next commit first all s left lost child rest new more now on is took_one says joins =
    let P : List StateModel → Type 0 = λ xs. CanTakeAll commit s xs in
    let N : StateModel → Type 0 = λ x. CanTakeAll commit x rest in
    record {
      can = subst N (sym took_one) (subst P is on.can).1;
      gives =
          ap (λ (x : StateModel). took_all commit x rest) took_one
          ∙ sym (ap (λ (xs : List StateModel). took_all commit s xs) is) ∙ on.gives;
      loses =
          ap (λ (x : Option (Cause × ℕ)). with_more x (first_escalation rest)) (joins ∙ ap (with_more lost) says)
          ∙ with_more-assoc lost (escalation child.stage) (first_escalation rest)
          ∙ sym (ap (λ (xs : List StateModel). with_more lost (first_escalation xs)) is) ∙ on.loses;
    }

pub takes_last : (commit : Bool) (first : StateModel) (all : List StateModel) (s : StateModel) (left : List StateModel) (lost : Option (Cause × ℕ))
    → TakesOn commit first all s left lost → left ≡ [] → (lost ≡ first_escalation all) × (s ≡ took_all commit first all)
takes_last commit first all s left lost on is = (
  sym (with_more-none lost) ∙ sym (ap (λ (xs : List StateModel). with_more lost (first_escalation xs)) is) ∙ on.loses,
  sym (ap (λ (xs : List StateModel). took_all commit s xs) is) ∙ on.gives,
)
