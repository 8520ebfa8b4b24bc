-- A domain taken on turn by turn: what lasts from its first state to its last.
use Rattle.std.proofs.Common.{◌≡◌, ℕ, ◌<◌, ◌≤◌, Bool, true, false, List, IsSomeAnd, slice_get, refl, ◌∙◌, arith}
use Rattle.cd_base.proofs.ListLemmas.{some_and}
use Rattle.cd_tree.specs.declared.domain.Domain.{Domain}
use Rattle.cd_cover.specs.Plans.{PlanModel, IsPlan}
use Rattle.cd_core.specs.Advancing.{members_at}
use Rattle.cd_core.specs.Asks.{EachAnswers}
use Rattle.cd_core.specs.Fits.{Fits}
use Rattle.cd_core.specs.Returning.{CameBack, EachCameBack, MembersAnswerStill, MembersCanComeBack, Stays, left_in}
use Rattle.cd_core.specs.Resuming.{nodes_of}
use Rattle.cd_core.specs.Stands.{Stands}
use Rattle.cd_core.specs.StateLaws.{TakesBack}
use Rattle.cd_core.specs.StateModel.{StateModel}
use Rattle.cd_core.specs.Steps.{Advances, CanMove, IsEnded, sends, waits_at}
use Rattle.cd_core.specs.Tasks.{Task}
use Rattle.cd_fork.specs.Onward.{CanRun, OnItsWay, Turned}

stays_there : (s : StateModel) → Stays s s
stays_there s = record { node = refl; above = refl; script = refl; carved = refl; store = refl; most = refl }

stays_on : (one two three : StateModel) → Stays one two → Stays two three → Stays one three
stays_on one two three a b = record {
  node = b.node ∙ a.node;
  above = b.above ∙ a.above;
  script = b.script ∙ a.script;
  carved = b.carved ∙ a.carved;
  store = b.store ∙ a.store;
  most = b.most ∙ a.most;
}

pub way_begins : (plan : PlanModel) (s : StateModel) → CanRun plan s → OnItsWay plan s s
way_begins plan s can = record { can = can; stays = stays_there s; stands = λ t st. st }

pub way_on : (plan : PlanModel) (one two three : StateModel) → OnItsWay plan one two → OnItsWay plan two three → OnItsWay plan one three
way_on plan one two three a b = record {
  can = b.can;
  stays = stays_on one two three a.stays b.stays;
  stands = λ t st. b.stands t (a.stands t st);
}

pub way_ends : (plan : PlanModel) (one two three : StateModel) → OnItsWay plan one two → CameBack plan two three → CameBack plan one three
way_ends plan one two three a b = record {
  fits = b.fits;
  ended = b.ended;
  stays = stays_on one two three a.stays b.stays;
  stands = λ t st. b.stands t (a.stands t st);
}

-- a turn that was not the last
pub turned_on : (plan : PlanModel) (sent old new : StateModel) (over : Bool) → over ≡ false → OnItsWay plan sent old → Turned plan old new over
    → OnItsWay plan sent new × (left_in plan new < left_in plan old)
turned_on plan sent old new true is a turned = absurd (cc)
turned_on plan sent old new false is a turned = (way_on plan sent old new a turned.0, turned.1)

-- and the last
pub turned_over : (plan : PlanModel) (sent old new : StateModel) (over : Bool) → over ≡ true → OnItsWay plan sent old → Turned plan old new over
    → CameBack plan sent new
turned_over plan sent old new true is a turned = way_ends plan sent old new a turned
turned_over plan sent old new false is a turned = absurd (cc)

-- the members that came back are those of the group at which the domain waits
pub members_taken : MembersCanComeBack → (plan : PlanModel) (old mid : StateModel) (sent back : List StateModel) → IsPlan plan
    → Advances plan old mid (sends sent) → Fits plan mid → EachCameBack plan sent back
    → IsSomeAnd (slice_get plan.tree.domains mid.node.0) (λ domain. nodes_of back ≡ members_at domain (waits_at mid.stage))
members_taken law plan old mid sent back is_plan advances fits came =
    let takes : TakesBack plan mid back = law plan old mid sent back is_plan advances fits came in
    let M : Domain → Type 0 = λ domain. nodes_of back ≡ members_at domain (waits_at mid.stage) in
    some_and (slice_get plan.tree.domains mid.node.0) M takes.domain takes.is takes.members

-- a domain whose members came back, and were taken
pub taken_on : MembersAnswerStill → (plan : PlanModel) (old mid new : StateModel) (sent back : List StateModel) → Stays old mid
    → ((t : Task) → Stands plan t old → Stands plan t mid × EachAnswers plan t.faults t.loaded mid sent)
    → left_in plan mid < left_in plan old → EachCameBack plan sent back → Fits plan new → CanMove new.stage → Stays mid new
    → ((t : Task) → Stands plan t mid → EachAnswers plan t.faults t.loaded mid back → Stands plan t new)
    → left_in plan new ≤ left_in plan mid → Turned plan old new false
taken_on law plan old mid new sent back stays stands onward came fits moves still stood less = (
  record {
    can = record { fits = fits; moves = moves };
    stays = stays_on old mid new stays still;
    stands = λ t st. (
        let there : Stands plan t mid × EachAnswers plan t.faults t.loaded mid sent = stands t st in
        stood t there.0 (law plan t.faults t.loaded mid sent back came there.1)
        );
  },
  omega (arith, onward, less),
)

pub came_back : (plan : PlanModel) (old new : StateModel) → Fits plan new → IsEnded new.stage → Stays old new
    → ((t : Task) → Stands plan t old → Stands plan t new) → CameBack plan old new
came_back plan old new fits ended stays stands = record { fits = fits; ended = ended; stays = stays; stands = stands }
