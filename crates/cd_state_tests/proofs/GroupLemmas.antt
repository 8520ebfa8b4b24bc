-- What the test of groups rests on: turns follow each other, members come back one after another, and a root that ended is read.
use Rattle.std.proofs.Common.{◌≡◌, ℕ, ◌+◌, Bool, true, false, List, [], ◌∷◌, ◌++◌, Option, Some, IsSomeAnd, length, map, slice_get, refl, ap, subst, sym, ◌∙◌, inl, inr, append_assoc, arith}
use Rattle.std.proofs.lemmas.Bool.{or_cases}
use Rattle.std.proofs.lemmas.List.{append-nil, length-map}
use Rattle.cd_base.proofs.ListLemmas.{some_and, some_of}
use Rattle.cd_base.specs.declared.place.Place.{Place}
use Rattle.cd_base.specs.declared.place.Range.{Range}
use Rattle.cd_base.specs.Words.{in_ranges}
use Rattle.cd_tree.specs.declared.domain.NodeId.{NodeId}
use Rattle.cd_tree.specs.declared.domain.Domain.{Domain}
use Rattle.cd_tree.specs.Domains.{Node, node, node_of, node_numbers, root_of}
use Rattle.cd_tree.specs.Meaning.{node_reach, node_reads, node_writes}
use Rattle.cd_tree.specs.Scripts.{IsAccepted}
use Rattle.cd_tree.proofs.EachDomain.{root_there}
use Rattle.cd_tree.proofs.Walk.{length-numbers_from}
use Rattle.cd_foot.specs.declared.footprints.Foot.{Foot}
use Rattle.cd_foot.specs.Feet.{IsFoot}
use Rattle.cd_field.specs.FieldModel.{FieldModel, ArePresent, IsPresent, part_of}
use Rattle.cd_cover.specs.Plans.{PlanModel, IsPlan}
use Rattle.cd_core.specs.declared.state.Ending.{Ending}
use Rattle.cd_core.specs.declared.state.Ending.TheVariants.{Done, Escalated}
use Rattle.cd_core.specs.declared.state.Outcome.{Outcome}
use Rattle.cd_core.specs.declared.state.Outcome.TheVariants.{Committed, Exhausted}
use Rattle.cd_core.specs.declared.state.Stage.{Stage}
use Rattle.cd_core.specs.declared.state.Stage.TheVariants.{Ended}
use Rattle.cd_core.specs.Advancing.{members_at}
use Rattle.cd_core.specs.Fits.{Fits, FitsEnded, FitsStage, IsHere, IsHereAtEnd}
use Rattle.cd_state_tests.specs.Groups.{HasSent, HasTaken, HasTurned, IsOver, IsReadable, IsRootPart}
use Rattle.cd_core.specs.Resuming.{nodes_of}
use Rattle.cd_core.specs.Returning.{CameBack, EachCameBack, MembersAnswerStill, MembersCanComeBack, Stays}
use Rattle.cd_core.specs.StateLaws.{TakesBack}
use Rattle.cd_core.specs.StateModel.{StateModel}
use Rattle.cd_core.specs.Stands.{Stands}
use Rattle.cd_core.specs.Running.{Ran, RanTo}
use Rattle.cd_core.specs.Steps.{AllFit, CanMove, StandsBehind, root_task, sends, waits_at}
use Rattle.cd_core.specs.Tasks.{Task, task_reading}
use Rattle.cd_core.proofs.MembersBack.{ended_so}
use Rattle.cd_core.proofs.SentFit.{carved_word}

-- ---- turns

stay_on : (one two three : StateModel) → Stays one two → Stays two three → Stays one three
stay_on one two three first then = record {
  node = then.node ∙ first.node;
  above = then.above ∙ first.above;
  script = then.script ∙ first.script;
  carved = then.carved ∙ first.carved;
  store = then.store ∙ first.store;
  most = then.most ∙ first.most;
}

pub no_turn : (plan : PlanModel) (s : StateModel) → Fits plan s → CanMove s.stage → HasTurned plan s s false
no_turn plan s fits moves = record {
  fits = fits;
  stays = record { node = refl; above = refl; script = refl; carved = refl; store = refl; most = refl };
  rests = moves;
  stands = λ t stands. stands;
}

pub one_more_turn : (plan : PlanModel) (one two three : StateModel) (over : Bool) → HasTurned plan one two false → HasTurned plan two three over
    → HasTurned plan one three over
one_more_turn plan one two three over first then = record {
  fits = then.fits;
  stays = stay_on one two three first.stays then.stays;
  rests = then.rests;
  stands = λ t stands. then.stands t (first.stands t stands);
}

pub last_turn : (plan : PlanModel) (one two three : StateModel) (over : Bool) → HasTurned plan one two false → HasTurned plan two three over
    → over ≡ true → CameBack plan one three
last_turn plan one two three over first then is =
    let T : Bool → Type 0 = λ b. HasTurned plan two three b in
    let all : HasTurned plan one three true = one_more_turn plan one two three true first (subst T is then) in
    record { fits = all.fits; ended = all.rests; stays = all.stays; stands = all.stands }

-- a turn to a group, and what its members came to taken back
pub group_turn : (plan : PlanModel) (old mid new : StateModel) (sent : List StateModel) → Stays old mid
    → ((t : Task) → Stands plan t old → StandsBehind plan t mid (sends sent)) → HasTaken plan mid new sent → HasTurned plan old new false
group_turn plan old mid new sent stays stands taken = record {
  fits = taken.fits;
  stays = stay_on old mid new stays taken.stays;
  rests = taken.moves;
  stands = λ t s. taken.stands t (stands t s).0 (stands t s).1;
}

-- ---- members

-- those that are left come back behind those that did
pub record ComeOn (plan : PlanModel) (all left done : List StateModel) : Type 0 where
  pub fit : AllFit plan left
  pub leads : (rest : List StateModel) → EachCameBack plan left rest → EachCameBack plan all (done ++ rest)

pub none_yet : (plan : PlanModel) (all : List StateModel) → AllFit plan all → ComeOn plan all all []
none_yet plan all fit = record { fit = fit; leads = λ rest each. each }

pub next_fits : (plan : PlanModel) (all left after done : List StateModel) (one : StateModel) → left ≡ one ∷ after → ComeOn plan all left done
    → Fits plan one
next_fits plan all left after done one is on = let F : List StateModel → Type 0 = λ xs. AllFit plan xs in (subst F is on.fit).0

pub one_came : (plan : PlanModel) (all left after done more : List StateModel) (one child : StateModel) → left ≡ one ∷ after
    → more ≡ done ++ child ∷ [] → CameBack plan one child → ComeOn plan all left done → ComeOn plan all after more
one_came plan all left after done more one child is grown back on =
    let F : List StateModel → Type 0 = λ xs. AllFit plan xs in
    let L : List StateModel → Type 0 = λ xs. (rest : List StateModel) → EachCameBack plan xs rest → EachCameBack plan all (done ++ rest) in
    let E : List StateModel → Type 0 = λ xs. EachCameBack plan all xs in
    let M : List StateModel → Type 0 = λ xs. (rest : List StateModel) → EachCameBack plan after rest → EachCameBack plan all (xs ++ rest) in
    let grows : M (done ++ child ∷ []) =
    λ rest each. subst E (sym (append_assoc done (child ∷ []) rest)) (subst L is on.leads (child ∷ rest) (back, each)) in
    record { fit = (subst F is on.fit).1; leads = subst M (sym grown) grows }

pub all_came : (plan : PlanModel) (all left done : List StateModel) → left ≡ [] → ComeOn plan all left done → EachCameBack plan all done
all_came plan all left done is on =
    let L : List StateModel → Type 0 = λ xs. (rest : List StateModel) → EachCameBack plan xs rest → EachCameBack plan all (done ++ rest) in
    let E : List StateModel → Type 0 = λ xs. EachCameBack plan all xs in
    subst E (append-nil done) (subst L is on.leads [] tt)

-- a list that is passed from its front has as many left as its length says
pub none_left : {A : Type 0} (xs : List A) → length xs ≡ 0 → xs ≡ []
none_left {A} [] none = refl
none_left {A} (x ∷ xs) none = absurd (omega (arith, none))

pub one_left : {A : Type 0} (x : A) (xs ys : List A) (many less : ℕ) → xs ≡ x ∷ ys → less + 1 ≡ many → many ≡ length xs → less ≡ length ys
one_left {A} x xs ys many less is gone was =
    let all : length xs ≡ length (x ∷ ys) = ap (λ (zs : List A). length zs) is in
    omega (arith, all, gone, was)

-- ---- taking them back

pub named_there : (plan : PlanModel) (s : StateModel) (children : List StateModel) → TakesBack plan s children
    → IsSomeAnd (slice_get plan.tree.domains s.node.0) (λ domain. nodes_of children ≡ members_at domain (waits_at s.stage))
named_there plan s children back =
    let M : Domain → Type 0 = λ domain. nodes_of children ≡ members_at domain (waits_at s.stage) in
    some_and (slice_get plan.tree.domains s.node.0) M back.domain back.is back.members

pub takes_back : MembersCanComeBack → (plan : PlanModel) (s : StateModel) (sent children : List StateModel) → HasSent plan s sent → Fits plan s
    → EachCameBack plan sent children → TakesBack plan s children
takes_back law plan s sent children h fits each = law plan h.was s sent children h.plans h.advances fits each

pub taken_so : MembersAnswerStill → (plan : PlanModel) (old new : StateModel) (sent children : List StateModel) → EachCameBack plan sent children
    → HasTaken plan old new children → HasTaken plan old new sent
taken_so law plan old new sent children each taken = record {
  fits = taken.fits;
  stays = taken.stays;
  moves = taken.moves;
  stands = λ t stands answers. taken.stands t stands (law plan t.faults t.loaded old sent children each answers);
}

-- ---- the root

here_at_root : (plan : PlanModel) (d : Node) (s : StateModel) (ending : Ending) → s.node.0 ≡ 0 → IsHereAtEnd plan d s ending → IsHere d s.field
here_at_root plan d s (Done leak) root here = here
here_at_root plan d s (Escalated cause over) root here = here (inr root)

pub root_is_over : (plan : PlanModel) (s child : StateModel) → IsPlan plan → s.node ≡ record { 0 = 0 } → CameBack plan s child → IsOver plan child
root_is_over plan s child is_plan first back =
    let root : child.node ≡ record { 0 = 0 } = back.stays.node ∙ first in
    let d : Node = node child.node back.fits.domain back.fits.body in
    let there : node_of plan.tree.domains (record { 0 = 0 }) ≡ Some d =
    ap (λ (id : NodeId). node_of plan.tree.domains id) (sym root) ∙ back.fits.is in
    let both : ◌≡◌ {A = Option Node} (Some d) (Some (root_of plan.tree.domains)) = sym there ∙ root_there plan.tree.domains is_plan.program.some in
    let same : d ≡ root_of plan.tree.domains = cc in
    let zero : child.node.0 ≡ 0 = ap (λ (id : NodeId). id.0) root in
    let end : (ending : Ending) × (child.stage ≡ Ended ending) = ended_so child.stage back.ended in
    let S : Stage → Type 0 = λ stage. FitsStage plan d back.fits.domain child stage in
    let fits : FitsEnded plan d child end.0 = subst S end.1 back.fits.stage in
    let H : Node → Type 0 = λ x. IsHere x child.field in
    record {
      root = zero;
      ended = back.ended;
      here = subst H same (here_at_root plan d child end.0 zero fits.present);
      counts = back.fits.counts ∙ ap (λ (x : Node). length (node_numbers x)) same
          ∙ ap (λ (ns : List ℕ). length ns) is_plan.program.preorder ∙ length-numbers_from 0 (length plan.tree.domains);
    }

-- ---- the root's part of a machine

-- the footprint of the root is its own
root_foot : (plan : PlanModel) (feet : List Foot) (foot : Foot) → IsPlan plan → feet ≡ plan.feet → slice_get feet 0 ≡ Some foot
    → IsFoot (root_of plan.tree.domains) foot
root_foot plan feet foot is_plan same listed =
    is_plan.footprints.each (record { 0 = 0 }) (root_of plan.tree.domains) foot (root_there plan.tree.domains is_plan.program.some)
    (subst (λ (xs : List Foot). slice_get xs 0 ≡ Some foot) same listed)

pub root_word : (plan : PlanModel) (feet : List Foot) (reach : List Range) (m : FieldModel) (q : Place) → IsPlan plan → feet ≡ plan.feet
    → IsSomeAnd (slice_get feet 0) (λ foot. reach ≡ foot.reach) → IsHere (root_of plan.tree.domains) m → in_ranges reach q ≡ true → IsPresent m q
root_word plan feet reach m q is_plan same listed here reached =
    let f : (foot : Foot) × (slice_get feet 0 ≡ Some foot) × (reach ≡ foot.reach) =
    some_of (slice_get feet 0) (λ (foot : Foot). reach ≡ foot.reach) listed in
    here q (sym ((root_foot plan feet f.0 is_plan same f.1).reach q) ∙ sym (ap (λ (ranges : List Range). in_ranges ranges q) f.2) ∙ reached)

pub root_part : (plan : PlanModel) (feet other : List Foot) (reads writes : List Range) (whole part : FieldModel) → IsPlan plan → feet ≡ plan.feet
    → other ≡ plan.feet → IsSomeAnd (slice_get feet 0) (λ foot. reads ≡ foot.reads) → IsSomeAnd (slice_get other 0) (λ foot. writes ≡ foot.writes)
    → IsAccepted plan.tree whole.script → ArePresent whole reads → ArePresent whole writes → part ≡ part_of whole reads writes
    → IsRootPart plan part
root_part plan feet other reads writes whole part is_plan same also reading writing accepted known written is =
    let d : Node = root_of plan.tree.domains in
    let f : (foot : Foot) × (slice_get feet 0 ≡ Some foot) × (reads ≡ foot.reads) =
    some_of (slice_get feet 0) (λ (foot : Foot). reads ≡ foot.reads) reading in
    let o : (foot : Foot) × (slice_get other 0 ≡ Some foot) × (writes ≡ foot.writes) =
    some_of (slice_get other 0) (λ (foot : Foot). writes ≡ foot.writes) writing in
    let read : (q : Place) → in_ranges reads q ≡ node_reads d q =
    λ q. ap (λ (ranges : List Range). in_ranges ranges q) f.2 ∙ (root_foot plan feet f.0 is_plan same f.1).reads q in
    let wrote : (q : Place) → in_ranges writes q ≡ node_writes d q =
    λ q. ap (λ (ranges : List Range). in_ranges ranges q) o.2 ∙ (root_foot plan other o.0 is_plan also o.1).writes q in
    let there : (q : Place) → node_reach d q ≡ true → IsPresent whole q =
    λ q reached. elim (or_cases (node_reads d q) (node_writes d q) reached) [
      | inl e ↦ known q (read q ∙ e)
      | inr e ↦ written q (wrote q ∙ e)
    ] in
    let P : FieldModel → Type 0 = λ m. IsRootPart plan m in
    subst P (sym is) (record {
      present = λ q reached. record { known = carved_word d whole reads writes q (read q) (wrote q) reached (there q reached).known; here = refl };
      script = accepted;
      events = refl;
      notes = refl;
      carved = wrote;
    })

-- ---- what a whole run comes to

counts_of_all : (plan : PlanModel) (was now : FieldModel) (begins : List ℕ) → IsPlan plan
    → begins ≡ map (task_reading plan (root_task plan was)).counts (node_numbers (root_of plan.tree.domains))
    → length begins ≡ length plan.tree.domains
counts_of_all plan was now begins is_plan is =
    ap (λ (ns : List ℕ). length ns) is
    ∙ length-map (node_numbers (root_of plan.tree.domains)) (task_reading plan (root_task plan was)).counts
    ∙ ap (λ (ns : List ℕ). length ns) is_plan.program.preorder
    ∙ length-numbers_from 0 (length plan.tree.domains)

pub legible : {F : Type 0} (field : F → FieldModel) (plan : PlanModel) (was : FieldModel) (outcome : Outcome F) → IsPlan plan
    → RanTo field plan was outcome → IsReadable field plan outcome
legible {F} field plan was (Committed machine begins) is_plan ran =
    let r : Ran plan was (field machine) begins (Done ran.0) = ran.1 in
    (r.here, counts_of_all plan was (field machine) begins is_plan r.counts)
legible {F} field plan was (Exhausted machine begins cause) is_plan ran =
    let r : Ran plan was (field machine) begins (Escalated cause ran.0) = ran.1 in
    (r.here, counts_of_all plan was (field machine) begins is_plan r.counts)
