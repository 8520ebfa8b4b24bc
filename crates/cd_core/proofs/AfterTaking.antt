-- What members that are taken back leave: the machine, the pass and the counts of the state.
use Rattle.std.proofs.Common.{◌≡◌, ℕ, ◌+◌, ◌-◌, Bool, true, false, if◌then◌else◌, bit_or, List, [], ◌∷◌, ◌++◌, Option, None, Some, length, IsSome, refl, ap, sym, subst, ◌∙◌, arith, inl, inr}
use Rattle.std.proofs.lemmas.Bool.{or_cases}
use Rattle.cd_base.specs.declared.place.Place.{Place}
use Rattle.cd_base.specs.Words.{in_ranges}
use Rattle.cd_tree.specs.declared.domain.Domain.{Domain}
use Rattle.cd_tree.specs.declared.event.Cause.{Cause}
use Rattle.cd_tree.specs.Domains.{Members, no_more, member, node_numbers, member_numbers}
use Rattle.cd_tree.specs.Meaning.{node_writes, member_writes}
use Rattle.cd_tree.specs.Slices.{among}
use Rattle.cd_tree.proofs.OtherCounts.{among_left, among_right}
use Rattle.cd_field.specs.FieldModel.{FieldModel, absorbed, IsPresent, CanAbsorb}
use Rattle.cd_keep.specs.PassModel.{PassModel, joined}
use Rattle.cd_cover.specs.Plans.{PlanModel}
use Rattle.cd_core.specs.declared.state.Stage.{Stage}
use Rattle.cd_core.specs.declared.state.Stage.TheVariants.{Ready, Waiting, Resumed, Lost, Ended}
use Rattle.cd_core.specs.StateModel.{StateModel}
use Rattle.cd_core.specs.Fits.{IsOneOf}
use Rattle.cd_core.specs.Resuming.{absorbed_all, all_done, counts_taken, escalation, first_escalation, joined_all, resumed, resumed_at, stage_behind, with_more}
use Rattle.cd_core.specs.Steps.{IsWaiting}
use Rattle.cd_core.specs.TakingBack.{CanTakeAll, stage_after, took, took_all}
use Rattle.cd_core.proofs.TakenBack.{Pairs, ComesBack, rooms, length-put_at, same_cause}

-- ---- exactly

-- the state with all of them taken
pub took_all_is : (commit : Bool) (children : List StateModel) (s : StateModel)
    → took_all commit s children ≡ record s {
      counts = counts_taken s.node children s.counts;
      field = absorbed_all commit children s.field;
      pass = joined_all children s.pass;
    }
took_all_is commit [] s = refl
took_all_is commit (child ∷ children) s = took_all_is commit children (took commit s child)

resumed_from : (s : StateModel) (domain : Domain) (children : List StateModel) (stage : Stage) → IsWaiting stage
    → (mid : StateModel) → mid ≡ took_all (all_done (first_escalation children)) s children
    → record mid { stage = stage_after domain.detects (first_escalation children) stage } ≡ resumed_at s domain children stage
resumed_from s domain children Ready waits mid is = absurd waits
resumed_from s domain children (Waiting spare point) waits mid is =
    let set : StateModel → StateModel = λ x. record x { stage = stage_behind domain.detects spare point (first_escalation children) } in
    ap set (is ∙ took_all_is (all_done (first_escalation children)) children s)
resumed_from s domain children (Resumed spare point) waits mid is = absurd waits
resumed_from s domain children (Lost spare cause over) waits mid is = absurd waits
resumed_from s domain children (Ended ending) waits mid is = absurd waits

pub resumed_is : (s : StateModel) (domain : Domain) (children : List StateModel) → IsWaiting s.stage
    → (mid : StateModel) → mid ≡ took_all (all_done (first_escalation children)) s children
    → record mid { stage = stage_after domain.detects (first_escalation children) mid.stage } ≡ resumed s domain children
resumed_is s domain children waits mid is =
    let stays : mid.stage ≡ s.stage =
    ap (λ (x : StateModel). x.stage) (is ∙ took_all_is (all_done (first_escalation children)) children s) in
    ap (λ (x : Stage). record mid { stage = stage_after domain.detects (first_escalation children) x }) stays
    ∙ resumed_from s domain children s.stage waits mid is

-- ---- counts

pub length-counts_taken : (commit : Bool) (children : List StateModel) (s : StateModel) → CanTakeAll commit s children
    → length (counts_taken s.node children s.counts) ≡ length s.counts
length-counts_taken commit [] s can = refl
length-counts_taken commit (child ∷ children) s can =
    length-counts_taken commit children (took commit s child) can.1
    ∙ length-put_at s.counts (child.node.0 - s.node.0) child.counts can.0.counts

-- ---- the machine

-- what absorbing leaves as it was
pub record StaysSo (m n : FieldModel) : Type 0 where
  pub script : n.script ≡ m.script
  pub node : n.node ≡ m.node
  pub carved : n.carved ≡ m.carved

one_stays : (commit : Bool) (m part : FieldModel) → StaysSo m (absorbed m part commit)
one_stays true m part = record { script = refl; node = refl; carved = refl }
one_stays false m part = record { script = refl; node = refl; carved = refl }

pub all_stays : (commit : Bool) (children : List StateModel) (m : FieldModel) → StaysSo m (absorbed_all commit children m)
all_stays commit [] m = record { script = refl; node = refl; carved = refl }
all_stays commit (child ∷ children) m =
    let one : StaysSo m (absorbed m child.field commit) = one_stays commit m child.field in
    let rest : StaysSo (absorbed m child.field commit) (absorbed_all commit children (absorbed m child.field commit)) =
    all_stays commit children (absorbed m child.field commit) in
    record { script = rest.script ∙ one.script; node = rest.node ∙ one.node; carved = rest.carved ∙ one.carved }

-- a choice with the same property on both sides
chosen_has : {A : Type 0} (P : A → Type 0) (b : Bool) (one other : A) → (b ≡ true → P one) → (b ≡ false → P other) → P (if b then one else other)
chosen_has {A} P true one other when unless = when refl
chosen_has {A} P false one other when unless = unless refl

-- a place keeps a word
one_word : (commit : Bool) (m part : FieldModel) (p : Place) → CanAbsorb m part commit → IsSome (m.words p) → IsSome ((absorbed m part commit).words p)
one_word true m part p can some =
    let S : Option ℕ → Type 0 = λ o. IsSome o in
    chosen_has S (in_ranges part.carved p) (part.words p) (m.words p) (λ e. (can.present refl p e).known) (λ e. some)
one_word false m part p can some = some

pub all_words : (commit : Bool) (children : List StateModel) (s : StateModel) (p : Place) → CanTakeAll commit s children → IsSome (s.field.words p)
    → IsSome ((absorbed_all commit children s.field).words p)
all_words commit [] s p can some = some
all_words commit (child ∷ children) s p can some =
    all_words commit children (took commit s child) p can.1 (one_word commit s.field child.field p can.0.absorbs some)

-- a place stays present
one_present : (commit : Bool) (m part : FieldModel) (p : Place) → CanAbsorb m part commit → IsPresent m p → IsPresent (absorbed m part commit) p
one_present true m part p can here = record {
  known = one_word true m part p can here.known;
  here = (let F : Bool → Type 0 = λ b. b ≡ false in chosen_has F (in_ranges part.carved p) false (m.lost p) (λ e. refl) (λ e. here.here));
}
one_present false m part p can here = record { known = here.known; here = here.here }

pub all_present : (commit : Bool) (children : List StateModel) (s : StateModel) (p : Place) → CanTakeAll commit s children → IsPresent s.field p
    → IsPresent (absorbed_all commit children s.field) p
all_present commit [] s p can here = here
all_present commit (child ∷ children) s p can here =
    all_present commit children (took commit s child) p can.1 (one_present commit s.field child.field p can.0.absorbs here)

-- a place that a part was carved to write is present when the part is committed
back_present : (m part : FieldModel) (p : Place) → CanAbsorb m part true → in_ranges part.carved p ≡ true → IsPresent (absorbed m part true) p
back_present m part p can inside = record {
  known = (let S : Bool → Type 0 = λ b. IsSome (if b then part.words p else m.words p) in
      subst S (sym inside) (can.present refl p inside).known);
  here = ap (λ (b : Bool). if b then false else m.lost p) inside;
}

-- so is each place that a member writes when all are
pub written_present : (plan : PlanModel) (members : Members) (children : List StateModel) (s : StateModel) (p : Place)
    → Pairs (λ d child. (q : Place) → in_ranges child.field.carved q ≡ node_writes d q) members children
    → CanTakeAll true s children → member_writes members p ≡ true → IsPresent (absorbed_all true children s.field) p
written_present plan no_more [] s p carved can writes = absurd (cc)
written_present plan no_more (child ∷ children) s p carved can writes = absurd carved
written_present plan (member first rest) [] s p carved can writes = absurd carved
written_present plan (member first rest) (child ∷ children) s p carved can writes =
    elim (or_cases (node_writes first p) (member_writes rest p) writes) [
      | inl e ↦
          all_present true children (took true s child) p can.1
          (back_present s.field child.field p can.0.absorbs (carved.0 p ∙ e))
      | inr e ↦ written_present plan rest children (took true s child) p carved.1 can.1 e
    ]

pub carved_so : (plan : PlanModel) (commit : Bool) (s : StateModel) (members : Members) (children : List StateModel)
    → Pairs (ComesBack plan commit s) members children
    → Pairs (λ d child. (q : Place) → in_ranges child.field.carved q ≡ node_writes d q) members children
carved_so plan commit s no_more [] back = tt
carved_so plan commit s no_more (child ∷ children) back = absurd back
carved_so plan commit s (member first rest) [] back = absurd back
carved_so plan commit s (member first rest) (child ∷ children) back = (back.0.carved, carved_so plan commit s rest children back.1)

-- ---- the pass

pub record KeepsSo (p q : PassModel) (more : ℕ) : Type 0 where
  pub known : q.known ≡ p.known
  pub holds : q.holds ≡ p.holds
  pub held : q.held ≡ p.held
  pub most : q.most ≡ p.most
  pub store : q.store ≡ p.store
  pub room : q.room ≡ p.room + more

pub all_joined : (children : List StateModel) (p : PassModel) → KeepsSo p (joined_all children p) (rooms children)
all_joined [] p = record { known = refl; holds = refl; held = refl; most = refl; store = refl; room = omega arith }
all_joined (child ∷ children) p =
    let rest : KeepsSo (joined p child.pass) (joined_all children (joined p child.pass)) (rooms children) = all_joined children (joined p child.pass) in
    record { known = rest.known; holds = rest.holds; held = rest.held; most = rest.most; store = rest.store; room = omega (arith, rest.room) }

-- ---- whom an escalation blames

-- a cause of one of these domains is of one of more
pub wider : (plan : PlanModel) (few more : List ℕ) (cause : Cause) → ((n : ℕ) → among few n ≡ true → among more n ≡ true)
    → IsOneOf plan few cause → IsOneOf plan more cause
wider plan few more cause wide one = record { at = one.at; one = wide one.at.0 one.one; path = one.path }

first_blamed : (plan : PlanModel) (numbers others : List ℕ) (one rest : Option (Cause × ℕ)) (cause : Cause) (over : ℕ)
    → ((why : Cause) (more : ℕ) → one ≡ Some (why, more) → IsOneOf plan numbers why)
    → ((why : Cause) (more : ℕ) → rest ≡ Some (why, more) → IsOneOf plan others why)
    → with_more one rest ≡ Some (cause, over) → IsOneOf plan (numbers ++ others) cause
first_blamed plan numbers others None rest cause over first later is =
    wider plan others (numbers ++ others) cause (among_right numbers others) (later cause over is)
first_blamed plan numbers others (Some (why, more)) None cause over first later is =
    wider plan numbers (numbers ++ others) cause (among_left numbers others)
    (subst (IsOneOf plan numbers) (same_cause why cause more over is) (first why more refl))
first_blamed plan numbers others (Some (why, more)) (Some (other, most)) cause over first later is =
    wider plan numbers (numbers ++ others) cause (among_left numbers others)
    (subst (IsOneOf plan numbers) (same_cause why cause (bit_or more most) over is) (first why more refl))

pub all_blamed : (plan : PlanModel) (commit : Bool) (s : StateModel) (members : Members) (children : List StateModel) (cause : Cause) (over : ℕ)
    → Pairs (ComesBack plan commit s) members children → first_escalation children ≡ Some (cause, over)
    → IsOneOf plan (member_numbers members) cause
all_blamed plan commit s no_more [] cause over back is = absurd (cc)
all_blamed plan commit s no_more (child ∷ children) cause over back is = absurd back
all_blamed plan commit s (member first rest) [] cause over back is = absurd back
all_blamed plan commit s (member first rest) (child ∷ children) cause over back is =
    first_blamed plan (node_numbers first) (member_numbers rest) (escalation child.stage) (first_escalation children) cause over
    back.0.blamed (λ why more e. all_blamed plan commit s rest children why more back.1 e) is
