-- What `advance` does, exactly: the first try or those that follow, and then a group is sent, or the domain ends.
use Rattle.std.specs.Prelude.{◌≡◌, ℕ, zero, suc, ◌+◌, ◌-◌, ◌==◌, Bool, true, false, if◌then◌else◌, is_none, List, [], ◌∷◌, ◌++◌, Some, slice_get, slice_index, slice_set}
use Rattle.std.specs.Option.{option_map_or}
use Rattle.cd_base.specs.declared.place.Range.{Range}
use Rattle.cd_tree.specs.declared.domain.NodeId.{NodeId}
use Rattle.cd_tree.specs.declared.domain.Item.{Item}
use Rattle.cd_tree.specs.declared.domain.Item.TheVariants as item
use Rattle.cd_tree.specs.declared.domain.Domain.{Domain}
use Rattle.cd_tree.specs.declared.event.Cause.{Cause}
use Rattle.cd_tree.specs.declared.event.Event.TheVariants.{Complete}
use Rattle.cd_tree.specs.KindSets.{no_kinds, halting}
use Rattle.cd_tree.specs.Reading.{blame}
use Rattle.cd_tree.specs.Slices.{node_size}
use Rattle.cd_tree.specs.Domains.{node_of}
use Rattle.cd_field.specs.FieldModel.{FieldModel, told, begun, gone_up, part_of, without}
use Rattle.cd_keep.specs.PassModel.{PassModel, child_of}
use Rattle.cd_keep.specs.PassModel as passes
use Rattle.cd_cover.specs.PlanLaws.{need_of}
use Rattle.cd_cover.specs.Plans.{PlanModel}
use Rattle.cd_tries.specs.declared.keep.Keep.{Keep}
use Rattle.cd_tries.specs.declared.tries.Course.{Course}
use Rattle.cd_tries.specs.declared.tries.Stop.{Stop}
use Rattle.cd_tries.specs.declared.tries.Stop.TheVariants.{Group, Passed, Failed, Broken}
use Rattle.cd_tries.specs.Keeping.{Known, all_ids}
use Rattle.cd_tries.specs.Preserving.{IsPreserved, links_for}
use Rattle.cd_tries.specs.Refilling.{refilled_all, gave_up_each}
use Rattle.cd_tries.specs.Running.{Means, means, Trial, tried_from, tried_again, next_begin, Tried, tries_from}
use Rattle.cd_core.specs.declared.state.Ending.{Ending}
use Rattle.cd_core.specs.declared.state.Ending.TheVariants.{Done, Escalated}
use Rattle.cd_core.specs.declared.state.Stage.{Stage}
use Rattle.cd_core.specs.declared.state.Stage.TheVariants.{Ready, Waiting, Resumed, Lost, Ended}
use Rattle.cd_core.specs.declared.verdict.Verdict.{Verdict}
use Rattle.cd_core.specs.declared.verdict.Verdict.TheVariants.{Waits, Completes, Escalates}
use Rattle.cd_core.specs.StateModel.{StateModel}
use Rattle.cd_core.specs.Asks.{foot_of, levels_below, counts_of}
use Rattle.cd_core.specs.Stands.{named}

-- ---- the tries

-- what comes of tries, by what stops the domain
abbrev pub verdict_of : PlanModel → NodeId → ℕ → Stop → Verdict
verdict_of plan id spare (Group point) = Waits spare point
verdict_of plan id spare (Passed leak) = Completes leak
verdict_of plan id spare (Failed kinds) = Escalates (named plan (blame id kinds)) no_kinds
verdict_of plan id spare (Broken kinds over) = Escalates (named plan (blame id kinds)) over

-- the machine behind the tries, the number of the last begin, and what comes of them
pub record Judged : Type 0 where
  pub field : FieldModel
  pub begin : ℕ
  pub verdict : Verdict

abbrev pub judged_course : PlanModel → NodeId → Tried → Judged
judged_course plan id t = record { field = t.field; begin = t.course.begin; verdict = verdict_of plan id t.course.spare t.course.stop }

-- after a try that a member's escalation ended: another, where nothing is left over and one is to spare; else the escalation goes on
abbrev pub after_loss : PlanModel → Means → ℕ → ℕ → FieldModel → Cause → ℕ → Bool → Judged
after_loss plan with zero begin m cause over none = record { field = m; begin = begin; verdict = Escalates cause over }
after_loss plan with (suc spare) begin m cause over true =
    judged_course plan with.node (tries_from with spare (next_begin begin) (tried_again with (next_begin begin) m))
after_loss plan with (suc spare) begin m cause over false = record { field = m; begin = begin; verdict = Escalates cause over }

abbrev pub own_count : StateModel → ℕ
own_count s = slice_index s.counts 0

abbrev pub means_of : PlanModel → Domain → NodeId → Known → List Keep → Means
means_of plan domain id known keeps = means id domain (halting plan.tree.kinds) known keeps

-- a first begin: the entries are preserved, and the first try runs, and those that follow
pub record BeginsSo (plan : PlanModel) (domain : Domain) (s : StateModel) (keeps : List Keep) (q : PassModel) (j : Judged) : Type 0 where
  pub saved : FieldModel
  pub preserved : IsPreserved s.node domain (links_for plan.tree.domains s.node s.above) keeps
      (begun s.field s.node (next_begin (own_count s))) saved s.pass q
  pub tried : j ≡ judged_course plan s.node (tries_from (means_of plan domain s.node q.known keeps) (domain.retry - 1) (next_begin (own_count s))
      (tried_from (halting plan.tree.kinds) domain saved 0))

-- what is kept stays, and so does the pass
abbrev pub GoesOnSo : StateModel → List Keep → PassModel → Judged → Judged → Type 0
GoesOnSo s keeps q j judged = (keeps ≡ s.keeps) × (q ≡ s.pass) × (j ≡ judged)

-- the keeps, the pass and what comes of the tries, by where the domain was
abbrev pub TriesSo : PlanModel → Domain → StateModel → List Keep → PassModel → Judged → Stage → Type 0
TriesSo plan domain s keeps q j Ready = BeginsSo plan domain s keeps q j
TriesSo plan domain s keeps q j (Waiting spare point) = ⊥
TriesSo plan domain s keeps q j (Resumed spare point) =
    GoesOnSo s keeps q j (judged_course plan s.node (tries_from (means_of plan domain s.node s.pass.known s.keeps) spare (own_count s)
    (tried_from (halting plan.tree.kinds) domain s.field (suc point))))
TriesSo plan domain s keeps q j (Lost spare cause over) =
    GoesOnSo s keeps q j (after_loss plan (means_of plan domain s.node s.pass.known s.keeps) spare (own_count s) s.field cause over (over == no_kinds))
TriesSo plan domain s keeps q j (Ended ending) = ⊥

-- ---- sending

abbrev pub size_of : PlanModel → NodeId → ℕ
size_of plan id = option_map_or node_size (node_of plan.tree.domains id) 0

-- a member as it is sent, from the machine and the pass as they are when its turn comes
abbrev pub sent : PlanModel → StateModel → NodeId → FieldModel → PassModel → StateModel
sent plan s id m p = record {
  node = id;
  counts = counts_of s.node s.counts id (size_of plan id);
  stage = Ready;
  keeps = [];
  above = levels_below s;
  field = part_of m (foot_of plan id).reads (foot_of plan id).writes;
  pass = child_of p (need_of plan.tree.domains id);
}

-- the members, the machine and the pass behind them
abbrev pub all_sent : PlanModel → StateModel → List NodeId → FieldModel → PassModel → List StateModel
all_sent plan s [] m p = []
all_sent plan s (id ∷ ids) m p =
    sent plan s id m p ∷ all_sent plan s ids (without m (foot_of plan id).writes) (passes.without p (need_of plan.tree.domains id))

abbrev pub field_behind : PlanModel → List NodeId → FieldModel → FieldModel
field_behind plan [] m = m
field_behind plan (id ∷ ids) m = field_behind plan ids (without m (foot_of plan id).writes)

abbrev pub pass_behind : PlanModel → List NodeId → PassModel → PassModel
pass_behind plan [] p = p
pass_behind plan (id ∷ ids) p = pass_behind plan ids (passes.without p (need_of plan.tree.domains id))

-- the members of the group at a point; elsewhere there are none
abbrev pub members_of_item : Item → List NodeId
members_of_item (item.Run op) = []
members_of_item (item.Group ids) = ids

abbrev pub members_at : Domain → ℕ → List NodeId
members_at domain point = option_map_or members_of_item (slice_get domain.items point) []

-- ---- ends

-- an escalating root first puts its entries back
abbrev pub put_back_at_root : Domain → Known → List Keep → FieldModel → FieldModel
put_back_at_root domain known keeps m = if is_none domain.parent then refilled_all known domain.entries keeps m else m

abbrev pub ended : StateModel → List Keep → PassModel → ℕ → FieldModel → Ending → StateModel
ended s keeps q begin m ending = record s {
  counts = slice_set s.counts 0 begin;
  stage = Ended ending;
  keeps = [];
  field = m;
  pass = gave_up_each q (all_ids keeps);
}

-- the state behind the call, by what came of the tries
abbrev pub state_behind : PlanModel → Domain → StateModel → List Keep → PassModel → ℕ → FieldModel → Verdict → StateModel
state_behind plan domain s keeps q begin m (Waits spare point) = record s {
  counts = slice_set s.counts 0 begin;
  stage = Waiting spare point;
  keeps = keeps;
  field = field_behind plan (members_at domain point) m;
  pass = pass_behind plan (members_at domain point) q;
}
state_behind plan domain s keeps q begin m (Completes leak) = ended s keeps q begin (told m (Complete s.node)) (Done leak)
state_behind plan domain s keeps q begin m (Escalates cause over) =
    ended s keeps q begin (gone_up (put_back_at_root domain q.known keeps m)) (Escalated cause over)

-- the state as its members are sent
abbrev pub state_sending : StateModel → List Keep → ℕ → FieldModel → PassModel → StateModel
state_sending s keeps begin m q = record s { counts = slice_set s.counts 0 begin; keeps = keeps; field = m; pass = q }
