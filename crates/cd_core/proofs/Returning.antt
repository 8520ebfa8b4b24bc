-- Members that came back, one after another: their records, ends, notes, lapses and words together are those of their group.
use Rattle.std.proofs.Common.{◌≡◌, ℕ, ◌+◌, ◌≤◌, Bool, true, false, cond, bit_or, List, [], ◌∷◌, ◌++◌, Option, None, Some, length, map, refl, ap, sym, ◌∙◌, append_assoc, arith}
use Rattle.std.specs.List.{count_by}
use Rattle.std.proofs.Math.Path.{fun_ext}
use Rattle.std.proofs.lemmas.List.{append-nil, length-append}
use Rattle.std.proofs.lemmas.List.Sums.{sum_by-append}
use Rattle.std.proofs.lemmas.Nat.{le_or_l, le_or_r}
use Rattle.cd_base.specs.declared.place.Place.{Place}
use Rattle.cd_base.specs.Words.{Words, PlaceSet, in_ranges}
use Rattle.cd_tree.specs.declared.event.Cause.{Cause}
use Rattle.cd_tree.specs.declared.event.Event.{Event}
use Rattle.cd_tree.specs.Absorbing.{GiveMeanings, absorbed as put_in}
use Rattle.cd_tree.specs.CountLaws.{read_each, from_other}
use Rattle.cd_tree.specs.Domains.{Node, Members, no_more, member, node_numbers}
use Rattle.cd_tree.specs.KindSets.{no_kinds}
use Rattle.cd_tree.specs.Legal.{Legal, nothing}
use Rattle.cd_tree.specs.LegalLaws.{LegalPieces}
use Rattle.cd_tree.specs.Locality.{SameWords}
use Rattle.cd_tree.specs.Meaning.{node_writes, node_meaning, written}
use Rattle.cd_tree.specs.Reading.{Case, Counts, Told, NodeEnd, GroupEnd, AllDone, SomeEscalated, ends_joined, read_node}
use Rattle.cd_tree.specs.Reading.{Done as done, Escalated as escalated}
use Rattle.cd_tree.proofs.KindLemmas.{bit_or-assoc, bit_or-none}
use Rattle.cd_field.specs.FieldModel.{FieldModel, absorbed}
use Rattle.cd_keep.specs.PassModel.{PassModel, joined}
use Rattle.cd_cover.specs.Plans.{PlanModel}
use Rattle.cd_tries.specs.KeepLaws.{is_lapse}
use Rattle.cd_core.specs.declared.state.Stage.{Stage}
use Rattle.cd_core.specs.declared.state.Stage.TheVariants.{Ended}
use Rattle.cd_core.specs.StateModel.{StateModel}
use Rattle.cd_core.specs.Stands.{NotesAreLeak, ending_of, named}
use Rattle.cd_core.specs.Resuming.{absorbed_all, joined_all, escalation, first_escalation, with_more}
use Rattle.cd_core.proofs.Lapses.{lapses}
use Rattle.cd_core.proofs.TakenBack.{Pairs}

-- a member came back, as its reading is from the counts with which all were sent
pub record CameBack (plan : PlanModel) (w : Case) (loaded : Words) (sent : Counts) (d : Node) (child : StateModel) : Type 0 where
  pub legal : Legal plan.tree loaded child.field.events (read_node w d sent).past.events
  pub counts : child.counts ≡ map (read_node w d sent).counts (node_numbers d)
  pub ends : child.stage ≡ Ended (ending_of plan (read_node w d sent).answer)
  pub notes : NotesAreLeak child.field (ending_of plan (read_node w d sent).answer)
  pub lapses : count_by is_lapse child.field.events ≤ length child.pass.gone
  pub carved : (p : Place) → in_ranges child.field.carved p ≡ node_writes d p

-- ---- what the state keeps

-- what absorbing leaves as it was
pub record Left (m n : FieldModel) : Type 0 where
  pub script : n.script ≡ m.script
  pub node : n.node ≡ m.node
  pub begin : n.begin ≡ m.begin
  pub carved : n.carved ≡ m.carved

one_left : (commit : Bool) (m part : FieldModel) → Left m (absorbed m part commit)
one_left true m part = record { script = refl; node = refl; begin = refl; carved = refl }
one_left false m part = record { script = refl; node = refl; begin = refl; carved = refl }

pub all_left : (commit : Bool) (children : List StateModel) (m : FieldModel) → Left m (absorbed_all commit children m)
all_left commit [] m = record { script = refl; node = refl; begin = refl; carved = refl }
all_left commit (child ∷ children) m =
    let one : Left m (absorbed m child.field commit) = one_left commit m child.field in
    let rest : Left (absorbed m child.field commit) (absorbed_all commit children (absorbed m child.field commit)) =
    all_left commit children (absorbed m child.field commit) in
    record {
      script = rest.script ∙ one.script;
      node = rest.node ∙ one.node;
      begin = rest.begin ∙ one.begin;
      carved = rest.carved ∙ one.carved;
    }

-- ---- records

-- the records of all
abbrev pub events_of : List StateModel → List Event
events_of [] = []
events_of (child ∷ children) = child.field.events ++ events_of children

one_told : (commit : Bool) (m part : FieldModel) → (absorbed m part commit).events ≡ m.events ++ part.events
one_told true m part = refl
one_told false m part = refl

pub all_told : (commit : Bool) (children : List StateModel) (m : FieldModel) → (absorbed_all commit children m).events ≡ m.events ++ events_of children
all_told commit [] m = sym (append-nil m.events)
all_told commit (child ∷ children) m =
    all_told commit children (absorbed m child.field commit)
    ∙ ap (λ (es : List Event). es ++ events_of children) (one_told commit m child.field)
    ∙ append_assoc m.events child.field.events (events_of children)

-- they are legal for what the members tell
pub all_legal : LegalPieces → (plan : PlanModel) (w : Case) (loaded : Words) (sent : Counts) (members : Members) (children : List StateModel) (now : Counts)
    → Pairs (CameBack plan w loaded sent) members children
    → Legal plan.tree loaded (events_of children) (read_each w members sent now).past.events
all_legal pieces plan w loaded sent no_more [] now came = nothing
all_legal pieces plan w loaded sent no_more (child ∷ children) now came = absurd came
all_legal pieces plan w loaded sent (member first rest) [] now came = absurd came
all_legal pieces plan w loaded sent (member first rest) (child ∷ children) now came =
    let t : Told NodeEnd = from_other (node_numbers first) now (read_node w first sent) in
    pieces plan.tree loaded child.field.events (read_node w first sent).past.events (events_of children) (read_each w rest sent t.counts).past.events
    came.0.legal (all_legal pieces plan w loaded sent rest children t.counts came.1)

-- lapses stay answered
pub all_answered : (plan : PlanModel) (w : Case) (loaded : Words) (sent : Counts) (members : Members) (children : List StateModel)
    → Pairs (CameBack plan w loaded sent) members children → (commit : Bool) (m : FieldModel) (p : PassModel) → lapses m.events ≤ length p.gone
    → lapses (absorbed_all commit children m).events ≤ length (joined_all children p).gone
all_answered plan w loaded sent no_more [] came commit m p few = few
all_answered plan w loaded sent no_more (child ∷ children) came commit m p few = absurd came
all_answered plan w loaded sent (member first rest) [] came commit m p few = absurd came
all_answered plan w loaded sent (member first rest) (child ∷ children) came commit m p few =
    let both : lapses (m.events ++ child.field.events) ≡ lapses m.events + lapses child.field.events =
    sum_by-append (λ (e : Event). cond (is_lapse e) 1 0) m.events child.field.events in
    let told : lapses (absorbed m child.field commit).events ≡ lapses (m.events ++ child.field.events) =
    ap (λ (es : List Event). lapses es) (one_told commit m child.field) in
    let gone : length (p.gone ++ child.pass.gone) ≡ length p.gone + length child.pass.gone = length-append p.gone child.pass.gone in
    let few_of : lapses child.field.events ≤ length child.pass.gone = came.0.lapses in
    let now : lapses (absorbed m child.field commit).events ≤ length (joined p child.pass).gone = omega (arith, both, told, gone, few, few_of) in
    all_answered plan w loaded sent rest children came.1 commit (absorbed m child.field commit) (joined p child.pass) now

-- ---- ends

-- the first escalation of a group's end, as states tell it
abbrev pub told_end : PlanModel → GroupEnd → Option (Cause × ℕ)
told_end plan (AllDone leaks) = None
told_end plan (SomeEscalated cause over) = Some (named plan cause, over)

one_end : (plan : PlanModel) (first : NodeEnd) (rest : GroupEnd)
    → with_more (escalation (Ended (ending_of plan first))) (told_end plan rest) ≡ told_end plan (ends_joined first rest)
one_end plan (done leak) (AllDone leaks) = refl
one_end plan (done leak) (SomeEscalated cause over) = refl
one_end plan (escalated cause over) (AllDone leaks) = refl
one_end plan (escalated cause over) (SomeEscalated other more) = refl

pub all_end : (plan : PlanModel) (w : Case) (loaded : Words) (sent : Counts) (members : Members) (children : List StateModel) (now : Counts)
    → Pairs (CameBack plan w loaded sent) members children → first_escalation children ≡ told_end plan (read_each w members sent now).answer
all_end plan w loaded sent no_more [] now came = refl
all_end plan w loaded sent no_more (child ∷ children) now came = absurd came
all_end plan w loaded sent (member first rest) [] now came = absurd came
all_end plan w loaded sent (member first rest) (child ∷ children) now came =
    let t : Told NodeEnd = from_other (node_numbers first) now (read_node w first sent) in
    ap (λ (stage : Stage). with_more (escalation stage) (first_escalation children)) came.0.ends
    ∙ ap (λ (more : Option (Cause × ℕ)). with_more (escalation (Ended (ending_of plan (read_node w first sent).answer))) more)
    (all_end plan w loaded sent rest children t.counts came.1)
    ∙ one_end plan (read_node w first sent).answer (read_each w rest sent t.counts).answer

-- ---- notes

-- where all are done their leaks have joined the notes
abbrev pub NotesJoin : GroupEnd → ℕ → ℕ → Type 0
NotesJoin (AllDone leaks) before after = after ≡ bit_or before leaks
NotesJoin (SomeEscalated cause over) before after = Unit {0}

one_joins : (plan : PlanModel) (first : NodeEnd) (rest : GroupEnd) (m : FieldModel) (before after : ℕ) → NotesAreLeak m (ending_of plan first)
    → NotesJoin rest (bit_or before m.notes) after → NotesJoin (ends_joined first rest) before after
one_joins plan (done leak) (AllDone leaks) m before after leaks_it join =
    join ∙ ap (λ (n : ℕ). bit_or (bit_or before n) leaks) leaks_it ∙ bit_or-assoc before leak leaks
one_joins plan (done leak) (SomeEscalated cause over) m before after leaks_it join = tt
one_joins plan (escalated cause over) (AllDone leaks) m before after leaks_it join = tt
one_joins plan (escalated cause over) (SomeEscalated other more) m before after leaks_it join = tt

pub all_join : (plan : PlanModel) (w : Case) (loaded : Words) (sent : Counts) (members : Members) (children : List StateModel) (now : Counts) (m : FieldModel)
    → Pairs (CameBack plan w loaded sent) members children
    → NotesJoin (read_each w members sent now).answer m.notes (absorbed_all true children m).notes
all_join plan w loaded sent no_more [] now m came = sym (bit_or-none m.notes)
all_join plan w loaded sent no_more (child ∷ children) now m came = absurd came
all_join plan w loaded sent (member first rest) [] now m came = absurd came
all_join plan w loaded sent (member first rest) (child ∷ children) now m came =
    let t : Told NodeEnd = from_other (node_numbers first) now (read_node w first sent) in
    one_joins plan (read_node w first sent).answer (read_each w rest sent t.counts).answer child.field m.notes
    (absorbed_all true (child ∷ children) m).notes came.0.notes
    (all_join plan w loaded sent rest children t.counts (absorbed m child.field true) came.1)

-- ---- words

-- the words that each came back with
abbrev pub given_by : List StateModel → List Words
given_by [] = []
given_by (child ∷ children) = child.field.words ∷ given_by children

pub all_put : (plan : PlanModel) (w : Case) (loaded : Words) (sent : Counts) (members : Members) (children : List StateModel) (m : FieldModel)
    → Pairs (CameBack plan w loaded sent) members children
    → (absorbed_all true children m).words ≡ put_in members (given_by children) m.words
all_put plan w loaded sent no_more [] m came = refl
all_put plan w loaded sent no_more (child ∷ children) m came = absurd came
all_put plan w loaded sent (member first rest) [] m came = absurd came
all_put plan w loaded sent (member first rest) (child ∷ children) m came =
    let same : in_ranges child.field.carved ≡ node_writes first = fun_ext came.0.carved in
    all_put plan w loaded sent rest children (absorbed m child.field true) came.1
    ∙ ap (λ (places : PlaceSet). put_in rest (given_by children) (written places child.field.words m.words)) same

-- kinds that are none together are none each
none_left : (a b : ℕ) → bit_or a b ≡ no_kinds → a ≡ no_kinds
none_left a b e = omega (arith, le_or_l a b, e)

none_right : (a b : ℕ) → bit_or a b ≡ no_kinds → b ≡ no_kinds
none_right a b e = omega (arith, le_or_r a b, e)

pub notes_none : (a b : ℕ) → bit_or a b ≡ no_kinds → (a ≡ no_kinds) × (b ≡ no_kinds)
notes_none a b e = (none_left a b e, none_right a b e)

-- a group that leaks nothing has no member that does
first_quiet : (first : NodeEnd) (rest : GroupEnd) → ends_joined first rest ≡ AllDone no_kinds → first ≡ done no_kinds
first_quiet (done leak) (AllDone leaks) e =
    let none : bit_or leak leaks ≡ no_kinds = cc in ap (λ (n : ℕ). done n) (none_left leak leaks none)
first_quiet (done leak) (SomeEscalated cause over) e = absurd (cc)
first_quiet (escalated cause over) (AllDone leaks) e = absurd (cc)
first_quiet (escalated cause over) (SomeEscalated other more) e = absurd (cc)

rest_quiet : (first : NodeEnd) (rest : GroupEnd) → ends_joined first rest ≡ AllDone no_kinds → rest ≡ AllDone no_kinds
rest_quiet (done leak) (AllDone leaks) e =
    let none : bit_or leak leaks ≡ no_kinds = cc in ap (λ (n : ℕ). AllDone n) (none_right leak leaks none)
rest_quiet (done leak) (SomeEscalated cause over) e = absurd (cc)
rest_quiet (escalated cause over) (AllDone leaks) e = absurd (cc)
rest_quiet (escalated cause over) (SomeEscalated other more) e = absurd (cc)

-- a member that leaks nothing came back with the words of its meaning where it writes
abbrev pub GivesMeaning : Case → Counts → Words → Node → StateModel → Type 0
GivesMeaning w sent before d child =
    (read_node w d sent).answer ≡ done no_kinds → SameWords (node_writes d) child.field.words (node_meaning d before)

pub all_meanings : (w : Case) (sent : Counts) (before : Words) (members : Members) (children : List StateModel) (now : Counts)
    → Pairs (GivesMeaning w sent before) members children → (read_each w members sent now).answer ≡ AllDone no_kinds
    → GiveMeanings members before (given_by children)
all_meanings w sent before no_more [] now gives quiet = tt
all_meanings w sent before no_more (child ∷ children) now gives quiet = absurd gives
all_meanings w sent before (member first rest) [] now gives quiet = absurd gives
all_meanings w sent before (member first rest) (child ∷ children) now gives quiet =
    let t : Told NodeEnd = from_other (node_numbers first) now (read_node w first sent) in (
      gives.0 (first_quiet (read_node w first sent).answer (read_each w rest sent t.counts).answer quiet),
      all_meanings w sent before rest children t.counts gives.1
          (rest_quiet (read_node w first sent).answer (read_each w rest sent t.counts).answer quiet),
    )
