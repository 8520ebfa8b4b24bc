-- A run's end: the root's part is taken back, and the machine holds the run of the document.
use Rattle.std.proofs.Common.{◌≡◌, ℕ, suc, ◌≤◌, Bool, true, false, ◌||◌, cond, List, Option, None, Some, IsSomeAnd, Contains, All, get_or, length, map, sum, refl, ap, subst, sym, ◌∙◌, inl, inr, arith}
use Rattle.std.proofs.Math.Path.{fun_ext}
use Rattle.cd_base.proofs.BoolLemmas.{by_test}
use Rattle.std.proofs.lemmas.List.{length-map}
use Rattle.cd_base.specs.declared.place.Place.{Place}
use Rattle.cd_base.specs.declared.place.Range.{Range}
use Rattle.cd_base.specs.Words.{Words, in_ranges}
use Rattle.cd_tree.specs.declared.domain.NodeId.{NodeId}
use Rattle.cd_tree.specs.declared.domain.Domain.{Domain}
use Rattle.cd_tree.specs.declared.document.Document.{Document}
use Rattle.cd_tree.specs.declared.document.Region.{Region}
use Rattle.cd_tree.specs.declared.document.Fault.{Fault}
use Rattle.cd_tree.specs.declared.event.Cause.{Cause}
use Rattle.cd_tree.specs.Domains.{Node, node, root_of, number_of, node_numbers, numbers_from}
use Rattle.cd_tree.specs.KindSets.{no_kinds}
use Rattle.cd_tree.specs.Laws.{FoundInPrograms, EndsClean}
use Rattle.cd_tree.specs.Limits.{faults_limit}
use Rattle.cd_tree.specs.Locality.{SameWords, ShapesFitInPrograms, DomainsActLocally, AllShapesFit}
use Rattle.cd_tree.specs.Meaning.{initial, node_reads, node_writes, node_reach, node_meaning, written}
use Rattle.cd_tree.specs.Reading.{NodeEnd, Done as Completed, Escalated as GoneUp}
use Rattle.cd_tree.specs.Record.{reading, cause_of}
use Rattle.cd_tree.specs.Scripts.{IsAccepted}
use Rattle.cd_tree.specs.TreeModel.{TreeModel}
use Rattle.cd_tree.proofs.EachDomain.{root_there, number_there}
use Rattle.cd_tree.proofs.Walk.{length-numbers_from}
use Rattle.cd_field.specs.FieldModel.{FieldModel, CanAbsorb, loaded, part_of, without, absorbed}
use Rattle.cd_cover.specs.Links.{link_of}
use Rattle.cd_cover.specs.OuterLaws.{EntriesAreRead, IsOuter, LiesAbove, OuterAreThese}
use Rattle.cd_cover.specs.Plans.{PlanModel, IsPlan}
use Rattle.cd_reading.specs.Through.{begins_in}
use Rattle.cd_core.specs.declared.state.Ending.{Ending}
use Rattle.cd_core.specs.declared.state.Ending.TheVariants.{Done, Escalated}
use Rattle.cd_core.specs.declared.state.Outcome.{Outcome}
use Rattle.cd_core.specs.declared.state.Outcome.TheVariants.{Committed, Exhausted}
use Rattle.cd_core.specs.Stands.{Sound, ending_of}
use Rattle.cd_core.specs.Steps.{root_task}
use Rattle.cd_core.specs.Tasks.{LinksAgree}
use Rattle.cd_core.specs.Running.{FewBegins, Ran, RanTo}
use Rattle.cd_pool.specs.Counts.{begins_of, counted}
use Rattle.cd_report.specs.Reports.{last_words}
use Rattle.cd_app.specs.Parts.{IsPassed}
use Rattle.cd_app.specs.Parting.{IsCarved, CanTakeBack, TookBack}
use Rattle.cd_app.specs.Running.{HoldsRun, HasRun, IsCounted}
use Rattle.cd_app.proofs.LegalLemmas.{AgreeAtRoot, legal_with}
use Rattle.cd_app.proofs.PartLemmas.{root_id, part_word, in_part, reads_reach, writes_reach}
use Rattle.cd_app.proofs.RunLemmas.{sum_fits, found_length}

-- the laws of lower crates on which the end of a run rests
pub record EndLaws : Type 0 where
  pub outer : OuterAreThese
  pub entries : EntriesAreRead
  pub acts : DomainsActLocally
  pub shapes : ShapesFitInPrograms
  pub found : FoundInPrograms

-- ---- the root

-- it has the number 0
root_number : (plan : PlanModel) → IsPlan plan → number_of (root_of plan.tree.domains) ≡ 0
root_number plan is =
    number_there 0 plan.tree.domains 0 (root_of plan.tree.domains) (root_there plan.tree.domains is.program.some)

no_link : (domains : List Domain) (id : NodeId) (link : Option (NodeId × ℕ)) → id.0 ≡ 0 → IsSomeAnd link (λ (up : NodeId × ℕ). LiesAbove domains id up.0) → ⊥
no_link domains id None first lies = lies
no_link domains id (Some up) first lies = absurd (omega (arith, lies.1, first))

-- nothing lies above it
not_outer : (domains : List Domain) (d : Node) (below : NodeId) (at : ℕ) → number_of d ≡ 0 → IsOuter domains d (below, at) → ⊥
not_outer domains (node id domain body) below at first outer = no_link domains id (link_of domains below at) first outer.1

-- so no reference leads out of it, and nothing is asked of links
links_agree : EndLaws → (plan : PlanModel) (m : FieldModel) → IsPlan plan → LinksAgree plan (root_task plan m)
links_agree l plan m is (below, at) entry outer there =
    absurd (not_outer plan.tree.domains (root_of plan.tree.domains) below at (root_number plan is)
    ((l.outer plan is root_id (root_of plan.tree.domains) (root_there plan.tree.domains is.program.some) (below, at)).0 outer))

-- it stands among its own numbers
own_number : (d : Node) (n : ℕ) → number_of d ≡ n → Contains (node_numbers d) n
own_number (node id domain body) n is = (0, omega arith, is)

-- its entries have the words in the part that the regions have at the start
agree_at_root : EndLaws → (plan : PlanModel) (regions : List Region) (script : List Fault) (reads writes : List Range) → IsPlan plan
    → ((p : Place) → in_ranges reads p ≡ node_reads (root_of plan.tree.domains) p)
    → ((p : Place) → in_ranges writes p ≡ node_writes (root_of plan.tree.domains) p)
    → AgreeAtRoot plan.tree (part_of (loaded regions script) reads writes).words (initial regions)
agree_at_root l plan regions script reads writes is reading writing id at entry p first there inside =
    let d : Node = root_of plan.tree.domains in
    let own : Contains (node_numbers d) id.0 = own_number d id.0 (root_number plan is ∙ sym first) in
    let read : node_reads d p ≡ true =
    l.entries plan.tree is.program root_id id d at entry (root_there plan.tree.domains is.program.some) own there p inside in
    part_word regions script reads writes p (in_part d reads writes reading writing p (reads_reach d p read))

-- ---- words

-- a choice by a test that holds, or does not
chosen : {A : Type 0} (b : Bool) (x y : A) → b ≡ true → cond b x y ≡ x
chosen {A} b x y test = ap (λ (c : Bool). cond c x y) test

other : {A : Type 0} (b : Bool) (x y : A) → b ≡ false → cond b x y ≡ y
other {A} b x y test = ap (λ (c : Bool). cond c x y) test

-- words that a part gives back in the places that the root writes
abbrev Back : List Range → Words → Words → Words
Back carved w v = written (in_ranges carved) w v

-- where nothing failed in the end the words are those of the program
done_words : EndLaws → (plan : PlanModel) (regions : List Region) (script : List Fault) (reads writes carved : List Range) (w : Words)
    → IsPlan plan → ((p : Place) → in_ranges reads p ≡ node_reads (root_of plan.tree.domains) p)
    → ((p : Place) → in_ranges writes p ≡ node_writes (root_of plan.tree.domains) p)
    → ((p : Place) → in_ranges carved p ≡ node_writes (root_of plan.tree.domains) p)
    → SameWords (node_reach (root_of plan.tree.domains)) w
    (node_meaning (root_of plan.tree.domains) (part_of (loaded regions script) reads writes).words)
    → (p : Place) → Back carved w (initial regions) p ≡ node_meaning (root_of plan.tree.domains) (initial regions) p
done_words l plan regions script reads writes carved w is reading writing carving same p =
    let d : Node = root_of plan.tree.domains in
    let v : Words = (part_of (loaded regions script) reads writes).words in
    let fits : AllShapesFit d = l.shapes plan.tree is.program root_id d (root_there plan.tree.domains is.program.some) in
    let agree : SameWords (node_reads d) v (initial regions) =
    λ q read. part_word regions script reads writes q (in_part d reads writes reading writing q (reads_reach d q read)) in
    by_test (in_ranges carved p)
    (λ inside.
    let writes_it : node_writes d p ≡ true = sym (carving p) ∙ inside in
    chosen (in_ranges carved p) (w p) (initial regions p) inside ∙ same p (writes_reach d p writes_it)
    ∙ l.acts.written d v (initial regions) fits agree p writes_it)
    (λ outside.
    other (in_ranges carved p) (w p) (initial regions p) outside
    ∙ sym (l.acts.others d (initial regions) p (sym (carving p) ∙ outside)))

-- where the root escalated they are the initial ones
initial_words : (plan : PlanModel) (regions : List Region) (script : List Fault) (reads writes carved : List Range) (w : Words)
    → ((p : Place) → in_ranges reads p ≡ node_reads (root_of plan.tree.domains) p)
    → ((p : Place) → in_ranges writes p ≡ node_writes (root_of plan.tree.domains) p)
    → ((p : Place) → in_ranges carved p ≡ node_writes (root_of plan.tree.domains) p)
    → SameWords (node_reach (root_of plan.tree.domains)) w (part_of (loaded regions script) reads writes).words
    → (p : Place) → Back carved w (initial regions) p ≡ initial regions p
initial_words plan regions script reads writes carved w reading writing carving same p =
    let d : Node = root_of plan.tree.domains in
    by_test (in_ranges carved p)
    (λ inside.
    let reached : node_reach d p ≡ true = writes_reach d p (sym (carving p) ∙ inside) in
    chosen (in_ranges carved p) (w p) (initial regions p) inside ∙ same p reached
    ∙ part_word regions script reads writes p (in_part d reads writes reading writing p reached))
    (λ outside. other (in_ranges carved p) (w p) (initial regions p) outside)

-- a clean end leaks nothing
no_leak : (leak : ℕ) → EndsClean (Completed leak) → leak ≡ no_kinds
no_leak leak (inl same) = cc
no_leak leak (inr (cause, same)) = absurd (let wrong : Completed leak ≡ GoneUp cause no_kinds = same in cc)

-- the document with the program of a plan in the place of its own
abbrev at_tree : Document → TreeModel → Document
at_tree document tree = record document { tree = tree }

end_words : EndLaws → (document : Document) (plan : PlanModel) (script : List Fault) (reads writes : List Range) (now : FieldModel)
    (end : NodeEnd) → IsPlan plan → ((p : Place) → in_ranges reads p ≡ node_reads (root_of plan.tree.domains) p)
    → ((p : Place) → in_ranges writes p ≡ node_writes (root_of plan.tree.domains) p)
    → ((p : Place) → in_ranges now.carved p ≡ node_writes (root_of plan.tree.domains) p) → EndsClean end
    → Sound plan (root_task plan (part_of (loaded document.regions script) reads writes)) now (ending_of plan end)
    → (p : Place) → Back now.carved now.words (initial document.regions) p ≡ last_words (at_tree document plan.tree) end p
end_words l document plan script reads writes now (Completed leak) is reading writing carving clean sound p =
    done_words l plan document.regions script reads writes now.carved now.words is reading writing carving
    (sound (no_leak leak clean) (links_agree l plan (part_of (loaded document.regions script) reads writes) is)).1 p
end_words l document plan script reads writes now (GoneUp cause over) is reading writing carving clean sound p =
    initial_words plan document.regions script reads writes now.carved now.words reading writing carving (sound (root_number plan is)).1 p

-- ---- lost places

-- what was carved out is here again
none_lost : (plan : PlanModel) (writes carved : List Range)
    → ((p : Place) → in_ranges writes p ≡ node_writes (root_of plan.tree.domains) p)
    → ((p : Place) → in_ranges carved p ≡ node_writes (root_of plan.tree.domains) p)
    → (p : Place) → cond (in_ranges carved p) false (in_ranges writes p || false) ≡ false
none_lost plan writes carved writing carving p =
    by_test (in_ranges carved p)
    (λ inside. chosen (in_ranges carved p) false (in_ranges writes p || false) inside)
    (λ outside.
    other (in_ranges carved p) false (in_ranges writes p || false) outside
    ∙ ap (λ (b : Bool). b || false) (writing p ∙ sym (carving p) ∙ outside))

-- ---- counts and cause

-- why a domain escalated, where it did
abbrev why : Ending → Option Cause
why (Done leak) = None
why (Escalated cause over) = Some cause

-- a program has run on the root's part of a machine, with these counts and this cause
pub record HasEnded (plan : PlanModel) (was now : FieldModel) (begins : List ℕ) (cause : Option Cause) : Type 0 where
  pub ending : Ending
  pub ran : Ran plan was now begins ending
  pub few : All (λ (count : ℕ). count ≤ suc (length was.script)) begins
  pub ends : cause ≡ why ending

cause_is : (plan : PlanModel) (end : NodeEnd) → why (ending_of plan end) ≡ cause_of plan.tree.domains end
cause_is plan (Completed leak) = refl
cause_is plan (GoneUp cause over) = refl

-- a list with a count for each domain has their number for a length
begins_length : (tree : TreeModel) (script : List Fault) → length (begins_in tree script) ≡ length tree.domains
begins_length tree script =
    length-map (numbers_from 0 (length tree.domains)) (reading tree script).counts ∙ length-numbers_from 0 (length tree.domains)

-- ---- the part is taken back

abbrev part : Document → List Fault → List Range → List Range → FieldModel
part document script reads writes = part_of (loaded document.regions script) reads writes

abbrev left : Document → List Fault → List Range → FieldModel
left document script writes = without (loaded document.regions script) writes

-- what the run had for its machine, written out
pub record Written (document : Document) (plan : PlanModel) (script : List Fault) (reads writes : List Range) (now : FieldModel)
    (begins : List ℕ) (cause : Option Cause) : Type 0 where
  pub sound : IsPlan plan
  pub reading : (p : Place) → in_ranges reads p ≡ node_reads (root_of plan.tree.domains) p
  pub writing : (p : Place) → in_ranges writes p ≡ node_writes (root_of plan.tree.domains) p
  pub ended : HasEnded plan (part document script reads writes) now begins cause

carving : (document : Document) (plan : PlanModel) (script : List Fault) (reads writes : List Range) (now : FieldModel)
    (begins : List ℕ) (cause : Option Cause) → Written document plan script reads writes now begins cause
    → (p : Place) → in_ranges now.carved p ≡ node_writes (root_of plan.tree.domains) p
carving document plan script reads writes now begins cause run p =
    run.ended.ran.carved p ∙ run.writing p

holds_run : (l : EndLaws) (document : Document) (plan : PlanModel) (script : List Fault) (reads writes : List Range) (now : FieldModel)
    (begins : List ℕ) (cause : Option Cause) → Written document plan script reads writes now begins cause → IsAccepted plan.tree script
    → HoldsRun (at_tree document plan.tree) script (absorbed (left document script writes) now true)
holds_run l document plan script reads writes now begins cause run accepted =
    let end : NodeEnd = (reading plan.tree script).answer in
    let was : FieldModel = part document script reads writes in
    let carves = carving document plan script reads writes now begins cause run in
    let sound : Sound plan (root_task plan was) now (ending_of plan end) =
    subst (Sound plan (root_task plan was) now) run.ended.ran.ends run.ended.ran.sound in
    record {
      legal = legal_with was.words (initial document.regions)
          (agree_at_root l plan document.regions script reads writes run.sound run.reading run.writing) run.ended.ran.legal;
      words = fun_ext (end_words l document plan script reads writes now end run.sound run.reading run.writing carves
          (l.found plan.tree script accepted) sound);
      present = fun_ext (none_lost plan writes now.carved run.writing carves);
    }

-- the counts are those of the reading, in preorder
counts_are : (document : Document) (plan : PlanModel) (script : List Fault) (reads writes : List Range) (now : FieldModel)
    (begins : List ℕ) (cause : Option Cause) → Written document plan script reads writes now begins cause → begins ≡ begins_in plan.tree script
counts_are document plan script reads writes now begins cause run =
    run.ended.ran.counts ∙ ap (map (reading plan.tree script).counts) run.sound.program.preorder

run_at_tree : (l : EndLaws) (document : Document) (plan : PlanModel) (script : List Fault) (reads writes : List Range) (now : FieldModel)
    (begins : List ℕ) (cause : Option Cause) → Written document plan script reads writes now begins cause → IsAccepted plan.tree script
    → length script ≤ faults_limit → HasRun (at_tree document plan.tree) script (absorbed (left document script writes) now true) begins cause
run_at_tree l document plan script reads writes now begins cause run accepted few =
    let counts : begins ≡ begins_in plan.tree script = counts_are document plan script reads writes now begins cause run in
    record {
      holds = holds_run l document plan script reads writes now begins cause run accepted;
      counts = counts;
      total = sum_fits begins (length plan.tree.domains) (length script)
          (λ k d short. (let some : get_or begins k d ≤ suc (length script) = run.ended.few k d short in omega (arith, some))) (ap length counts ∙ begins_length plan.tree script) run.sound.program.few few;
      ends = run.ended.ends ∙ ap why run.ended.ran.ends ∙ cause_is plan (reading plan.tree script).answer;
    }

written_out : (document : Document) (plan : PlanModel) (script : List Fault) (one rest now : FieldModel) (begins : List ℕ)
    (cause : Option Cause) → (carved : IsCarved plan document.regions script one rest) → HasEnded plan one now begins cause
    → Written document plan script carved.reads carved.writes now begins cause
written_out document plan script one rest now begins cause carved ended = record {
  sound = carved.sound;
  reading = carved.reading;
  writing = carved.writing;
  ended = subst (λ (m : FieldModel). HasEnded plan m now begins cause) carved.taken ended;
}

-- a script has at most as many entries as it may
script_few : (document : Document) (plan : PlanModel) (script : List Fault) → IsPassed document plan script → length script ≤ faults_limit
script_few document plan script passed =
    subst (λ (n : ℕ). n ≤ faults_limit) (sym (found_length document.tree.domains document.faults script passed.passes.found))
    passed.well.few_faults

-- the machine that took the part back holds the run of the document
has_run : (l : EndLaws) (document : Document) (plan : PlanModel) (script : List Fault) (one rest now new : FieldModel) (begins : List ℕ)
    (cause : Option Cause) → IsPassed document plan script → IsCarved plan document.regions script one rest
    → HasEnded plan one now begins cause → new ≡ absorbed rest now true → HasRun document script new begins cause
has_run l document plan script one rest now new begins cause passed carved ended is =
    let accepted : IsAccepted plan.tree script =
    subst (λ (tree : TreeModel). IsAccepted tree script) (sym passed.planned) passed.passes.accepted in
    let machine : new ≡ absorbed (left document script carved.writes) now true =
    is ∙ ap (λ (m : FieldModel). absorbed m now true) carved.left in
    let run : HasRun (at_tree document plan.tree) script (absorbed (left document script carved.writes) now true) begins cause =
    run_at_tree l document plan script carved.reads carved.writes now begins cause
    (written_out document plan script one rest now begins cause carved ended) accepted (script_few document plan script passed) in
    subst (λ (tree : TreeModel). HasRun (at_tree document tree) script new begins cause) passed.planned
    (subst (λ (m : FieldModel). HasRun (at_tree document plan.tree) script m begins cause) (sym machine) run)

-- it can take the part back
can_absorb : (document : Document) (plan : PlanModel) (script : List Fault) (one rest now : FieldModel) (begins : List ℕ)
    (cause : Option Cause) → IsCarved plan document.regions script one rest → HasEnded plan one now begins cause → CanAbsorb rest now true
can_absorb document plan script one rest now begins cause carved ended =
    let run : Written document plan script carved.reads carved.writes now begins cause =
    written_out document plan script one rest now begins cause carved ended in
    let carves = carving document plan script carved.reads carved.writes now begins cause run in
    let made : CanAbsorb (left document script carved.writes) now true = record {
      script = run.ended.ran.script;
      away = λ p inside. ap (λ (b : Bool). b || false) (carved.writing p ∙ sym (carves p) ∙ inside);
      present = λ commits p inside.
          run.ended.ran.here p (writes_reach (root_of plan.tree.domains) p (sym (carves p) ∙ inside));
    } in
    subst (λ (m : FieldModel). CanAbsorb m now true) (sym carved.left) made

-- ---- by the outcome

-- so it can, whatever the outcome
pub can_take_back : {F : Type 0} (model : F → FieldModel) (document : Document) (plan : PlanModel) (script : List Fault)
    (one rest : FieldModel) (outcome : Outcome F) → IsCarved plan document.regions script one rest → RanTo model plan one outcome
    → FewBegins one outcome → CanTakeBack model rest outcome
can_take_back {F} model document plan script one rest (Committed field begins) carved ran few =
    can_absorb document plan script one rest (model field) begins None carved
    (record { ending = Done ran.0; ran = ran.1; few = few; ends = refl })
can_take_back {F} model document plan script one rest (Exhausted field begins cause) carved ran few =
    can_absorb document plan script one rest (model field) begins (Some cause) carved
    (record { ending = Escalated cause ran.0; ran = ran.1; few = few; ends = refl })

-- and then it holds the run
pub took_back_run : {F : Type 0} (model : F → FieldModel) (l : EndLaws) (document : Document) (plan : PlanModel) (script : List Fault)
    (one rest new : FieldModel) (outcome : Outcome F) (begins : List ℕ) (cause : Option Cause) → IsPassed document plan script
    → IsCarved plan document.regions script one rest → RanTo model plan one outcome → FewBegins one outcome
    → TookBack model rest new outcome begins cause → HasRun document script new begins cause
took_back_run {F} model l document plan script one rest new (Committed field counts) begins cause passed carved ran few took =
    let ended : HasEnded plan one (model field) begins cause = record {
      ending = Done ran.0;
      ran = subst (λ (ns : List ℕ). Ran plan one (model field) ns (Done ran.0)) (sym took.1) ran.1;
      few = subst (λ (ns : List ℕ). All (λ (n : ℕ). n ≤ suc (length one.script)) ns) (sym took.1) few;
      ends = took.2;
    } in
    has_run l document plan script one rest (model field) new begins cause passed carved ended took.0
took_back_run {F} model l document plan script one rest new (Exhausted field counts given) begins cause passed carved ran few took =
    let ended : HasEnded plan one (model field) begins cause = record {
      ending = Escalated given ran.0;
      ran = subst (λ (ns : List ℕ). Ran plan one (model field) ns (Escalated given ran.0)) (sym took.1) ran.1;
      few = subst (λ (ns : List ℕ). All (λ (n : ℕ). n ≤ suc (length one.script)) ns) (sym took.1) few;
      ends = took.2;
    } in
    has_run l document plan script one rest (model field) new begins cause passed carved ended took.0

-- ---- the engine's count

all_counted : (document : Document) (plan : PlanModel) (script : List Fault) (one rest now : FieldModel) (begins : List ℕ)
    (cause : Option Cause) → IsPassed document plan script → IsCarved plan document.regions script one rest
    → HasEnded plan one now begins cause → sum begins ≡ sum (begins_in document.tree script)
all_counted document plan script one rest now begins cause passed carved ended =
    ap sum (counts_are document plan script carved.reads carved.writes now begins cause
    (written_out document plan script one rest now begins cause carved ended)
    ∙ ap (λ (tree : TreeModel). begins_in tree script) passed.planned)

-- an engine that counted the outcome's begins counted the reading's
pub outcome_counted : {F : Type 0} (model : F → FieldModel) (document : Document) (plan : PlanModel) (script : List Fault)
    (one rest : FieldModel) (outcome : Outcome F) (was new : ℕ) → IsPassed document plan script → IsCarved plan document.regions script one rest
    → RanTo model plan one outcome → FewBegins one outcome → new ≡ counted was (begins_of outcome) → IsCounted document script was new
outcome_counted {F} model document plan script one rest (Committed field begins) was new passed carved ran few counts =
    counts ∙ ap (counted was) (all_counted document plan script one rest (model field) begins None passed carved
    (record { ending = Done ran.0; ran = ran.1; few = few; ends = refl }))
outcome_counted {F} model document plan script one rest (Exhausted field begins cause) was new passed carved ran few counts =
    counts ∙ ap (counted was) (all_counted document plan script one rest (model field) begins (Some cause) passed carved
    (record { ending = Escalated cause ran.0; ran = ran.1; few = few; ends = refl }))
