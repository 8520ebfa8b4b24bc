-- The part of a loaded machine that the root reaches: what is asked to carve it out, and what it has for a run.
use Rattle.std.proofs.Common.{◌≡◌, ◌<◌, Bool, true, ◌||◌, cond, List, Option, None, Some, IsSome, IsSomeAnd, slice_get, length, refl, ap, subst, sym, ◌∙◌}
use Rattle.std.proofs.lemmas.Bool.{or_left, or_right}
use Rattle.cd_base.specs.declared.place.Place.{Place}
use Rattle.cd_base.specs.declared.place.Range.{Range}
use Rattle.cd_base.specs.Words.{PlaceSet, in_ranges}
use Rattle.cd_tree.specs.declared.domain.NodeId.{NodeId}
use Rattle.cd_tree.specs.declared.document.Document.{Document}
use Rattle.cd_tree.specs.declared.document.Region.{Region}
use Rattle.cd_tree.specs.declared.document.Fault.{Fault}
use Rattle.cd_tree.specs.Domains.{Node, root_of}
use Rattle.cd_tree.specs.Laws.{CoveredReach}
use Rattle.cd_tree.specs.Meaning.{initial, node_reads, node_writes, node_reach, IsCovered, LieIn}
use Rattle.cd_tree.specs.Scripts.{IsAccepted}
use Rattle.cd_tree.specs.TreeModel.{TreeModel}
use Rattle.cd_tree.proofs.EachDomain.{root_there}
use Rattle.cd_foot.specs.declared.footprints.Foot.{Foot}
use Rattle.cd_foot.specs.Feet.{IsFoot}
use Rattle.cd_field.specs.FieldModel.{FieldModel, ArePresent, loaded, part_of}
use Rattle.cd_cover.specs.Plans.{PlanModel, IsPlan}
use Rattle.cd_app.specs.Parts.{IsPassed}
use Rattle.cd_app.specs.Parting.{IsCarved, CanRun}
use Rattle.cd_app.proofs.RunLemmas.{ReachIsKnown, reach_known}

abbrev pub root_id : NodeId
root_id = record { 0 = 0 }

-- ---- what the root reaches

-- one side of the root's footprint, as it is found among the footprints
side_found : (plan : PlanModel) (side : Foot → List Range) (places : Node → PlaceSet) (ranges : List Range) (found : Option Foot)
    → ((d : Node) (foot : Foot) → IsFoot d foot → (p : Place) → in_ranges (side foot) p ≡ places d p) → IsPlan plan
    → slice_get plan.feet 0 ≡ found → IsSomeAnd found (λ foot. ranges ≡ side foot)
    → (p : Place) → in_ranges ranges p ≡ places (root_of plan.tree.domains) p
side_found plan side places ranges None of_foot is there same = absurd same
side_found plan side places ranges (Some foot) of_foot is there same =
    λ p.
    ap (λ (rs : List Range). in_ranges rs p) same
    ∙ of_foot (root_of plan.tree.domains) foot
    (is.footprints.each root_id (root_of plan.tree.domains) foot (root_there plan.tree.domains is.program.some) there) p

side_is : (plan : PlanModel) (side : Foot → List Range) (places : Node → PlaceSet) (feet : List Foot) (ranges : List Range)
    → ((d : Node) (foot : Foot) → IsFoot d foot → (p : Place) → in_ranges (side foot) p ≡ places d p) → IsPlan plan → feet ≡ plan.feet
    → IsSomeAnd (slice_get feet 0) (λ foot. ranges ≡ side foot)
    → (p : Place) → in_ranges ranges p ≡ places (root_of plan.tree.domains) p
side_is plan side places feet ranges of_foot is same found =
    side_found plan side places ranges (slice_get plan.feet 0) of_foot is refl
    (subst (λ (fs : List Foot). IsSomeAnd (slice_get fs 0) (λ foot. ranges ≡ side foot)) same found)

-- the ranges that the root reads, and those that it writes
pub reads_are : (plan : PlanModel) (feet : List Foot) (reads : List Range) → IsPlan plan → feet ≡ plan.feet
    → IsSomeAnd (slice_get feet 0) (λ foot. reads ≡ foot.reads)
    → (p : Place) → in_ranges reads p ≡ node_reads (root_of plan.tree.domains) p
reads_are plan feet reads is same found =
    side_is plan (λ (foot : Foot). foot.reads) node_reads feet reads (λ d foot of p. of.reads p) is same found

pub writes_are : (plan : PlanModel) (feet : List Foot) (writes : List Range) → IsPlan plan → feet ≡ plan.feet
    → IsSomeAnd (slice_get feet 0) (λ foot. writes ≡ foot.writes)
    → (p : Place) → in_ranges writes p ≡ node_writes (root_of plan.tree.domains) p
writes_are plan feet writes is same found =
    side_is plan (λ (foot : Foot). foot.writes) node_writes feet writes (λ d foot of p. of.writes p) is same found

-- what a domain reads or writes it reaches
pub reads_reach : (d : Node) → LieIn (node_reads d) (node_reach d)
reads_reach d p read = or_left (node_reads d p) (node_writes d p) read

pub writes_reach : (d : Node) → LieIn (node_writes d) (node_reach d)
writes_reach d p write = or_right (node_reads d p) (node_writes d p) write

-- ---- carving

-- the root's places have words at the start
pub root_known : CoveredReach → (document : Document) (plan : PlanModel) (script : List Fault) → IsPlan plan → IsPassed document plan script
    → ReachIsKnown document.regions plan.tree
root_known law document plan script is passed =
    let some : 0 < length document.tree.domains =
    subst (λ (tree : TreeModel). 0 < length tree.domains) passed.planned is.program.some in
    let covered : IsCovered (root_of document.tree.domains) =
    subst (λ (tree : TreeModel). IsCovered (root_of tree.domains)) passed.planned is.covered in
    subst (ReachIsKnown document.regions) (sym passed.planned) (reach_known law document passed.well some covered)

-- so some of them are present on the machine that was loaded
pub side_present : (regions : List Region) (script : List Fault) (tree : TreeModel) (m : FieldModel) (ranges : List Range) (places : PlaceSet)
    → ReachIsKnown regions tree → LieIn places (node_reach (root_of tree.domains)) → ((p : Place) → in_ranges ranges p ≡ places p)
    → m ≡ loaded regions script → ArePresent m ranges
side_present regions script tree m ranges places known lie same is =
    let here : ArePresent (loaded regions script) ranges =
    λ p inside. record { known = known p (lie p (sym (same p) ∙ inside)); here = refl } in
    subst (λ (n : FieldModel). ArePresent n ranges) (sym is) here

-- a place that is read or written has its word in the part
pub part_word : (regions : List Region) (script : List Fault) (reads writes : List Range) (p : Place)
    → (in_ranges reads p || in_ranges writes p) ≡ true → (part_of (loaded regions script) reads writes).words p ≡ initial regions p
part_word regions script reads writes p inside = ap (λ (b : Bool). cond b (initial regions p) None) inside

-- what is reached is read or written
pub in_part : (d : Node) (reads writes : List Range) → ((p : Place) → in_ranges reads p ≡ node_reads d p)
    → ((p : Place) → in_ranges writes p ≡ node_writes d p) → (p : Place) → node_reach d p ≡ true
    → (in_ranges reads p || in_ranges writes p) ≡ true
in_part d reads writes reading writing p reached =
    ap (λ (b : Bool). b || in_ranges writes p) (reading p) ∙ ap (λ (b : Bool). node_reads d p || b) (writing p) ∙ reached

-- the root can run on its part
pub can_run : (document : Document) (plan : PlanModel) (script : List Fault) (part rest : FieldModel)
    → IsPassed document plan script → ReachIsKnown document.regions plan.tree → IsCarved plan document.regions script part rest
    → CanRun plan part
can_run document plan script part rest passed known carved =
    let there : (p : Place) → node_reach (root_of plan.tree.domains) p ≡ true
    → IsSome ((part_of (loaded document.regions script) carved.reads carved.writes).words p) =
    λ p reached.
    subst IsSome
    (sym (part_word document.regions script carved.reads carved.writes p
    (in_part (root_of plan.tree.domains) carved.reads carved.writes carved.reading carved.writing p reached))) (known p reached) in
    let made : CanRun plan (part_of (loaded document.regions script) carved.reads carved.writes) = record {
      present = λ p reached. record { known = there p reached; here = refl };
      script = subst (λ (tree : TreeModel). IsAccepted tree script) (sym passed.planned) passed.passes.accepted;
      events = refl;
      notes = refl;
      carved = carved.writing;
    } in
    subst (CanRun plan) (sym carved.taken) made
