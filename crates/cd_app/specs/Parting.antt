-- A loaded machine, of which the root's part runs by itself: carved out, run, and taken back.
use Rattle.std.specs.Prelude.{◌≡◌, ℕ, true, List, [], Option, None, Some}
use Rattle.cd_base.specs.declared.place.Place.{Place}
use Rattle.cd_base.specs.declared.place.Range.{Range}
use Rattle.cd_base.specs.Words.{in_ranges}
use Rattle.cd_tree.specs.declared.document.Fault.{Fault}
use Rattle.cd_tree.specs.declared.document.Region.{Region}
use Rattle.cd_tree.specs.declared.event.Cause.{Cause}
use Rattle.cd_tree.specs.Domains.{root_of}
use Rattle.cd_tree.specs.KindSets.{no_kinds}
use Rattle.cd_tree.specs.Meaning.{node_reads, node_writes}
use Rattle.cd_tree.specs.Scripts.{IsAccepted}
use Rattle.cd_field.specs.FieldModel.{FieldModel, CanAbsorb, loaded, part_of, without, absorbed}
use Rattle.cd_cover.specs.Plans.{PlanModel, IsPlan}
use Rattle.cd_core.specs.declared.state.Outcome.{Outcome}
use Rattle.cd_core.specs.declared.state.Outcome.TheVariants.{Committed, Exhausted}
use Rattle.cd_core.specs.Fits.{IsHere}

-- a machine was loaded, and the part that the root of the plan's program reaches was carved out of it
pub record IsCarved (plan : PlanModel) (regions : List Region) (script : List Fault) (part rest : FieldModel) : Type 0 where
  pub sound : IsPlan plan
  pub reads : List Range
  pub writes : List Range
  pub reading : (p : Place) → in_ranges reads p ≡ node_reads (root_of plan.tree.domains) p
  pub writing : (p : Place) → in_ranges writes p ≡ node_writes (root_of plan.tree.domains) p
  pub taken : part ≡ part_of (loaded regions script) reads writes
  pub left : rest ≡ without (loaded regions script) writes

-- what a run of the program asks of the part of a machine that its root reaches
pub record CanRun (plan : PlanModel) (part : FieldModel) : Type 0 where
  pub present : IsHere (root_of plan.tree.domains) part
  pub script : IsAccepted plan.tree part.script
  pub events : part.events ≡ []
  pub notes : part.notes ≡ no_kinds
  pub carved : (p : Place) → in_ranges part.carved p ≡ node_writes (root_of plan.tree.domains) p

-- the part that came back with an outcome can be taken back into the machine that it was carved from
abbrev pub CanTakeBack : {F : Type 0} → (F → FieldModel) → FieldModel → Outcome F → Type 0
CanTakeBack model was (Committed part begins) = CanAbsorb was (model part) true
CanTakeBack model was (Exhausted part begins cause) = CanAbsorb was (model part) true

-- it was taken back, and these are the outcome's counts and cause
abbrev pub TookBack : {F : Type 0} → (F → FieldModel) → FieldModel → FieldModel → Outcome F → List ℕ → Option Cause → Type 0
TookBack model was now (Committed part begins) counts cause = (now ≡ absorbed was (model part) true) × (counts ≡ begins) × (cause ≡ None)
TookBack model was now (Exhausted part begins why) counts cause =
    (now ≡ absorbed was (model part) true) × (counts ≡ begins) × (cause ≡ Some why)
