-- What the test of states runs: a program of the tries' sample domain alone, a machine that is carved to it, and faults that
-- strike its first word after the operation.
use Rattle.std.specs.Prelude.{◌≡◌, ◌^◌, ◌<◌, List, [], ◌∷◌, length, All}
use Rattle.cd_base.specs.declared.place.Place.{Place}
use Rattle.cd_base.specs.Words.{in_range, in_ranges}
use Rattle.cd_tree.specs.declared.domain.Domain.{Domain}
use Rattle.cd_tree.specs.declared.document.Fault.{Fault}
use Rattle.cd_tree.specs.KindSets.{no_kinds}
use Rattle.cd_field.specs.FieldModel.{FieldModel}
use Rattle.cd_state_tests.specs.Sample.{sample, IsSample, SampleIsHere}
use Rattle.cd_core.specs.declared.state.Outcome.{Outcome}
use Rattle.cd_core.specs.declared.state.Outcome.TheVariants.{Committed, Exhausted}
use Rattle.cd_core.specs.StateModel.{StateModel}
use Rattle.cd_core.specs.Steps.{IsEnded}

-- the program has the one domain, which declares kind 0
pub record IsSampleRoot (domains : List Domain) : Type 0 where
  pub domain : Domain
  pub lone : domains ≡ domain ∷ []
  pub sample : IsSample domain
  pub detects : domain.detects ≡ 1

-- faults of kind 0 that strike the first word after the operation
pub record IsSampleFault (fault : Fault) : Type 0 where
  pub node : fault.node ≡ record { 0 = 0 }
  pub item : fault.item ≡ 1
  pub place : fault.place ≡ record { region = 0; index = 0 }
  pub kind : fault.kind ≡ record { 0 = 0 }

pub record IsSampleScript (faults : List Fault) : Type 0 where
  pub few : length faults < 2 ^ 32
  pub each : All IsSampleFault faults

-- a machine that is carved to the domain's words, before anything has begun
pub record IsSampleMachine (m : FieldModel) : Type 0 where
  pub here : SampleIsHere m
  pub script : IsSampleScript m.script
  pub events : m.events ≡ []
  pub notes : m.notes ≡ no_kinds
  pub carved : (q : Place) → in_ranges m.carved q ≡ in_range sample q

-- the root has ended, with its words here
pub record HasEnded (s : StateModel) : Type 0 where
  pub root : s.node.0 ≡ 0
  pub ended : IsEnded s.stage
  pub here : SampleIsHere s.field
  pub counts : 0 < length s.counts

-- what is read of an outcome is there
abbrev pub IsLegible : {F : Type 0} → (F → FieldModel) → Outcome F → Type 0
IsLegible field (Committed machine begins) = SampleIsHere (field machine) × (0 < length begins)
IsLegible field (Exhausted machine begins cause) = SampleIsHere (field machine) × (0 < length begins)
