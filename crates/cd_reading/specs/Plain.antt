-- Domains of which the reading knows all without a walk: no fault strikes in them, and they have no members.
use Rattle.std.specs.Prelude.{◌≡◌, ℕ, [], Some, All, filter, slice_get}
use Rattle.cd_tree.specs.declared.domain.NodeId.{NodeId}
use Rattle.cd_tree.specs.declared.domain.Item.{Item}
use Rattle.cd_tree.specs.declared.domain.Item.TheVariants.{Run, Group}
use Rattle.cd_tree.specs.declared.domain.Domain.{Domain}
use Rattle.cd_reading.specs.declared.case.Case.{Case}
use Rattle.cd_reading.specs.Cases.{domains_of}
use Rattle.cd_reading.specs.Strikes.{strikes_in}

-- an item that is an operation
abbrev pub IsRun : Item → Type 0
IsRun (Run op) = Unit {0}
IsRun (Group ids) = ⊥

-- a domain whose items are operations, and in none of whose begins a fault strikes
pub record IsPlain (case : Case) (id : NodeId) : Type 0 where
  pub runs : (domain : Domain) → slice_get (domains_of case) id.0 ≡ Some domain → All IsRun domain.items
  pub still : (begin : ℕ) → filter (strikes_in id.0 begin) case.script.now ≡ []
