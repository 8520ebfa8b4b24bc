-- The laws: what holds of acceptance for every program and every script. Each is a contract of `laws`.
use Rattle.std.specs.Prelude.{◌≡◌, ◌≤◌, ◌↔◌, true, List, Option, Contains}
use Rattle.cd_tree.specs.declared.document.RawFault.{RawFault}
use Rattle.cd_tree.specs.declared.document.Fault.{Fault}
use Rattle.cd_tree.specs.declared.kinds.KindName.{KindName}
use Rattle.cd_tree.specs.declared.refusal.Refusal.{Refusal}
use Rattle.cd_tree.specs.TreeModel.{TreeModel, IsTree, with_kinds}
use Rattle.cd_tree.specs.Scripts.{IsAccepted}
use Rattle.cd_script.specs.Acceptance.{last_point, reaches, FirstFault, AreFoundAs}

-- an entry of an accepted script strikes at a point of its domain, at a place that the domain reaches
abbrev pub EntriesCanStrike : Type 0
EntriesCanStrike =
    (tree : TreeModel) (faults : List Fault) → IsAccepted tree faults → (fault : Fault) → Contains faults fault
    → (fault.item ≤ last_point tree.domains fault.node) × (reaches tree.domains fault.node fault.place ≡ true)

-- two first refusals of a script, or a refusal and none, are the same
abbrev pub FirstFaultIsOne : Type 0
FirstFaultIsOne =
    (tree : TreeModel) → IsTree tree → (faults : List RawFault) (one other : Option Refusal)
    → FirstFault tree.domains faults one → FirstFault tree.domains faults other → one ≡ other

-- two scripts that were found as the same faults are the same
abbrev pub ScriptIsOne : Type 0
ScriptIsOne =
    (tree : TreeModel) → IsTree tree → (faults : List RawFault) (one other : List Fault)
    → AreFoundAs tree.domains faults one → AreFoundAs tree.domains faults other → one ≡ other

-- other names of kinds leave the first refusal as it is
abbrev pub KindsChangeNoRefusal : Type 0
KindsChangeNoRefusal =
    (tree : TreeModel) (kinds : List KindName) (faults : List RawFault) (answer : Option Refusal)
    → FirstFault tree.domains faults answer ↔ FirstFault (with_kinds tree kinds).domains faults answer

-- and the scripts that are accepted are the same
abbrev pub KindsChangeNoAcceptance : Type 0
KindsChangeNoAcceptance =
    (tree : TreeModel) (kinds : List KindName) (faults : List Fault)
    → IsAccepted tree faults ↔ IsAccepted (with_kinds tree kinds) faults
