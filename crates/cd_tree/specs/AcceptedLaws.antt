-- What holds of readings under accepted scripts.
use Rattle.std.specs.Prelude.{ℕ, ◌^◌, ◌≤◌, List}
use Rattle.cd_tree.specs.declared.document.Fault.{Fault}
use Rattle.cd_tree.specs.TreeModel.{TreeModel, IsTree}
use Rattle.cd_tree.specs.Record.{reading}
use Rattle.cd_tree.specs.Scripts.{IsAccepted}

-- under an accepted script no domain begins more than 2^32 times
abbrev pub CountsAreSmall : Type 0
CountsAreSmall =
    (tree : TreeModel) (faults : List Fault) (n : ℕ) → IsTree tree → IsAccepted tree faults → (reading tree faults).counts n ≤ 2 ^ 32
