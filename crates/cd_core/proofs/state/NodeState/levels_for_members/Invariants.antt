use Rattle.std.proofs.Common.{◌≡◌, ◌∷◌, ◌++◌, drop}
use Rattle.cd_core.proofs.state.NodeState.levels_for_members.Given as goal

-- what was shared with what is left is what is kept for the members
abbrev pub invariant-loop-level : goal.invariant-loop-level
invariant-loop-level g l =
    l.levels.items ++ drop l.level-index l.self.above.items ≡ record { node = l.self.node; keeps = l.self.keeps } ∷ l.self.above.items
