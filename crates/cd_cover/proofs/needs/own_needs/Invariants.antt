use Rattle.std.proofs.Common.{◌≡◌, ◌≤◌, ◌<◌, ℕ, Some, slice_get, map, take}
use Rattle.cd_tree.specs.declared.domain.Domain.{Domain}
use Rattle.cd_cover.specs.Needs.{own_need, most_own}
use Rattle.cd_cover.proofs.needs.own_needs.Given as goal

abbrev pub invariant-loop-k : goal.invariant-loop-k
invariant-loop-k l =
    (l.own.items ≡ map own_need (take l.k l.tree.domains))
    × ((i : ℕ) (domain : Domain) → i < l.k → slice_get l.tree.domains i ≡ Some domain → own_need domain ≤ most_own)
