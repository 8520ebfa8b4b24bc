use Rattle.std.proofs.Common.{◌≡◌}
use Rattle.cd_lease.specs.Leases.{model_of, view_of, Met}
use Rattle.cd_lease.proofs.lease_pass.LeasePassPass.keep.Given as goal

abbrev pub invariant-loop : goal.invariant-loop
invariant-loop g l =
    (goal.iterator-loop g).can_next l.iterator' × (goal.iterator-loop g).is_finite l.iterator'
    × (model_of l.self ≡ model_of l.initial.self) × Met (view_of l.initial.self) (view_of l.self)
