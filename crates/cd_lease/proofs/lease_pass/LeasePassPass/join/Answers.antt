use Rattle.std.proofs.Common.{◌∙◌}
use Rattle.std.specs.Arc.{arc_value}
use Rattle.cd_lease.specs.Leases.{model_of}
use Rattle.cd_lease.proofs.StoreNumbers.{same_table}
use Rattle.cd_lease.proofs.lease_pass.LeasePassPass.join.Goals as goal

pub take_back-requires-clause-at_child : goal.take_back-requires-clause-at_child
unfolding model_of
take_back-requires-clause-at_child c =
    rw c.deref.ensures (c.args.child.at.same
    ∙ same_table (arc_value c.args.child.table).shared.table_id (arc_value c.args.self.now.table).shared.table_id c.requires.store)
