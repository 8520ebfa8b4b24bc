-- Equations of tables' ids are propositions.
use Rattle.std.proofs.Props.{props}
use base.Stored.{Coded-set}
use Rattle.atomic_table.specs.Seated.{TableId, table_id_coded}

pub TableId-set : IsSet TableId
TableId-set = Coded-set table_id_coded

pub ruleset id_props = (props, TableId-set)
