use Rattle.std.proofs.Common.{◌≡◌, ◌-◌, ◌++◌, take, drop}
use Rattle.cd_field.proofs.field.Field.events.Given as goal

abbrev pub invariant-loop-k : goal.invariant-loop-k
invariant-loop-k g l =
    l.list.items ++ take (l.to - l.k) (drop l.k (g.Self.Field.model l.self).events)
    ≡ l.initial.list.items ++ take (l.to - l.from) (drop l.from (g.Self.Field.model l.self).events)
