use Rattle.cd_foot.specs.Gathered.{side_at}
use Rattle.cd_foot.proofs.GatherLemmas.{Gathers}
use Rattle.cd_foot.proofs.gathered.add_members.Given as goal

abbrev pub invariant-loop-member : goal.invariant-loop-member
invariant-loop-member l = Gathers (side_at l.side l.feet) l.members l.member-index l.fn.ranges.items l.ranges.items
