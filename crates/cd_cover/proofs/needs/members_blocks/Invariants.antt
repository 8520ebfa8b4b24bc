use Rattle.std.proofs.Common.{◌≡◌, take, sum_by, slice_index}
use Rattle.cd_cover.proofs.needs.members_blocks.Given as goal

abbrev pub invariant-loop-member : goal.invariant-loop-member
invariant-loop-member l = l.all ≡ sum_by (λ id. slice_index l.needs id.0) (take l.member-index l.members)
