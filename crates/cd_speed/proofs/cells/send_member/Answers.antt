use Rattle.std.proofs.Common.{[], refl}
use Rattle.cd_speed.specs.Grouped.{ask_of}
use Rattle.cd_speed.proofs.cells.send_member.Goals as goal

pub returns : goal.returns
returns c = λ may holds. (c.post.ensures.posts [] (ask_of c.args.node.0) may (record { named = refl; ready = tt; now = holds })).now
