use Rattle.std.proofs.Common.{rules, ◌<◌, length}
use Rattle.cd_foot.proofs.ClearLemmas.{set_holds}
use Rattle.cd_foot.proofs.clear.with.Goals as goal

pub returns-in-Some : goal.returns-in-Some
returns-in-Some c q h =
    let within : c.loop-k.k < length c.args.hulls = search rules in
    set_holds c.args.hulls c.loop-k.k c.args.range c.in-Some.hull q within (c.in-Some.ensures q) h
