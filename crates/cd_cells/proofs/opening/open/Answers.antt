use Rattle.std.proofs.Common.{rules, ◌≡◌, ◌+◌, ◌*◌, replicate, set}
use Rattle.cd_cells.proofs.Beginning.{opens_at}
use Rattle.cd_cells.proofs.opening.open.Goals as goal

pub vacant-requires : goal.vacant-requires
vacant-requires g c =
    let e : c.as_slice.result.now ≡ set (replicate (2 * c.args.count + 2) 0) (2 * c.args.count + 1) 1 = search rules in
    opens_at (g.T.Shape.kind c.args.about.now) c.args.about.now c.requires.lawful c.args.count c.requires.count c.as_slice.result.now e
