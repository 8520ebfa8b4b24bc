use Rattle.cd_cover.proofs.OuterWalk.{walk_within, walk_comes_to}
use Rattle.cd_cover.proofs.settled.Plan.outer_references.Goals as goal

pub of-requires : goal.of-requires
of-requires c =
    (walk_within _ _ c.self.view_is c.self.invariant c.args.node c.requires c.end_of-end.result c.end_of-end.ensures c.deref.result.now
    c.deref.ensures.value).1

pub returns : goal.returns
returns c =
    walk_comes_to _ _ c.self.view_is c.self.invariant c.args.node c.requires c.end_of-end.result c.end_of-end.ensures c.deref.result.now
    c.deref.ensures.value c.of.result c.of.ensures
