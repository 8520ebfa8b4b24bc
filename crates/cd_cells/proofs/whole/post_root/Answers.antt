use Rattle.std.proofs.Common.{[]}
use Rattle.cd_core.specs.Asks.{root_ask}
use Rattle.cd_cells.specs.Passes.{HasPosted, PostsNext}
use Rattle.cd_cells.specs.Working.{kind_of, plan_of, was_of}
use Rattle.cd_cells.proofs.RunLemmas.{root_posts}
use Rattle.cd_cells.proofs.whole.post_root.Goals as goal

pub post-requires-clause-may : goal.post-requires-clause-may
post-requires-clause-may g c = (
  [],
  root_ask (plan_of c.args.cells.now) (was_of g.F.Field.model c.args.cells.now).words,
  [],
  root_posts g.F.Field.model g.P.Pass.model c.args.cells.now c.args.plan.now c.args.field c.requires.plan c.requires.field
      c.roots_answer_and_have_run.ensures.start (g.P.Pass.model c.args.pass) c.in_ok-root.root c.is_settled.ensures c.room_is_within.ensures c.requires.can
      c.in_ok-root.ensures.exact c.requires.may,
)

pub returns-clause-works : goal.returns-clause-works
returns-clause-works g c =
    let posts = root_posts g.F.Field.model g.P.Pass.model c.args.cells.now c.args.plan.now c.args.field c.requires.plan c.requires.field
    c.roots_answer_and_have_run.ensures.start (g.P.Pass.model c.args.pass) c.in_ok-root.root c.is_settled.ensures c.room_is_within.ensures c.requires.can
    c.in_ok-root.ensures.exact c.requires.may in
    (c.post.ensures.posts [] (root_ask (plan_of c.args.cells.now) (was_of g.F.Field.model c.args.cells.now).words) [] posts).now
