use Rattle.std.proofs.Common.{rules}
use Rattle.cd_state_tests.proofs.BoardLemmas.{link_held, part_left}
use Rattle.cd_state_tests.proofs.tests.keeps.leave_part.Goals as goal

pub give_up_ids-requires-after_bounds : goal.give_up_ids-requires-after_bounds
give_up_ids-requires-after_bounds g c = λ _ _.
    link_held c.args.entry c.args.link.now c.args.keep (g.P.Pass.model c.args.pass.now) c.items.result.now c.items.ensures.value c.requires

pub returns : goal.returns
returns g c =
    part_left c.args.entry c.args.link.now c.args.keep c.push.new.self.items c.items.result.now (g.P.Pass.model c.args.pass.now)
    (g.P.Pass.model c.give_up_ids.new.pass) c.items.ensures.value (search (rules, c.in_ok-push.ensures.items, c.new-keeps.ensures.items)) c.give_up_ids.ensures c.requires
