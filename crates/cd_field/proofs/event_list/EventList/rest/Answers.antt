use Rattle.std.proofs.Common.{rules, ◌≡◌, ◌-◌, ◌≤◌, List, drop, arith}
use Rattle.cd_tree.specs.declared.event.Event.{Event}
use Rattle.cd_field.specs.declared.told.Told.{Told}
use Rattle.cd_field.specs.EventLists.{events_in, events_of}
use Rattle.cd_field.proofs.EventLemmas.{all_front, latest_rest}
use Rattle.cd_field.proofs.event_list.EventList.rest.Goals as goal

pub returns-else-from-count-clause-front : goal.returns-else-from-count-clause-front
returns-else-from-count-clause-front c =
    let parts : List Event = events_in c.args.self.now.parts.parts.items in
    let latest : List Told = c.args.self.now.latest.items in
    let past : c.args.self.now.parts.count ≤ c.args.k = search (arith, rules) in
    let cut : c.behind.result.now ≡ drop (c.args.k - c.args.self.now.parts.count) latest = search rules in
    all_front (drop c.args.k (events_of c.args.self.now.parts.parts.items latest)) c.behind.result.now
    (latest_rest parts latest c.behind.result.now c.args.k c.args.self.now.parts.count c.args.self.now.parts.numbered.whole past cut)
