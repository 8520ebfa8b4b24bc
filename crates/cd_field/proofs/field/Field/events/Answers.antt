use Rattle.std.proofs.Common.{◌≡◌, ℕ, ◌-◌, List, take, drop, arith, ap}
use Rattle.cd_tree.specs.declared.event.Event.{Event}
use Rattle.cd_field.proofs.EventLemmas.{all_copied, next_copied, none_from}
use Rattle.cd_field.proofs.field.Field.events.Goals as goal

pub returns-in-None : goal.returns-in-None
returns-in-None g c =
    let events : List Event = (g.Self.Field.model c.args.self.now).events in
    all_copied c.loop-k.list.items (take (c.args.to - c.loop-k.k) (drop c.loop-k.k events)) _
    (none_from events c.loop-k.k (c.args.to - c.loop-k.k) c.in-None.ensures) c.loop-k.invariant

pub loop-k-preserved : goal.loop-k-preserved
loop-k-preserved g c =
    next_copied (g.Self.Field.model c.args.self.now).events c.loop-k.list.items c.push.new.self.items _ c.in-Some.event c.loop-k.k c.args.to
    c.in-Some.ensures c.loop-k-test.true c.in_ok-push-in-Some.ensures.items c.loop-k.invariant

pub returns : goal.returns
returns g c =
    let events : List Event = (g.Self.Field.model c.args.self.now).events in
    let left : ℕ = c.args.to - c.loop-k.k in
    let none : left ≡ 0 = omega arith in
    all_copied c.loop-k.list.items (take left (drop c.loop-k.k events)) _ (ap (λ (n : ℕ). take n (drop c.loop-k.k events)) none) c.loop-k.invariant
